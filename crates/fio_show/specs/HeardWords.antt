-- What a poller heard, in words.
use Rattle.std.specs.Prelude.{List, ℕ, ◌++◌, codes, decimal}
use Rattle.fio_message.specs.Texts.{fault_text}
use Rattle.fio_cpu.specs.declared.poller.Heard.{Heard}
use Rattle.fio_cpu.specs.declared.poller.Heard.TheVariants.{Unreadable, Other, Stale, Block}
use Rattle.fio_text.specs.Digits.{octet_digits}

-- the text of what was heard, without a line end
abbrev pub heard_text : Heard → List ℕ
heard_text (Block entries status) =
    codes "block entries " ++ (decimal entries ++ (codes " status " ++ octet_digits status))
heard_text (Stale block) = codes "stale " ++ decimal block
heard_text (Other code) = codes "other " ++ decimal code
heard_text (Unreadable fault) = codes "unreadable " ++ fault_text fault
