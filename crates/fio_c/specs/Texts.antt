-- The texts for structs and numbers of C.
use Rattle.std.specs.Prelude.{ℕ, ◌==◌, List, [], ◌++◌, codes, decimal, Option, Some, None, if◌then◌else◌, option_map}
use Rattle.fio_check.specs.Rules.{rule_name, rule_of_number}
use Rattle.fio_check.specs.ContentRules.{content_rule_name, content_rule_of_number}
use Rattle.fio_cpu.specs.declared.poller.Heard.{Heard}
use Rattle.fio_cpu.specs.declared.poller.Heard.TheVariants.{Unreadable, Other, Stale, Block}
use Rattle.fio_show.specs.HeardWords.{heard_text}
use Rattle.fio_flat.specs.Faults.{error_in}
use Rattle.fio_flat.specs.declared.poller.FlatHeard.{FlatHeard}

-- the text for a value, or the empty text if there is none
abbrev pub words_if_any : {X : Type 0} → (X → List ℕ) → Option X → List ℕ
words_if_any words None = []
words_if_any words (Some one) = words one

-- the name of the rule with this number; empty if no rule has it
abbrev pub text_of_rule : ℕ → List ℕ
text_of_rule number = words_if_any rule_name (rule_of_number number)

-- the name of the rule on content with this number; empty if no rule has it
abbrev pub text_of_content_rule : ℕ → List ℕ
text_of_content_rule number = words_if_any content_rule_name (content_rule_of_number number)

-- what was heard, by the kind in a struct of C, whatever its other numbers are
abbrev pub heard_in : FlatHeard → Option Heard
heard_in heard =
    if heard.kind == 0 then Some (Block heard.entries heard.status)
    else (if heard.kind == 1 then option_map Unreadable (error_in heard.fault)
    else (if heard.kind == 2 then Some (Other heard.code)
    else (if heard.kind == 3 then Some (Stale heard.number) else None)))

-- The text for what was heard, whatever the numbers of the struct are: that of its kind, and for kind 4
-- how many items need room. It is empty for kinds from 5 on, and for kind 1 with a fault that has no
-- text.
abbrev pub text_of_heard : FlatHeard → List ℕ
text_of_heard heard =
    if heard.kind == 4 then codes "no room needed " ++ decimal heard.items
    else words_if_any heard_text (heard_in heard)
