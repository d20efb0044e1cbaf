-- The transition log of the present life ends that of all lives.
use Rattle.fio_module.proofs.Names.{◌≡◌, [], ◌∷◌, ◌++◌, Option, Some, None, refl, ap, sym, ◌∙◌, append_assoc, append-nil, Received, Restart, Life, life_after_command, life_of, log_of, whole_log, transitions_below, LifeEndsLog}
use Rattle.fio_message.specs.declared.commands.Command.{Command}
use Rattle.fio_message.specs.Decoding.{command_in}
use Rattle.fio_module.specs.Life.{Scan}

-- a command adds nothing to the transition log
pub log_of-with_command : (command : Option Command) (life : Life) → log_of (life_after_command command life) ≡ log_of life
log_of-with_command None life = refl
log_of-with_command (Some command) life = refl

-- the transition log of the present life ends that of all lives
pub life_ends_log : LifeEndsLog
life_ends_log [] = ([], refl)
life_ends_log (Scan raw ∷ history) =
    let before = life_ends_log history in
    let scanned = transitions_below 64 raw (life_of history) in
    (before.0, ap (λ log. log ++ scanned) before.1 ∙ append_assoc before.0 (log_of (life_of history)) scanned)
life_ends_log (Received octets ∷ history) =
    let before = life_ends_log history in
    (before.0, before.1 ∙ ap (λ log. before.0 ++ log) (sym (log_of-with_command (command_in octets) (life_of history))))
life_ends_log (Restart ∷ history) = (whole_log history, sym (append-nil (whole_log history)))
life_ends_log (other ∷ history) = life_ends_log history
