use Rattle.std.proofs.Common.{◌≡◌, ◌∙◌, true, false, sym, rules}
use Rattle.fio_log.specs.Heard.{known_of}
use Rattle.fio_log.proofs.HeardLemmas.{tells_echo, tells_own}
use Rattle.fio_log.proofs.by_forms.FormReader.tell_frame.Goals as goal

pub returns-then-is_of_echoes-clause-told : goal.returns-then-is_of_echoes-clause-told
returns-then-is_of_echoes-clause-told c =
    let echo : c.is_of_echoes.result ≡ true = search rules in
    tells_echo (known_of c.args.self.now) c.args.line.text.now c.args.heard _ _ _ (sym c.is_of_echoes.ensures ∙ echo) c.tell_echo.ensures.told

pub returns-then-is_of_echoes-clause-words : goal.returns-then-is_of_echoes-clause-words
returns-then-is_of_echoes-clause-words c = c.tell_echo.ensures.words c.args.line.text.now

pub returns-clause-told : goal.returns-clause-told
returns-clause-told c =
    let own : c.is_of_echoes.result ≡ false = search rules in
    tells_own (known_of c.args.self.now) c.args.line.text.now c.args.heard _ _ _ (sym c.is_of_echoes.ensures ∙ own) c.tell_message.ensures.told
