use Rattle.std.proofs.Common.{◌≡◌, ◌∙◌, true, false, ap, sym}
use Rattle.fio_log.specs.Lines.{Making, is_whole, no_line}
use Rattle.fio_log.proofs.FollowingLemmas.{begins_follows}
use Rattle.fio_log.proofs.reader.Reader.start_again.Goals as goal

pub returns-clause-knows : goal.returns-clause-knows
returns-clause-knows c = λ texts.
    let none : c.restart.new.self ≡ no_line = c.restart.ensures in
    record {
      text = λ whole. let no : false ≡ true = ap (λ (m : Making). is_whole m.ending) (sym none) ∙ whole in absurd (cc);
      kept = λ auto. c.start_again.ensures.knows texts;
      ready = λ auto ready. absurd (cc);
    }

pub returns-clause-begins : goal.returns-clause-begins
returns-clause-begins c = record {
  above = _;
  closed = c.start_again.ensures.begins.closed;
  stands = λ texts. record {
    follows = λ auto. begins_follows texts _ _ _ c.start_again.ensures.begins;
    next = λ auto known less. absurd (cc);
    due = λ auto ready running. absurd (cc);
  };
}
