use Rattle.std.proofs.Common.{◌≡◌, ◌∙◌, true, false, ap, sym}
use Rattle.fio_log.specs.Lines.{Making, is_whole, no_line}
use Rattle.fio_log.proofs.FollowingLemmas.{begins_follows}
use Rattle.fio_log.proofs.reader.Reader.new.Goals as goal

pub returns-clause-knows : goal.returns-clause-knows
returns-clause-knows c = λ texts.
    let none : c.new.result ≡ no_line = c.new.ensures in
    record {
      text = λ whole. let no : false ≡ true = ap (λ (m : Making). is_whole m.ending) (sym none) ∙ whole in absurd (cc);
      kept = λ auto. c.new-2.ensures.knows texts;
      ready = λ auto ready. absurd (cc);
    }

pub returns-clause-begins : goal.returns-clause-begins
returns-clause-begins c = record {
  above = _;
  closed = c.new-2.ensures.begins.closed;
  stands = λ texts. record {
    follows = λ auto. begins_follows texts _ _ _ c.new-2.ensures.begins;
    next = λ auto known less. absurd (cc);
    due = λ auto ready running. absurd (cc);
  };
}
