use Rattle.std.proofs.Common.{◌≡◌, arith}
use Rattle.fio_log.proofs.reader.Reader.like.Goals as goal

pub returns-clause-knows : goal.returns-clause-knows
returns-clause-knows c = λ texts knows.
    let k = rw (← c.self.view_is) at knows in
    let none_read : c.self.inside.read ≡ 0 = omega arith in
    let none_told : c.self.inside.told ≡ 0 = omega (arith, none_read, c.self.invariant.0) in
    record {
      text = k.text;
      kept = λ auto. rw (none_read, none_told) (c.like.ensures.knows texts (rw (none_read, none_told) at (k.kept auto)));
      ready = λ auto ready. c.like.ensures.known (k.ready auto ready);
    }

pub returns-clause-stands : goal.returns-clause-stands
returns-clause-stands c = λ texts above stands.
    let s = rw (← c.self.view_is) at stands in
    let none_read : c.self.inside.read ≡ 0 = omega arith in
    let none_told : c.self.inside.told ≡ 0 = omega (arith, none_read, c.self.invariant.0) in
    record {
      follows = λ auto. rw (none_read, none_told) (c.like.ensures.follows texts above _ _ (rw (none_read, none_told) at (s.follows auto)));
      next = λ auto known less. absurd (omega (arith, less, none_read));
      due = λ auto ready running. absurd (omega (arith, c.self.invariant.1 ready, none_read));
    }
