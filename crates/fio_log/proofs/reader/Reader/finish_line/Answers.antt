use Rattle.std.proofs.Common.{◌≡◌, ◌∙◌, ◌<◌, ◌^◌, ◌+◌, ◌-◌, true, false, rules, arith, refl, sym}
use Rattle.fio_log.specs.Lines.{is_whole}
use Rattle.fio_log.specs.declared.verdict.Form.TheVariants.{Auto}
use Rattle.fio_log.proofs.OwnVerdictLemmas.{none-left}
use Rattle.fio_log.proofs.WaitingLemmas.{same_fills}
use Rattle.fio_log.proofs.FollowingLemmas.{made_follows, more_follows}
use Rattle.fio_log.proofs.reader.Reader.finish_line.Goals as goal

pub invariant_of-self : goal.invariant_of-self
invariant_of-self c =
    let kept = c.self.invariant in
    let unready : c.self.inside.is_ready ≡ false = search rules in
    let going : c.self.inside.is_ended ≡ false = search rules in
    let whole : is_whole c.finish.new.self.ending ≡ true = search rules in (
      omega (arith, kept.0),
      λ ready. omega (arith, kept.0),
      λ ended less. let no : false ≡ true = sym going ∙ ended in absurd (cc),
      λ ready running. whole,
      λ own is less.
          let all : c.self.inside.told ≡ c.self.inside.read = none-left _ _ kept.0 (λ some. let no : false ≡ true = sym unready ∙ (kept.4 own is some).0 in absurd (cc)) in
          (c.read_line-self-inside.ensures.ready own is, omega (arith, all), record { whole = whole; verdict = c.read_line-self-inside.ensures.own own is; agreed = c.read_line-self-inside.ensures.agrees own is }),
      c.read_line-self-inside.ensures.waiting c.settle.ensures.agrees,
      λ auto. c.read_line-self-inside.ensures.kept auto (λ unknown. omega (arith, (same_fills _ _ _ _ c.settle.ensures.known (kept.6 auto)).lines unknown)),
      λ auto late running. c.read_line-self-inside.ensures.one auto late,
    )

pub invariant_of-self-else-is_whole-2 : goal.invariant_of-self-else-is_whole-2
invariant_of-self-else-is_whole-2 c =
    let kept = c.self.invariant in
    let unready : c.self.inside.is_ready ≡ false = search rules in (
      kept.0,
      kept.1,
      kept.2,
      λ ready running. let no : false ≡ true = sym unready ∙ ready in absurd (cc),
      λ own is less. let no : false ≡ true = sym unready ∙ (kept.4 own is less).0 in absurd (cc),
      c.settle.ensures.agrees,
      λ auto. same_fills _ _ _ _ c.settle.ensures.known (kept.6 auto),
      λ auto late running known. kept.7 auto late running (sym c.settle.ensures.known.known ∙ known),
    )

pub returns-then-is_whole-2-clause-knows : goal.returns-then-is_whole-2-clause-knows
returns-then-is_whole-2-clause-knows c = λ texts knows text.
    let k = rw (← c.self.view_is) at knows in
    let whole : is_whole c.finish.new.self.ending ≡ true = search rules in
    let less : c.self.inside.told < 2 ^ 64 - 1 = omega (arith, c.self.invariant.0) in
    record {
      text = text;
      kept = λ auto. c.read_line-self-inside.ensures.knows auto texts c.self.inside.read refl whole text
          (c.settle.ensures.knows texts less k.text (k.kept auto));
      ready = λ auto ready. c.read_line-self-inside.ensures.known auto ready;
    }

pub returns-then-is_whole-2-clause-stands : goal.returns-then-is_whole-2-clause-stands
returns-then-is_whole-2-clause-stands c = λ texts above knows stands text.
    let k = rw (← c.self.view_is) at knows in
    let s = rw (← c.self.view_is) at stands in
    let unready : c.self.inside.is_ready ≡ false = search rules in
    let going : c.self.inside.is_ended ≡ false = search rules in
    let whole : is_whole c.finish.new.self.ending ≡ true = search rules in
    let less : c.self.inside.told < 2 ^ 64 - 1 = omega (arith, c.self.invariant.0) in
    let more = λ (auto : c.self.inside.form ≡ Auto). more_follows texts above c.settle.new.self c.self.inside.maker c.finish.new.self
    c.settle.new.frames.frames c.self.inside.read (c.self.inside.read + 1) c.self.inside.told refl whole c.settle.ensures.heard
    (λ known. c.self.invariant.7 auto unready going (sym c.settle.ensures.known.known ∙ known)) (c.settle.ensures.next (s.next auto))
    (c.settle.ensures.follows texts above k.text (k.kept auto).window (s.follows auto)) in
    let lines = λ (auto : c.self.inside.form ≡ Auto). c.settle.ensures.knows texts less k.text (k.kept auto) in
    record {
      follows = λ auto. rw (c.read_line-self-inside.ensures.frames auto)
          (c.read_line-self-inside.ensures.follows auto texts above _ c.self.inside.read refl whole text (lines auto) (more auto));
      next = λ auto. c.read_line-self-inside.ensures.next auto texts above _ c.self.inside.read refl whole text (lines auto) (more auto);
      due = λ auto ready running. c.read_line-self-inside.ensures.due auto ready;
    }

pub returns-else-is_whole-2-clause-stands : goal.returns-else-is_whole-2-clause-stands
returns-else-is_whole-2-clause-stands c = λ texts above knows stands text.
    let k = rw (← c.self.view_is) at knows in
    let s = rw (← c.self.view_is) at stands in
    let unready : c.self.inside.is_ready ≡ false = search rules in
    let going : c.self.inside.is_ended ≡ false = search rules in
    record {
      follows = λ auto. made_follows texts above c.settle.new.self c.self.inside.maker _ c.settle.new.frames.frames c.self.inside.read
          c.self.inside.told c.settle.ensures.heard (λ known. c.self.invariant.7 auto unready going (sym c.settle.ensures.known.known ∙ known))
          (c.settle.ensures.next (s.next auto)) (c.settle.ensures.follows texts above k.text (k.kept auto).window (s.follows auto));
      next = λ auto. c.settle.ensures.next (s.next auto);
      due = λ auto ready running. let no : false ≡ true = sym unready ∙ ready in absurd (cc);
    }
