use Rattle.std.proofs.Common.{◌≡◌, ◌<◌, ◌+◌, Some, true, false, rules, arith, refl}
use Rattle.fio_log.specs.OwnVerdicts.{own_form_of}
use Rattle.fio_log.proofs.WaitingLemmas.{few_heard, few_wait, fills_more, same_fills}
use Rattle.fio_log.proofs.KnowingLemmas.{same_window}
use Rattle.fio_log.proofs.reader.Reader.verdict.Goals as goal

pub invariant_of-self : goal.invariant_of-self
invariant_of-self c =
    let kept = c.self.invariant in
    let ready : c.self.inside.is_ready ≡ true = search rules in
    let less : c.self.inside.told < c.self.inside.read = kept.1 ready in (
      omega (arith, less),
      search rules,
      search rules,
      λ more running. kept.3 ready running,
      λ own is more. let last = (kept.4 own is less).1 in absurd (omega (arith, last, more)),
      rw c.next_is_heard-is_heard.ensures.waiting c.next_verdict-verdict.ensures.waiting,
      λ auto. same_fills c.next_verdict-verdict.new.teller c.next_is_heard-is_heard.new.teller c.self.inside.read (c.self.inside.told + 1)
          c.next_is_heard-is_heard.ensures.known
          (same_fills c.self.inside.teller c.next_verdict-verdict.new.teller c.self.inside.read (c.self.inside.told + 1)
          c.next_verdict-verdict.ensures.known (fills_more c.self.inside.teller c.self.inside.read c.self.inside.told (kept.6 auto))),
      λ auto unready running. few_heard c.next_is_heard-is_heard.result c.can_tell-self-inside.result c.next_is_heard-is_heard.new.teller
          c.self.inside.read (c.self.inside.told + 1) c.can_tell-self-inside.ensures.heard unready (c.next_is_heard-is_heard.ensures.one auto),
    )

pub returns-clause-last : goal.returns-clause-last
returns-clause-last c = λ own is.
    let ordered : own_form_of c.self.inside.form ≡ Some own = rw (← c.self.view_is) at is in
    let ready : c.self.inside.is_ready ≡ true = search rules in
    let less : c.self.inside.told < c.self.inside.read = c.self.invariant.1 ready in
    let tells = c.self.invariant.4 own ordered less in (tells.1, tells.2.whole)

pub next_verdict-verdict-requires : goal.next_verdict-verdict-requires
next_verdict-verdict-requires c =
    let ready : c.self.inside.is_ready ≡ true = search rules in
    let less : c.self.inside.told < c.self.inside.read = c.self.invariant.1 ready in
    record { waiting = c.self.invariant.5; own = λ own is. (c.self.invariant.4 own is less).2.agreed }

pub returns-then-not-self-clause-told : goal.returns-then-not-self-clause-told
returns-then-not-self-clause-told c =
    let kept = c.self.invariant in
    let unready : c.self.inside.is_ready ≡ false = search rules in
    let few = few_wait c.self.inside.form c.self.inside.is_ready c.self.inside.is_ended c.self.inside.teller c.self.inside.read c.self.inside.told
    unready kept.2 (λ own is less. (kept.4 own is less).0) kept.6 kept.7 in
    rw (← c.self.view_is) (record {
      told = refl;
      form = refl;
      making = refl;
      read = refl;
      is_ended = refl;
      is_ready = unready;
      last = refl;
      waiting = few;
    })

pub returns-clause-line : goal.returns-clause-line
returns-clause-line c = λ texts above knows stands auto.
    let k = rw (← c.self.view_is) at knows in
    let s = rw (← c.self.view_is) at stands in
    let is = rw (← c.self.view_is) at auto in
    let ready : c.self.inside.is_ready ≡ true = search rules in
    let less : c.self.inside.told < c.self.inside.read = c.self.invariant.1 ready in
    let window = (k.kept is).window in
    let told = c.next_verdict-verdict.ensures.tells is texts above k.text window (k.ready is ready) less (s.next is) (s.due is ready) (s.follows is) in
    let two : c.self.inside.told + 2 ≡ c.self.inside.told + 1 + 1 = omega arith in
    let later = same_window texts c.self.inside.teller c.next_verdict-verdict.new.teller c.next_verdict-verdict.ensures.known window in
    rw (← c.self.view_is) (record {
      below = told.below;
      tells = rw two at told.tells;
      stands = record {
        follows = λ form. c.next_is_heard-is_heard.ensures.follows form texts told.below _ k.text later told.follows;
        next = λ form. c.next_is_heard-is_heard.ensures.next form texts told.below _ told.follows;
        due = λ form yes running. c.next_is_heard-is_heard.ensures.due form (c.can_tell-self-inside.ensures.due yes running);
      };
    })
