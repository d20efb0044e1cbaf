use Rattle.std.proofs.Common.{◌≡◌, ◌∙◌, ◌+◌, ◌==◌, ◌&&◌, false, ap, inl, inr, rules}
use Rattle.fio_rows.specs.Lines.{is_message_whole}
use Rattle.fio_rows.specs.Rows.{state_of}
use Rattle.fio_rows.specs.declared.rows.Reading.{Reading}
use Rattle.fio_log.specs.Heard.{above_of}
use Rattle.fio_log.proofs.FollowingLemmas.{below_follows, same_then}
use Rattle.fio_log.proofs.LineVerdictLemmas.{none_ends, tells_of}
use Rattle.fio_log.proofs.KnowingLemmas.{before_of, same_window}
use Rattle.fio_log.proofs.teller.Teller.tell_next.Goals as goal

pub returns-then-waits-clause-tells : goal.returns-then-waits-clause-tells
returns-then-waits-clause-tells c = λ texts above line window known less has due follows.
    let kept = c.forget.ensures.kept in
    let forms = ap (λ t. t.by_forms) kept in
    let same = same_then c.args.self.now c.tell_first-waits.new.self c.forget.new.self c.tell_first-waits.ensures.same
    (ap (λ t. t.by_forms.forms) kept) (ap (λ t. t.is_known) kept) (ap (λ t. t.first) kept) (ap (λ t. t.lines) kept) in
    let later = same_window texts c.args.self.now c.forget.new.self (before_of c.args.self.now c.tell_first-waits.new.self c.forget.new.self
    c.tell_first-waits.ensures.known (ap (λ t. t.is_known) kept) (ap (λ t. t.learning) kept) (ap (λ t. t.first) kept) (ap (λ t. t.lines) kept)) window in
    let none = ap (λ t. t.heard) kept in
    let told = rw (← forms, ← same.forms) at (c.tell_first-waits.ensures.told texts above line window known less has follows) in
    let reading = ap (λ t. t.by_forms.reading) kept in
    let open_message = c.tell_first-waits.ensures.open_message texts above known less has follows in
    rw same.forms at (c.tell_waiting.ensures.tells texts above line later less (same.known ∙ known) none c.forget.ensures.waiting
    (λ whole. ap (λ t. t.is_open) kept ∙ open_message (rw reading at whole))
    (λ running. elim (due running) [
      | inl more ↦ inl more
      | inr none ↦ inr (ap (λ (r : Reading). is_message_whole r.pending) reading ∙ c.tell_first-waits.ensures.due none.0 none.1)
    ])
    (below_follows texts above c.args.self.now c.forget.new.self c.args.maker.now c.args.frames.now.frames c.tell_first-waits.new.frames.frames
    c.args.at.read c.args.at.told known same none c.forget.ensures.waiting follows) told)

pub returns-else-waits-clause-tells : goal.returns-else-waits-clause-tells
returns-else-waits-clause-tells c = λ texts above line window known less has due follows.
    let kept = c.forget.ensures.kept in
    let forms = ap (λ t. t.by_forms) kept in
    let same = same_then c.args.self.now c.tell_first-waits.new.self c.forget.new.self c.tell_first-waits.ensures.same
    (ap (λ t. t.by_forms.forms) kept) (ap (λ t. t.is_known) kept) (ap (λ t. t.first) kept) (ap (λ t. t.lines) kept) in
    let told = rw (← forms) at (c.tell_first-waits.ensures.told texts above line window known less has follows) in
    let quiet : c.tell_first-waits.result.1 ≡ false = search rules in
    let none : is_message_whole c.forget.new.self.by_forms.reading.pending ≡ false =
    ap (λ t. is_message_whole t.by_forms.reading.pending) kept ∙ c.tell_first-waits.ensures.whole quiet in
    record {
      below = above_of c.forget.new.self.by_forms;
      tells = tells_of (c.args.at.is_ended && c.args.at.told + 1 == c.args.at.read) false c.args.self.now.by_forms.forms (texts (c.args.at.told + 1))
          (texts (c.args.at.told + 2)) above c.tell_first-waits.result.0.kind c.tell_first-waits.result.0.reason c.tell_first-waits.new.frames.frames (above_of c.forget.new.self.by_forms)
          (λ last. none) (none_ends c.args.self.now.by_forms.forms (texts (c.args.at.told + 2)) (state_of c.forget.new.self.by_forms.reading) none) told;
      follows = below_follows texts above c.args.self.now c.forget.new.self c.args.maker.now c.args.frames.now.frames c.tell_first-waits.new.frames.frames
          c.args.at.read c.args.at.told known same (ap (λ t. t.heard) kept) c.forget.ensures.waiting follows;
    }
