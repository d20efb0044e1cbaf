use Rattle.std.proofs.Common.{◌≡◌, ◌∙◌, ◌+◌, ◌==◌, ◌&&◌, true, false, length, ap, arith, inl, inr, refl, rules, sym}
use Rattle.fio_rows.specs.Lines.{is_message_whole}
use Rattle.fio_rows.specs.Rows.{state_of}
use Rattle.fio_log.specs.Heard.{above_of}
use Rattle.fio_log.specs.declared.rows.MessageRows.{MessageRows}
use Rattle.fio_log.proofs.FollowingLemmas.{heard_follows, last_follows}
use Rattle.fio_log.proofs.LineVerdictLemmas.{both, end_told, false_unless, heard_ends, heard_whole, hears_line, last_line, log_told, none_ends, not_last, tells_of}
use Rattle.fio_log.proofs.teller.Teller.tell_waiting.Goals as goal

pub returns-then-at-clause-tells : goal.returns-then-at-clause-tells
returns-then-at-clause-tells c = λ texts above line window less known none silent opens due follows tells.
    let two : c.args.at.told + 1 + 1 ≡ c.args.at.told + 2 = omega arith in
    let last = last_line c.args.self.now.first c.args.self.now.lines c.args.maker.now c.args.at.read c.args.at.told less
    (λ more. rw two at (follows.next known more none silent))
    (λ has. let no = rw c.in_default.is at (c.line_at.ensures.there has) in absurd (cc)) in
    record {
      below = above_of c.tell_end.new.self;
      tells = log_told _ _ (texts (c.args.at.told + 1)) (texts (c.args.at.told + 2)) above c.args.self.now.by_forms c.args.verdict.kind c.tell_end.result.kind c.args.verdict.reason c.tell_end.result.reason
          c.args.frames.now.frames c.tell_end.new.told.frames (above_of c.tell_end.new.self) (both _ _ c.if-at.true last) tells c.tell_end.ensures.told c.tell_end.ensures.more;
      follows = last_follows texts (above_of c.args.self.now.by_forms) c.args.self.now _ c.args.maker.now c.args.frames.now.frames
          c.tell_end.new.told.frames c.args.at.read (c.args.at.told + 1)
          (record { forms = c.tell_end.ensures.forms; known = refl; first = refl; lines = refl }) none silent none silent follows;
    }

pub returns-else-at-clause-tells : goal.returns-else-at-clause-tells
returns-else-at-clause-tells c = λ texts above line window less known none silent opens due follows tells.
    let two : c.args.at.told + 1 + 1 ≡ c.args.at.told + 2 = omega arith in
    let shut : is_message_whole c.args.self.now.by_forms.reading.pending ≡ false = elim (due c.if-at.false) [
      | inl more ↦
          let has = rw two at (follows.next known (omega (arith, more)) none silent) in
          let no = rw c.in_default.is at (c.line_at.ensures.there has) in absurd (cc)
      | inr shut ↦ shut
    ] in
    record {
      below = above_of c.args.self.now.by_forms;
      tells = tells_of (c.args.at.is_ended && c.args.at.told + 1 == c.args.at.read) false c.args.self.now.by_forms.forms (texts (c.args.at.told + 1))
          (texts (c.args.at.told + 2)) above c.args.verdict.kind c.args.verdict.reason c.args.frames.now.frames (above_of c.args.self.now.by_forms) (λ last. shut)
          (none_ends c.args.self.now.by_forms.forms (texts (c.args.at.told + 2)) (state_of c.args.self.now.by_forms.reading) shut) tells;
      follows = follows;
    }

pub returns-then-not-self-clause-tells : goal.returns-then-not-self-clause-tells
returns-then-not-self-clause-tells c = λ texts above line window less known none silent opens due follows tells.
    let closed : c.args.self.now.is_open ≡ false = search rules in
    let shut = false_unless (is_message_whole c.args.self.now.by_forms.reading.pending) (λ whole. sym closed ∙ opens whole) in
    record {
      below = above_of c.args.self.now.by_forms;
      tells = tells_of (c.args.at.is_ended && c.args.at.told + 1 == c.args.at.read) false c.args.self.now.by_forms.forms (texts (c.args.at.told + 1))
          (texts (c.args.at.told + 2)) above c.args.verdict.kind c.args.verdict.reason c.args.frames.now.frames (above_of c.args.self.now.by_forms) (λ last. shut)
          (none_ends c.args.self.now.by_forms.forms (texts (c.args.at.told + 2)) (state_of c.args.self.now.by_forms.reading) shut) tells;
      follows = follows;
    }

pub returns-then-heard-clause-tells : goal.returns-then-heard-clause-tells
returns-then-heard-clause-tells c = λ texts above line window less known none silent opens due follows tells.
    let two : c.args.at.told + 1 + 1 ≡ c.args.at.told + 2 = omega arith in
    let there = rw c.in-Some.is at (c.line_at.ensures.text texts line window) in
    let has = rw c.in-Some.is at c.line_at.ensures.had in
    let forms = ap (λ r. r.forms) c.hear-heard.ensures.kept in
    let is = hears_line c.args.self.now.by_forms c.args.self.now.by_forms c.hear-heard.new.self (texts (c.args.at.told + 2)) _ _
    (state_of c.args.self.now.by_forms.reading) c.hear-heard.result c.hear-heard.ensures.kept refl refl there c.hear-heard.ensures.heard in
    let whole = heard_whole _ _ _ _ _ is c.if-heard.true in
    let heard = rw (← two, ← c.tell_ended.ensures.forms, ← c.tell_ended.ensures.reading) at is in
    record {
      below = above_of c.args.self.now.by_forms;
      tells = tells_of (c.args.at.is_ended && c.args.at.told + 1 == c.args.at.read) true c.args.self.now.by_forms.forms (texts (c.args.at.told + 1))
          (texts (c.args.at.told + 2)) above c.tell_ended.result.kind c.tell_ended.result.reason c.tell_ended.new.told.frames (above_of c.args.self.now.by_forms) (λ last. whole) (rw forms at (heard_ends _ _ _ _ _ is ∙ c.if-heard.true)) (end_told c.args.self.now.by_forms.forms (texts (c.args.at.told + 1)) above (above_of c.args.self.now.by_forms)
          c.args.verdict.kind c.tell_ended.result.kind c.args.verdict.reason c.tell_ended.result.reason c.args.frames.now.frames c.tell_ended.new.told.frames c.hear-heard.new.self.reading.ended.items tells
          whole (is.ended c.if-heard.true) c.tell_ended.ensures.told);
      follows = heard_follows texts (above_of c.args.self.now.by_forms) c.args.self.now _ c.args.maker.now c.args.frames.now.frames
          c.tell_ended.new.told.frames c.args.at.read (c.args.at.told + 1) c.hear-heard.result known refl refl refl refl silent
          (rw (← two) at has) heard
          (sym (ap (λ (r : MessageRows). length r.places.items) c.tell_ended.ensures.rows ∙ ap (λ r. length r.rows.places.items) c.hear-heard.ensures.kept)) follows;
    }

pub returns-else-heard-clause-tells : goal.returns-else-heard-clause-tells
returns-else-heard-clause-tells c = λ texts above line window less known none silent opens due follows tells.
    let two : c.args.at.told + 1 + 1 ≡ c.args.at.told + 2 = omega arith in
    let there = rw c.in-Some.is at (c.line_at.ensures.text texts line window) in
    let has = rw c.in-Some.is at c.line_at.ensures.had in
    let forms = ap (λ r. r.forms) c.hear-heard.ensures.kept in
    let is = hears_line c.args.self.now.by_forms c.args.self.now.by_forms c.hear-heard.new.self (texts (c.args.at.told + 2)) _ _
    (state_of c.args.self.now.by_forms.reading) c.hear-heard.result c.hear-heard.ensures.kept refl refl there c.hear-heard.ensures.heard in
    record {
      below = above_of c.args.self.now.by_forms;
      tells = tells_of (c.args.at.is_ended && c.args.at.told + 1 == c.args.at.read) false c.args.self.now.by_forms.forms (texts (c.args.at.told + 1))
          (texts (c.args.at.told + 2)) above c.args.verdict.kind c.args.verdict.reason c.args.frames.now.frames (above_of c.args.self.now.by_forms)
          (λ last. not_last c.args.at.is_ended c.args.at.read c.args.at.told _ has.within last) (rw forms at (heard_ends _ _ _ _ _ is ∙ c.if-heard.false)) tells;
      follows = heard_follows texts (above_of c.args.self.now.by_forms) c.args.self.now _ c.args.maker.now c.args.frames.now.frames
          c.args.frames.now.frames c.args.at.read (c.args.at.told + 1) c.hear-heard.result known refl refl refl refl silent
          (rw (← two) at has) (rw (← two) at is)
          (sym (ap (λ r. length r.rows.places.items) c.hear-heard.ensures.kept)) follows;
    }
