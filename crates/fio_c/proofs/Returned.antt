-- The verdicts that a reader of logs returns, one after another, and the log that they are of.
use Rattle.std.proofs.Common.{◌≡◌, ℕ, ◌+◌, ◌-◌, ◌^◌, ◌≤◌, ◌<◌, Bool, true, false, List, [], ◌∷◌, ◌++◌, length, map, take, Some, refl, sym, subst, ap, ◌∙◌, arith, add-zero, if◌then◌else◌}
use Rattle.std.proofs.lemmas.List.{map-append}
use Rattle.std.proofs.lemmas.List.Elements.{All-nil, All-push}
use Rattle.std.specs.List.{All}
use Rattle.fio_log.specs.Blanks.{Texts, is_blank_line}
use Rattle.fio_log.specs.Lines.{Text, is_whole}
use Rattle.fio_log.specs.OwnVerdicts.{IsOwnVerdict, own_form_of}
use Rattle.fio_log.specs.OwnTexts.{spells}
use Rattle.fio_log.specs.Telling.{HasTaken, HasTold, IsTextOf, Knows, Telling, frames_of, places_of}
use Rattle.fio_log.specs.Wordings.{SaysWords}
use Rattle.fio_log.specs.declared.own_texts.OwnForm.{OwnForm}
use Rattle.fio_log.specs.declared.verdict.Form.TheVariants.{Auto}
use Rattle.fio_log.specs.declared.verdict.Kind.TheVariants.{Blank}
use Rattle.fio_log.specs.declared.verdict.LineVerdict.{LineVerdict}
use Rattle.fio_c.specs.Logs.{AreNext, HasNoneDue, HasReadOn, HasRoomFirst, HasTakenOctets, HasVerdicts, Holds, content_of, flat_told, has_room}
use Rattle.fio_c.specs.Told.{AreLinesAfter, HasReadOf, IsVerdictOf, Returns, ReturnsAll, Told, told_by}
use Rattle.fio_c.specs.declared.log_batch.LogBatch.{LogBatch}
use Rattle.fio_c.proofs.Batches.{next_more}

-- a reader that has read nothing has read nothing of any log
pub nothing_read : (telling : Telling) → ((texts : Texts) → Knows texts telling) → (texts : Texts) → HasReadOf texts telling
nothing_read telling knows texts = record { knows = knows texts }

-- a reader that has returned a verdict, or none
pub told_read : (texts : Texts) (before after : Telling) → ((texts : Texts) → Knows texts before → Knows texts after)
    → HasReadOf texts before → HasReadOf texts after
told_read texts before after knows has = record { knows = knows texts has.knows }

-- a reader that has read a line more
pub line_read : (texts : Texts) (before after : Telling) → IsTextOf texts after
    → ((texts : Texts) → Knows texts before → IsTextOf texts after → Knows texts after) → HasReadOf texts before → HasReadOf texts after
line_read texts before after text knows has = record { knows = knows texts has.knows text }

-- a verdict that a reader of a log returns is of that log
pub verdict_of : (texts : Texts) (before after : Telling) (verdict : LineVerdict)
    → ((texts : Texts) → Knows texts before → Knows texts after)
    → ((texts : Texts) → Knows texts before → before.form ≡ Auto → SaysWords (texts verdict.line).octets verdict.reason)
    → ((texts : Texts) → Knows texts before → before.form ≡ Auto → verdict.kind ≡ Blank → is_blank_line (texts verdict.line) ≡ true)
    → ((own : OwnForm) → own_form_of before.form ≡ Some own → IsOwnVerdict own after.making.text verdict.kind verdict.reason (frames_of after))
    → ((own : OwnForm) → own_form_of before.form ≡ Some own → (verdict.line ≡ after.read) × (is_whole after.making.ending ≡ true))
    → HasReadOf texts before → HasReadOf texts after × IsVerdictOf texts before.form (told_by verdict after)
verdict_of texts before after verdict knows words blank own last has =
    let read : HasReadOf texts after = told_read texts before after knows has in (
      read,
      record {
        words = words texts has.knows;
        blank = blank texts has.knows;
        own = λ form is.
            let line = last form is in
            subst (λ text. IsOwnVerdict form text verdict.kind verdict.reason (frames_of after))
            (read.knows.text line.1 ∙ ap texts (sym line.0)) (own form is);
      },
    )

-- a verdict more
pub returns_more : (first : Telling) (told : List Told) (before : Telling) (one : Told) (after : Telling) → ReturnsAll first told before
    → Returns before one after → ReturnsAll first (told ++ one ∷ []) after
returns_more first [] before one after none returns = (before, after, none, returns, refl)
returns_more first (next ∷ told) before one after (above, below, same, here, rest) returns =
    (above, below, same, here, returns_more below told before one after rest returns)

-- no verdict more
pub returns_none : (first : Telling) (told : List Told) (before after : Telling) → after.told ≡ before.told → ReturnsAll first told before
    → ReturnsAll first told after
returns_none first [] before after same none = same ∙ none
returns_none first (next ∷ told) before after same (above, below, is, here, rest) = (above, below, is, here, returns_none below told before after same rest)

-- a batch with a verdict more
pub verdict_more : (first : Telling) (whole : List Text) (before after : Telling) (verdict : LineVerdict) (batch with : LogBatch)
    → HasTold before verdict after → All (λ frame. spells frame ≡ true) (frames_of after)
    → ((texts : Texts) → HasReadOf texts before → HasReadOf texts after × IsVerdictOf texts before.form (told_by verdict after))
    → ((told : List Told) → Holds batch (content_of told) → Holds with (content_of (told ++ told_by verdict after ∷ [])))
    → HasVerdicts first whole batch before → HasVerdicts first whole with after
verdict_more first whole before after verdict batch with is spelled log added has =
    let one = told_by verdict after in
    let more = map-append flat_told has.told (one ∷ []) in
    record {
      told = has.told ++ one ∷ [];
      holds = added has.told has.holds;
      returned = returns_more first has.told before one after has.returned (record { told = is; same = refl; spelled = spelled });
      next = subst (λ verdicts. AreNext first.told verdicts after.told) (sym more)
          (subst (λ last. AreNext first.told (map flat_told has.told ++ flat_told one ∷ []) last) (sym is.told)
          (next_more first.told (map flat_told has.told) before.told (flat_told one) has.next is.next));
      form = is.form ∙ has.form;
      log = λ texts read lines.
          let above = has.log texts read lines in
          let here = log texts above.0 in (
            here.0,
            All-push (IsVerdictOf texts first.form) has.told one above.1
                (subst (λ form. IsVerdictOf texts form one) has.form here.1),
          );
    }

-- the same verdicts, when a reader has returned no other
pub verdicts_same : (first : Telling) (whole : List Text) (before after : Telling) (batch : LogBatch) → after.told ≡ before.told
    → after.form ≡ before.form → ((texts : Texts) → HasReadOf texts before → HasReadOf texts after)
    → HasVerdicts first whole batch before → HasVerdicts first whole batch after
verdicts_same first whole before after batch told form log has = record {
  told = has.told;
  holds = has.holds;
  returned = returns_none first has.told before after told has.returned;
  next = subst (λ last. AreNext first.told (map flat_told has.told) last) (sym told) has.next;
  form = form ∙ has.form;
  log = λ texts read lines. let above = has.log texts read lines in (log texts above.0, above.1);
}

-- lines of a log, and those after them
lines_split : (above : ℕ) (texts : Texts) (whole more : List Text) → AreLinesAfter above texts (whole ++ more)
    → AreLinesAfter above texts whole × AreLinesAfter (above + length whole) texts more
lines_split above texts [] more lines = (tt, subst (λ count. AreLinesAfter count texts more) (sym (add-zero above)) lines)
lines_split above texts (text ∷ whole) more (first, lines) =
    let rest = lines_split (above + 1) texts whole more lines in
    let below : above + 1 + length whole ≡ above + length (text ∷ whole) = omega arith in
    ((first, rest.0), rw below at rest.1)

-- the line that is whole is the next one
next_line : (is_whole : Bool) (text : Text) (texts : Texts) (above read : ℕ) → read ≡ (if is_whole then above + 1 else above)
    → AreLinesAfter above texts (if is_whole then text ∷ [] else []) → is_whole ≡ true → text ≡ texts read
next_line true text texts above read counted lines is = lines.0 ∙ ap texts (sym counted)
next_line false text texts above read counted lines is = absurd (cc)

-- the same verdicts, when a reader has taken octets
pub verdicts_fed : (first : Telling) (whole : List Text) (before after : Telling) (octets : List ℕ) (batch : LogBatch) → HasTaken before octets after
    → before.read ≡ first.read + length whole
    → ((texts : Texts) → Knows texts before → IsTextOf texts after → Knows texts after)
    → HasVerdicts first whole batch before
    → HasVerdicts first (whole ++ (if is_whole after.making.ending then after.making.text ∷ [] else [])) batch after
verdicts_fed first whole before after octets batch taken counted knows has = record {
  told = has.told;
  holds = has.holds;
  returned = returns_none first has.told before after taken.told has.returned;
  next = subst (λ last. AreNext first.told (map flat_told has.told) last) (sym taken.told) has.next;
  form = taken.form ∙ has.form;
  log = λ texts read lines.
      let split = lines_split first.read texts whole (if is_whole after.making.ending then after.making.text ∷ [] else []) lines in
      let above = has.log texts read split.0 in
      let text : IsTextOf texts after = next_line (is_whole after.making.ending) after.making.text texts before.read after.read taken.read
      (subst (λ count. AreLinesAfter count texts (if is_whole after.making.ending then after.making.text ∷ [] else [])) (sym counted) split.1) in
      (line_read texts before after text knows above.0, above.1);
}

-- no verdict yet
pub none_told : (first : Telling) (batch : LogBatch) → Holds batch (record { verdicts = []; frames = []; places = [] })
    → HasVerdicts first [] batch first
none_told first batch holds = record {
  told = [];
  holds = holds;
  returned = refl;
  next = refl;
  form = refl;
  log = λ texts read lines. (read, All-nil (IsVerdictOf texts first.form));
}

-- a call has read on
pub read_on_by : (before : Telling) (text : List ℕ) (taken : ℕ) (after : Telling) (batch : LogBatch) → taken ≤ length text
    → (octets : HasTakenOctets before (take taken text) after) → HasVerdicts before octets.whole batch after → HasRoomFirst batch
    → (has_room batch ≡ true → HasNoneDue after)
    → (batch.verdict_count ≡ 0 → after.is_ended ≡ false → after.read < 2 ^ 64 - 1 → taken ≡ length text)
    → HasReadOn before text taken after batch
read_on_by before text taken after batch within octets verdicts room due all = record {
  within = within;
  form = verdicts.form;
  all = all;
  told = λ none ended. (due (room none)).left ended;
  octets = octets;
  verdicts = verdicts;
}
