-- One pass over a text that passes over what is heard above the first command, and takes each line from that command on.
use Rattle.fio_tool.proofs.Names.{◌≡◌, ◌∙◌, ℕ, ◌+◌, Bool, true, false, List, [], ◌∷◌, map, None, Result, Ok, Err, refl, sym, ap, arith, if◌then◌else◌, unwrap_or, values_or_fault, TranscriptLine, from_first_command, IsNoRecording, IsRecordingOf, RecordsLine, from_command, line_in, observation_on}
use Rattle.fio_check.specs.Facts.{no_facts}
use Rattle.fio_check.specs.Verdicts.{verdict_on}
use Rattle.fio_check.specs.declared.observation.Observation.{Observation}
use Rattle.fio_check.specs.declared.verdict.Verdict.{Verdict}
use Rattle.fio_check.specs.declared.verdict.Verdict.TheVariants.{Good}
use Rattle.fio_check.proofs.FirstCommands.{first_again, first_is_sent}
use Rattle.fio_tool.specs.Check.{is_good}
use Rattle.fio_tool.specs.Judging.{IsJudged}
use Rattle.fio_tool.specs.declared.transcript.judging.Judging.{Judging}
use Rattle.fio_tool.specs.declared.transcript.lines.TraceError.{TraceError}
use Rattle.fio_tool.specs.declared.transcript.recording.Recording.{Recording}
use Rattle.fio_tool.proofs.CheckedLines.{IsCourse, course_end, first-left, next_course, still_none, unbroken_end}
use Rattle.fio_tool.proofs.RecordedLines.{IsRecordingSoFar, recording_end, recording_first, recording_next}

-- no command is among the lines above
pub record IsAboveCommand (lines : List TranscriptLine) (frames : ℕ) (left : List (ℕ × List ℕ)) (judging : Judging) (recording : Recording) : Type 0 where
  pub rest : List TranscriptLine
  pub left_is : values_or_fault (map line_in left) ≡ Ok rest
  pub same : from_first_command lines ≡ from_first_command rest
  pub none : frames ≡ 0
  pub facts : judging.facts ≡ no_facts
  pub unbroken : judging.breach ≡ None
  pub nothing : IsNoRecording recording

-- the first command is, and the lines from it on are taken
pub record IsBelowCommand (lines : List TranscriptLine) (frames : ℕ) (left : List (ℕ × List ℕ)) (judging : Judging) (recording : Recording) : Type 0 where
  pub course : IsCourse (from_first_command lines) frames left judging
  pub recorded : judging.breach ≡ None → IsRecordingSoFar (from_first_command lines) left recording

-- so far the pass has come in these lines
abbrev pub IsPass : Bool → List TranscriptLine → ℕ → List (ℕ × List ℕ) → Judging → Recording → Type 0
IsPass false lines frames left judging recording = IsAboveCommand lines frames left judging recording
IsPass true lines frames left judging recording = IsBelowCommand lines frames left judging recording

-- before the first line
pub pass_first : (lines : List TranscriptLine) (left : List (ℕ × List ℕ)) (judging : Judging) (recording : Recording) → values_or_fault (map line_in left) ≡ Ok lines
    → judging.facts ≡ no_facts → judging.breach ≡ None → IsNoRecording recording → IsPass false lines 0 left judging recording
pass_first lines left judging recording reads facts none nothing =
    record { rest = lines; left_is = reads; same = refl; none = refl; facts = facts; unbroken = none; nothing = nothing }

-- one line that is heard above the first command
pub pass_over : (lines : List TranscriptLine) (frames number : ℕ) (text : List ℕ) (left : List (ℕ × List ℕ)) (line : TranscriptLine) (judging : Judging) (recording : Recording)
    → line_in (number, text) ≡ Ok line → line.from_cpu ≡ false → IsPass false lines frames ((number, text) ∷ left) judging recording
    → IsPass false lines frames left judging recording
pass_over lines frames number text left line judging recording reads heard above =
    let first = first-left line (values_or_fault (map line_in left)) above.rest (rw reads at above.left_is) in
    record {
      rest = first.0;
      left_is = first.1;
      same = above.same ∙ ap from_first_command first.2 ∙ ap (λ sent. if sent then line ∷ first.0 else from_first_command first.0) heard;
      none = above.none;
      facts = above.facts;
      unbroken = above.unbroken;
      nothing = above.nothing;
    }

-- the first command
pass-begins : (lines : List TranscriptLine) (frames number : ℕ) (text : List ℕ) (left : List (ℕ × List ℕ)) (line : TranscriptLine) (judging : Judging) (recording : Recording)
    → line_in (number, text) ≡ Ok line → line.from_cpu ≡ true → IsPass false lines frames ((number, text) ∷ left) judging recording
    → IsPass true lines frames ((number, text) ∷ left) judging recording
pass-begins lines frames number text left line judging recording reads sent above =
    let judged = from_first_command lines in
    let first = first-left line (values_or_fault (map line_in left)) above.rest (rw reads at above.left_is) in
    let is : above.rest ≡ judged =
    first.2 ∙ sym (ap (λ s. if s then line ∷ first.0 else from_first_command first.0) sent) ∙ ap from_first_command (sym first.2) ∙ sym above.same in
    let whole : values_or_fault (map line_in ((number, text) ∷ left)) ≡ Ok judged = above.left_is ∙ ap Ok is in
    record {
      course = rw above.none (record { left_is = whole; within = omega arith; stands = record { found = above.unbroken; kept = λ none. above.facts } });
      recorded = λ none. recording_first judged ((number, text) ∷ left) recording whole (first_is_sent lines) above.nothing;
    }

-- a line that is taken
pub pass_next : (begun from_cpu : Bool) (lines : List TranscriptLine) (frames number : ℕ) (text : List ℕ) (left : List (ℕ × List ℕ)) (line : TranscriptLine) (said : Observation)
    (judging judging' : Judging) (recording recording' : Recording) → (begun ≡ false → from_cpu ≡ true)
    → line_in (number, text) ≡ Ok line → line.number ≡ number → line.from_cpu ≡ from_cpu → said ≡ observation_on line → IsJudged judging number said judging'
    → (judging'.breach ≡ None → RecordsLine recording line recording') → IsPass begun lines frames ((number, text) ∷ left) judging recording
    → IsPass true lines (frames + 1) left judging' recording'
pass_next true from_cpu lines frames number text left line said judging judging' recording recording' taken reads numbered from says judged records below = record {
  course = next_course (from_first_command lines) frames number text left line said judging judging' reads numbered says judged below.course;
  recorded = λ none. recording_next (from_first_command lines) number text line left recording recording' reads (records none)
      (below.recorded (still_none judging.breach judging'.breach judged.first none));
}
pass_next false from_cpu lines frames number text left line said judging judging' recording recording' taken reads numbered from says judged records above =
    let below = pass-begins lines frames number text left line judging recording reads (from ∙ taken refl) above in
    record {
      course = next_course (from_first_command lines) frames number text left line said judging judging' reads numbered says judged below.course;
      recorded = λ none. recording_next (from_first_command lines) number text line left recording recording' reads (records none)
          (below.recorded (still_none judging.breach judging'.breach judged.first none));
    }

-- no line remains
none-above : (lines rest : List TranscriptLine) → values_or_fault (map line_in []) ≡ Ok rest → from_first_command lines ≡ from_first_command rest → from_first_command lines ≡ []
none-above lines rest left same = let none : [] ≡ rest = cc in same ∙ sym (ap from_first_command none)

pub pass_verdict : (begun : Bool) (lines : List TranscriptLine) (frames : ℕ) (judging : Judging) (recording : Recording) → IsPass begun lines frames [] judging recording
    → verdict_on (from_first_command lines) ≡ unwrap_or judging.breach (Good frames)
pass_verdict true lines frames judging recording below = course_end (from_first_command lines) frames judging below.course
pass_verdict false lines frames judging recording above =
    ap verdict_on (none-above lines above.rest above.left_is above.same) ∙ sym (rw (above.unbroken, above.none) refl)

pub pass_recording : (begun : Bool) (lines : List TranscriptLine) (frames : ℕ) (left : List (ℕ × List ℕ)) (judging : Judging) (recording : Recording) (verdict : Verdict) → left ≡ []
    → IsPass begun lines frames left judging recording → verdict ≡ unwrap_or judging.breach (Good frames) → is_good verdict ≡ true
    → IsRecordingOf (from_first_command lines) recording
pass_recording true lines frames left judging recording verdict none below same good =
    let unbroken = unbroken_end (from_first_command lines) frames left judging verdict below.course same good in
    recording_end (from_first_command lines) left recording none (first_again lines) (below.recorded unbroken)
pass_recording false lines frames left judging recording verdict none above same good =
    let empty = none-above lines above.rest (rw none at above.left_is) above.same in
    rw empty (record { cpu = above.nothing.cpu; broken = rw above.nothing.broken refl })

-- what is read from the first command on is so of what is read
pub read_from : (read : Result (List TranscriptLine) TraceError) (lines : List TranscriptLine) → from_command read ≡ Ok lines
    → (whole : List TranscriptLine) × (read ≡ Ok whole) × (lines ≡ from_first_command whole)
read_from (Ok whole) lines is = (whole, refl, cc)
read_from (Err fault) lines is = absurd (cc)
