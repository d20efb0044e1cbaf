-- One pass over a text, frame by frame, finds the CPU of the lines that are read from it and the first breach of a rule on
-- content.
use Rattle.fio_tool.proofs.Names.{◌≡◌, ◌∙◌, ℕ, Bool, true, List, [], ◌∷◌, length, map, None, Ok, refl, sym, ap, fold, option_map, values_or_fault, TranscriptLine, from_first_command, IsNoRecording, IsRecordingOf, RecordsLine, item_broken, line_in}
use Rattle.std.proofs.Math.Bool.{or-true}
use Rattle.std.specs.Option.{option_or}
use Rattle.std.specs.Prelude.{◌||◌}
use Rattle.fio_tool.specs.Record.{items_of_cpu}
use Rattle.fio_check.specs.declared.observation.Observation.TheVariants.{Unreadable}
use Rattle.fio_check.specs.ContentCheckers.{ContentChecking, checking_with, content_found, found_in_frame, kept_with}
use Rattle.fio_check.specs.ContentKept.{content_checking}
use Rattle.fio_check.specs.Pollers.{poller_of, poller_with}
use Rattle.fio_tool.specs.Judging.{IsJudged}
use Rattle.fio_tool.specs.declared.transcript.judging.Judging.{Judging}
use Rattle.fio_tool.specs.declared.transcript.recording.Recording.{Recording}
use Rattle.fio_tool.proofs.CheckedLines.{first-left, still_none}
use Rattle.fio_tool.proofs.ContentBreaches.{IsBrokenSoFar, broken_end, broken_first, broken_next}

-- a line that is unreadable breaks a rule
pub unreadable_breaks : (before after : Judging) (number : ℕ) → IsJudged before number Unreadable after → after.breach ≡ None → ⊥
unreadable_breaks before after number judged none =
    let broken = judged.broken (still_none before.breach after.breach judged.first none) in absurd (cc)

pub record IsRecordingSoFar (lines : List TranscriptLine) (left : List (ℕ × List ℕ)) (recording : Recording) : Type 0 where
  pub rest : List TranscriptLine
  pub left_is : values_or_fault (map line_in left) ≡ Ok rest
  pub whole : fold poller_with recording.cpu rest ≡ poller_of lines
  pub course : IsBrokenSoFar lines rest recording.cpu (content_checking recording.checker).kept recording.broken
  -- the next line is sent, or the checker judges already
  pub judged : (line : TranscriptLine) (below : List TranscriptLine) → rest ≡ line ∷ below → (line.from_cpu || (content_checking recording.checker).begun) ≡ true

-- before the first line
pub recording_first : (lines : List TranscriptLine) (left : List (ℕ × List ℕ)) (recording : Recording) → values_or_fault (map line_in left) ≡ Ok lines
    → ((line : TranscriptLine) (below : List TranscriptLine) → lines ≡ line ∷ below → line.from_cpu ≡ true) → IsNoRecording recording → IsRecordingSoFar lines left recording
recording_first lines left recording reads sent none = record {
  rest = lines;
  left_is = reads;
  whole = ap (λ cpu. fold poller_with cpu lines) none.cpu;
  course = broken_first lines recording.cpu (content_checking recording.checker).kept recording.broken none.cpu (ap (λ (checking : ContentChecking). checking.kept) none.checking) none.broken;
  judged = λ line below is. ap (λ first. first || (content_checking recording.checker).begun) (sent line below is);
}

-- a frame that is judged
judging : (checking : ContentChecking) (from_cpu : Bool) (octets : List ℕ) → (from_cpu || checking.begun) ≡ true
    → (found_in_frame checking from_cpu octets ≡ content_found checking.kept from_cpu octets)
    × (checking_with checking from_cpu octets ≡ record { begun = true; kept = kept_with checking.kept from_cpu octets })
judging checking from_cpu octets judged = (rw judged refl, rw judged refl)

-- one line more
pub recording_next : (lines : List TranscriptLine) (number : ℕ) (text : List ℕ) (line : TranscriptLine) (left : List (ℕ × List ℕ)) (before after : Recording)
    → line_in (number, text) ≡ Ok line → RecordsLine before line after
    → IsRecordingSoFar lines ((number, text) ∷ left) before → IsRecordingSoFar lines left after
recording_next lines number text line left before after reads step so_far =
    let first = first-left line (values_or_fault (map line_in left)) so_far.rest (rw reads at so_far.left_is) in
    let known = content_checking before.checker in
    let judged = so_far.judged line first.0 first.2 in
    let steps = judging known line.from_cpu line.octets judged in
    record {
      rest = first.0;
      left_is = first.1;
      whole = ap (λ c. fold poller_with c first.0) step.cpu ∙ ap (fold poller_with before.cpu) (sym first.2) ∙ so_far.whole;
      course = broken_next lines first.0 line before.cpu after.cpu known.kept (content_checking after.checker).kept before.broken after.broken
          step.cpu (ap (λ (checking : ContentChecking). checking.kept) (step.checking ∙ steps.1))
          (step.broken ∙ ap (λ found. option_or before.broken (option_map (item_broken line.number (length (items_of_cpu before.cpu))) found)) steps.0)
          (rw first.2 at so_far.course);
      judged = λ next below is. ap (λ (checking : ContentChecking). next.from_cpu || checking.begun) (step.checking ∙ steps.1) ∙ or-true next.from_cpu;
    }

-- no line remains
pub recording_end : (lines : List TranscriptLine) (left : List (ℕ × List ℕ)) (recording : Recording) → left ≡ [] → from_first_command lines ≡ lines
    → IsRecordingSoFar lines left recording
    → IsRecordingOf lines recording
recording_end lines [] recording none begins so_far =
    let read = so_far.left_is in
    let ended : [] ≡ so_far.rest = cc in
    record {
      cpu = ap (fold poller_with recording.cpu) ended ∙ so_far.whole;
      broken = broken_end lines recording.cpu (content_checking recording.checker).kept recording.broken (rw (← ended) at so_far.course) begins;
    }
recording_end lines (line ∷ left) recording none begins so_far = absurd (cc)
