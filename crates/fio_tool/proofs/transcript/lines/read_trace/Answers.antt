use Rattle.fio_tool.proofs.Names.{◌≡◌, ◌∙◌, ◌++◌, List, [], ◌∷◌, Result, Ok, Err, map, refl, sym, ap, append_assoc, map-append, values_or_fault, with_first, TranscriptLine, line_in}
use Rattle.fio_tool.specs.declared.transcript.lines.TraceError.{TraceError}
use Rattle.fio_tool.proofs.transcript.lines.read_trace.Goals as goal

-- one more of the lines that remain
line-collected : (lines : List TranscriptLine) (line : TranscriptLine) (left : Result (List TranscriptLine) TraceError)
    → with_first (lines ++ (line ∷ [])) left ≡ with_first lines (with_first (line ∷ []) left)
line-collected lines line (Ok rest) = ap Ok (append_assoc lines (line ∷ []) rest)
line-collected lines line (Err e) = refl

line-kept : (lines : List TranscriptLine) (line : TranscriptLine) (left : List (Result TranscriptLine TraceError))
    → map Ok (lines ++ (line ∷ [])) ++ left ≡ map Ok lines ++ (Ok line ∷ left)
line-kept lines line left = rw map-append (append_assoc (map Ok lines) (Ok line ∷ []) left)

pub lines-preserved : goal.lines-preserved
lines-preserved c =
    let lines = c.lines.lines.items in
    let line = c.in_ok-line.line in
    let rest = map line_in c.next.new.self in
    let left : map line_in c.lines.number-iterator ≡ Ok line ∷ rest = rw (c.in-Some.ensures.steps, c.in_ok-line.ensures.ok) refl in
    let items = c.in_ok-push.ensures.items in
    record {
      read = ap (λ all. with_first all (values_or_fault rest)) items
          ∙ line-collected lines line (values_or_fault rest)
          ∙ sym (ap (λ all. with_first lines (values_or_fault all)) left)
          ∙ c.lines.invariant.read;
      frames = c.lines.invariant.frames
          ∙ ap (λ all. map Ok lines ++ all) left
          ∙ sym (line-kept lines line rest)
          ∙ sym (ap (λ all. map Ok all ++ rest) items);
    }
