use Rattle.fio_tool.proofs.Names.{◌≡◌, ◌∙◌, sym, refl, ap, arith, Ok, false, true, length, map, values_or_fault, TranscriptLine, from_command, line_in, transcript_in, verdict_of}
use Rattle.fio_tool.proofs.BegunLines.{pass_first, pass_next, pass_over, pass_recording, pass_verdict, read_from}
use Rattle.fio_tool.proofs.CheckedLines.{line_read, lines_within, read_whole, with_first-err}
use Rattle.fio_tool.proofs.LongFrames.{spelled_said}
use Rattle.fio_tool.proofs.transcript.one_pass.record_lines.Goals as goal
use Rattle.fio_tool.proofs.transcript.one_pass.record_lines.Goals.{else-not-begun-via-then-not-begun+else-not-from_cpu, else-not-begun-via-else-not-begun}

pub lines-init : goal.lines-init
lines-init c =
    let all = c.into_iter-number-iterator.ensures.into_iter_gives ∙ c.numbered_lines-number-items.ensures in
    let within = lines_within c.args.text.now in
    record {
      within = rw all (omega (arith, within));
      faults = rw all refl;
      pass = λ lines reads. rw all (pass_first lines _ c.new-judging.result c.new-recording.result reads c.new-judging.ensures.facts c.new-judging.ensures.breach c.new-recording.ensures);
    }

pub lines-preserved-then-not-from_cpu : goal.lines-preserved-then-not-from_cpu
lines-preserved-then-not-from_cpu c =
    let left = c.in-Some.ensures.steps in
    let number = c.in-Some.number in
    let text = c.in-Some.line.now in
    let frame = c.in-Some-read_frame.ensures.some in
    let line : TranscriptLine = record { number = number; from_cpu = c.in-Some-read_frame.from_cpu; octets = frame.octets } in
    let reads : line_in (number, text) ≡ Ok line = line_read number text c.in-Some-read_frame.from_cpu frame.octets frame.frame in
    let count = ap length left in
    let within = c.lines.invariant.within in
    record {
      within = omega (arith, count, within);
      faults = sym (with_first-err line (values_or_fault (map line_in c.next.new.self))) ∙ rw (left, reads) at c.lines.invariant.faults;
      pass = λ lines whole. rw c.if-not-begun.true (pass_over lines c.lines.frames number text c.next.new.self line _ _ reads c.if-not-from_cpu.true
          (rw (left, c.if-not-begun.true) at c.lines.invariant.pass lines whole));
    }

pub lines-preserved : goal.lines-preserved
lines-preserved c =
    let left = c.in-Some.ensures.steps in
    let number = c.in-Some.number in
    let text = c.in-Some.line.now in
    let frame = c.in-Some-read_frame.ensures.some in
    let line : TranscriptLine = record { number = number; from_cpu = c.in-Some-read_frame.from_cpu; octets = frame.octets } in
    let reads : line_in (number, text) ≡ Ok line = line_read number text c.in-Some-read_frame.from_cpu frame.octets frame.frame in
    let shown = c.octets_of-octets.ensures text c.in-Some-read_frame.from_cpu frame in
    let says = spelled_said line.from_cpu shown in
    let count = ap length left in
    let within = c.lines.invariant.within in
    let taken : c.lines.begun ≡ false → line.from_cpu ≡ true =
    elim c.else-not-begun.branch as (λ _. c.lines.begun ≡ false → c.in-Some-read_frame.from_cpu ≡ true) [
      | else-not-begun-via-then-not-begun+else-not-from_cpu w ↦ (λ above. w.if-not-from_cpu.false)
      | else-not-begun-via-else-not-begun w ↦ (λ above. let both : true ≡ false = sym w.if-not-begun.false ∙ above in absurd (cc))
    ] in
    record {
      within = omega (arith, count, within);
      faults = sym (with_first-err line (values_or_fault (map line_in c.next.new.self))) ∙ rw (left, reads) at c.lines.invariant.faults;
      pass = λ lines whole. pass_next c.lines.begun line.from_cpu lines c.lines.frames number text c.next.new.self line _ _ _ _ _ taken reads refl refl says
          c.in_ok-record_frame.ensures.judged (c.in_ok-record_frame.ensures.recorded line refl refl (sym shown.sent) (sym shown.heard))
          (rw left at c.lines.invariant.pass lines whole);
    }

pub returns-clause-verdict : goal.returns-clause-verdict
returns-clause-verdict c =
    let none = c.in-None.ensures.steps.0 in
    let read = read_whole (transcript_in c.args.text.now) (rw none at c.lines.invariant.faults) in
    let verdict = pass_verdict c.lines.begun read.0 c.lines.frames c.lines.judging c.lines.recording (rw none at c.lines.invariant.pass read.0 read.1) in
    ap (λ found. verdict_of (from_command found)) read.1 ∙ ap Ok (verdict ∙ sym c.unwrap_or.ensures)

pub returns-clause-recording : goal.returns-clause-recording
returns-clause-recording c lines reads good =
    let read = read_from (transcript_in c.args.text.now) lines reads in
    rw read.2 (pass_recording c.lines.begun read.0 c.lines.frames c.lines.number-iterator c.lines.judging c.lines.recording _ c.in-None.ensures.steps.0
    (c.lines.invariant.pass read.0 read.1) c.unwrap_or.ensures good)
