use Rattle.std.proofs.Common.{◌≡◌, ◌+◌, ◌≤◌, ◌++◌, true, length, take}
use Rattle.std.specs.List.{All, concat}
use Rattle.fio_log.specs.OwnTexts.{spells}
use Rattle.fio_log.specs.Telling.{frames_of}
use Rattle.fio_c.specs.Logs.{Content, Holds}
use Rattle.fio_c.proofs.log_verdicts.add_frames.Given as goal

abbrev pub invariant-frames : goal.invariant-frames
invariant-frames l = record {
  within : l.index ≤ length (frames_of l.reader);
  added : (content : Content) → Holds l.initial.batch content
      → Holds l.batch (record content { frames = content.frames ++ take l.index (frames_of l.reader) });
  spelled : All (λ frame. spells frame ≡ true) (take l.index (frames_of l.reader));
  count : l.batch.frame_count ≡ l.initial.batch.frame_count + l.index;
  octets : l.batch.octet_count ≡ l.initial.batch.octet_count + length (concat (take l.index (frames_of l.reader)));
  verdicts : l.batch.verdict_count ≡ l.initial.batch.verdict_count;
  places : l.batch.place_count ≡ l.initial.batch.place_count;
}
