-- The stretches of a log as C sees them.
use Rattle.std.specs.Prelude.{ℕ, ◌+◌, ◌==◌, ◌&&◌, ◌||◌, nat_le, Bool, not, true, List, [], ◌∷◌, Option, Some, None, is_some, unwrap_or, slice_get, if◌then◌else◌}
use Rattle.std.specs.List.{cons_option}
use Rattle.std.specs.Option.{option_map, option_map_or}
use Rattle.fio_message.specs.Bits.{bit_of}
use Rattle.fio_check.specs.Stretches.{seam_of, stretches_with}
use Rattle.fio_check.specs.declared.seam.SeamCause.{SeamCause}
use Rattle.fio_check.specs.declared.seam.SeamCause.TheVariants.{Disbelieved, Missing, PassedOver, Restart, Unknown}
use Rattle.fio_check.specs.declared.stretches.LogStretches.{LogStretches}
use Rattle.fio_check.specs.declared.stretches.Seam.{Seam}
use Rattle.fio_c.specs.BatchItems.{BatchItem}
use Rattle.fio_c.specs.LogCounts.{time_of}
use Rattle.fio_c.specs.declared.judge.JudgeOutcome.{JudgeOutcome}
use Rattle.fio_c.specs.declared.log_batch.LogVerdict.{LogVerdict}
use Rattle.fio_c.specs.declared.log_stretches.LogSeam.{LogSeam}

-- what a block with this outcome says is to be believed: it breaks none of the rules same, order, fresh, alternate, apart and state
abbrev pub is_believed : ℕ → ℕ → Bool
is_believed kind rule =
    not (kind == 1 && rule == 5 || kind == 2 && (nat_le 1 rule && nat_le rule 4 || rule == 6))

-- what the block at an index says is to be believed, by the outcomes of the frames
abbrev pub is_believed_at : List JudgeOutcome → ℕ → Bool
is_believed_at outcomes frame = option_map_or (λ outcome. is_believed outcome.kind outcome.rule) (slice_get outcomes frame) true

-- ---- a frame of a verdict

-- below it, if lines of its kind have frames
abbrev pub stretches_with_frame : LogStretches → LogVerdict → List ℕ → Bool → LogStretches
stretches_with_frame log verdict octets is_believed =
    if verdict.kind == 1 then stretches_with log (time_of verdict) octets is_believed else log

-- the place above it
abbrev pub seam_of_frame : LogStretches → LogVerdict → List ℕ → Bool → Option Seam
seam_of_frame log verdict octets is_believed = if verdict.kind == 1 then seam_of log octets is_believed else None

-- the number of a cause
abbrev pub cause_number : Option SeamCause → ℕ
cause_number None = 0
cause_number (Some (Missing blocks)) = 1
cause_number (Some PassedOver) = 2
cause_number (Some Unknown) = 3
cause_number (Some Restart) = 4
cause_number (Some Disbelieved) = 5

-- how many blocks are missing by a cause
abbrev pub blocks_missing : Option SeamCause → ℕ
blocks_missing (Some (Missing blocks)) = blocks
blocks_missing cause = 0

-- a place above the frame with this index
abbrev pub flat_seam : Seam → ℕ → LogSeam
flat_seam seam frame = record {
  pause = unwrap_or seam.pause 0;
  frame = frame;
  cause = cause_number seam.cause;
  is_lost = bit_of seam.is_lost;
  has_pause = bit_of (is_some seam.pause);
  missing = blocks_missing seam.cause;
}

-- ---- a batch, from the frame with this index on

-- below all of its frames
abbrev pub stretches_below_items : List JudgeOutcome → ℕ → LogStretches → List BatchItem → LogStretches
stretches_below_items outcomes frame log [] = log
stretches_below_items outcomes frame log ((verdict, None) ∷ items) = stretches_below_items outcomes frame log items
stretches_below_items outcomes frame log ((verdict, Some octets) ∷ items) = stretches_below_items outcomes (frame + 1)
    (stretches_with_frame log verdict octets (is_believed_at outcomes frame)) items

-- the places above them, in order
abbrev pub seams_of_items : List JudgeOutcome → ℕ → LogStretches → List BatchItem → List LogSeam
seams_of_items outcomes frame log [] = []
seams_of_items outcomes frame log ((verdict, None) ∷ items) = seams_of_items outcomes frame log items
seams_of_items outcomes frame log ((verdict, Some octets) ∷ items) = cons_option
    (option_map (λ seam. flat_seam seam frame) (seam_of_frame log verdict octets (is_believed_at outcomes frame)))
    (seams_of_items outcomes (frame + 1) (stretches_with_frame log verdict octets (is_believed_at outcomes frame)) items)
