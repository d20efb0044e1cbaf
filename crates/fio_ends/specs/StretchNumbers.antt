-- The numbers that are kept of a log count its stretches and the places between them.
use Rattle.std.specs.Prelude.{◌≡◌, ℕ, ◌%◌, ◌^◌, Bool, true, false, List, [], ◌∷◌, count_by, length, sum_by, Option, Some}
use Rattle.std.specs.List.{cons_option}
use Rattle.fio_message.specs.Octets.{IsOctets}
use Rattle.fio_message.specs.declared.fields.Entry.{Entry}
use Rattle.fio_check.specs.Stretches.{seam_of}
use Rattle.fio_check.specs.declared.seam.SeamCause.{SeamCause}
use Rattle.fio_check.specs.declared.seam.SeamCause.TheVariants.{Disbelieved, Missing, PassedOver, Restart, Unknown}
use Rattle.fio_check.specs.declared.stretches.Seam.{Seam}
use Rattle.fio_ends.specs.StretchLogs.{LogFrame, Stretch, stretches_kept_below, stretches_of}

-- the places of a log, the newest first
abbrev pub seams_in : List LogFrame → List Seam
seams_in [] = []
seams_in (frame ∷ frames) = cons_option (seam_of (stretches_kept_below frames) frame.octets frame.is_believed) (seams_in frames)

-- whether blocks are missing by a cause
abbrev pub says_missing : Option SeamCause → Bool
says_missing (Some (Missing blocks)) = true
says_missing cause = false

-- how many blocks are missing by it
abbrev pub blocks_missing_by : Option SeamCause → ℕ
blocks_missing_by (Some (Missing blocks)) = blocks
blocks_missing_by cause = 0

-- whether it is that the module did not get the polls between
abbrev pub says_passed_over : Option SeamCause → Bool
says_passed_over (Some PassedOver) = true
says_passed_over cause = false

-- whether it is that the log does not say it
abbrev pub says_unknown : Option SeamCause → Bool
says_unknown (Some Unknown) = true
says_unknown cause = false

-- whether it is a restart
abbrev pub says_restart : Option SeamCause → Bool
says_restart (Some Restart) = true
says_restart cause = false

-- whether it is that the block is not believed
abbrev pub says_disbelieved : Option SeamCause → Bool
says_disbelieved (Some Disbelieved) = true
says_disbelieved cause = false

-- Below a log the numbers that are kept are, modulo 2^64, how many entries its stretches have, at how many places transitions are lost,
-- at how many blocks are missing, how many blocks these are, and how many places there are of each other cause.
pub record CountsStretches (frames : List LogFrame) : Type 0 where
  pub transitions : (stretches_kept_below frames).transitions ≡ sum_by (λ (stretch : Stretch). length stretch.entries) (stretches_of frames) % 2 ^ 64
  pub lost : (stretches_kept_below frames).lost ≡ count_by (λ (place : Seam). place.is_lost) (seams_in frames) % 2 ^ 64
  pub missing : (stretches_kept_below frames).missing ≡ count_by (λ (place : Seam). says_missing place.cause) (seams_in frames) % 2 ^ 64
  pub missing_blocks :
      (stretches_kept_below frames).missing_blocks ≡ sum_by (λ (place : Seam). blocks_missing_by place.cause) (seams_in frames) % 2 ^ 64
  pub passed_over : (stretches_kept_below frames).passed_over ≡ count_by (λ (place : Seam). says_passed_over place.cause) (seams_in frames) % 2 ^ 64
  pub unknown : (stretches_kept_below frames).unknown ≡ count_by (λ (place : Seam). says_unknown place.cause) (seams_in frames) % 2 ^ 64
  pub restarts : (stretches_kept_below frames).restarts ≡ count_by (λ (place : Seam). says_restart place.cause) (seams_in frames) % 2 ^ 64
  pub disbelieved : (stretches_kept_below frames).disbelieved ≡ count_by (λ (place : Seam). says_disbelieved place.cause) (seams_in frames) % 2 ^ 64

-- each frame has octets
abbrev pub HaveOctets : List LogFrame → Type 0
HaveOctets [] = Unit {0}
HaveOctets (frame ∷ frames) = IsOctets frame.octets × HaveOctets frames

-- It is so below each log, of whatever module.
unfoldable pub NumbersCountStretches : Type 0
NumbersCountStretches = (frames : List LogFrame) → HaveOctets frames → CountsStretches frames
