-- The judge of a log is what its struct of C stands for, and says what each frame of a batch is.
use Rattle.std.proofs.Common.{◌≡◌, Bool, List, [], ◌∷◌, length, Option, Some, None, refl, arith}
use Rattle.fio_check.specs.LogJudges.{LogJudging}
use Rattle.fio_check.specs.declared.missing_frames.MissingFrames.{MissingFrames}
use Rattle.fio_check.specs.declared.missing_frames.MissingFrames.TheVariants.{AbovePoll, Below, Nowhere}
use Rattle.fio_check.specs.declared.outcome.LogPlace.{LogPlace}
use Rattle.fio_check.specs.declared.outcome.LogPlace.TheVariants.{Bus, Cpu, Module}
use Rattle.fio_c.specs.BatchItems.{BatchItem, frame_count}
use Rattle.fio_c.specs.LogJudges.{log_below_item, missing_in, missing_number, outcomes_of_items, place_number, place_taken}

pub place_kept : (place : Option LogPlace) → place_taken (place_number place) ≡ place
place_kept None = refl
place_kept (Some Cpu) = refl
place_kept (Some Module) = refl
place_kept (Some Bus) = refl

pub missing_kept : (missing : MissingFrames) → missing_in (missing_number missing) ≡ missing
missing_kept Nowhere = refl
missing_kept Below = refl
missing_kept AbovePoll = refl

pub length_outcomes : (as_said : Bool) (judge : LogJudging) (items : List BatchItem)
    → length (outcomes_of_items as_said judge items) ≡ frame_count items
length_outcomes as_said judge [] = refl
length_outcomes as_said judge ((verdict, None) ∷ items) =
    length_outcomes as_said (log_below_item as_said judge (verdict, None)) items
length_outcomes as_said judge ((verdict, Some octets) ∷ items) =
    omega (arith, length_outcomes as_said (log_below_item as_said judge (verdict, Some octets)) items)
