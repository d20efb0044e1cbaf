-- What is kept of a transcript's lines for the verdict, line by line.
use Rattle.std.specs.Prelude.{◌≡◌, ◌≢◌, ℕ, None, option_map}
use Rattle.fio_check.specs.Facts.{facts_with}
use Rattle.fio_check.specs.Rules.{first_broken}
use Rattle.fio_check.specs.declared.observation.Observation.{Observation}
use Rattle.fio_check.specs.declared.verdict.Verdict.TheVariants.{Broken}
use Rattle.fio_tool.specs.declared.transcript.judging.Judging.{Judging}

-- one more line is judged, with this number and what it says: the first breach is kept, and as long as there is none, the
-- facts are kept up to date
pub record IsJudged (before : Judging) (number : ℕ) (observation : Observation) (after : Judging) : Type 0 where
  pub first : before.breach ≢ None → after.breach ≡ before.breach
  pub broken : before.breach ≡ None
      → after.breach ≡ option_map (Broken number) (first_broken before.facts observation)
  pub kept : before.breach ≡ None → after.breach ≡ None
      → after.facts ≡ facts_with before.facts observation
