-- How many rounds may be lost among a number of successive ones.
use Rattle.std.specs.Prelude.{ℕ, ◌+◌, ◌*◌, ◌≤◌, Bool, true, false, List, [], ◌∷◌, ◌++◌, take, replicate}
use Rattle.std.specs.List.{AllZip}
use Rattle.fio_link.specs.KeptUp.{Pause, BeginNear}

-- how many of these rounds are lost; true is a clean round
abbrev pub lost_among : List Bool → ℕ
lost_among [] = 0
lost_among (true ∷ rounds) = lost_among rounds
lost_among (false ∷ rounds) = lost_among rounds + 1

-- among any `each` successive rounds, at most `lost` are lost
abbrev pub FewAreLost : ℕ → ℕ → List Bool → Type 0
FewAreLost each lost [] = Unit {0}
FewAreLost each lost (round ∷ rounds) =
    (lost_among (take each (round ∷ rounds)) ≤ lost) × FewAreLost each lost rounds

-- the rounds, newest first, given how many were lost before each clean one
abbrev pub rounds_of : List ℕ → List Bool
rounds_of [] = []
rounds_of (lost ∷ older) = true ∷ (replicate lost false ++ rounds_of older)

-- The pause before a clean round with `lost` lost rounds in it, if rounds begin at most `pace` scans apart: the CPU has
-- taken all blocks when the first of them begins.
pub record HasLost (pace : ℕ) (pause : Pause) (lost : ℕ) : Type 0 where
  pub settled : pause.settled ≤ pace
  pub untaken : pause.untaken ≤ lost * pace

-- the pauses of a link on which rounds begin at most `pace` scans apart, and at most `lost` of any `each` successive ones are
-- lost
abbrev pub LoseFewRounds : ℕ → ℕ → ℕ → List Pause → Type 0
LoseFewRounds pace each lost pauses =
    (losses : List ℕ) × AllZip (HasLost pace) pauses losses × FewAreLost each lost (rounds_of losses)

-- Rounds begin at most n scans apart, and each clean one makes up for s scans. Among each c + 1 successive rounds at most l
-- are lost, with c n ≤ (c - l) s. Then the blocks are never more than (l + 1) n scans behind.
abbrev pub LostRoundsArePossible : Type 0
LostRoundsArePossible =
    (scans pace each lost : ℕ) (pauses : List Pause) →
    LoseFewRounds pace (each + 1) lost pauses →
    pace ≤ scans → each * pace + lost * scans ≤ each * scans →
    BeginNear scans ((lost + 1) * pace) pauses
