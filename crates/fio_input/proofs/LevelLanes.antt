-- The levels of 16 inputs as lanes of 0 and 1.
use Rattle.fio_input.proofs.Names.{◌≡◌, ℕ, ◌+◌, ◌/◌, ◌^◌, ◌<◌, ◌==◌, min, Bool, true, false, cond, eqb, leb, if◌then◌else◌, refl, ap, ap₂, ◌∙◌, bit_and, is_set, bit_of, is_set_masked, is_set-low, is_set-shr, filter_in_force, next_length, meets_filter, top}

-- the lane that a comparison returns, made 1 or 0
abbrev compared_bit : Bool → ℕ
compared_bit same = cond (top 7 (cond same 255 0)) 1 0

compared_bit_is : (same : Bool) → compared_bit same ≡ bit_of same
compared_bit_is true = refl
compared_bit_is false = refl

-- the first eight lanes compare the low octet with its bits
pub low-lane : (n i : ℕ) → i < 8 → compared_bit (eqb (bit_and (bit_and n 255) (2 ^ i)) (2 ^ i)) ≡ bit_of (is_set n i)
low-lane n i h = compared_bit_is _ ∙ ap bit_of (is_set_masked (bit_and n 255) i ∙ is_set-low n 8 i h)

-- the other eight compare the next octet with its bits
pub high-lane : (n i : ℕ) → compared_bit (eqb (bit_and (n / 256) (2 ^ i)) (2 ^ i)) ≡ bit_of (is_set n (8 + i))
high-lane n i = compared_bit_is _ ∙ ap bit_of (is_set_masked (n / 256) i ∙ is_set-shr n 8 i)

same_lane : (n : ℕ) (level sample : Bool)
    → (if bit_of level == bit_of sample then min (n + 1) 255 else 1) ≡ next_length n level sample
same_lane n true true = refl
same_lane n true false = refl
same_lane n false true = refl
same_lane n false false = refl

one_lane : (level : Bool) → (bit_of level == 1) ≡ level
one_lane true = refl
one_lane false = refl

module _ (level_lane sample_lane : ℕ) (level sample : Bool)
    (level_is : level_lane ≡ bit_of level) (sample_is : sample_lane ≡ bit_of sample) where
  -- a run's next length, if its level and the sample are lanes
  pub next_in_lanes : (n : ℕ) → (if level_lane == sample_lane then min (n + 1) 255 else 1) ≡ next_length n level sample
  next_in_lanes n = ap₂ (λ l s. if l == s then min (n + 1) 255 else 1) level_is sample_is ∙ same_lane n level sample

  -- whether a run meets its filter, if the sample is a lane
  pub meets_in_lanes : (leading trailing length : ℕ)
      → leb (filter_in_force (if sample_lane == 1 then trailing else leading)) length ≡ meets_filter leading trailing sample length
  meets_in_lanes leading trailing length =
      ap (λ one. leb (filter_in_force (if one then trailing else leading)) length) (ap (λ lane. lane == 1) sample_is ∙ one_lane sample)
