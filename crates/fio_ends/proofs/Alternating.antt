-- The changes of an input in a part of the log alternate, from a state to a state.
use Rattle.fio_ends.proofs.Names.{◌≡◌, ◌≢◌, ◌∙◌, ◌<◌, ◌≤◌, ◌&&◌, ◌⊎◌, inl, inr, ℕ, zero, suc, Bool, true, false, not, List, [], ◌∷◌, ◌++◌, refl, ap, sym, subst, arith, if◌then◌else◌, AllByRecursion, eqb_tells, beq, Life, Scanned, filter_events, Transition, input_setting, each-from_get, input_state, is_reported, of_scan, transition_at}
use Rattle.fio_module.specs.Log.{transitions_below}

-- no transition is of this input
abbrev pub NoneOf : ℕ → List Transition → Type 0
NoneOf input transitions = AllByRecursion (λ transition. transition.input ≢ input) transitions

-- those of this input alternate: the first is a change from a state, and the last one to another, or there is none and both are
-- the same
abbrev pub Alternate : ℕ → Bool → List Transition → Bool → Type 0
Alternate input before [] state = before ≡ state
Alternate input before (transition ∷ transitions) state =
    ((transition.input ≡ input) × (transition.level ≡ not before) × Alternate input transition.level transitions state)
    ⊎ ((transition.input ≢ input) × Alternate input before transitions state)

-- ---- lists

pub none-alternate : (input : ℕ) (state : Bool) (transitions : List Transition) → NoneOf input transitions → Alternate input state transitions state
none-alternate input state [] none = refl
none-alternate input state (transition ∷ transitions) none = inr (none.0, none-alternate input state transitions none.1)

pub alternate-append : (input : ℕ) (before middle state : Bool) (front back : List Transition) → Alternate input before front middle
    → Alternate input middle back state → Alternate input before (front ++ back) state
alternate-append input before middle state [] back same rest = subst (λ b. Alternate input b back state) (sym same) rest
alternate-append input before middle state (transition ∷ front) back (inl here) rest =
    inl (here.0, here.1, alternate-append input transition.level middle state front back here.2 rest)
alternate-append input before middle state (transition ∷ front) back (inr other) rest =
    inr (other.0, alternate-append input before middle state front back other.1 rest)

pub alternate-split : (input : ℕ) (before state : Bool) (front back : List Transition) → Alternate input before (front ++ back) state
    → (middle : Bool) × Alternate input before front middle × Alternate input middle back state
alternate-split input before state [] back all = (before, refl, all)
alternate-split input before state (transition ∷ front) back (inl here) =
    let rest = alternate-split input transition.level state front back here.2 in
    (rest.0, inl (here.0, here.1, rest.1), rest.2)
alternate-split input before state (transition ∷ front) back (inr other) =
    let rest = alternate-split input before state front back other.1 in
    (rest.0, inr (other.0, rest.1), rest.2)

not-same : (a b : Bool) → not a ≡ not b → a ≡ b
not-same a b same = grind arith

-- both ways to the same state are from the same one
pub alternate-same : (input : ℕ) (before other state : Bool) (transitions : List Transition) → Alternate input before transitions state
    → Alternate input other transitions state → before ≡ other
alternate-same input before other state [] first second = first ∙ sym second
alternate-same input before other state (transition ∷ transitions) (inl here) (inl there) = not-same before other (sym here.1 ∙ there.1)
alternate-same input before other state (transition ∷ transitions) (inl here) (inr apart) = absurd (apart.0 here.0)
alternate-same input before other state (transition ∷ transitions) (inr apart) (inl there) = absurd (apart.0 there.0)
alternate-same input before other state (transition ∷ transitions) (inr first) (inr second) =
    alternate-same input before other state transitions first.1 second.1

-- ---- one scan

differ : (a b : Bool) → not (beq a b) ≡ true → a ≡ not b
differ a b is = grind arith

agree : (a b : Bool) → not (beq a b) ≡ false → b ≡ a
agree a b is = grind arith

module _ (input raw : ℕ) (life : Life) where
  abbrev state_before : Bool
  state_before = input_state input (filter_events life)

  abbrev state_after : Bool
  state_after = input_state input (filter_events (Scanned raw ∷ life))

  -- those of lower inputs
  none_below : (count : ℕ) → count ≤ input → NoneOf input (transitions_below count raw life)
  none_below count low =
      each-from_get (λ transition. transition.input ≢ input) (transitions_below count raw life)
      (λ k transition at same. (let o = of_scan count raw life k transition at in absurd (omega (arith, o.low, same))))

  -- an input that is ignored has none
  pub none_ignored : (input_setting input (filter_events life)).ignore ≡ true → NoneOf input (transitions_below 64 raw life)
  none_ignored ignored =
      each-from_get (λ transition. transition.input ≢ input) (transitions_below 64 raw life)
      (λ k transition at same.
      (let o = of_scan 64 raw life k transition at in
      let reported : is_reported input raw (filter_events life) ≡ true = ap (λ i. is_reported i raw (filter_events life)) (sym same) ∙ o.reported in
      let none : is_reported input raw (filter_events life) ≡ false =
      ap (λ ignore. not ignore && not (beq (input_state input (filter_events (Scanned raw ∷ life))) (input_state input (filter_events life)))) ignored in
      absurd (cc (reported, none))))

  -- the transition of the input itself
  own : (reported : Bool) → not (beq state_after state_before) ≡ reported
      → Alternate input state_before (if reported then transition_at (Scanned raw ∷ life) input ∷ [] else []) state_after
  own true changed = inl (refl, differ state_after state_before changed, refl)
  own false same = agree state_after state_before same

  another : (reported : Bool) (count : ℕ) → count ≢ input
      → Alternate input state_after (if reported then transition_at (Scanned raw ∷ life) count ∷ [] else []) state_after
  another true count other = inr (other, refl)
  another false count other = refl

-- an input that is not ignored
pub scan_below : (input raw : ℕ) (life : Life) (count : ℕ) → (input_setting input (filter_events life)).ignore ≡ false → input < count
    → Alternate input (state_before input raw life) (transitions_below count raw life) (state_after input raw life)
unfolding transitions_below
scan_below input raw life zero opened low = absurd (omega (arith, low))
scan_below input raw life (suc count) opened low =
    let before = state_before input raw life in
    let after = state_after input raw life in
    elim (eqb_tells count input) as (λ _. Alternate input before
    (transitions_below count raw life ++ (if is_reported count raw (filter_events life) then transition_at (Scanned raw ∷ life) count ∷ [] else [])) after) [
      | inl same ↦
          let reported : is_reported input raw (filter_events life) ≡ not (beq after before) =
          ap (λ ignore. not ignore && not (beq after before)) opened in
          let here : Alternate input before (if is_reported count raw (filter_events life) then transition_at (Scanned raw ∷ life) count ∷ [] else []) after =
          subst (λ n. Alternate input before (if is_reported n raw (filter_events life) then transition_at (Scanned raw ∷ life) n ∷ [] else []) after) (sym same.1)
          (own input raw life (is_reported input raw (filter_events life)) (sym reported)) in
          alternate-append input before before after (transitions_below count raw life) _
          (none-alternate input before (transitions_below count raw life) (none_below input raw life count (omega (arith, same.1)))) here
      | inr apart ↦
          alternate-append input before after after (transitions_below count raw life) _
          (scan_below input raw life count opened (omega (arith, apart.1, low))) (another input raw life (is_reported count raw (filter_events life)) count apart.1)
    ]
