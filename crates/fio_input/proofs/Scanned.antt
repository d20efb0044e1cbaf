-- A scan, from the new lengths of the runs and from which runs meet their filters.
use Rattle.fio_input.proofs.Names.{◌≡◌, ◌≢◌, ℕ, ◌^◌, ◌<◌, min, Bool, true, false, not, ◌&&◌, List, ◌∷◌, if◌then◌else◌, ◌⊎◌, inl, inr, refl, sym, ap, ap₂, ◌∙◌, beq, slice_index, bit_not, bit_and, bit_or, bit_xor, is_set, is_set-merged, is_set-and, is_set-not, is_set-xor, is_set-zero, ends_run, FilterEvent, Scan, input_setting, input_samples, input_state, raw_levels, is_reported, AreFiltersAfter, run_length, next_length, meets_filter}
use Rattle.std.proofs.Common.{w64}
use Rattle.fio_input.specs.declared.filters.Filters.{Filters}
use Rattle.fio_input.proofs.History.{latest_is}
use Rattle.fio_input.proofs.RunLengths.{next_run, next_restarts, meets_is}

either_way : {A : Type 0} {x y : A} (a b : Bool) → x ≡ y → (if a then x else y) ≡ (if b then x else y)
either_way true true e = refl
either_way true false e = e
either_way false true e = sym e
either_way false false e = refl

cases_beq : (a b : Bool) → (a ≡ b) ⊎ (a ≢ b)
cases_beq true true = inl refl
cases_beq true false = inr (λ e. cc)
cases_beq false true = inr (λ e. cc)
cases_beq false false = inl refl

-- a sample that equals the state does not change it
settled_state : (i : ℕ) (history : List FilterEvent) (raw : ℕ) → is_set raw i ≡ input_state i history → is_set raw i ≡ input_state i (Scan raw ∷ history)
settled_state i history raw settled = either_way true (ends_run (input_setting i history) (is_set raw i ∷ input_samples i history)) settled

-- the filtered states after a scan: the sample if the run meets its filter, otherwise as before
abbrev pub merged : Filters → ℕ → ℕ → ℕ
merged old met raw = bit_or (bit_and old.filtered (bit_not w64 met)) (bit_and raw met)

module _ (old : Filters) (lengths : List ℕ) (met raw : ℕ) (history : List FilterEvent) (met_fits : met < 2 ^ 64)
    (stepped : (i : ℕ) → i < 64 → is_set raw i ≢ is_set old.filtered i → slice_index lengths i ≡ next_length (slice_index old.run_lengths i) (is_set old.raw i) (is_set raw i))
    (tested : (i : ℕ) → i < 64 → is_set raw i ≢ is_set old.filtered i → is_set met i ≡ meets_filter (slice_index old.leading i) (slice_index old.trailing i) (is_set raw i) (slice_index lengths i))
    (s : AreFiltersAfter old history) where
  -- the sample of an input is not its filtered state
  abbrev IsOther : ℕ → Type 0
  IsOther i = is_set raw i ≢ is_set old.filtered i

  -- the new length is that of the samples with one more
  abbrev IsCounted : ℕ → Type 0
  IsCounted i = slice_index lengths i ≡ min (run_length (is_set raw i ∷ input_samples i history)) 255

  length_by : (i : ℕ) → i < 64 → IsOther i → (n : ℕ) → n ≡ min (run_length (input_samples i history)) 255
      → next_length (slice_index old.run_lengths i) (is_set old.raw i) (is_set raw i) ≡ next_length n (is_set (raw_levels history) i) (is_set raw i)
      → IsCounted i
  length_by i h other n counted same =
      stepped i h other ∙ same ∙ ap (λ length. next_length length (is_set (raw_levels history) i) (is_set raw i)) counted
      ∙ next_run (input_samples i history) _ (is_set raw i) (latest_is i history)

  is_counted : (i : ℕ) → i < 64 → IsOther i → IsCounted i
  is_counted i h other =
      elim (s.inputs i h).run_length [
        | inl settled ↦
            elim (cases_beq (is_set old.raw i) (is_set raw i)) [
              | inl same ↦ absurd (other (sym same ∙ settled ∙ sym (s.inputs i h).filtered))
              | inr changed ↦
                  let n = min (run_length (input_samples i history)) 255 in
                  length_by i h other n refl (next_restarts _ n _ _ changed ∙ ap (λ levels. next_length n (is_set levels i) (is_set raw i)) s.raw)
            ]
        | inr counted ↦
            let n = slice_index old.run_lengths i in
            length_by i h other n counted (ap (λ levels. next_length n (is_set levels i) (is_set raw i)) s.raw)
      ]

  -- a run meets its filter exactly if the new sample ends a run
  met_is : (i : ℕ) → i < 64 → IsOther i → is_set met i ≡ ends_run (input_setting i history) (is_set raw i ∷ input_samples i history)
  met_is i h other =
      let at = s.inputs i h in
      tested i h other ∙ ap₂ (λ e r. meets_filter e r (is_set raw i) (slice_index lengths i)) at.leading at.trailing
      ∙ ap (meets_filter (input_setting i history).leading (input_setting i history).trailing (is_set raw i)) (is_counted i h other)
      ∙ meets_is (input_setting i history) (input_samples i history) (is_set raw i) at.leading_fits at.trailing_fits

  -- the new filtered states are those of the history with the scan
  state_is : (i : ℕ) → i < 64 → is_set (merged old met raw) i ≡ input_state i (Scan raw ∷ history)
  state_is i h =
      let ends = ends_run (input_setting i history) (is_set raw i ∷ input_samples i history) in
      is_set-merged old.filtered raw met i met_fits h
      ∙ elim (cases_beq (is_set raw i) (is_set old.filtered i)) [
        | inl same ↦
            let at = (s.inputs i h).filtered in
            ap (λ before. if is_set met i then is_set raw i else before) at ∙ either_way (is_set met i) ends (same ∙ at)
        | inr other ↦ ap₂ (λ ends before. if ends then is_set raw i else before) (met_is i h other) (s.inputs i h).filtered
      ]

  -- the filters have been through the scan too
  pub scan_carries : AreFiltersAfter (record old { run_lengths = lengths; filtered = merged old met raw; raw = raw }) (Scan raw ∷ history)
  scan_carries =
      record {
        raw = refl;
        inputs = λ i h.
            let at = s.inputs i h in
            record {
              run_length = elim (cases_beq (is_set raw i) (is_set old.filtered i)) [
                | inl same ↦ inl (settled_state i history raw (same ∙ at.filtered))
                | inr other ↦ inr (is_counted i h other)
              ];
              leading = at.leading;
              trailing = at.trailing;
              leading_fits = at.leading_fits;
              trailing_fits = at.trailing_fits;
              ignored = at.ignored;
              filtered = state_is i h;
            };
      }

  -- what changed and is not ignored is what the history has reported
  pub scan_reports : old.ignored < 2 ^ 64 → (i : ℕ) → i < 64
      → is_set (bit_and (bit_not w64 old.ignored) (bit_xor (merged old met raw) old.filtered)) i ≡ is_reported i raw history
  scan_reports fits i h =
      let at = s.inputs i h in
      is_set-and (bit_not w64 old.ignored) (bit_xor (merged old met raw) old.filtered) i
      ∙ ap₂ (λ a b. a && b) (is_set-not old.ignored i fits h ∙ ap not at.ignored)
      (is_set-xor (merged old met raw) old.filtered i ∙ ap₂ (λ a b. not (beq a b)) (state_is i h) at.filtered)

unchanged : (reports now before : Bool) → now ≡ before → false ≡ (reports && not (beq now before))
unchanged true true true e = refl
unchanged true true false e = cc
unchanged true false true e = cc
unchanged true false false e = refl
unchanged false now before e = refl

-- samples that equal the filtered states change nothing but the raw levels
module _ (old : Filters) (raw : ℕ) (history : List FilterEvent) (same : raw ≡ old.filtered) (s : AreFiltersAfter old history) where
  settled_at : (i : ℕ) → i < 64 → is_set raw i ≡ input_state i history
  settled_at i h = ap (λ levels. is_set levels i) same ∙ (s.inputs i h).filtered

  pub settled_carries : AreFiltersAfter (record old { raw = raw }) (Scan raw ∷ history)
  settled_carries =
      record {
        raw = refl;
        inputs = λ i h.
            let at = s.inputs i h in
            let state_after = settled_state i history raw (settled_at i h) in
            record {
              run_length = inl state_after;
              leading = at.leading;
              trailing = at.trailing;
              leading_fits = at.leading_fits;
              trailing_fits = at.trailing_fits;
              ignored = at.ignored;
              filtered = ap (λ levels. is_set levels i) (sym same) ∙ state_after;
            };
      }

  -- and nothing is reported
  pub settled_reports : (i : ℕ) → i < 64 → is_set 0 i ≡ is_reported i raw history
  settled_reports i h =
      let state_after = settled_state i history raw (settled_at i h) in
      is_set-zero i ∙ unchanged (not (input_setting i history).ignore) _ _ (sym state_after ∙ settled_at i h)
