use Rattle.fio_input.proofs.Names.{◌≡◌, ◌<◌, ◌^◌, ℕ, true, get_or, refl, ap, sym, ◌∙◌, inl, inr, subst, arith, w64, trailing_zeros, eqb_tells, is_set, is_set-zero, is_set-set_same, is_set-set_other, next_length, meets_filter}
use Rattle.fio_input.proofs.LowestBit.{less_without, lowest_of, without}
use Rattle.fio_input.proofs.few.step_few.Goals.{then-step_run, else-step_run}
use Rattle.fio_input.proofs.few.step_few.Goals as goal

pub inputs-init : goal.inputs-init
inputs-init c =
    record {
      long = omega arith;
      lengths = λ i h is not. cc (is, not);
      rest = λ i h left. refl;
      met = λ i h is not. cc (is, not);
      no_rest = λ i h left. is_set-zero i;
    }

pub inputs-smaller : goal.inputs-smaller
inputs-smaller c = less_without c.inputs.left (omega arith) (omega arith)

pub inputs-preserved : goal.inputs-preserved
inputs-preserved c =
    let left = c.inputs.left in
    let before = c.inputs.invariant in
    let lowest = trailing_zeros w64 left in
    let rest = without left lowest in
    let fits : left < 2 ^ 64 = omega arith in
    let is = lowest_of left (omega arith) fits in
    let new = c.step_run.new.run_lengths in
    let met = c.if-step_run.met in
    let here : is_set met lowest ≡ c.step_run.result =
    elim c.if-step_run.branch [
      | then-step_run w ↦ ap (λ word. is_set word lowest) w.met-is ∙ is_set-set_same c.inputs.met lowest is.0 ∙ sym w.if-step_run.true
      | else-step_run w ↦ ap (λ word. is_set word lowest) w.met-is ∙ before.no_rest lowest is.0 is.1.set ∙ sym w.if-step_run.false
    ] in
    let elsewhere : (i : ℕ) → i < 64 → (i ≡ lowest → ⊥) → is_set met i ≡ is_set c.inputs.met i =
    λ i h other.
    elim c.if-step_run.branch [
      | then-step_run w ↦ ap (λ word. is_set word i) w.met-is ∙ is_set-set_other c.inputs.met lowest is.0 i other
      | else-step_run w ↦ ap (λ word. is_set word i) w.met-is
    ] in
    let other_than : (i : ℕ) → is_set rest i ≡ true → i ≡ lowest → ⊥ =
    λ i is_left e. cc (ap (λ k. is_set rest k) e, is.1.cleared, is_left) in
    let run = c.step_run.ensures in
    record {
      long = omega arith;
      lengths = λ i h stepped not.
          elim (eqb_tells i lowest) [
            | inl same ↦
                subst (λ k. get_or new k 0 ≡ next_length (get_or c.args.run_lengths.now k 0) (is_set c.args.levels k) (is_set c.args.raw k)) (sym same.1)
                (run.length
                ∙ ap (λ n. next_length n (is_set c.args.levels lowest) (is_set c.args.raw lowest)) (before.rest lowest is.0 is.1.set))
            | inr other ↦ run.others i other.1 ∙ before.lengths i h stepped (sym (is.1.others i h other.1) ∙ not)
          ];
      rest = λ i h is_left.
          let other = other_than i is_left in
          run.others i other ∙ before.rest i h (sym (is.1.others i h other) ∙ is_left);
      met = λ i h stepped not.
          elim (eqb_tells i lowest) [
            | inl same ↦
                subst (λ k. is_set met k ≡ meets_filter (get_or c.args.leading.now k 0) (get_or c.args.trailing.now k 0) (is_set c.args.raw k) (get_or new k 0))
                (sym same.1) (here ∙ run.met)
            | inr other ↦
                elsewhere i h other.1
                ∙ before.met i h stepped (sym (is.1.others i h other.1) ∙ not)
                ∙ ap (meets_filter (get_or c.args.leading.now i 0) (get_or c.args.trailing.now i 0) (is_set c.args.raw i)) (sym (run.others i other.1))
          ];
      no_rest = λ i h is_left.
          let other = other_than i is_left in
          elsewhere i h other ∙ before.no_rest i h (sym (is.1.others i h other) ∙ is_left);
    }

pub returns-clause-lengths : goal.returns-clause-lengths
returns-clause-lengths c input h is =
    c.inputs.invariant.lengths input h is (ap (λ left. is_set left input) c.inputs-test.false ∙ is_set-zero input)

pub returns-clause-met : goal.returns-clause-met
returns-clause-met c input h is =
    c.inputs.invariant.met input h is (ap (λ left. is_set left input) c.inputs-test.false ∙ is_set-zero input)
