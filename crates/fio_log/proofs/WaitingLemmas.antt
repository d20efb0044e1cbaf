-- How many lines wait for their verdicts.
use Rattle.std.proofs.Common.{◌≡◌, ◌≤◌, ◌<◌, ◌+◌, ◌∙◌, ℕ, Bool, true, false, Some, length, sym, ap, arith, refl, inl, inr}
use Rattle.std.proofs.lemmas.Bool.Decides.{leb_tells}
use Rattle.fio_guess.specs.declared.table.TheConstants.{LINES}
use Rattle.fio_log.specs.OwnVerdicts.{own_form_of}
use Rattle.fio_log.specs.Waiting.{Fills, KnowsAsBefore, WaitsForOne}
use Rattle.fio_log.specs.declared.own_texts.OwnForm.{OwnForm}
use Rattle.fio_log.specs.declared.teller.Teller.{Teller}
use Rattle.fio_log.specs.declared.verdict.Form.{Form}
use Rattle.fio_log.specs.declared.verdict.Form.TheVariants.{Auto}
use Rattle.fio_log.proofs.OwnVerdictLemmas.{auto-form}

-- a teller that knows the forms as before
pub same_fills : (before after : Teller) (read told : ℕ) → KnowsAsBefore before after → Fills before read told → Fills after read told
same_fills before after read told same fills = record {
  lines = λ unknown.
      let was : before.is_known ≡ false = sym same.known ∙ unknown in
      let window : length after.learning.window ≡ length before.learning.window = ap length (same.window was) in
      omega (arith, window, fills.lines was);
  few = λ unknown.
      let was : before.is_known ≡ false = sym same.known ∙ unknown in
      let window : length after.learning.window ≡ length before.learning.window = ap length (same.window was) in
      omega (arith, window, fills.few was);
}

-- a verdict more
pub fills_more : (teller : Teller) (read told : ℕ) → Fills teller read told → Fills teller read (told + 1)
fills_more teller read told fills = record { lines = λ unknown. omega (arith, fills.lines unknown); few = fills.few }

-- the next verdict cannot be returned
pub few_heard : (is_heard is_ready : Bool) (teller : Teller) (read told : ℕ) → (is_heard ≡ true → told < read → is_ready ≡ true)
    → is_ready ≡ false → (is_heard ≡ false → WaitsForOne teller read told) → WaitsForOne teller read told
few_heard false is_ready teller read told heard unready one = one refl
few_heard true is_ready teller read told heard unready one = λ known. elim (leb_tells (told + 1) read) [
  | inl less ↦ let no : false ≡ true = sym unready ∙ heard refl (omega (arith, less.1)) in absurd (cc)
  | inr more ↦ omega (arith, more.1)
]

by_known : (known : Bool) (read told : ℕ) → (known ≡ false → read ≤ told + LINES) → (known ≡ true → read ≤ told + 1) → read ≤ told + LINES
by_known false read told filling one = filling refl
by_known true read told filling one = omega (arith, one refl)

by_end : (is_ended : Bool) (read told : ℕ) → (is_ended ≡ true → told < read → false ≡ true) → (is_ended ≡ false → read ≤ told + LINES)
    → read ≤ told + LINES
by_end false read told ended running = running refl
by_end true read told ended running = elim (leb_tells (told + 1) read) [
  | inl less ↦ let no : false ≡ true = ended refl (omega (arith, less.1)) in absurd (cc)
  | inr more ↦ omega (arith, more.1)
]

-- no verdict can be returned
pub few_wait : (form : Form) (is_ready is_ended : Bool) (teller : Teller) (read told : ℕ) → is_ready ≡ false
    → (is_ended ≡ true → told < read → is_ready ≡ true)
    → ((own : OwnForm) → own_form_of form ≡ Some own → told < read → is_ready ≡ true) → (form ≡ Auto → Fills teller read told)
    → (form ≡ Auto → is_ready ≡ false → is_ended ≡ false → WaitsForOne teller read told) → read ≤ told + LINES
few_wait form is_ready is_ended teller read told unready ended own fills one = elim (leb_tells (told + 1) read) [
  | inl more ↦
      let less : told < read = omega (arith, more.1) in
      let auto = auto-form form (λ text is. let no : false ≡ true = sym unready ∙ own text is less in absurd (cc)) in
      by_end is_ended read told (λ is some. sym unready ∙ ended is some) (λ running.
      by_known teller.is_known read told (λ unknown. omega (arith, (fills auto).lines unknown, (fills auto).few unknown))
      (λ known. one auto unready running known))
  | inr none ↦ omega (arith, none.1)
]
