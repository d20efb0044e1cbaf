-- What octets are that are a whole: a message.
use Rattle.std.proofs.Common.{ℕ, ◌≡◌, ◌+◌, ◌-◌, ◌≤◌, Bool, true, false, ◌&&◌, List, [], length, drop, take, Option, Some, None, refl, sym, subst, arith}
use Rattle.std.specs.Prelude.{if◌then◌else◌, nat_le, nat_lt, ◌==◌}
use Rattle.std.proofs.lemmas.List.{drop-take}
use Rattle.std.proofs.lemmas.Bool.Decides.{nat_tests}
use Rattle.std.proofs.Math.Seq.{take-length}
use Rattle.std.proofs.lemmas.Bool.{and_parts}
use Rattle.fio_form.specs.Messages.{is_message, size_of}
use Rattle.fio_form.specs.Reading.{octets_between}
use Rattle.fio_form.specs.Wholes.{framed_in, held_of, kept_of, whole_any, whole_by_size, whole_frame, whole_held, whole_known, whole_of}
use Rattle.fio_form.specs.declared.form.LineForm.{LineForm}
use Rattle.fio_form.specs.declared.message.Size.{Size}
use Rattle.fio_form.specs.declared.message.Size.TheVariants as sizes
use Rattle.fio_form.specs.declared.octets.TheConstants.{OCTETS}
use Rattle.fio_form.specs.declared.reading.Whole.{Whole}
use Rattle.fio_form.specs.declared.reading.Whole.TheVariants.{Message, Any, Lacking, Idle, Damaged}
use Rattle.fio_rows.specs.Rows.{octets_with, whole_before}

-- a whole of these octets has a message, if it says one
abbrev pub HasMessage : Whole → List ℕ → Type 0
HasMessage (Message start end) octets = is_message (octets_between start end octets) ≡ true
HasMessage (Any start end) octets = is_message (octets_between start end octets) ≡ true
HasMessage _ octets = Unit {0}

-- what a frame holds
frame_by : (b : Bool) (held : List ℕ) → is_message held ≡ b → HasMessage (if b then Message 0 (length held) else Idle) held
frame_by true held h = grind (arith, nat_tests, take-length)
frame_by false held h = tt

held_has : (held : Option (List ℕ)) → HasMessage (whole_held held) (kept_of held)
unfolding kept_of
held_has None = tt
held_has (Some held) = frame_by (is_message (take OCTETS held)) (take OCTETS held) refl

frame_has : (octets : List ℕ) → HasMessage (whole_frame octets) (kept_of (framed_in octets))
frame_has octets = grind (arith, nat_tests, held_has)

-- a message of a known size
known_by : (b : Bool) (before size : ℕ) (octets : List ℕ) → (b ≡ true → is_message (take size (drop before octets)) ≡ true) →
    HasMessage (if b then Message before (before + size) else Damaged) octets
known_by true before size octets h = grind (arith, nat_tests, drop-take)
known_by false before size octets h = tt

known_has : (swapped : Bool) (before after size : ℕ) (octets : List ℕ) → HasMessage (whole_known swapped before after size octets) octets
known_has swapped before after size octets = grind (arith, nat_tests, known_by, and_parts)

-- a message of any length
any_by : (b : Bool) (before after : ℕ) (octets : List ℕ) → before + after ≤ length octets →
    (b ≡ true → is_message (take (length octets - after - before) (drop before octets)) ≡ true) →
    HasMessage (if b then Any before (length octets - after) else Damaged) octets
any_by true before after octets l h =
    let n : before + (length octets - after - before) ≡ length octets - after = omega arith in
    let e : octets_between before (length octets - after) octets ≡ take (length octets - after - before) (drop before octets) =
    subst (λ (k : ℕ). drop before (take k octets) ≡ take (length octets - after - before) (drop before octets)) n
    (drop-take before (length octets - after - before) octets) in
    subst (λ (x : List ℕ). is_message x ≡ true) (sym e) (h refl)
any_by false before after octets l h = tt

any_has : (swapped : Bool) (before after : ℕ) (octets : List ℕ) → before + after ≤ length octets →
    HasMessage (whole_any swapped before after octets) octets
any_has swapped before after octets l = grind (arith, nat_tests, any_by, and_parts)

bare_has : (size : Size) (swapped : Bool) (before after : ℕ) (octets : List ℕ) → before + after ≤ length octets →
    HasMessage (whole_by_size size swapped before after octets) octets
bare_has (sizes.Known size) swapped before after octets l = known_has swapped before after size octets
bare_has sizes.Any swapped before after octets l = any_has swapped before after octets l
bare_has _ swapped before after octets l = tt

-- octets that are more than those before and after a message
longer_has : (framed : Bool) (form : LineForm) (octets : List ℕ) → form.before + form.after ≤ length octets →
    HasMessage (if framed then whole_frame (drop form.before octets)
    else whole_by_size (size_of (drop form.before octets)) form.is_swapped form.before form.after octets)
    (if framed then kept_of (framed_in (drop form.before octets)) else octets)
longer_has true form octets l = frame_has (drop form.before octets)
longer_has false form octets l = bare_has (size_of (drop form.before octets)) form.is_swapped form.before form.after octets l

few_has : (b : Bool) (octets : List ℕ) → HasMessage (if b then Idle else Lacking) octets
few_has true octets = tt
few_has false octets = tt

short_by : (b : Bool) (form : LineForm) (octets : List ℕ) → nat_le (length octets) (form.before + form.after) ≡ b →
    HasMessage (if b then (if nat_lt 0 form.before && length octets == form.before + form.after then Idle else Lacking)
    else if form.is_framed then whole_frame (drop form.before octets)
    else whole_by_size (size_of (drop form.before octets)) form.is_swapped form.before form.after octets)
    (if form.is_framed then (if b then [] else kept_of (framed_in (drop form.before octets))) else octets)
short_by true form octets h = few_has (nat_lt 0 form.before && length octets == form.before + form.after) _
short_by false form octets h = grind (arith, nat_tests, longer_has)

-- the octets of a form have a message if they are one
pub whole_has : (form : LineForm) (octets : List ℕ) → HasMessage (whole_of form octets) (held_of form octets)
unfolding whole_of
whole_has form octets = short_by (nat_le (length octets) (form.before + form.after)) form octets refl

-- the same before a tail
pub before_has : (form : LineForm) (octets tail : List ℕ) → HasMessage (whole_before form octets tail) (octets_with form octets)
unfolding whole_before octets_with
before_has form octets tail = grind (arith, nat_tests, whole_has)
