-- What the octets of a form are.
use Rattle.std.proofs.Common.{◌≡◌, ◌<◌, ◌+◌, ℕ, true, false, List, length, refl, arith}
use Rattle.std.specs.Prelude.{drop, nat_le}
use Rattle.std.proofs.lemmas.Bool.Decides.{nat_tests}
use Rattle.fio_form.specs.Messages.{size_of}
use Rattle.fio_form.specs.Wholes.{framed_in, held_of, kept_of, whole_by_size, whole_frame, whole_of}
use Rattle.fio_form.specs.declared.form.LineForm.{LineForm}

more : (few count : ℕ) → few < count → nat_le count few ≡ false
more few count is = grind (arith, nat_tests)

pub framed_whole : (form : LineForm) (octets : List ℕ) → form.is_framed ≡ true → form.before + form.after < length octets
    → whole_of form octets ≡ whole_frame (drop form.before octets)
unfolding whole_of
framed_whole form octets framed some = rw (more (form.before + form.after) (length octets) some) (rw framed refl)

pub framed_held : (form : LineForm) (octets : List ℕ) → form.is_framed ≡ true → form.before + form.after < length octets
    → held_of form octets ≡ kept_of (framed_in (drop form.before octets))
framed_held form octets framed some = rw framed (rw (more (form.before + form.after) (length octets) some) refl)

pub bare_whole : (form : LineForm) (octets : List ℕ) → form.is_framed ≡ false → form.before + form.after < length octets
    → whole_of form octets ≡ whole_by_size (size_of (drop form.before octets)) form.is_swapped form.before form.after octets
unfolding whole_of
bare_whole form octets bare some = rw (more (form.before + form.after) (length octets) some) (rw bare refl)
