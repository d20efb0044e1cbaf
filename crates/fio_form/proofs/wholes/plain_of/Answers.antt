use Rattle.std.proofs.Common.{◌+◌, ◌∙◌, ◌∷◌, ◌++◌, [], false, ap, arith, drop, refl, slice_index_or, sym}
use Rattle.std.specs.Prelude.{option_and_then}
use Rattle.std.proofs.lemmas.List.{drop_more, length-append}
use Rattle.fio_form.specs.Wholes.{few_of, plain_from, unescaped}
use Rattle.fio_form.proofs.Frames.{plain_step, too_many_plain}
use Rattle.fio_form.proofs.wholes.plain_of.Goals as goal

pub returns-else-add-clause-no : goal.returns-else-add-clause-no
returns-else-add-clause-no c =
    let octet = slice_index_or c.args.octets.now c.octets.at 0 in
    let octets = drop (c.octets.at + 1) c.args.octets.now in
    let text = drop_more c.args.octets.now c.octets.at 0 c.octets-test.true in
    let step = plain_step c.octets.is_escaped c.octets.plain.items octet octets c.if-octet-eq126.false c.if-octet-eq125.false in
    let full = (c.if-add.ensures.full refl).0 in
    let many = too_many_plain false (c.octets.plain.items ++ unescaped c.octets.is_escaped octet ∷ []) octets
    (omega (arith, full, length-append c.octets.plain.items (unescaped c.octets.is_escaped octet ∷ []))) in
    λ no. ap (option_and_then few_of) (sym c.octets.invariant.same ∙ (ap (plain_from c.octets.is_escaped c.octets.plain.items) text ∙ step)) ∙ many
