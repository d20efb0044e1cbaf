use Rattle.std.proofs.Common.{◌<◌, ◌+◌, ◌∙◌, List, ℕ, ap, arith, drop, length, sym}
use Rattle.std.proofs.lemmas.List.{take_rest}
use Rattle.fio_form.specs.Messages.{size_of}
use Rattle.fio_form.specs.Wholes.{framed_in, kept_of, whole_by_size, whole_frame}
use Rattle.fio_form.proofs.Wholing.{bare_whole, framed_held, framed_whole}
use Rattle.fio_form.proofs.wholes.whole_of.Goals as goal

pub returns-then-form-clause-whole : goal.returns-then-form-clause-whole
returns-then-form-clause-whole c =
    let form = c.args.form.now in
    let octets = c.args.octets.now in
    let rest = take_rest octets c.from-before.result ∙ ap (λ (place : ℕ). drop place octets) c.from-before.ensures in
    let some : form.before + form.after < length octets = omega (arith, c.from-before.ensures, c.from-after.ensures, c.if-octets-before.false) in
    c.whole_frame.ensures.whole ∙ (ap whole_frame rest ∙ sym (framed_whole form octets c.if-form.true some))

pub returns-then-form-clause-held : goal.returns-then-form-clause-held
returns-then-form-clause-held c =
    let form = c.args.form.now in
    let octets = c.args.octets.now in
    let rest = take_rest octets c.from-before.result ∙ ap (λ (place : ℕ). drop place octets) c.from-before.ensures in
    let some : form.before + form.after < length octets = omega (arith, c.from-before.ensures, c.from-after.ensures, c.if-octets-before.false) in
    λ framed. c.whole_frame.ensures.kept ∙ (ap (λ (held : List ℕ). kept_of (framed_in held)) rest ∙ sym (framed_held form octets c.if-form.true some))

pub returns-clause-whole : goal.returns-clause-whole
returns-clause-whole c =
    let form = c.args.form.now in
    let octets = c.args.octets.now in
    let rest = take_rest octets c.from-before.result ∙ ap (λ (place : ℕ). drop place octets) c.from-before.ensures in
    let some : form.before + form.after < length octets = omega (arith, c.from-before.ensures, c.from-after.ensures, c.if-octets-before.false) in
    c.whole_by.ensures.whole
    ∙ (ap (λ (text : List ℕ). whole_by_size (size_of text) form.is_swapped form.before form.after octets) rest ∙ sym (bare_whole form octets c.if-form.false some))
