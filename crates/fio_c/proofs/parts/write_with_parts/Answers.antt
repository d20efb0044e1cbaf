use Rattle.std.proofs.Common.{◌≡◌, ◌+◌, ◌*◌, ◌++◌, length, ap, ◌∙◌, append_assoc, arith}
use Rattle.std.specs.List.{flat_map}
use Rattle.std.proofs.lemmas.List.{length-append}
use Rattle.fio_flat.specs.Written.{buffer_with}
use Rattle.fio_c.proofs.Overwriting.{length-spelled, buffer_with-more, writes-none, writes-whole}
use Rattle.fio_c.proofs.parts.write_with_parts.Goals as goal

pub returns-else-length-out : goal.returns-else-length-out
returns-else-length-out g c =
    let before = c.args.before.now in
    let body = flat_map g.T.FlatPart.spelled c.args.parts.now in
    let after = c.args.after.now in
    let count = length before + 3 * length c.args.parts.now + length after in
    let long : length (before ++ (body ++ after)) ≡ count =
    omega (arith, length-append before (body ++ after), length-append body after, length-spelled g.T.FlatPart.spelled g.T.FlatPart.three c.args.parts.now) in
    writes-none (before ++ (body ++ after)) c.args.out.now count long (omega (arith, c.if-length-out.false))

pub returns-then-length-out : goal.returns-then-length-out
returns-then-length-out g c =
    let before = c.args.before.now in
    let body = flat_map g.T.FlatPart.spelled c.args.parts.now in
    let after = c.args.after.now in
    let inner = length before + 3 * length c.args.parts.now in
    let three = length-spelled g.T.FlatPart.spelled g.T.FlatPart.three c.args.parts.now in
    let long : length (before ++ (body ++ after)) ≡ inner + length after =
    omega (arith, length-append before (body ++ after), length-append body after) in
    let with_body : c.write_parts.new.out ≡ buffer_with 0 (before ++ body) c.args.out.now =
    buffer_with-more 0 (length before) before body c.args.out.now c.write_at.new.out c.write_parts.new.out
    (omega arith) (omega arith) c.write_at.ensures c.write_parts.ensures in
    let whole : c.write_at-then-length-out.new.out ≡ buffer_with 0 ((before ++ body) ++ after) c.args.out.now =
    buffer_with-more 0 inner (before ++ body) after c.args.out.now c.write_parts.new.out c.write_at-then-length-out.new.out
    (omega (arith, length-append before body)) (omega arith) with_body c.write_at-then-length-out.ensures in
    writes-whole (before ++ (body ++ after)) c.args.out.now c.write_at-then-length-out.new.out (inner + length after) long (omega arith)
    (whole ∙ ap (λ octets. buffer_with 0 octets c.args.out.now) (append_assoc before body after))
