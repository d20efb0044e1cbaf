use Rattle.std.proofs.Common.{◌<◌, [], ◌∷◌, get_or, refl, sym, true, rules, arith}
use Rattle.std.proofs.lemmas.Grind.{put_two, common_steps}
use Rattle.std.specs.Fmt.{HasWritten}
use Rattle.hex.specs.Hex.{encode_lower}
use Rattle.fio_text.proofs.DigitLemmas.{encode_lower-none, encode_lower-more, octet_padded}
use Rattle.fio_text.proofs.printing.HexadecimalDisplay.fmt.Goals as goal

pub octets-init : goal.octets-init
octets-init g c = rw encode_lower-none (search rules)

pub octets-preserved : goal.octets-preserved
octets-preserved g c = λ plain.
    let octets = c.args.self.now.0.now in
    let place = c.octets.octet-index in
    let octet = get_or octets place 0 in
    let before = c.octets.invariant plain in
    let small : octet < 256 = search rules in
    let written : HasWritten g.W.Write.write_str_gives c.octets.f (encode_lower (octet ∷ [])) c.write.new.self =
    rw (c.laid_out.ensures, c.in_radix.ensures, octet_padded octet small) at c.in_ok-write.ensures.writes before.plain (refl {a = true}) in
    put_two _ _ _ _ _ _ _ before written (sym (encode_lower-more octets place c.octets-test.true))

pub returns-clause-writes : goal.returns-clause-writes
returns-clause-writes g c = λ plain done. grind (arith, common_steps, c.octets.invariant plain)
