use Rattle.std.proofs.Common.{◌<◌, eqb, map, w8, ap, sym, ◌∙◌, arith}
use Rattle.std.proofs.lemmas.Simd.{bitmask_splat, leading_from_mask_l, trailing_mask_l}
use lib.Count.{count_trailing_zeros}
use lib.Lanes.{mask_l}
use Rattle.fio_text.proofs.lines.before_feed.Goals as goal

pub returns-then-feeds-eq0 : goal.returns-then-feeds-eq0
returns-then-feeds-eq0 c =
    let octets = c.args.octets in
    let feeds = bitmask_splat w8 eqb octets 16 10 c.fits-octets.0 (omega arith) in
    sym (leading_from_mask_l (λ octet. eqb octet 10) octets (sym feeds ∙ c.if-feeds-eq0.true) ∙ c.fits-octets.0)

pub returns : goal.returns
returns c =
    let octets = c.args.octets in
    let feeds = bitmask_splat w8 eqb octets 16 10 c.fits-octets.0 (omega arith) in
    let some : 0 < mask_l (map (λ octet. eqb octet 10) octets) = omega (arith, feeds, c.if-feeds-eq0.false) in
    ap (λ n. count_trailing_zeros 64 n) feeds
    ∙ trailing_mask_l (λ octet. eqb octet 10) 64 octets (omega (arith, c.fits-octets.0)) some
