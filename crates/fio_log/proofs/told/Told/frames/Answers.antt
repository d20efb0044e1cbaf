use Rattle.std.proofs.Common.{◌≡◌, ◌+◌, length, arith}
use Rattle.std.specs.List.{concat}
use Rattle.fio_guess.specs.Lines.{parts_of}
use Rattle.fio_guess.proofs.Lines.{length-parts_of}
use Rattle.fio_log.proofs.FrameLemmas.{all_in_frames}
use Rattle.fio_log.proofs.told.Told.frames.Goals as goal

pub returns-clause-count : goal.returns-clause-count
returns-clause-count c =
    let ends = c.self.inside.ends.items in
    let same : length (parts_of c.self.inside.octets.items 0 ends) ≡ length ends = length-parts_of _ 0 ends in
    rw (← c.self.view_is) (omega (arith, same, c.len.ensures.value))

pub returns-clause-few : goal.returns-clause-few
returns-clause-few c =
    let ends = c.self.inside.ends.items in
    let octets = c.self.inside.octets.items in
    let same : length (parts_of octets 0 ends) ≡ length ends = length-parts_of octets 0 ends in
    let all : 0 + length (concat (parts_of octets 0 ends)) ≡ length octets = all_in_frames octets 0 ends c.self.invariant.0 in
    rw (← c.self.view_is) (record {
      frames = omega (arith, same, c.len.ensures.value, c.len.ensures.fits);
      octets = omega (arith, all, c.len-octets.ensures.value, c.len-octets.ensures.fits);
      places = omega (arith, c.len-places.ensures.value, c.len-places.ensures.fits);
    })
