use Rattle.fio_world.proofs.Names.{length, ap, sym, ◌∙◌}
use Rattle.fio_world.proofs.EndToEndLemmas.{length-frames}
use Rattle.fio_world.proofs.world.frames.StoredFrames.len.Goals as goal

pub returns : goal.returns
returns c =
    let inside = c.self.inside in
    c.len.ensures ∙ inside.ends.ok.0 ∙ sym (length-frames inside.octets.items 0 inside.ends.items) ∙ ap (λ s. length s.frames) c.self.view_is
