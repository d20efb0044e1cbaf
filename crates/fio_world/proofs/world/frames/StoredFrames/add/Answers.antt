use Rattle.fio_world.proofs.Names.{◌≡◌, ◌+◌, ◌∷◌, ◌++◌, [], length, ap, ◌∙◌, arith, length-append, frames_in, is_cut, are_short}
use Rattle.fio_world.proofs.EndToEndLemmas.{frames-append, cut-append, short-push}
use Rattle.fio_world.proofs.world.frames.StoredFrames.add.Goals as goal

pub invariant_of-self : goal.invariant_of-self
invariant_of-self c =
    let inside = c.self.inside in
    let frame = c.args.frame.now in
    let octets : c.extend_from_slice.new.self.items ≡ inside.octets.items ++ frame = rw c.unwrap.ensures at c.extend_from_slice.ensures.items in
    let whole : length c.extend_from_slice.new.self.items ≡ length inside.octets.items + length frame = ap length octets ∙ length-append inside.octets.items frame in
    let next : c.len.result ≡ length inside.octets.items + length frame = c.len.ensures ∙ c.extend_from_slice.new.self.ok.0 ∙ whole in
    let pushed : c.push.new.self.items ≡ inside.ends.items ++ c.len.result ∷ [] = rw c.unwrap-2.ensures at c.push.ensures.items in
    let ends : c.push.new.self.items ≡ inside.ends.items ++ (length inside.octets.items + length frame) ∷ [] =
    pushed ∙ ap (λ n. inside.ends.items ++ n ∷ []) next in
    let added : frames_in c.extend_from_slice.new.self.items 0 c.push.new.self.items ≡ frames_in inside.octets.items 0 inside.ends.items ++ frame ∷ [] =
    ap (frames_in c.extend_from_slice.new.self.items 0) ends
    ∙ ap (λ os. frames_in os 0 (inside.ends.items ++ (length inside.octets.items + length frame) ∷ [])) octets
    ∙ frames-append inside.octets.items frame 0 inside.ends.items c.self.invariant.cut in
    record {
      cut =
          ap (λ es. is_cut 0 es (length c.extend_from_slice.new.self.items)) ends
          ∙ ap (is_cut 0 (inside.ends.items ++ (length inside.octets.items + length frame) ∷ [])) whole
          ∙ cut-append 0 inside.ends.items (length inside.octets.items) (length inside.octets.items + length frame) c.self.invariant.cut (omega arith);
      short =
          ap are_short added
          ∙ short-push (frames_in inside.octets.items 0 inside.ends.items) frame c.self.invariant.short c.requires.short;
    }

pub returns : goal.returns
returns c =
    let inside = c.self.inside in
    let frame = c.args.frame.now in
    let octets : c.extend_from_slice.new.self.items ≡ inside.octets.items ++ frame = rw c.unwrap.ensures at c.extend_from_slice.ensures.items in
    let next : c.len.result ≡ length inside.octets.items + length frame = c.len.ensures ∙ c.extend_from_slice.new.self.ok.0 ∙ ap length octets ∙ length-append inside.octets.items frame in
    let pushed : c.push.new.self.items ≡ inside.ends.items ++ c.len.result ∷ [] = rw c.unwrap-2.ensures at c.push.ensures.items in
    let ends : c.push.new.self.items ≡ inside.ends.items ++ (length inside.octets.items + length frame) ∷ [] =
    pushed ∙ ap (λ n. inside.ends.items ++ n ∷ []) next in
    ap (frames_in c.extend_from_slice.new.self.items 0) ends
    ∙ ap (λ os. frames_in os 0 (inside.ends.items ++ (length inside.octets.items + length frame) ∷ [])) octets
    ∙ frames-append inside.octets.items frame 0 inside.ends.items c.self.invariant.cut
    ∙ ap (λ s. s.frames ++ frame ∷ []) c.self.view_is
