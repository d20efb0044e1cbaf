use Rattle.fio_world.proofs.Names.{◌≡◌, ◌-◌, ◌<◌, Some, true, length, get_or, ap, sym, ◌∙◌, arith, item_numbered, between, frames_in, are_short, start_at}
use Rattle.fio_world.proofs.EndToEndLemmas.{length-frames, cut-at, frame-at, end-read, short-numbered}
use Rattle.fio_world.proofs.Shown.{item_numbered-place}
use Rattle.fio_world.proofs.world.frames.StoredFrames.octets_of.Goals as goal

pub start_of-start-requires : goal.start_of-start-requires
start_of-start-requires c =
    let inside = c.self.inside in
    let count : length c.args.self.now.frames ≡ length inside.ends.items = sym (ap (λ s. length s.frames) c.self.view_is) ∙ length-frames inside.octets.items 0 inside.ends.items in
    let whole : length c.as_slice.result.now ≡ length inside.ends.items = ap length c.as_slice.ensures.value in
    omega (arith, count, whole, c.requires.0, c.requires.1)

pub index-requires : goal.index-requires
index-requires c =
    let inside = c.self.inside in
    let count : length c.args.self.now.frames ≡ length inside.ends.items = sym (ap (λ s. length s.frames) c.self.view_is) ∙ length-frames inside.octets.items 0 inside.ends.items in
    omega (arith, count, c.requires.0, c.requires.1)

pub part-requires : goal.part-requires
part-requires c =
    let inside = c.self.inside in
    let k = c.args.index - 1 in
    let count : length c.args.self.now.frames ≡ length inside.ends.items = sym (ap (λ s. length s.frames) c.self.view_is) ∙ length-frames inside.octets.items 0 inside.ends.items in
    let below : k < length inside.ends.items = omega (arith, count, c.requires.0, c.requires.1) in
    let end : c.index.result.now ≡ get_or inside.ends.items k 0 = end-read inside.ends.items k c.index.result.now below c.index.ensures in
    let start : c.start_of-start.result ≡ start_at 0 inside.ends.items k = c.start_of-start.ensures ∙ ap (λ es. start_at 0 es k) c.as_slice.ensures.value in
    let within = cut-at 0 inside.ends.items (length inside.octets.items) k c.self.invariant.cut below in
    let whole : length c.as_slice-2.result.now ≡ length inside.octets.items = ap length c.as_slice-2.ensures.value in
    (omega (arith, start, end, within.0), omega (arith, end, within.1, whole))

pub returns-clause-is : goal.returns-clause-is
returns-clause-is c =
    let inside = c.self.inside in
    let k = c.args.index - 1 in
    let frames = frames_in inside.octets.items 0 inside.ends.items in
    let count : length c.args.self.now.frames ≡ length inside.ends.items = sym (ap (λ s. length s.frames) c.self.view_is) ∙ length-frames inside.octets.items 0 inside.ends.items in
    let below : k < length inside.ends.items = omega (arith, count, c.requires.0, c.requires.1) in
    let end : c.index.result.now ≡ get_or inside.ends.items k 0 = end-read inside.ends.items k c.index.result.now below c.index.ensures in
    let start : c.start_of-start.result ≡ start_at 0 inside.ends.items k = c.start_of-start.ensures ∙ ap (λ es. start_at 0 es k) c.as_slice.ensures.value in
    let read : c.part.result.now ≡ between inside.octets.items (start_at 0 inside.ends.items k) (get_or inside.ends.items k 0) =
    c.part.ensures ∙ ap (λ os. between os c.start_of-start.result c.index.result.now) c.as_slice-2.ensures.value
    ∙ ap (λ s. between inside.octets.items s c.index.result.now) start ∙ ap (λ e. between inside.octets.items (start_at 0 inside.ends.items k) e) end in
    ap Some read ∙ sym (frame-at inside.octets.items 0 inside.ends.items k below) ∙ item_numbered-place frames c.args.index c.requires.0 ∙ ap (λ s. item_numbered s.frames c.args.index) c.self.view_is

pub returns-clause-short : goal.returns-clause-short
returns-clause-short c =
    let all : are_short c.args.self.now.frames ≡ true = sym (ap (λ s. are_short s.frames) c.self.view_is) ∙ c.self.invariant.short in
    short-numbered c.args.self.now.frames c.args.index c.part.result.now all (returns-clause-is c)
