use Rattle.std.proofs.Common.{◌≡◌, ◌+◌, [], ◌∷◌, ◌++◌, length, arith, rules}
use Rattle.std.proofs.lemmas.Grind.{common_steps}
use Rattle.fio_guess.specs.Lines.{parts_of, GoUp, HasRoomFor}
use Rattle.std.specs.Prelude.{sum_by}
use Rattle.fio_guess.proofs.Lines.{length-parts_of, sum_by-parts_of, GoUp-push, parts_of-push}
use Rattle.fio_guess.proofs.window.Window.push.Goals as goal

pub invariant_of-self : goal.invariant_of-self
invariant_of-self c =
    let same : length (parts_of c.self.inside.text.items 0 c.self.inside.ends.items) ≡ length c.self.inside.ends.items = length-parts_of _ 0 _ in
    let all : 0 + sum_by length (parts_of c.self.inside.text.items 0 c.self.inside.ends.items) ≡ length c.self.inside.text.items = sum_by-parts_of _ 0 _ c.self.invariant in
    let room : HasRoomFor (parts_of c.self.inside.text.items 0 c.self.inside.ends.items) (length c.args.line.now) = rw c.self.view_is (search rules) in
    let more : c.try_extend_from_slice-fits.new.self.items ≡ c.self.inside.text.items ++ c.args.line.now = grind (arith, common_steps) in
    let next : c.try_push-fits.new.self.items ≡ c.self.inside.ends.items ++ c.len.result ∷ [] = grind (arith, common_steps) in
    let last : c.len.result ≡ length c.self.inside.text.items + length c.args.line.now = grind (arith, common_steps) in
    let up : GoUp 0 (c.self.inside.ends.items ++ c.len.result ∷ []) c.len.result = GoUp-push 0 _ (length c.self.inside.text.items) c.len.result c.self.invariant (omega arith) in
    let count : length c.try_extend_from_slice-fits.new.self.items ≡ c.len.result = grind (arith, common_steps) in
    rw (next, count) up

pub returns-clause-pushed : goal.returns-clause-pushed
returns-clause-pushed c =
    let same : length (parts_of c.self.inside.text.items 0 c.self.inside.ends.items) ≡ length c.self.inside.ends.items = length-parts_of _ 0 _ in
    let all : 0 + sum_by length (parts_of c.self.inside.text.items 0 c.self.inside.ends.items) ≡ length c.self.inside.text.items = sum_by-parts_of _ 0 _ c.self.invariant in
    let room : HasRoomFor (parts_of c.self.inside.text.items 0 c.self.inside.ends.items) (length c.args.line.now) = rw c.self.view_is (search rules) in
    let more : c.try_extend_from_slice-fits.new.self.items ≡ c.self.inside.text.items ++ c.args.line.now = grind (arith, common_steps) in
    let next : c.try_push-fits.new.self.items ≡ c.self.inside.ends.items ++ c.len.result ∷ [] = grind (arith, common_steps) in
    let last : c.len.result ≡ length c.self.inside.text.items + length c.args.line.now = grind (arith, common_steps) in
    λ pushed.
    let whole : parts_of (c.self.inside.text.items ++ c.args.line.now) 0 (c.self.inside.ends.items ++ c.len.result ∷ []) ≡ parts_of c.self.inside.text.items 0 c.self.inside.ends.items ++ c.args.line.now ∷ [] = parts_of-push _ _ 0 _ _ c.self.invariant last in
    rw (more, next, ← c.self.view_is) whole
