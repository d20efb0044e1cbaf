use Rattle.std.proofs.Common.{◌≡◌, ◌∷◌, ◌++◌, length, [], sym, ap, ap₂, ◌∙◌, subst, append-nil}
use Rattle.std.specs.List.{flat_map}
use Rattle.std.proofs.lemmas.List.{length-map}
use Rattle.fio_message.specs.Octets.{item_octets}
use Rattle.fio_c.specs.Flat.{read_item, read_items}
use Rattle.fio_flat.specs.Written.{Writes}
use Rattle.fio_c.proofs.Overwriting.{spelled-read}
use Rattle.fio_c.proofs.command_frames.write_items.Goals as goal

pub returns-clause-written : goal.returns-clause-written
returns-clause-written c are =
    let items = c.args.items.now in
    let spelled = flat_map (λ item. item_octets (read_item item)) items in
    let same : c.before_items.result ++ (spelled ++ []) ≡ 51 ∷ length (read_items items) ∷ flat_map item_octets (read_items items) =
    ap (λ before. before ++ (spelled ++ [])) c.before_items.ensures
    ∙ ap₂ (λ n body. 51 ∷ n ∷ body) (sym (length-map items read_item)) (append-nil spelled ∙ spelled-read item_octets read_item items) in
    subst (λ octets. Writes octets c.args.out.now c.write_with_parts.new.out c.write_with_parts.result) same c.write_with_parts.ensures
