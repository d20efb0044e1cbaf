use Rattle.std.proofs.Common.{◌≡◌, ◌∷◌, ◌++◌, length, sym, ap₂, ◌∙◌, subst}
use Rattle.std.specs.List.{flat_map}
use Rattle.std.specs.Int.{w32, to_be_bytes}
use Rattle.std.proofs.lemmas.List.{length-map}
use Rattle.fio_message.specs.Octets.{entry_octets}
use Rattle.fio_c.specs.Flat.{read_entry, read_entries}
use Rattle.fio_flat.specs.Written.{Writes}
use Rattle.fio_c.proofs.Overwriting.{spelled-read}
use Rattle.fio_c.proofs.answer_frames.write_block.Goals as goal

pub returns-clause-written : goal.returns-clause-written
returns-clause-written c are =
    let entries = c.args.entries.now in
    let spelled = flat_map (λ entry. entry_octets (read_entry entry)) entries in
    let tail = c.args.answer.now.status ∷ to_be_bytes w32 c.args.answer.now.stamp in
    let same : c.before_entries-before.result ++ (spelled ++ c.status_and_stamp-after.result)
    ≡ 182 ∷ c.args.answer.now.block ∷ length (read_entries entries) ∷ (flat_map entry_octets (read_entries entries) ++ tail) =
    ap₂ (λ before after. before ++ (spelled ++ after)) c.before_entries-before.ensures c.status_and_stamp-after.ensures
    ∙ ap₂ (λ n body. 182 ∷ c.args.answer.now.block ∷ n ∷ (body ++ tail)) (sym (length-map entries read_entry)) (spelled-read entry_octets read_entry entries) in
    subst (λ octets. Writes octets c.args.out.now c.write_with_parts.new.out c.write_with_parts.result) same c.write_with_parts.ensures
