use Rattle.fio_message.proofs.Names.{◌≡◌, ℕ, List, length, take, min, ap, sym, ◌∙◌, subst, arith, SpellsBlock}
use Rattle.fio_message.specs.KeptBlock.{block_sent_again, marked_octets}
use Rattle.fio_message.proofs.Marks.{marked-kept, spells-marked}
use Rattle.fio_message.proofs.kept_block.KeptBlock.mark_again.Goals as goal

pub returns-clause-block : goal.returns-clause-block
returns-clause-block c block kept =
    let octets = c.args.self.now.octets in
    let count = c.args.self.now.length in
    let parts = c.split_at_mut-kept in
    let least : c.min-length.result ≡ min count (length octets) = omega arith in
    subst (λ (after : List ℕ). SpellsBlock (block_sent_again block) after)
    (sym (marked-kept count _ octets _ _ _ least parts.ensures.front parts.ensures.front_len parts.ensures.back_len c.mark_again.ensures))
    (spells-marked block (take count octets) kept)

pub returns-clause-none : goal.returns-clause-none
returns-clause-none c none =
    let octets = c.args.self.now.octets in
    let count = c.args.self.now.length in
    let parts = c.split_at_mut-kept in
    let least : c.min-length.result ≡ min count (length octets) = omega arith in
    marked-kept count _ octets _ _ _ least parts.ensures.front parts.ensures.front_len parts.ensures.back_len c.mark_again.ensures
    ∙ ap marked_octets none
