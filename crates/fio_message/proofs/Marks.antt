-- The octets of a block, kept and marked as sent again.
use Rattle.fio_message.proofs.Names.{◌≡◌, ℕ, suc, ◌+◌, ◌*◌, List, [], ◌∷◌, ◌++◌, length, take, min, length-append, refl, ap, ap₂, sym, ◌∙◌, arith, flat_map, w32, to_be_bytes, length-map, length-set, take_min, entry_octets, answer_octets, Block, block_answer, SpellsBlock, KeepsBlockAnswers}
use Rattle.std.specs.Prelude.{slice_index_or, slice_set}
use Rattle.std.proofs.lemmas.List.Folds.{flat_map-map}
use Rattle.std.proofs.Math.Seq.{take-append_seam}
use Rattle.fio_message.specs.Status.{again_status}
use Rattle.fio_message.specs.KeptBlock.{block_sent_again, marked_octets}
use Rattle.fio_message.proofs.PartLists.{length-parts}
use Rattle.fio_message.proofs.PartKinds.{entry_is_part}
use Rattle.fio_message.proofs.StatusBits.{again_status-fits}

-- a block whose entries are given as octets is the block answer of these entries
pub keeps_block_answers : KeepsBlockAnswers
keeps_block_answers number entries status stamp =
    let ending = status ∷ to_be_bytes w32 stamp in
    ap₂ (λ (count : ℕ) (body : List ℕ). 182 ∷ number ∷ count ∷ (body ++ ending)) (length-map entries entry_octets) (flat_map-map (λ entry. entry) entry_octets entries)

-- setting the item that follows a list
set-behind : (xs ys : List ℕ) (x y : ℕ) → slice_set (xs ++ x ∷ ys) (length xs) y ≡ xs ++ y ∷ ys
set-behind [] ys x y = refl
set-behind (z ∷ xs) ys x y = ap (λ zs. z ∷ zs) (set-behind xs ys x y)

index-behind : (xs ys : List ℕ) (x : ℕ) → slice_index_or (xs ++ x ∷ ys) (length xs) 0 ≡ x
index-behind [] ys x = refl
index-behind (z ∷ xs) ys x = index-behind xs ys x

marked-behind : (a b c : ℕ) (body tail : List ℕ) (status place : ℕ) → place ≡ suc (suc (suc (length body)))
    → slice_set (a ∷ b ∷ c ∷ (body ++ status ∷ tail)) place
    (again_status (slice_index_or (a ∷ b ∷ c ∷ (body ++ status ∷ tail)) place 0))
    ≡ a ∷ b ∷ c ∷ (body ++ again_status status ∷ tail)
marked-behind a b c body tail status place is =
    rw is
    (ap (λ xs. a ∷ b ∷ c ∷ xs)
    (ap (λ x. slice_set (body ++ status ∷ tail) (length body) (again_status x)) (index-behind body tail status)
    ∙ set-behind body tail status (again_status status)))

-- marking the octets of a block gives the octets of the block sent again
marked-answer : (block : Block) → marked_octets (answer_octets (block_answer block)) ≡ answer_octets (block_answer (block_sent_again block))
marked-answer block =
    let body = flat_map entry_octets block.entries in
    let tail = to_be_bytes w32 block.stamp in
    let place : 3 + 3 * length block.entries ≡ suc (suc (suc (length body))) =
    omega (arith, length-parts entry_is_part block.entries) in
    marked-behind 182 block.number (length block.entries) body tail block.status _ place

-- the marked octets of a block spell the block sent again
pub spells-marked : (block : Block) (octets : List ℕ) → SpellsBlock block octets
    → SpellsBlock (block_sent_again block) (marked_octets octets)
spells-marked block octets spells = record {
  within = (
    spells.within.0,
    spells.within.1,
    spells.within.2,
    again_status-fits block.status,
    spells.within.4,
  );
  spelled = ap marked_octets spells.spelled ∙ marked-answer block;
}

-- marking keeps the length
length-marked : (octets : List ℕ) → length (marked_octets octets) ≡ length octets
length-marked octets = length-set octets _ _

-- if of a list in two parts the length of the first is taken, that is the first part
take-kept : (count : ℕ) (kept others : List ℕ) → length kept ≡ min count (length kept + length others)
    → take count (kept ++ others) ≡ kept
take-kept count kept others is =
    sym (take_min count (kept ++ others))
    ∙ ap (λ n. take n (kept ++ others)) (ap (min count) (length-append kept others) ∙ sym is)
    ∙ take-append_seam kept others

-- if the octets that are kept are marked in place, they are the marked octets that would be kept
pub marked-kept : (count size : ℕ) (octets front back marked : List ℕ) → size ≡ min count (length octets)
    → front ≡ take size octets → length front ≡ size → length back + size ≡ length octets
    → marked ≡ marked_octets front → take count (marked ++ back) ≡ marked_octets (take count octets)
marked-kept count size octets front back marked least is front_long back_long marks =
    let long = ap length marks ∙ length-marked front in
    take-kept count marked back (omega (arith, least, long, front_long, back_long))
    ∙ marks ∙ ap marked_octets (is ∙ ap (λ n. take n octets) least ∙ take_min count octets)
