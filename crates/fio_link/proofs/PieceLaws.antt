-- What the blocks of a life are in the record is its log through their end.
use Rattle.fio_link.proofs.Names.{◌≡◌, ℕ, zero, suc, ◌+◌, ◌-◌, ◌<◌, ◌≤◌, Bool, true, false, List, [], ◌∷◌, ◌++◌, length, take, drop, map, Some, slice_get, refl, ap, sym, subst, ◌∙◌, arith, length-take, length-drop, if◌then◌else◌, Contains, nat_lt, flat_map, slice_get-map, slice_get_within, get_or_from_slice_get, nat_tests, option_map, Entry, Settings, Life, Transition, entry_of, log_of, MadeBlock, blocks_of, last_end, IsPartOf, FollowOneAnother, blocks_follow, Piece, Gap, EntryPiece, pieces_of, ArePieces}
use Rattle.fio_link.specs.Pieces.{TakenArePieces, until_gap, PiecesBeginLog}
use Rattle.fio_link.proofs.Places.{get_part}

-- pieces from one place to another, and pieces from there on
pub pieces-append : (settings : Settings) (life : Life) (from next to : ℕ) (ps qs : List Piece)
    → ArePieces settings life from ps next → ArePieces settings life next qs to
    → ArePieces settings life from (ps ++ qs) to
pieces-append settings life from next to [] qs p q = subst (λ n. ArePieces settings life n qs to) p q
pieces-append settings life from next to (EntryPiece entry ∷ ps) qs p q =
    (p.0, pieces-append settings life (from + 1) next to ps qs p.1 q)
pieces-append settings life from next to (Gap ∷ ps) qs p q =
    (p.0, p.1, pieces-append settings life p.0 next to ps qs p.2 q)

-- transitions as pieces
abbrev got : List Transition → List Piece
got transitions = map (λ transition. EntryPiece (entry_of transition)) transitions

-- successive transitions of the log are pieces of it
run_of_log : (settings : Settings) (life : Life) (from : ℕ) (ts : List Transition)
    → ((i : ℕ) (t : Transition) → slice_get ts i ≡ Some t → slice_get (log_of life) (from + i) ≡ Some t)
    → ArePieces settings life from (got ts) (from + length ts)
run_of_log settings life from [] at = omega arith
run_of_log settings life from (t ∷ ts) at =
    let here : from + 0 ≡ from = omega arith in
    let end : (from + 1) + length ts ≡ from + suc (length ts) = omega arith in
    let found : slice_get (log_of life) from ≡ Some t = ap (slice_get (log_of life)) (sym here) ∙ at 0 t refl in
    let rest = run_of_log settings life (from + 1) ts (λ i u is.
    let shift : (from + 1) + i ≡ from + suc i = omega arith in
    ap (slice_get (log_of life)) shift ∙ at (suc i) u is) in (
      slice_get-map entry_of (log_of life) from ∙ ap (option_map entry_of) found,
      subst (ArePieces settings life (from + 1) (got ts)) end rest,
    )

-- the transitions of a block are in the log from its start up to its end
pub part_stands : (log : List Transition) (per_block : ℕ) (block : MadeBlock) → IsPartOf log per_block block
    → (i : ℕ) (t : Transition) → slice_get block.transitions i ≡ Some t
    → slice_get log (block.start + i) ≡ Some t
part_stands log per_block block part i t is = grind (arith, nat_tests, get_part)

-- and their number is that of the places
pub part_count : (log : List Transition) (per_block : ℕ) (block : MadeBlock) → IsPartOf log per_block block
    → block.start + length block.transitions ≡ block.end
part_count log per_block block part = grind (arith, nat_tests, length-take, length-drop)

-- the entries of a block are pieces of the log from its start up to its end
block_run : (settings : Settings) (life : Life) (block : MadeBlock)
    → IsPartOf (log_of life) settings.per_block block
    → ArePieces settings life block.start (got block.transitions) block.end
block_run settings life block part =
    subst (ArePieces settings life block.start (got block.transitions)) (part_count (log_of life) settings.per_block block part)
    (run_of_log settings life block.start block.transitions (part_stands (log_of life) settings.per_block block part))

-- a block's pieces lead from the end of the block before it to its own
block_pieces : (settings : Settings) (life : Life) (block : MadeBlock)
    → IsPartOf (log_of life) settings.per_block block → Contains (blocks_of settings life) block
    → (lost : Bool) → block.lost ≡ lost
    → ArePieces settings life block.before ((if lost then Gap ∷ [] else []) ++ got block.transitions) block.end
block_pieces settings life block part is_made true is =
    let forward : block.before < block.start =
    let lost : nat_lt block.before block.start ≡ true = sym part.lost ∙ is in
    grind (arith, nat_tests) in (
      block.start,
      record { block = block; is_made = is_made; said = is; begins = refl; ends = refl; forward = forward },
      block_run settings life block part,
    )
block_pieces settings life block part is_made false is =
    let forward : block.before ≤ block.start = part.forward in
    let kept : nat_lt block.before block.start ≡ false = sym part.lost ∙ is in
    let same : block.start ≡ block.before = grind (arith, nat_tests) in
    subst (λ n. ArePieces settings life n (got block.transitions) block.end) same (block_run settings life block part)

-- blocks that follow one another are pieces of the log
pub blocks_pieces : (settings : Settings) (life : Life) (before : ℕ) (blocks : List MadeBlock)
    → FollowOneAnother (log_of life) settings.per_block before blocks
    → ((k : ℕ) (block : MadeBlock) → slice_get blocks k ≡ Some block → Contains (blocks_of settings life) block)
    → ArePieces settings life before (flat_map pieces_of blocks) (last_end before blocks)
blocks_pieces settings life before [] follow made = refl
blocks_pieces settings life before (block ∷ blocks) follow made =
    let first = block_pieces settings life block follow.1 (made 0 block refl) block.lost refl in
    let rest = blocks_pieces settings life block.end blocks follow.2 (λ k b is. made (suc k) b is) in
    pieces-append settings life before block.end (last_end block.end blocks) (pieces_of block) (flat_map pieces_of blocks)
    (subst (λ n. ArePieces settings life n (pieces_of block) block.end) follow.0 first) rest

-- the first of blocks that follow one another do so
pub follow-take : (log : List Transition) (per_block before m : ℕ) (blocks : List MadeBlock)
    → FollowOneAnother log per_block before blocks → FollowOneAnother log per_block before (take m blocks)
follow-take log per_block before zero blocks follow = tt
follow-take log per_block before (suc m) [] follow = tt
follow-take log per_block before (suc m) (block ∷ blocks) follow =
    (follow.0, follow.1, follow-take log per_block block.end m blocks follow.2)

-- what is among the first elements is among all
pub get_in_take : {A : Type 0} (m : ℕ) (xs : List A) (k : ℕ) (x : A) → slice_get (take m xs) k ≡ Some x
    → slice_get xs k ≡ Some x
get_in_take zero xs k x is = absurd (cc is)
get_in_take (suc m) [] k x is = is
get_in_take (suc m) (y ∷ ys) zero x is = is
get_in_take (suc m) (y ∷ ys) (suc k) x is = get_in_take m ys k x is

-- what is in a list is one of its elements
pub contains_found : {A : Type 0} (xs : List A) (k : ℕ) (x : A) → slice_get xs k ≡ Some x → Contains xs x
contains_found xs k x is = (k, slice_get_within xs k x is, get_or_from_slice_get xs k x x is)

-- the law of pieces
pub taken_are_pieces : TakenArePieces
taken_are_pieces settings life m within =
    let blocks = blocks_of settings life in
    blocks_pieces settings life 0 (take m blocks) (follow-take (log_of life) settings.per_block 0 m blocks (blocks_follow settings life))
    (λ k block is. contains_found blocks k block (get_in_take m blocks k block is))

-- the element at an index begins what remains of the list from there
pub drop_found : {A : Type 0} (xs : List A) (k : ℕ) (x : A) → slice_get xs k ≡ Some x
    → drop k xs ≡ x ∷ drop (k + 1) xs
drop_found [] k x is = absurd (cc is)
drop_found (y ∷ ys) zero x is = let same : y ≡ x = cc in ap (λ z. z ∷ ys) same
drop_found (y ∷ ys) (suc k) x is =
    let next : suc (k + 1) ≡ suc k + 1 = omega arith in
    drop_found ys k x is ∙ ap (λ n. x ∷ drop n (y ∷ ys)) next

-- pieces begin what remains of the log from their first place
begin_rest : (settings : Settings) (life : Life) (from : ℕ) (pieces : List Piece) (to : ℕ)
    → ArePieces settings life from pieces to
    → (rest : List Entry) × (drop from (map entry_of (log_of life)) ≡ until_gap pieces ++ rest)
begin_rest settings life from (EntryPiece entry ∷ pieces) to p =
    let more = begin_rest settings life (from + 1) pieces to p.1 in
    (more.0, drop_found (map entry_of (log_of life)) from entry p.0 ∙ ap (λ es. entry ∷ es) more.1)
begin_rest settings life from _ to p = (drop from (map entry_of (log_of life)), refl)

-- until the first gap mark, pieces of the log from its start are a prefix of it
pub pieces_begin_log : PiecesBeginLog
pieces_begin_log settings life pieces to p = begin_rest settings life 0 pieces to p
