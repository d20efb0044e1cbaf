-- Each gap mark has its own block, and its own time.
use Rattle.std.proofs.lemmas.Bool.Decides.{nat_tests}
use Rattle.fio_link.proofs.Names.{◌≡◌, ℕ, zero, suc, ◌+◌, ◌-◌, ◌⊎◌, Bool, true, false, List, [], ◌∷◌, ◌++◌, length, take, map, Some, slice_get, refl, ap, sym, ◌∙◌, subst, arith, inl, inr, if◌then◌else◌, option_map, flat_map, slice_get-map, slice_get_within, take-append-le, take_all, Poll, Settings, Life, Commanded, life_of, Transition, entry_of, log_of, MadeBlock, newest_poll, is_new, blocks_of, next_block, newest_end, blocks_new, blocks_old, Machine, Piece, Gap, EntryPiece, piece_of, pieces_of, pieces_of_blocks, blocks_in}
use Rattle.fio_module.specs.Life.{Occurrence}
use Rattle.fio_link.specs.Delivery.{GapsNameTimes}
use Rattle.fio_link.proofs.Places.{get_after_push}
use Rattle.fio_module.proofs.Losses.{some_pushed}

abbrev got : List Transition → List Piece
got transitions = map (λ transition. EntryPiece (entry_of transition)) transitions

-- a gap mark comes after these entries
record StandsBehind (front back : List Piece) (place : ℕ) : Type 0 where
  pub behind : ℕ
  pub there : slice_get back behind ≡ Some Gap
  pub before : take place (front ++ back) ≡ front ++ take behind back

behind_entries : (transitions : List Transition) (back : List Piece) (place : ℕ)
    → slice_get (got transitions ++ back) place ≡ Some Gap → StandsBehind (got transitions) back place
behind_entries [] back place is = record { behind = place; there = is; before = refl }
behind_entries (t ∷ transitions) back zero is = absurd (cc is)
behind_entries (t ∷ transitions) back (suc place) is =
    let rest = behind_entries transitions back place is in
    record { behind = rest.behind; there = rest.there; before = ap (λ ps. EntryPiece (entry_of t) ∷ ps) rest.before }

-- it is that of a block, or comes after what the block adds to the record
behind_block : (lost : Bool) (transitions : List Transition) (back : List Piece) (place : ℕ)
    → slice_get (((if lost then Gap ∷ [] else []) ++ got transitions) ++ back) place ≡ Some Gap
    → ((place ≡ 0) × (lost ≡ true)) ⊎ StandsBehind ((if lost then Gap ∷ [] else []) ++ got transitions) back place
behind_block false transitions back place is = inr (behind_entries transitions back place is)
behind_block true transitions back zero is = inl (refl, refl)
behind_block true transitions back (suc place) is =
    let rest = behind_entries transitions back place is in
    inr (record { behind = rest.behind; there = rest.there; before = ap (λ ps. Gap ∷ ps) rest.before })

-- the block with a place in a list says that entries were lost, and those before it are the record before
-- its mark
record IsMarkOf (blocks : List MadeBlock) (count place : ℕ) : Type 0 where
  pub number : ℕ
  pub block : MadeBlock
  pub there : slice_get blocks number ≡ Some block
  pub said : block.lost ≡ true
  pub before : take place (pieces_of_blocks count blocks) ≡ pieces_of_blocks number blocks

mark_of : (count : ℕ) (blocks : List MadeBlock) (place : ℕ) → slice_get (pieces_of_blocks count blocks) place ≡ Some Gap
    → IsMarkOf blocks count place
mark_of zero blocks place is = absurd (cc is)
mark_of (suc count) [] place is = absurd (cc is)
mark_of (suc count) (block ∷ blocks) place is =
    elim (behind_block block.lost block.transitions (pieces_of_blocks count blocks) place is) as (λ _. IsMarkOf (block ∷ blocks) (suc count) place) [
      | inl own ↦
          record {
            number = 0;
            block = block;
            there = refl;
            said = own.1;
            before = ap (λ n. take n (pieces_of_blocks (suc count) (block ∷ blocks))) own.0;
          }
      | inr later ↦
          let rest = mark_of count blocks later.behind later.there in
          record {
            number = suc rest.number;
            block = rest.block;
            there = rest.there;
            said = rest.said;
            before = later.before ∙ ap (λ ps. pieces_of block ++ ps) rest.before;
          }
    ]

-- the poll that made the block with a place among those of a life
record WasMadeBy (settings : Settings) (life : Life) (place : ℕ) (block : MadeBlock) : Type 0 where
  pub later : Life
  pub number : ℕ
  pub earlier : Life
  pub at : life ≡ later ++ Commanded (Poll number) ∷ earlier
  pub new : is_new (newest_poll earlier) number ≡ true
  pub before : take place (blocks_of settings life) ≡ blocks_of settings earlier
  pub made : block ≡ next_block settings earlier

made_earlier : (settings : Settings) (occurrence : Occurrence) (life : Life) (place : ℕ) (block : MadeBlock)
    → take place (blocks_of settings (occurrence ∷ life)) ≡ take place (blocks_of settings life)
    → WasMadeBy settings life place block → WasMadeBy settings (occurrence ∷ life) place block
made_earlier settings occurrence life place block same w =
    record {
      later = occurrence ∷ w.later;
      number = w.number;
      earlier = w.earlier;
      at = ap (λ l. occurrence ∷ l) w.at;
      new = w.new;
      before = same ∙ w.before;
      made = w.made;
    }

made_by_poll : (settings : Settings) (life : Life) (number place : ℕ) (block : MadeBlock) (new : Bool)
    → is_new (newest_poll life) number ≡ new
    → ((place : ℕ) (block : MadeBlock) → slice_get (blocks_of settings life) place ≡ Some block → WasMadeBy settings life place block)
    → slice_get (blocks_of settings (Commanded (Poll number) ∷ life)) place ≡ Some block
    → WasMadeBy settings (Commanded (Poll number) ∷ life) place block
made_by_poll settings life number place block false old earlier is = grind (arith, nat_tests, blocks_old, made_earlier)
made_by_poll settings life number place block true new earlier is =
    let blocks = blocks_of settings life in
    let next = next_block settings life in
    let more = blocks_new settings life number new in
    elim (get_after_push blocks next place block (subst (λ bs. slice_get bs place ≡ Some block) more is))
    as (λ _. WasMadeBy settings (Commanded (Poll number) ∷ life) place block) [
      | inl old ↦
          let within = slice_get_within blocks place block old in
          made_earlier settings (Commanded (Poll number)) life place block
          (ap (take place) more ∙ take-append-le place blocks (next ∷ []) (omega arith)) (earlier place block old)
      | inr last ↦
          record {
            later = [];
            number = number;
            earlier = life;
            at = refl;
            new = new;
            before =
                ap (take place) more ∙ ap (λ n. take n (blocks ++ next ∷ [])) last.0
                ∙ take-append-le (length blocks) blocks (next ∷ []) (omega arith) ∙ take_all (length blocks) blocks (omega arith);
            made = last.1;
          }
    ]

was_made_by : (settings : Settings) (life : Life) (place : ℕ) (block : MadeBlock)
    → slice_get (blocks_of settings life) place ≡ Some block → WasMadeBy settings life place block
was_made_by settings [] place block is = absurd (cc is)
was_made_by settings (Commanded (Poll number) ∷ life) place block is =
    made_by_poll settings life number place block (is_new (newest_poll life) number) refl (was_made_by settings life) is
was_made_by settings (other ∷ life) place block is =
    made_earlier settings other life place block refl (was_made_by settings life place block is)

-- each gap mark names its time
pub gaps_name_times : (settings : Settings) (machine : Machine)
    → map piece_of machine.items ≡ pieces_of_blocks machine.round (blocks_in settings machine) → GapsNameTimes settings machine
gaps_name_times settings machine items place is =
    let blocks = blocks_in settings machine in
    let mark = slice_get-map piece_of machine.items place ∙ ap (option_map piece_of) is in
    let m = mark_of machine.round blocks place (subst (λ ps. slice_get ps place ≡ Some Gap) items mark) in
    let w = was_made_by settings (life_of machine.history) m.number m.block m.there in
    let earlier = w.earlier in
    let said : (next_block settings earlier).lost ≡ true = ap (λ (b : MadeBlock). b.lost) (sym w.made) ∙ m.said in
    let pushed = some_pushed (newest_end settings earlier) (length (log_of earlier)) settings.waiting said in
    record {
      later = w.later;
      number = w.number;
      earlier = earlier;
      at = w.at;
      new = w.new;
      before = ap (take place) items ∙ m.before ∙ ap (flat_map pieces_of) w.before;
      said = said;
      more = omega arith;
    }
