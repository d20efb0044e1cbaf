-- The record rises through a log that grows.
use Rattle.std.proofs.lemmas.Bool.Decides.{nat_tests}
use Rattle.fio_link.proofs.Names.{◌≡◌, ℕ, zero, suc, ◌+◌, ◌<◌, ◌≤◌, Bool, true, false, List, [], ◌∷◌, ◌++◌, length, map, Some, slice_get, refl, ap, sym, subst, ◌∙◌, arith, if◌then◌else◌, slice_get_within, slice_get-map, map-append, length-map, Entry, Block, Transition, entry_of, MadeBlock, Item, item_of, items_of_block, Piece, Gap, EntryPiece, piece_of, CarriesBlock}
use Rattle.std.specs.Prelude.{slice_index}
use Rattle.std.specs.List.Sorted.{IsStrictlyIncreasing}
use Rattle.fio_cpu.specs.declared.record.Item.TheVariants as items
use Rattle.fio_link.specs.Rising.{entries_got, Rises}
use Rattle.fio_link.proofs.Places.{get_before_push, get_after_push}
use Rattle.fio_link.proofs.AllLives.{StandsIn}

-- the pieces rise through these entries from one place up to another
abbrev pub RiseFrom : List Entry → ℕ → List Piece → ℕ → Type 0
RiseFrom entries from [] to = from ≤ to
RiseFrom entries from (Gap ∷ pieces) to = RiseFrom entries from pieces to
RiseFrom entries from (EntryPiece entry ∷ pieces) to =
    (place : ℕ) × (from ≤ place) × (slice_get entries place ≡ Some entry) × RiseFrom entries (place + 1) pieces to

-- what rises from a later place rises from an earlier one
rise-earlier : (entries : List Entry) (a b : ℕ) (ps : List Piece) (to : ℕ) → a ≤ b
    → RiseFrom entries b ps to → RiseFrom entries a ps to
rise-earlier entries a b [] to le h = omega arith
rise-earlier entries a b (Gap ∷ ps) to le h = rise-earlier entries a b ps to le h
rise-earlier entries a b (EntryPiece e ∷ ps) to le h = let low : b ≤ h.0 = h.1 in (h.0, omega arith, h.2, h.3)

-- pieces that rise up to a place, and pieces that rise from there on
rise-append : (entries : List Entry) (a b c : ℕ) (ps qs : List Piece) → RiseFrom entries a ps b
    → RiseFrom entries b qs c
    → RiseFrom entries a (ps ++ qs) c
rise-append entries a b c [] qs p q = rise-earlier entries a b qs c p q
rise-append entries a b c (Gap ∷ ps) qs p q = rise-append entries a b c ps qs p q
rise-append entries a b c (EntryPiece e ∷ ps) qs p q = (p.0, p.1, p.2, rise-append entries (p.0 + 1) b c ps qs p.3 q)

-- what rises through entries rises through more
rise-more : (entries more : List Entry) (a b : ℕ) (ps : List Piece) → RiseFrom entries a ps b
    → RiseFrom (entries ++ more) a ps b
rise-more entries more a b [] p = p
rise-more entries more a b (Gap ∷ ps) p = rise-more entries more a b ps p
rise-more entries more a b (EntryPiece e ∷ ps) p =
    (p.0, p.1, get_before_push entries more p.0 e p.2, rise-more entries more (p.0 + 1) b ps p.3)

-- entries as pieces
abbrev got : List Entry → List Piece
got entries = map (λ entry. EntryPiece entry) entries

-- successive entries rise
rise_run : (entries : List Entry) (from at : ℕ) (es : List Entry) → from ≤ at
    → ((i : ℕ) (e : Entry) → slice_get es i ≡ Some e → slice_get entries (at + i) ≡ Some e)
    → RiseFrom entries from (got es) (at + length es)
rise_run entries from at [] le each = omega arith
rise_run entries from at (e ∷ es) le each =
    let here : at + 0 ≡ at = omega arith in
    let end : (at + 1) + length es ≡ at + suc (length es) = omega arith in
    let rest = rise_run entries (at + 1) (at + 1) es (omega arith) (λ i x is.
    let shift : (at + 1) + i ≡ at + suc i = omega arith in
    ap (slice_get entries) shift ∙ each (suc i) x is) in (
      at,
      le,
      ap (slice_get entries) (sym here) ∙ each 0 e refl,
      subst (RiseFrom entries (at + 1) (got es)) end rest,
    )

-- entries in the record, without times
got_items : (stamp : ℕ) (es : List Entry) → map piece_of (map (item_of stamp) es) ≡ got es
got_items stamp [] = refl
got_items stamp (e ∷ es) = ap (λ ps. EntryPiece e ∷ ps) (got_items stamp es)

-- with or without a gap mark before them
rise_marked : (lost : Bool) (entries : List Entry) (from to stamp : ℕ) (es : List Entry)
    → RiseFrom entries from (got es) to
    → RiseFrom entries from (map piece_of ((if lost then items.Gap ∷ [] else []) ++ map (item_of stamp) es)) to
rise_marked true entries from to stamp es p = subst (λ ps. RiseFrom entries from ps to) (sym (got_items stamp es)) p
rise_marked false entries from to stamp es p = subst (λ ps. RiseFrom entries from ps to) (sym (got_items stamp es)) p

-- a block that comes after the record in the log rises after it
pub rise_taken : (log : List Transition) (to : ℕ) (record_items : List Item) (answer : Block) (block : MadeBlock)
    → RiseFrom (map entry_of log) 0 (map piece_of record_items) to → to ≤ block.start → StandsIn log block
    → CarriesBlock answer block
    → RiseFrom (map entry_of log) 0 (map piece_of (record_items ++ items_of_block answer)) block.end
rise_taken log to record_items answer block rises low stands carries = grind (arith, nat_tests, length-map, rise_run, rise_marked, map-append, piece_of, rise-append, slice_get-map)

-- the record rises to a place that no block of the CPU's round or a later one starts before
pub record RecordRises (log : List Transition) (blocks : List MadeBlock) (makers : List ℕ)
    (limit round : ℕ) (taken : List Item) : Type 0 where
  pub to : ℕ
  pub rises : RiseFrom (map entry_of log) 0 (map piece_of taken) to
  pub limited : to ≤ limit
  pub ahead : (k : ℕ) (block : MadeBlock) (r : ℕ) → slice_get blocks k ≡ Some block
      → slice_get makers k ≡ Some r → round ≤ r
      → to ≤ block.start

-- the log grows
pub rises-longer : (log more : List Transition) (blocks : List MadeBlock) (makers : List ℕ) (limit round : ℕ) (taken : List Item)
    → RecordRises log blocks makers limit round taken
    → RecordRises (log ++ more) blocks makers limit round taken
rises-longer log more blocks makers limit round taken s = grind (arith, nat_tests, piece_of, map-append, rise-more)

-- the next block may take from a later place on
pub rises-further : (log : List Transition) (blocks : List MadeBlock) (makers : List ℕ) (limit later round : ℕ) (taken : List Item)
    → limit ≤ later → RecordRises log blocks makers limit round taken
    → RecordRises log blocks makers later round taken
rises-further log blocks makers limit later round taken le s = grind (arith, nat_tests)

-- one more block is made
pub rises-new : (log : List Transition) (blocks : List MadeBlock) (makers : List ℕ) (limit later round r : ℕ) (taken : List Item) (block : MadeBlock)
    → limit ≤ block.start → limit ≤ later → length makers ≡ length blocks
    → RecordRises log blocks makers limit round taken
    → RecordRises log (blocks ++ block ∷ []) (makers ++ r ∷ []) later round taken
rises-new log blocks makers limit later round r taken block low high count s = grind (arith, nat_tests, get_after_push, slice_get_within)

-- places that rise, from one on
abbrev Increase : ℕ → List ℕ → Type 0
Increase from [] = Unit {0}
Increase from (place ∷ places) = (from ≤ place) × Increase (place + 1) places

-- such places rise strictly
increasing : (from : ℕ) (places : List ℕ) → Increase from places → IsStrictlyIncreasing places
increasing from [] p k less = absurd (omega arith)
increasing from (place ∷ []) p k less = absurd (omega arith)
increasing from (place ∷ next ∷ places) p zero less = let low : place + 1 ≤ next = p.1.0 in omega arith
increasing from (place ∷ next ∷ places) p (suc k) less =
    let shift : suc (k + 1) ≡ suc k + 1 = omega arith in
    subst (λ n. slice_index (next ∷ places) k < slice_index (place ∷ next ∷ places) n) shift
    (increasing (place + 1) (next ∷ places) p.1 k (omega arith))

-- a record that rises so rises as its promise says
pub rises_as_promised : (log : List Transition) (pieces : List Piece) (to : ℕ)
    → RiseFrom (map entry_of log) 0 pieces to → Rises log pieces
rises_as_promised log pieces to h =
    let found = places_from (map entry_of log) 0 pieces to h in
    record { places = found.0; rise = increasing 0 found.0 found.1; stand = found.2 }
  where
    places_from : (entries : List Entry) (from : ℕ) (pieces : List Piece) (to : ℕ)
        → RiseFrom entries from pieces to
        → (places : List ℕ) × Increase from places × (map (slice_get entries) places ≡ map Some (entries_got pieces))
    places_from entries from [] to h = ([], tt, refl)
    places_from entries from (Gap ∷ pieces) to h = places_from entries from pieces to h
    places_from entries from (EntryPiece e ∷ pieces) to h =
        let rest = places_from entries (h.0 + 1) pieces to h.3 in
        (h.0 ∷ rest.0, (h.1, rest.1), ap (λ x. x ∷ map (slice_get entries) rest.0) h.2 ∙ ap (λ xs. Some e ∷ xs) rest.2)
