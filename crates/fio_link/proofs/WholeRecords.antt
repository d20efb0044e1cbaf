-- The record is whole if no block says that entries were lost.
use Rattle.std.proofs.lemmas.Bool.Decides.{nat_tests}
use Rattle.fio_link.proofs.Names.{◌≡◌, ℕ, suc, ◌+◌, ◌-◌, ◌≤◌, false, List, [], ◌∷◌, take, drop, map, ap, sym, subst, ◌∙◌, arith, Contains, AllByRecursion, Settings, AreInRange, Life, life_of, entry_of, log_of, MadeBlock, blocks_of, NeverTooMany, nothing_is_lost, Machine, Piece, Gap, EntryPiece, piece_of, ArePieces, end_taken}
use Rattle.std.proofs.lemmas.Option.{slice_get_read}
use Rattle.fio_module.specs.Delivery.{NoBlockLost}
use Rattle.fio_module.proofs.Polling.{polled_often_stays_few}
use Rattle.fio_module.proofs.Outages.{outage_stays_few}
use Rattle.fio_module.proofs.FiltersThatDiffer.{polled_for_each_loses_none}
use Rattle.fio_link.specs.Delivery.{IsWholeUnlessFull, IsWholeWherePolledOften, IsWholeWherePolledForEach, IsWholeAfterOutage}
use Rattle.fio_link.proofs.MadeBlocks.{each-at}
use Rattle.fio_link.proofs.PieceLaws.{drop_found}

-- what holds of each element holds of one that is contained
each-contained : (P : MadeBlock → Type 0) (blocks : List MadeBlock) (block : MadeBlock) → AllByRecursion P blocks
    → Contains blocks block → P block
each-contained P blocks block all here = grind (arith, nat_tests, each-at, slice_get_read)

-- pieces without gap marks, from one place of a list of entries to another
abbrev pub ArePart : Settings → Life → ℕ → List Piece → ℕ → Type 0
ArePart settings life from pieces to =
    (from ≤ to) × (pieces ≡ map EntryPiece (take (to - from) (drop from (map entry_of (log_of life)))))

-- a piece that is no gap mark
abbrev pub IsEntry : Piece → Type 0
IsEntry Gap = ⊥
IsEntry (EntryPiece entry) = Unit {0}

-- pieces without gap marks are a part of the log
pub part_of_entries : (settings : Settings) (life : Life) (from : ℕ) (pieces : List Piece) (to : ℕ) → AllByRecursion IsEntry pieces
    → ArePieces settings life from pieces to → ArePart settings life from pieces to
part_of_entries settings life from [] to none p = grind (arith, nat_tests)
part_of_entries settings life from (EntryPiece entry ∷ pieces) to none p =
    let rest = part_of_entries settings life (from + 1) pieces to none.1 p.1 in
    let further : from + 1 ≤ to = rest.0 in
    let count : to - from ≡ suc (to - (from + 1)) = omega arith in
    let entries = map entry_of (log_of life) in
    let whole : map EntryPiece (take (to - from) (drop from entries)) ≡ EntryPiece entry ∷ map EntryPiece (take (to - (from + 1)) (drop (from + 1) entries)) =
    ap (λ n. map EntryPiece (take n (drop from entries))) count
    ∙ ap (λ es. map EntryPiece (take (suc (to - (from + 1))) es)) (drop_found entries from entry p.0) in
    (omega arith, ap (λ ps. EntryPiece entry ∷ ps) rest.1 ∙ sym whole)
part_of_entries settings life from (Gap ∷ pieces) to none p = absurd none.0

-- if no block says that entries were lost, no piece is a gap mark
no_gaps : (settings : Settings) (life : Life) (from : ℕ) (pieces : List Piece) (to : ℕ) → NoBlockLost settings life
    → ArePieces settings life from pieces to → AllByRecursion IsEntry pieces
no_gaps settings life from [] to none p = tt
no_gaps settings life from (EntryPiece entry ∷ pieces) to none p = (tt, no_gaps settings life (from + 1) pieces to none p.1)
no_gaps settings life from (Gap ∷ pieces) to none p =
    let loss = p.1 in
    absurd (cc (loss.said, each-contained (λ block. block.lost ≡ false) (blocks_of settings life) loss.block none loss.is_made))

-- the record, as pieces of the log
abbrev pub RecordIsPieces : Settings → Machine → Type 0
RecordIsPieces settings machine =
    ArePieces settings (life_of machine.history) 0 (map piece_of machine.items) (end_taken settings machine)

-- the record is whole
pub whole_unless_full : (settings : Settings) (machine : Machine) → RecordIsPieces settings machine
    → IsWholeUnlessFull settings machine
whole_unless_full settings machine pieces few = grind (arith, nat_tests, part_of_entries, piece_of, no_gaps, nothing_is_lost)

-- if the module is polled often
pub whole_where_polled_often : (settings : Settings) → AreInRange settings → (machine : Machine)
    → RecordIsPieces settings machine → IsWholeWherePolledOften settings machine
whole_where_polled_often settings range machine pieces opened filter scans life later is few often = grind (arith, nat_tests, whole_unless_full, polled_often_stays_few)

-- if it is polled often for each input
pub whole_where_polled_for_each : (settings : Settings) (machine : Machine)
    → RecordIsPieces settings machine → IsWholeWherePolledForEach settings machine
whole_where_polled_for_each settings machine pieces plan scans life later is few often =
    whole_unless_full settings machine pieces
    (subst (NeverTooMany settings) (sym is) ((polled_for_each_loses_none settings plan scans life later often).stays few))

-- after an outage
pub whole_after_outage : (settings : Settings) (machine : Machine)
    → RecordIsPieces settings machine → IsWholeAfterOutage settings machine
whole_after_outage settings machine pieces opened filter life later is few outage = grind (arith, nat_tests, whole_unless_full, outage_stays_few)
