-- The record only grows.
use Rattle.fio_link.proofs.Names.{◌≡◌, ℕ, List, [], ◌++◌, ap, sym, ◌∙◌, append_assoc, append-nil, Settings, AreInRange, Item, items_of_block, Event, Machine, Leads, HaveNoRestart}
use Rattle.fio_link.proofs.Kept.{HasInvariant}
use Rattle.fio_link.proofs.Rows.{kept_without_restart}

-- a record begins with what it was
pub record Gains (before after : List Item) : Type 0 where
  pub gained : List Item
  pub items : after ≡ before ++ gained

pub gains : (settings : Settings) → AreInRange settings → (first : ℕ) (machine last : Machine) (events : List Event)
    → HasInvariant settings first machine → HaveNoRestart events → Leads settings first machine events last
    → Gains machine.items last.items
gains settings range first begin last events i none leads =
    kept_without_restart settings range first (λ machine. Gains begin.items machine.items) (record {
      scans = λ machine raw i g. g;
      syncs = λ machine i g. g;
      raises = λ machine mask i g. g;
      sends = λ machine command i number g. g;
      receives = λ machine place frame i le at g. g;
      passes = λ machine index i le g. g;
      takes = λ machine place answer i has g. record {
        gained = g.gained ++ items_of_block answer;
        items = ap (λ its. its ++ items_of_block answer) g.items ∙ append_assoc begin.items g.gained (items_of_block answer);
      };
    }) events begin last none leads i (record { gained = []; items = sym (append-nil begin.items) })
