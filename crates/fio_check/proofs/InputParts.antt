-- The parts of an input below an item, by their tests.
use Rattle.std.proofs.Common.{arith}
use Rattle.fio_check.proofs.Names.{◌≡◌, Bool, true, false, Option, Some, None, refl, if◌then◌else◌, not, unwrap_or, option_or, option_and_then, option_map, is_some, InputAbove, InputItem, WatchedState, ignores, input_with_item, least_with, opens, said_if, unnamed, ◌&&◌, ◌||◌}
use Rattle.fio_check.specs.ContentSaid.{item_kept}
use Rattle.fio_check.proofs.ContentPlaces.{watched_after}

-- ---- of one input

-- the parts of an input below an item, by their tests
pub sent-taken : (some other taken : Bool) → unwrap_or (if some then Some false else said_if (false && other)) taken ≡ (not some && taken)
sent-taken true other taken = refl
sent-taken false other taken = refl

pub heard-taken : (accepted taken : Bool) → unwrap_or (said_if accepted) taken ≡ (accepted || taken)
heard-taken true taken = refl
heard-taken false taken = refl

pub record ItemParts (now : InputAbove) (sent : Option InputItem) : Type 0 where
  pub named : (input_with_item (unnamed now) sent).named ≡ is_some sent
  pub taken : (input_with_item (unnamed now) sent).taken ≡ (not (is_some sent) && now.taken)
  pub hidden : (input_with_item (unnamed now) sent).hidden ≡ (ignores sent || now.hidden)
  pub reopened : (input_with_item (unnamed now) sent).reopened ≡ ((opens sent && now.hidden) || now.reopened)
  pub watched : (input_with_item (unnamed now) sent).watched ≡ option_and_then (watched_after (opens sent) (ignores sent) false) now.watched
  pub touched : (input_with_item (unnamed now) sent).touched ≡ (is_some sent || now.touched)
  pub shown : (input_with_item (unnamed now) sent).shown ≡ (if is_some sent then None else now.shown)
  pub unlogged : (input_with_item (unnamed now) sent).unlogged ≡ (if is_some sent then false else now.unlogged)
  pub shut : (input_with_item (unnamed now) sent).shut ≡ (not (opens sent) && now.shut)
  pub item : (input_with_item (unnamed now) sent).item ≡ option_or (option_map item_kept sent) now.item
  pub timed : (input_with_item (unnamed now) sent).timed ≡ now.timed
  pub least : (input_with_item (unnamed now) sent).least ≡ least_with now.least sent

pub watched_same : (watched : Option WatchedState) → watched ≡ option_and_then (watched_after false false false) watched
watched_same None = refl
watched_same (Some state) = refl

parts-ignore : (now : InputAbove) (item : InputItem) (ignore : Bool) → item.ignore ≡ ignore → ItemParts now (Some item)
parts-ignore now item ignore is = grind (arith, watched_after)

pub item_parts : (now : InputAbove) (item : Option InputItem) → ItemParts now item
item_parts now item = grind (arith, parts-ignore, watched_same)

pub unwatched_none : (watched : Option WatchedState) → option_and_then (watched_after false false true) watched ≡ None
unwatched_none None = refl
unwatched_none (Some state) = refl
