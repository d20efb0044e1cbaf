-- Where no load of the counter takes effect since a life, each counter since then is the scans and an offset.
use Rattle.fio_ends.proofs.Names.{◌≡◌, ◌∷◌, ◌+◌, ◌-◌, ◌%◌, ◌^◌, ◌<◌, ◌≤◌, ℕ, true, false, Some, sym, subst, arith, slice_get, Settings, Life, Scanned, loads_of, scans_of, Transition, MadeBlock, each-at, BlockTimely, counter_of, is_before, is_later, milliseconds_between, counter, wide_time_of, counter-append, wide_time}
use Rattle.fio_ends.proofs.Following.{GoesOn}
use Rattle.fio_ends.proofs.Lives.{IsLoggedSince, IsMadeSince, counter_events-append, goes_on-scan, loads_grow, scans_grow, scans_more}

-- the counter at a life, less its scans
abbrev pub offset_of : Life → ℕ
offset_of life = counter_of life + (2 ^ 32 - scans_of life % 2 ^ 32)

-- the counter after so many scans
abbrev pub clock : ℕ → ℕ → ℕ
clock offset scans = (offset + scans) % 2 ^ 32

from_scans : (counter scans ticks : ℕ) → (counter + ticks) % 2 ^ 32 ≡ (counter + (2 ^ 32 - scans % 2 ^ 32) + (ticks + scans)) % 2 ^ 32
from_scans counter scans ticks = omega arith

pub counter_is_clock : (begin now : Life) → GoesOn begin now → loads_of now ≡ loads_of begin → counter_of now ≡ clock (offset_of begin) (scans_of now)
counter_is_clock begin now g same = grind (arith, counter-append, counter_events-append, from_scans, scans_more)

-- ---- two times

pub between_clocks : (offset earlier later : ℕ) → earlier ≤ later → later < earlier + 2 ^ 32
    → milliseconds_between (clock offset earlier) (clock offset later) ≡ later - earlier
between_clocks offset earlier later low high = omega arith

pub later_clock : (offset earlier later : ℕ) → earlier < later → later < earlier + 2 ^ 31
    → is_later (clock offset later) (clock offset earlier) ≡ true
later_clock offset earlier later low high = grind (arith, between_clocks)

pub not_before : (offset earlier later : ℕ) → earlier ≤ later → later < earlier + 2 ^ 31
    → is_before (clock offset later) (clock offset earlier) ≡ false
not_before offset earlier later low high = grind (arith, between_clocks)

-- ---- entries

module _ (begin now : Life) (g : GoesOn begin now) (steady : loads_of now ≡ loads_of begin) where
  abbrev offset : ℕ
  offset = offset_of begin

  -- a transition that was logged since
  pub record IsClocked (transition : Transition) : Type 0 where
    pub counter : transition.counter ≡ clock offset transition.scans
    pub loads : transition.loads ≡ loads_of begin
    pub after_begin : scans_of begin < transition.scans
    pub upto : transition.scans ≤ scans_of now

  pub transition_clocked : (transition : Transition) → IsLoggedSince begin now transition → IsClocked transition
  transition_clocked transition l =
      let at = goes_on-scan begin l.life l.raw l.begun in
      let low = loads_grow begin (Scanned l.raw ∷ l.life) at in
      let high = loads_grow (Scanned l.raw ∷ l.life) now l.upto in
      let scans = scans_grow begin l.life l.begun in
      let upto = scans_grow (Scanned l.raw ∷ l.life) now l.upto in
      let loads : loads_of (Scanned l.raw ∷ l.life) ≡ loads_of begin = omega arith in
      subst IsClocked (sym l.of_scan.is)
      (record {
        counter = counter_is_clock begin (Scanned l.raw ∷ l.life) at loads;
        loads = loads;
        after_begin = omega arith;
        upto = upto;
      })

  -- a block that was made since
  pub record IsStamped (block : MadeBlock) : Type 0 where
    pub stamp : block.stamp ≡ clock offset block.scans
    pub loads : block.loads ≡ loads_of begin
    pub upto : block.scans ≤ scans_of now

  pub block_stamped : (settings : Settings) (block : MadeBlock) → IsMadeSince settings begin now block → IsStamped block
  block_stamped settings block m = grind (arith, counter_is_clock, loads_grow, scans_grow)

  -- the wide time of an entry that waited briefly
  pub wide_is : (block : MadeBlock) (transition : Transition) → BlockTimely block → (k : ℕ) → slice_get block.transitions k ≡ Some transition
      → IsStamped block → IsClocked transition → block.scans < transition.scans + 2 ^ 16
      → wide_time_of block.stamp (transition.counter % 2 ^ 16) ≡ clock offset transition.scans
  wide_is block transition timely k at stamped clocked brief = grind (arith, each-at, wide_time)
