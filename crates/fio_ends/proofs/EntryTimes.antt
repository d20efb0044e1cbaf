-- The times of a block that the CPU takes in a log, and of its entries.
use Rattle.fio_ends.proofs.Names.{◌≡◌, ◌∙◌, ◌+◌, ◌^◌, ◌<◌, ◌≤◌, ℕ, false, length, Some, ap, arith, slice_get, AllByRecursion, length-append, Block, says_again, Settings, Life, life_of, loads_of, log_of, Transition, entry_of, MadeBlock, blocks_of, Machine, each-at, BlockTimely, blocks_timely, blocks_without_more_take_all, wide_time_of}
use Rattle.fio_ends.proofs.Clocks.{IsClocked, block_stamped, clock, offset_of, transition_clocked, wide_is}
use Rattle.fio_ends.proofs.ContentSteps.{IsKnown, Takes}
use Rattle.fio_ends.proofs.Following.{GoesOn, goes_on-both}
use Rattle.fio_ends.proofs.Lives.{IsMadeSince, blocks_grow, logged_since, made_since}
use Rattle.fio_ends.proofs.MadeNow.{made_now}

-- fewer than 65,536 scans lie between each entry of a block and the making of the block
abbrev pub WaitBriefly : MadeBlock → Type 0
WaitBriefly block = AllByRecursion (λ transition. block.scans < transition.scans + 2 ^ 16) block.transitions

module _ (settings : Settings) (first : ℕ) (begin : Machine) (from : Life) (machine : Machine) (place number : ℕ) (answer : Block) (block : MadeBlock)
    (known : IsKnown settings first begin from machine) (t : Takes settings first from machine place number answer block) where
  abbrev begin_life : Life
  begin_life = life_of begin.history

  abbrev now : Life
  now = life_of machine.history

  -- the log goes on from its beginning
  pub since_begin : GoesOn begin_life now
  since_begin = goes_on-both begin_life from now known.begun known.now

  -- the block was made since the log began, if as many blocks were made then as the CPU has taken, or fewer
  pub made : length (blocks_of settings begin_life) ≤ machine.round → IsMadeSince settings begin_life now block
  made low = made_since settings begin_life now machine.round block since_begin low t.made

  -- so it is with a clear block
  pub clear_few : says_again answer.status ≡ false → length (blocks_of settings begin_life) ≤ machine.round
  clear_few anew =
      let m = made_now settings first begin from machine place number answer block known t anew in
      let grown = blocks_grow settings begin_life t.life (goes_on-both begin_life from t.life known.begun t.goes_on) in
      omega (arith, m.newest, ap length grown.1, length-append (blocks_of settings begin_life) grown.0)

  -- and where it has no C it took all that was logged then
  pub end_is : (few : length (blocks_of settings begin_life) ≤ machine.round) → block.more ≡ false → block.end ≡ length (log_of (made few).life)
  end_is few all = grind (arith, blocks_without_more_take_all, made)

  timely : BlockTimely block
  timely = each-at BlockTimely (blocks_of settings now) machine.round block (blocks_timely settings now) t.made

  -- an entry that was logged since, in a block that was made since
  module _ (brief : WaitBriefly block) (steady : loads_of now ≡ loads_of begin_life) (k upto : ℕ) (transition : Transition)
      (at : slice_get block.transitions k ≡ Some transition) (logged : slice_get (log_of now) upto ≡ Some transition)
      (low : length (log_of begin_life) ≤ upto) (few : length (blocks_of settings begin_life) ≤ machine.round) where
    pub entry_clocked : IsClocked begin_life now since_begin steady transition
    entry_clocked = transition_clocked begin_life now since_begin steady transition (logged_since begin_life now upto transition since_begin low logged)

    pub entry_time : wide_time_of answer.stamp (entry_of transition).stamp ≡ clock (offset_of begin_life) transition.scans
    entry_time =
        let short = each-at (λ t. block.scans < t.scans + 2 ^ 16) block.transitions k transition brief at in
        ap (λ stamp. wide_time_of stamp (entry_of transition).stamp) t.carried.stamp
        ∙ wide_is begin_life now since_begin steady block transition timely k at (block_stamped begin_life now since_begin steady settings block (made few)) entry_clocked short
