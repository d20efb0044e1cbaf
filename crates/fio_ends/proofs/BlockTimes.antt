-- Times of the entries of a block that the CPU takes, and of the block, as the clock of the log has them.
use Rattle.fio_ends.proofs.Names.{◌≡◌, ◌∙◌, ◌+◌, ◌^◌, ◌<◌, ◌≤◌, inl, inr, ℕ, false, [], ◌∷◌, length, Some, ap, sym, arith, append-nil, slice_get, length-append, Block, says_again, Settings, Life, Commanded, life_of, log_of, loads_of, scans_of, Transition, entry_of, MadeBlock, blocks_of, Machine, each-at, get_in_front, BlockTimely, blocks_timely, cases_lt, wide_time_of}
use Rattle.fio_message.specs.declared.commands.Command.TheVariants as commands
use Rattle.fio_ends.proofs.BlockPlaces.{ends_within, is_next}
use Rattle.fio_ends.proofs.Clocks.{block_stamped, clock, offset_of, transition_clocked, wide_is}
use Rattle.fio_ends.proofs.ContentSteps.{IsKnown, Takes}
use Rattle.fio_ends.proofs.EntryTimes.{WaitBriefly}
use Rattle.fio_ends.proofs.Following.{GoesOn, goes_on-both}
use Rattle.fio_ends.proofs.Lives.{blocks_grow, log_grows, logged_since, made_since, scans_grow}
use Rattle.fio_ends.proofs.MadeNow.{made_now}

module _ (settings : Settings) (first : ℕ) (begin : Machine) (from : Life) (machine : Machine) (place number : ℕ) (answer : Block) (block : MadeBlock)
    (known : IsKnown settings first begin from machine) (t : Takes settings first from machine place number answer block) where
  abbrev begin_life : Life
  begin_life = life_of begin.history

  abbrev now : Life
  now = life_of machine.history

  g : GoesOn begin_life now
  g = goes_on-both begin_life from now known.begun known.now

  -- of an entry that waited briefly and was logged since the log began, in a block that was made since
  pub entry_time : WaitBriefly block → loads_of now ≡ loads_of begin_life → (k upto : ℕ) (transition : Transition)
      → slice_get block.transitions k ≡ Some transition → slice_get (log_of now) upto ≡ Some transition
      → length (log_of begin_life) ≤ upto → length (blocks_of settings begin_life) ≤ machine.round
      → wide_time_of answer.stamp (entry_of transition).stamp ≡ clock (offset_of begin_life) transition.scans
  entry_time waits steady k upto transition at logged low few =
      let brief = each-at (λ t. block.scans < t.scans + 2 ^ 16) block.transitions k transition waits at in
      let timely = each-at BlockTimely (blocks_of settings now) machine.round block (blocks_timely settings now) t.made in
      let made = made_since settings begin_life now machine.round block g few t.made in
      ap (λ stamp. wide_time_of stamp (entry_of transition).stamp) t.carried.stamp
      ∙ wide_is begin_life now g steady block transition timely k at (block_stamped begin_life now g steady settings block made)
      (transition_clocked begin_life now g steady transition (logged_since begin_life now upto transition g low logged)) brief

  -- of a block that was made since the log began
  pub block_time : loads_of now ≡ loads_of begin_life → length (blocks_of settings begin_life) ≤ machine.round
      → answer.stamp ≡ clock (offset_of begin_life) block.scans
  block_time steady few =
      t.carried.stamp ∙ (block_stamped begin_life now g steady settings block (made_since settings begin_life now machine.round block g few t.made)).stamp

  -- a block of the life at which the log began
  old_block : machine.round < length (blocks_of settings begin_life) → slice_get (blocks_of settings begin_life) machine.round ≡ Some block
  old_block less =
      let grown = blocks_grow settings begin_life now g in
      get_in_front (blocks_of settings begin_life) grown.0 machine.round block less (ap (λ blocks. slice_get blocks machine.round) (sym grown.1) ∙ t.made)

  -- a block with an entry that was logged since was made since
  pub made_with_entry : (k : ℕ) → k < length block.transitions → length (log_of begin_life) ≤ block.start + k → length (blocks_of settings begin_life) ≤ machine.round
  made_with_entry k inside since =
      elim (cases_lt machine.round (length (blocks_of settings begin_life))) as (λ _. length (blocks_of settings begin_life) ≤ machine.round) [
        | inl less ↦
            let next = is_next settings begin_life machine.round block (old_block less) in
            let within = ends_within settings begin_life (machine.round + 1) in
            absurd (omega (arith, inside, since, next.count, next.ends, within))
        | inr few ↦ few
      ]

  -- so was one at later scans
  pub made_later : scans_of begin_life < block.scans → length (blocks_of settings begin_life) ≤ machine.round
  made_later later =
      elim (cases_lt machine.round (length (blocks_of settings begin_life))) as (λ _. length (blocks_of settings begin_life) ≤ machine.round) [
        | inl less ↦
            let start : GoesOn [] begin_life = record { more = begin_life; is = sym (append-nil begin_life) } in
            let m = made_since settings [] begin_life machine.round block start (omega arith) (old_block less) in
            let scans : block.scans ≡ scans_of m.life = ap (λ (b : MadeBlock). b.scans) m.is in
            let high = scans_grow m.life begin_life m.upto in
            absurd (omega (arith, later, scans, high))
        | inr few ↦ few
      ]

  -- a clear block was made since the log began, and took all that was logged
  pub record IsClearBlock : Type 0 where
    pub blocks : length (blocks_of settings begin_life) ≤ machine.round
    pub ends : block.end ≡ length (log_of (Commanded (commands.Poll number) ∷ t.life))
    pub log : length (log_of begin_life) ≤ block.end
    pub scans : block.scans ≡ scans_of t.life

  pub clear_block : block.more ≡ false → says_again answer.status ≡ false → IsClearBlock
  clear_block all anew =
      let m = made_now settings first begin from machine place number answer block known t anew in
      let begun = goes_on-both begin_life from t.life known.begun t.goes_on in
      let grown = blocks_grow settings begin_life t.life begun in
      let logged = log_grows begin_life t.life begun in
      let ends : block.end ≡ length (log_of (Commanded (commands.Poll number) ∷ t.life)) = m.took all in
      record {
        blocks = omega (arith, m.newest, ap length grown.1, length-append (blocks_of settings begin_life) grown.0);
        ends = ends;
        log = omega (arith, ap length logged.1, length-append (log_of begin_life) logged.0, ends);
        scans = ap (λ (b : MadeBlock). b.scans) m.is;
      }
