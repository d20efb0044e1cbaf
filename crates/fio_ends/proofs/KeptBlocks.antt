-- What is kept of a log below a block answer of a module, and what is between two of them.
use Rattle.fio_module.proofs.Names.{◌≡◌, ◌⊎◌, ℕ, ◌+◌, ◌-◌, ◌%◌, ◌<◌, ◌≤◌, ◌==◌, Bool, true, false, not, List, ◌++◌, length, take, drop, min, Option, Some, None, refl, sym, ◌∙◌, arith, inl, inr, if◌then◌else◌, nat_tests, length-take, IsAnswer, Sending, answer_of_sending}
use Rattle.std.proofs.Math.Seq.{take-append_seam}
use Rattle.std.proofs.lemmas.Slice.Eq.{bytes_eq-Decides}
use Rattle.std.specs.Prelude.{is_some, ◌||◌}
use Rattle.std.specs.Str.{bytes_eq}
use Rattle.fio_message.specs.Decoding.{command_in}
use Rattle.fio_message.specs.declared.commands.Command.{Command}
use Rattle.fio_message.specs.declared.commands.Command.TheVariants as commands
use Rattle.fio_message.specs.Status.{says_again, says_lost, says_more, says_out_of_sequence}
use Rattle.fio_message.specs.declared.limits.TheConstants.{FRAME_OCTETS}
use Rattle.fio_check.specs.LogJudges.{is_same_end}
use Rattle.fio_check.specs.Stretches.{cause_above, cause_between, cause_of_step, does_go_back, is_seamless, is_same_block, octets_above_status, items_kept, block_kept, seam_above, seam_of, stretches_counted, stretches_kept, stretches_sent, stretches_timed, stretches_with}
use Rattle.fio_ends.specs.StretchLogs.{ShowsRestart, entries_added}
use Rattle.fio_check.specs.declared.seam.SeamCause.{SeamCause}
use Rattle.fio_check.specs.declared.seam.SeamCause.TheVariants.{Disbelieved, Restart, Unknown}
use Rattle.fio_check.specs.declared.stretches.LogStretches.{LogStretches}
use Rattle.fio_check.specs.declared.stretches.Seam.{Seam}
use Rattle.fio_ends.proofs.SeenBlocks.{IsAlike}
use Rattle.fio_ends.proofs.ToldSendings.{bits, entries_back, items_of, items_told, no_command, octets_of, told_back, told_of}

-- the latest block is this one
pub record Keeps (kept : LogStretches) (above : Sending) : Type 0 where
  pub has : kept.has_block ≡ 1
  pub number : kept.number ≡ above.number
  pub stamp : kept.stamp ≡ above.stamp
  pub more : says_more kept.status ≡ above.more
  pub lost : says_lost kept.status ≡ above.lost
  pub items : items_kept kept ≡ items_of above

-- ---- other frames

-- a command leaves the latest block
pub sent_keeps : (kept : LogStretches) (above : Sending) (time : Option ℕ) (command : Command) → Keeps kept above
    → Keeps (stretches_sent kept time command) above
sent_keeps kept above time (commands.Poll number) keeps =
    record { has = keeps.has; number = keeps.number; stamp = keeps.stamp; more = keeps.more; lost = keeps.lost; items = keeps.items }
sent_keeps kept above time (commands.LoadCounter stamp) keeps =
    record { has = keeps.has; number = keeps.number; stamp = keeps.stamp; more = keeps.more; lost = keeps.lost; items = keeps.items }
sent_keeps kept above time command keeps = keeps

pub sent_none : (kept : LogStretches) (time : Option ℕ) (command : Command) → kept.has_block ≡ 0 → (stretches_sent kept time command).has_block ≡ 0
sent_none kept time (commands.Poll number) none = none
sent_none kept time (commands.LoadCounter stamp) none = none
sent_none kept time command none = none

-- ---- a block

pub kept_items : (items rest : List ℕ) → length items ≤ FRAME_OCTETS → take (min (length items) FRAME_OCTETS) (items ++ rest) ≡ items
kept_items items rest few =
    let is : min (length items) FRAME_OCTETS ≡ length items = omega arith in
    rw is (take-append_seam items rest)

module _ (kept : LogStretches) (time : Option ℕ) (is_believed : Bool) (block : Sending) (within : IsAnswer (answer_of_sending block)) where
  below_block : (log : LogStretches) → Keeps (stretches_kept log time (told_of block) (octets_of block)) block
  below_block log =
      let few : length (octets_above_status (octets_of block)) ≤ FRAME_OCTETS = omega (arith, length-take (min (length (octets_of block) - 5) FRAME_OCTETS) (octets_of block)) in
      let status = bits block in
      record {
        has = refl;
        number = refl;
        stamp = refl;
        more = status.0;
        lost = status.1;
        items = kept_items (octets_above_status (octets_of block)) (drop (length (octets_above_status (octets_of block))) log.items) few ∙ items_told block;
      }

  -- the block is kept
  pub keeps_block : is_same_block kept (told_of block) (octets_of block) ≡ false → Keeps (stretches_with kept time (octets_of block) is_believed) block
  keeps_block other =
      let seam = seam_above kept (told_of block) is_believed in
      rw (no_command block, told_back block within, other)
      (below_block (stretches_timed (stretches_counted kept (told_of block) seam) time (told_of block) seam))

  -- the latest one again changes nothing
  pub keeps_same : is_same_block kept (told_of block) (octets_of block) ≡ true → stretches_with kept time (octets_of block) is_believed ≡ kept
  keeps_same same = rw (no_command block, told_back block within, same) refl

-- ---- what is between two blocks

-- nothing is between if the block is believed, and nothing is between the two
believed_none : (believed first : Bool) (cause : Option SeamCause) → first ≡ false
    → (if not believed then Some Disbelieved else if first then None else cause) ≡ None → cause ≡ None
believed_none true first cause other none = grind arith
believed_none false first cause other none = absurd (cc none)

-- nor does the stamp go back
back_none : (back loaded : Bool) (cause : Option SeamCause) → (if back then Some (if loaded then Unknown else Restart) else cause) ≡ None
    → (back ≡ false) × (cause ≡ None)
back_none true loaded cause none = absurd (cc none)
back_none false loaded cause none = (refl, none)

-- a stamp that shows a restart is before the one above
pub restart_falls : (above stamp : ℕ) → ShowsRestart above stamp → stamp < above
restart_falls above stamp shows = grind (arith, nat_tests)

-- one that shows none does not go back
no_step_back : (back : Bool) → (back ≡ true → ⊥) → back ≡ false
no_step_back true none = absurd (none refl)
no_step_back false none = refl

-- a number further, or over one that the module never got
pub follows_step : (step status : ℕ) → cause_of_step step status ≡ None
    → (step ≡ 1) ⊎ ((step ≡ 2) × (says_out_of_sequence status ≡ true))
follows_step step status none = grind (arith, nat_tests)

eqb_same : (n : ℕ) → (n == n) ≡ true
eqb_same n = grind (arith, nat_tests)

end_same : (b : Bool) → is_same_end b b ≡ true
end_same true = refl
end_same false = refl

bytes_same : (xs : List ℕ) → bytes_eq xs xs ≡ true
bytes_same xs = grind (arith, bytes_eq-Decides)

-- sendings of one block have the same octets above the status
same_items : (above block : Sending) → IsAlike above block → items_of above ≡ items_of block
same_items above block alike = rw (alike.number, alike.entries) refl

-- nothing ends a stretch that goes on
went_on : (cause : Option SeamCause) (lost : Bool) → not (is_some cause || lost) ≡ true → (cause ≡ None) × (lost ≡ false)
went_on None false goes = (refl, refl)
went_on None true goes = absurd (cc goes)
went_on (Some cause) lost goes = absurd (cc goes)

module _ (kept : LogStretches) (block : Sending) (within : IsAnswer (answer_of_sending block)) where
  -- a block of another number or stamp is another one
  pub other_number : (above : Sending) → Keeps kept above → (above.number ≡ block.number → ⊥) → is_same_block kept (told_of block) (octets_of block) ≡ false
  other_number above keeps other = grind (arith, nat_tests, keeps.number)

  pub other_stamp : (above : Sending) → Keeps kept above → block.stamp < above.stamp → is_same_block kept (told_of block) (octets_of block) ≡ false
  other_stamp above keeps less = grind (arith, nat_tests, keeps.stamp)

  -- there is none above
  pub other_first : kept.has_block ≡ 0 → is_same_block kept (told_of block) (octets_of block) ≡ false
  other_first none = rw none refl

  -- a block that is sent again as it was is the same
  pub is_same : (above : Sending) → Keeps kept above → IsAlike above block → block.again ≡ true
      → is_same_block kept (told_of block) (octets_of block) ≡ true
  is_same above keeps alike again =
      let said = bits block in
      let sent_again : says_again (told_of block).status ≡ true = said.2 ∙ again in
      let number : kept.number ≡ block.number = keeps.number ∙ alike.number in
      let stamp : kept.stamp ≡ block.stamp = keeps.stamp ∙ alike.stamp in
      let more : says_more kept.status ≡ block.more = keeps.more ∙ alike.more in
      let lost : says_lost kept.status ≡ block.lost = keeps.lost ∙ alike.lost in
      let items : items_kept kept ≡ octets_above_status (octets_of block) = keeps.items ∙ same_items above block alike ∙ sym (items_told block) in
      rw (keeps.has, sent_again, number, stamp, more, lost, said.0, said.1, items)
      (rw (eqb_same block.number, eqb_same block.stamp, end_same block.more, end_same block.lost) (bytes_same (octets_above_status (octets_of block))))

  -- nothing ends a stretch above a block that is believed and does not say F, if nothing is between
  pub goes_on_above : is_same_block kept (told_of block) (octets_of block) ≡ false → block.lost ≡ false → cause_above kept (told_of block) true ≡ None
      → seam_of kept (octets_of block) true ≡ None
  goes_on_above other whole none =
      let lost : says_lost (told_of block).status ≡ false = (bits block).1 ∙ whole in
      rw (no_command block, told_back block within, other, none, lost) refl

  -- nothing is above the first block of a log
  pub first_cause : kept.has_block ≡ 0 → cause_above kept (told_of block) true ≡ None
  first_cause none = rw none refl

  -- nor above a block with the next number, if its stamp shows no restart
  pub next_cause : kept.has_block ≡ 1 → (block.number + 256 - kept.number) % 256 ≡ 1 → block.out_of_sequence ≡ false
      → (ShowsRestart kept.stamp block.stamp → ⊥) → cause_above kept (told_of block) true ≡ None
  next_cause has one ordered shows =
      let order : says_out_of_sequence (told_of block).status ≡ false = (bits block).3 ∙ ordered in
      let back : does_go_back (block_kept kept) (told_of block) ≡ false = no_step_back (does_go_back (block_kept kept) (told_of block)) shows in
      rw (has, back, one, order) refl

  -- it adds nothing
  pub adds_none : is_same_block kept (told_of block) (octets_of block) ≡ true → entries_added kept (octets_of block) (command_in (octets_of block)) ≡ None
  adds_none same = rw (no_command block, told_back block within, same) refl

  module _ (is_believed : Bool) (other : is_same_block kept (told_of block) (octets_of block) ≡ false) where
    abbrev seam : Seam
    seam = seam_above kept (told_of block) is_believed

    -- a stretch ends above it, or goes on with it
    pub ends_or_goes :
        ((seam_of kept (octets_of block) is_believed ≡ Some seam) × (seam.is_lost ≡ block.lost))
        ⊎ ((seam_of kept (octets_of block) is_believed ≡ None) × (block.lost ≡ false) × (cause_above kept (told_of block) is_believed ≡ None))
    ends_or_goes = by (is_seamless seam) refl
      where
        is : seam_of kept (octets_of block) is_believed ≡ (if is_seamless seam then None else Some seam)
        is = rw (no_command block, told_back block within, other) refl

        by : (goes : Bool) → is_seamless seam ≡ goes
            → ((seam_of kept (octets_of block) is_believed ≡ Some seam) × (seam.is_lost ≡ block.lost))
            ⊎ ((seam_of kept (octets_of block) is_believed ≡ None) × (block.lost ≡ false) × (cause_above kept (told_of block) is_believed ≡ None))
        by true goes =
            let both = went_on (cause_above kept (told_of block) is_believed) seam.is_lost goes in
            inr (is ∙ rw goes refl, sym (bits block).1 ∙ both.1, both.0)
        by false goes = inl (is ∙ rw goes refl, (bits block).1)

    -- what the frame adds
    pub adds : entries_added kept (octets_of block) (command_in (octets_of block)) ≡ Some block.entries
    adds = rw (no_command block, told_back block within, other) (entries_back block within)

    -- how it follows if nothing is between
    pub no_cause : kept.has_block ≡ 1 → cause_above kept (told_of block) is_believed ≡ None
        → (does_go_back (block_kept kept) (told_of block) ≡ false)
        × (cause_of_step ((block.number + 256 - kept.number) % 256) (told_of block).status ≡ None)
    no_cause has none =
        let first : (kept.has_block == 0) ≡ false = rw has refl in
        back_none (does_go_back (block_kept kept) (told_of block)) (not (kept.is_loaded == 0))
        (cause_of_step ((block.number + 256 - kept.number) % 256) (told_of block).status)
        (believed_none is_believed (kept.has_block == 0) (cause_between (block_kept kept) (not (kept.is_loaded == 0)) (told_of block)) first none)
