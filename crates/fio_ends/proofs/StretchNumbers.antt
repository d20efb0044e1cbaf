-- The numbers that are kept of a log count its stretches and the places between them.
use Rattle.fio_module.proofs.Names.{◌≡◌, ℕ, ◌+◌, ◌%◌, ◌^◌, ◌≤◌, Bool, true, false, not, List, [], ◌∷◌, ◌++◌, length, Option, Some, None, refl, ap, sym, ◌∙◌, arith, bit_of, option_map, if◌then◌else◌, length-append}
use Rattle.std.specs.Prelude.{count_by, cond, sum_by, is_some, option_and_then, ◌||◌}
use Rattle.std.specs.List.{cons_option}
use Rattle.std.proofs.Math.Nat.{add_comm, mod-add-mod}
use Rattle.std.proofs.lemmas.List.Sums.{sum_by-cons}
use Rattle.std.proofs.lemmas.Option.{same_Some}
use Rattle.fio_message.specs.Blocks.{Block}
use Rattle.fio_message.specs.Decoding.{answer_in, answered_block, block_in, command_in}
use Rattle.fio_message.specs.Octets.{IsOctets}
use Rattle.fio_message.specs.declared.answers.Answer.{Answer}
use Rattle.fio_message.specs.declared.answers.Answer.TheVariants as answers
use Rattle.fio_message.specs.declared.commands.Command.{Command}
use Rattle.fio_message.specs.declared.commands.Command.TheVariants as commands
use Rattle.fio_message.specs.declared.fields.Entry.{Entry}
use Rattle.fio_message.proofs.MessageLaws.{block_spelled}
use Rattle.fio_check.specs.Stretches.{is_same_block, is_seamless, seam_above, seam_if_any, seam_of, seam_of_block, seam_of_told, stretches_below, stretches_below_block, stretches_counted, stretches_ended, stretches_kept, stretches_sent, stretches_timed, stretches_told, stretches_with, stretches_with_block, told_block, told_block_in}
use Rattle.fio_check.specs.declared.seam.SeamCause.{SeamCause}
use Rattle.fio_check.specs.declared.seam.SeamCause.TheVariants.{Disbelieved, Missing, PassedOver, Restart, Unknown}
use Rattle.fio_check.specs.declared.seam.ToldBlock.{ToldBlock}
use Rattle.fio_check.specs.declared.stretches.LogStretches.{LogStretches}
use Rattle.fio_check.specs.declared.stretches.Seam.{Seam}
use Rattle.fio_ends.specs.StretchLogs.{LogFrame, Stretch, entries_added, entries_told, entries_unless, stretches_kept_below, stretches_of, stretches_with_entries, stretches_with_seam}
use Rattle.fio_ends.specs.StretchNumbers.{CountsStretches, HaveOctets, NumbersCountStretches, blocks_missing_by, seams_in, says_disbelieved, says_missing, says_passed_over, says_restart, says_unknown}

-- ---- numbers modulo another one

-- a count goes on
more_of : (modulus kept count more : ℕ) → kept ≡ count % modulus → (kept + more) % modulus ≡ (more + count) % modulus
more_of modulus kept count more is = rw is (mod-add-mod count modulus more ∙ ap (λ n. n % modulus) (add_comm count more))

-- or stays
stays : (modulus kept count : ℕ) → kept ≡ count % modulus → kept ≡ (0 + count) % modulus
stays modulus kept count is = let none : count ≡ 0 + count = omega arith in is ∙ ap (λ n. n % modulus) none

-- a number that is kept in one of two ways
either_way : (number : LogStretches → ℕ) (is_one : Bool) (one other : LogStretches) → number other ≡ number one
    → number (if is_one then one else other) ≡ number one
either_way number true one other same = refl
either_way number false one other same = same

-- ---- places

-- nothing ends a stretch that goes on
no_cause : (cause : Option SeamCause) (lost : Bool) → not (is_some cause || lost) ≡ true → (cause ≡ None) × (lost ≡ false)
no_cause None false goes = (refl, refl)
no_cause None true goes = absurd (cc goes)
no_cause (Some cause) lost goes = absurd (cc goes)

-- A number of what is kept counts places by what each weighs, if a command, times and the block itself leave it as it is, and a place adds
-- its weight.
record Weighs (number : LogStretches → ℕ) (weight : Seam → ℕ) : Type 0 where
  none : (place : Seam) → is_seamless place ≡ true → weight place ≡ 0
  sent : (log : LogStretches) (time : Option ℕ) (command : Command) → number (stretches_sent log time command) ≡ number log
  kept : (log : LogStretches) (time : Option ℕ) (block : ToldBlock) (octets : List ℕ) → number (stretches_kept log time block octets) ≡ number log
  timed : (log : LogStretches) (is_whole : Bool) (by_lines by_stamps : ℕ) → number (stretches_below_block log is_whole by_lines by_stamps) ≡ number log
  counted : (log : LogStretches) (block : ToldBlock) (place : Seam) (count : ℕ) → number log ≡ count % 2 ^ 64
      → number (stretches_counted log block place) ≡ (weight place + count) % 2 ^ 64

module _ (number : LogStretches → ℕ) (weight : Seam → ℕ) (weighs : Weighs number weight) where
  -- a place more, if there is one
  place_by : (place : Seam) (places : List Seam) (goes : Bool) → is_seamless place ≡ goes
      → sum_by weight (cons_option (if goes then None else Some place) places) ≡ weight place + sum_by weight places
  place_by place places true is = rw (weighs.none place is) (omega arith)
  place_by place places false is = sum_by-cons weight place places

  below : (log : LogStretches) (time : Option ℕ) (block : ToldBlock) (octets : List ℕ) (place : Seam) (count : ℕ) → number log ≡ count % 2 ^ 64
      → number (stretches_below log time block octets place) ≡ (weight place + count) % 2 ^ 64
  below log time block octets place count is =
      let counted : LogStretches = stretches_counted log block place in
      weighs.kept (stretches_timed counted time block place) time block octets
      ∙ either_way number _ counted _ (weighs.timed counted _ _ _)
      ∙ weighs.counted log block place count is

  module _ (log : LogStretches) (time : Option ℕ) (octets : List ℕ) (is_believed : Bool) (places : List Seam)
      (is : number log ≡ sum_by weight places % 2 ^ 64) where
    with_other : (block : ToldBlock) (same : Bool)
        → number (if same then log else stretches_below log time block octets (seam_above log block is_believed))
        ≡ sum_by weight (cons_option (if same then None else seam_if_any (seam_above log block is_believed)) places) % 2 ^ 64
    with_other block true = is
    with_other block false =
        let place : Seam = seam_above log block is_believed in
        below log time block octets place (sum_by weight places) is
        ∙ ap (λ n. n % 2 ^ 64) (sym (place_by place places (is_seamless place) refl))

    with_block : (block : Option ToldBlock) → number (stretches_with_block log time octets is_believed block)
        ≡ sum_by weight (cons_option (option_and_then (seam_of_block log octets is_believed) block) places) % 2 ^ 64
    with_block None = is
    with_block (Some block) = with_other block (is_same_block log block octets)

    with_told : (command : Option Command) → number (stretches_told log time octets is_believed command)
        ≡ sum_by weight (cons_option (seam_of_told log octets is_believed command) places) % 2 ^ 64
    with_told (Some command) = weighs.sent log time command ∙ is
    with_told None = with_block (told_block octets)

  counts_places : number (stretches_kept_below []) ≡ 0 → (frames : List LogFrame)
      → number (stretches_kept_below frames) ≡ sum_by weight (seams_in frames) % 2 ^ 64
  counts_places none [] = none
  counts_places none (frame ∷ frames) =
      with_told (stretches_kept_below frames) frame.time frame.octets frame.is_believed (seams_in frames) (counts_places none frames) (command_in frame.octets)

-- ---- what each number weighs

-- a place that goes on is of no cause
none_by : (weight : Option SeamCause → ℕ) → weight None ≡ 0 → (place : Seam) → is_seamless place ≡ true → weight place.cause ≡ 0
none_by weight zero place is = rw (no_cause place.cause place.is_lost is).0 zero

sent_same : (number : LogStretches → ℕ) → ((log : LogStretches) (time : Option ℕ) (number_sent : ℕ) → number (stretches_sent log time (commands.Poll number_sent)) ≡ number log)
    → ((log : LogStretches) (time : Option ℕ) (stamp : ℕ) → number (stretches_sent log time (commands.LoadCounter stamp)) ≡ number log)
    → (log : LogStretches) (time : Option ℕ) (command : Command) → number (stretches_sent log time command) ≡ number log
sent_same number polled loaded log time (commands.Poll number_sent) = polled log time number_sent
sent_same number polled loaded log time (commands.LoadCounter stamp) = loaded log time stamp
sent_same number polled loaded log time command = refl

module _ (log : LogStretches) (count : ℕ) where
  missing_ended : (cause : Option SeamCause) → log.missing ≡ count % 2 ^ 64
      → (stretches_ended log cause).missing ≡ (cond (says_missing cause) 1 0 + count) % 2 ^ 64
  missing_ended (Some (Missing blocks)) is = more_of _ log.missing count 1 is
  missing_ended cause is = stays _ log.missing count is

  blocks_ended : (cause : Option SeamCause) → log.missing_blocks ≡ count % 2 ^ 64
      → (stretches_ended log cause).missing_blocks ≡ (blocks_missing_by cause + count) % 2 ^ 64
  blocks_ended (Some (Missing blocks)) is = more_of _ log.missing_blocks count blocks is
  blocks_ended cause is = stays _ log.missing_blocks count is

  passed_ended : (cause : Option SeamCause) → log.passed_over ≡ count % 2 ^ 64
      → (stretches_ended log cause).passed_over ≡ (cond (says_passed_over cause) 1 0 + count) % 2 ^ 64
  passed_ended (Some PassedOver) is = more_of _ log.passed_over count 1 is
  passed_ended cause is = stays _ log.passed_over count is

  unknown_ended : (cause : Option SeamCause) → log.unknown ≡ count % 2 ^ 64
      → (stretches_ended log cause).unknown ≡ (cond (says_unknown cause) 1 0 + count) % 2 ^ 64
  unknown_ended (Some Unknown) is = more_of _ log.unknown count 1 is
  unknown_ended cause is = stays _ log.unknown count is

  restarts_ended : (cause : Option SeamCause) → log.restarts ≡ count % 2 ^ 64
      → (stretches_ended log cause).restarts ≡ (cond (says_restart cause) 1 0 + count) % 2 ^ 64
  restarts_ended (Some Restart) is = more_of _ log.restarts count 1 is
  restarts_ended cause is = stays _ log.restarts count is

  disbelieved_ended : (cause : Option SeamCause) → log.disbelieved ≡ count % 2 ^ 64
      → (stretches_ended log cause).disbelieved ≡ (cond (says_disbelieved cause) 1 0 + count) % 2 ^ 64
  disbelieved_ended (Some Disbelieved) is = more_of _ log.disbelieved count 1 is
  disbelieved_ended cause is = stays _ log.disbelieved count is

-- a place leaves these as they are
lost_ended : (log : LogStretches) (cause : Option SeamCause) → (stretches_ended log cause).lost ≡ log.lost
lost_ended log (Some (Missing blocks)) = refl
lost_ended log cause = refl

transitions_ended : (log : LogStretches) (cause : Option SeamCause) → (stretches_ended log cause).transitions ≡ log.transitions
transitions_ended log (Some (Missing blocks)) = refl
transitions_ended log cause = refl

bit_weighs : (lost : Bool) → bit_of lost ≡ cond lost 1 0
bit_weighs true = refl
bit_weighs false = refl

lost_weighs : Weighs (λ log. log.lost) (λ place. cond place.is_lost 1 0)
lost_weighs = record {
  none = λ place is. rw (no_cause place.cause place.is_lost is).1 refl;
  sent = sent_same (λ log. log.lost) (λ log time n. refl) (λ log time n. refl);
  kept = λ log time block octets. refl;
  timed = λ log is_whole by_lines by_stamps. refl;
  counted = λ log block place count is.
      lost_ended _ place.cause ∙ more_of _ log.lost count (bit_of place.is_lost) is
      ∙ ap (λ n. (n + count) % 2 ^ 64) (bit_weighs place.is_lost);
}

missing_weighs : Weighs (λ log. log.missing) (λ place. cond (says_missing place.cause) 1 0)
missing_weighs = record {
  none = none_by (λ cause. cond (says_missing cause) 1 0) refl;
  sent = sent_same (λ log. log.missing) (λ log time n. refl) (λ log time n. refl);
  kept = λ log time block octets. refl;
  timed = λ log is_whole by_lines by_stamps. refl;
  counted = λ log block place count is. missing_ended _ count place.cause is;
}

blocks_weigh : Weighs (λ log. log.missing_blocks) (λ place. blocks_missing_by place.cause)
blocks_weigh = record {
  none = none_by blocks_missing_by refl;
  sent = sent_same (λ log. log.missing_blocks) (λ log time n. refl) (λ log time n. refl);
  kept = λ log time block octets. refl;
  timed = λ log is_whole by_lines by_stamps. refl;
  counted = λ log block place count is. blocks_ended _ count place.cause is;
}

passed_weighs : Weighs (λ log. log.passed_over) (λ place. cond (says_passed_over place.cause) 1 0)
passed_weighs = record {
  none = none_by (λ cause. cond (says_passed_over cause) 1 0) refl;
  sent = sent_same (λ log. log.passed_over) (λ log time n. refl) (λ log time n. refl);
  kept = λ log time block octets. refl;
  timed = λ log is_whole by_lines by_stamps. refl;
  counted = λ log block place count is. passed_ended _ count place.cause is;
}

unknown_weighs : Weighs (λ log. log.unknown) (λ place. cond (says_unknown place.cause) 1 0)
unknown_weighs = record {
  none = none_by (λ cause. cond (says_unknown cause) 1 0) refl;
  sent = sent_same (λ log. log.unknown) (λ log time n. refl) (λ log time n. refl);
  kept = λ log time block octets. refl;
  timed = λ log is_whole by_lines by_stamps. refl;
  counted = λ log block place count is. unknown_ended _ count place.cause is;
}

restarts_weigh : Weighs (λ log. log.restarts) (λ place. cond (says_restart place.cause) 1 0)
restarts_weigh = record {
  none = none_by (λ cause. cond (says_restart cause) 1 0) refl;
  sent = sent_same (λ log. log.restarts) (λ log time n. refl) (λ log time n. refl);
  kept = λ log time block octets. refl;
  timed = λ log is_whole by_lines by_stamps. refl;
  counted = λ log block place count is. restarts_ended _ count place.cause is;
}

disbelieved_weighs : Weighs (λ log. log.disbelieved) (λ place. cond (says_disbelieved place.cause) 1 0)
disbelieved_weighs = record {
  none = none_by (λ cause. cond (says_disbelieved cause) 1 0) refl;
  sent = sent_same (λ log. log.disbelieved) (λ log time n. refl) (λ log time n. refl);
  kept = λ log time block octets. refl;
  timed = λ log is_whole by_lines by_stamps. refl;
  counted = λ log block place count is. disbelieved_ended _ count place.cause is;
}

-- ---- transitions

-- how many entries stretches have
abbrev entries_of : List Stretch → ℕ
entries_of stretches = sum_by (λ (stretch : Stretch). length stretch.entries) stretches

-- the entries of a block are added, whatever is above it
entries_with : (place : Option Seam) (entries : List Entry) (stretches : List Stretch)
    → entries_of (stretches_with_seam place entries stretches) ≡ length entries + entries_of stretches
entries_with (Some place) entries stretches =
    sum_by-cons (λ (stretch : Stretch). length stretch.entries) (record { is_lost = place.is_lost; entries = entries }) stretches
entries_with None entries [] = sum_by-cons (λ (stretch : Stretch). length stretch.entries) (record { is_lost = false; entries = entries }) []
entries_with None entries (stretch ∷ stretches) =
    rw (
      sum_by-cons (λ (stretch : Stretch). length stretch.entries) (record stretch { entries = stretch.entries ++ entries }) stretches,
      sum_by-cons (λ (stretch : Stretch). length stretch.entries) stretch stretches,
    )
    (omega (arith, length-append stretch.entries entries))

-- those of a block that was found
entries_found : (place : Option Seam) (stretches : List Stretch) (entries : ℕ) (found : Option Block) (block : Block) → found ≡ Some block
    → entries ≡ length block.entries
    → entries + entries_of stretches ≡ entries_of (stretches_with_entries place (entries_unless false found) stretches)
entries_found place stretches entries found block is same = rw (is, same) (sym (entries_with place block.entries stretches))

-- what a block answer says of its entries
told_as : (found : Option Answer) (told : ToldBlock) → option_and_then told_block_in found ≡ Some told
    → (block : Block) × (answered_block found ≡ Some block) × (told.entries ≡ length block.entries % 256)
told_as (Some (answers.Block number entries status stamp)) told is =
    (record { number = number; entries = entries.items; status = status; stamp = stamp }, refl, sym (ap (λ (t : ToldBlock). t.entries) (same_Some _ _ is)))
told_as other told is = absurd (cc is)

-- all of them, since a block has 255 at most
told_whole : (octets : List ℕ) → IsOctets octets → (told : ToldBlock) → told_block octets ≡ Some told
    → (block : Block) × (block_in octets ≡ Some block) × (told.entries ≡ length block.entries)
told_whole octets are told is =
    let found = told_as (answer_in octets) told is in
    let few : length found.0.entries ≤ 255 = (block_spelled octets found.0 are found.1).within.1 in
    (found.0, found.1, found.2 ∙ grind (arith, few))

module _ (log : LogStretches) (time : Option ℕ) (octets : List ℕ) (are : IsOctets octets) (is_believed : Bool) (place : Option Seam)
    (stretches : List Stretch) (is : log.transitions ≡ entries_of stretches % 2 ^ 64) where
  transitions_other : (told : ToldBlock) → told_block octets ≡ Some told → (same : Bool)
      → (if same then log else stretches_below log time told octets (seam_above log told is_believed)).transitions
      ≡ entries_of (stretches_with_entries place (entries_unless same (block_in octets)) stretches) % 2 ^ 64
  transitions_other told is_told true = is
  transitions_other told is_told false =
      let whole = told_whole octets are told is_told in
      let above : Seam = seam_above log told is_believed in
      let counted : LogStretches = stretches_counted log told above in
      either_way (λ (kept : LogStretches). kept.transitions) _ counted _ refl
      ∙ transitions_ended _ above.cause
      ∙ more_of _ log.transitions (entries_of stretches) told.entries is
      ∙ ap (λ n. n % 2 ^ 64) (entries_found place stretches told.entries (block_in octets) whole.0 whole.1 whole.2)

  transitions_block : (told : Option ToldBlock) → told_block octets ≡ told
      → (stretches_with_block log time octets is_believed told).transitions
      ≡ entries_of (stretches_with_entries place (entries_told log octets told) stretches) % 2 ^ 64
  transitions_block None is_told = is
  transitions_block (Some told) is_told = transitions_other told is_told (is_same_block log told octets)

  transitions_told : (command : Option Command) → (stretches_told log time octets is_believed command).transitions
      ≡ entries_of (stretches_with_entries place (entries_added log octets command) stretches) % 2 ^ 64
  transitions_told (Some command) = sent_same (λ (kept : LogStretches). kept.transitions) (λ log time n. refl) (λ log time n. refl) log time command ∙ is
  transitions_told None = transitions_block (told_block octets) refl

counts_transitions : (frames : List LogFrame) → HaveOctets frames → (stretches_kept_below frames).transitions ≡ entries_of (stretches_of frames) % 2 ^ 64
counts_transitions [] have = refl
counts_transitions (frame ∷ frames) have =
    transitions_told (stretches_kept_below frames) frame.time frame.octets have.0 frame.is_believed
    (seam_of (stretches_kept_below frames) frame.octets frame.is_believed) (stretches_of frames) (counts_transitions frames have.1) (command_in frame.octets)

-- ---- the law

pub numbers_count_stretches : NumbersCountStretches
unfolding NumbersCountStretches
numbers_count_stretches frames have = record {
  transitions = counts_transitions frames have;
  lost = counts_places (λ log. log.lost) (λ place. cond place.is_lost 1 0) lost_weighs refl frames;
  missing = counts_places (λ log. log.missing) (λ place. cond (says_missing place.cause) 1 0) missing_weighs refl frames;
  missing_blocks = counts_places (λ log. log.missing_blocks) (λ place. blocks_missing_by place.cause) blocks_weigh refl frames;
  passed_over = counts_places (λ log. log.passed_over) (λ place. cond (says_passed_over place.cause) 1 0) passed_weighs refl frames;
  unknown = counts_places (λ log. log.unknown) (λ place. cond (says_unknown place.cause) 1 0) unknown_weighs refl frames;
  restarts = counts_places (λ log. log.restarts) (λ place. cond (says_restart place.cause) 1 0) restarts_weigh refl frames;
  disbelieved = counts_places (λ log. log.disbelieved) (λ place. cond (says_disbelieved place.cause) 1 0) disbelieved_weighs refl frames;
}
