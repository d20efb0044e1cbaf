-- The promises, from what every run keeps.
use Rattle.std.proofs.lemmas.Bool.Decides.{nat_tests}
use Rattle.fio_link.proofs.Names.{◌≡◌, ℕ, ◌+◌, ◌≤◌, ◌⊎◌, length, take, map, refl, ap, sym, subst, ◌∙◌, arith, length-drop, flat_map, AllZip, cases_lt, take_all, Settings, AreInRange, Life, life_of, end_of_blocks, blocks_end_within, Machine, piece_of, pieces_of_blocks, ArePieces, blocks_in, IsTimed, sources_of, next_round, PollsOf, BlockAnswersOf, IsRising, List, Event, IsRun}
use Rattle.fio_link.specs.Headline.{RecordIsLog, Headline}
use Rattle.fio_link.specs.Claims.{StandsAtTaken, RestIsLostOrWaits, HasTimes}
use Rattle.fio_link.specs.Rounds.{PollsReceivedHaveRounds, NewestPollMadeNewestBlock, AnswersCarryBlocks}
use Rattle.fio_link.specs.Sound.{IsSound, IsSoundRun, HoldsOfRuns, HoldsWithoutRestart}
use Rattle.fio_link.proofs.MadeBlocks.{each-take}
use Rattle.fio_link.proofs.PieceLaws.{taken_are_pieces, pieces_begin_log}
use Rattle.fio_link.proofs.Rows.{invariant}
use Rattle.fio_link.proofs.Runs.{rising, in_sequence, takes}
use Rattle.fio_link.proofs.OneLifeRows.{IsKept, kept, carries_own}
use Rattle.fio_link.proofs.CleanRounds.{last_were_sent, clean_round_takes_block}
use Rattle.fio_link.proofs.WithinRounds.{each_clean_round_takes_one}
use Rattle.fio_link.proofs.Settled.{IsOpen, stands_without_restart, clean_round_takes_all, makes_block}
use Rattle.fio_link.proofs.CatchingUp.{clean_rounds_catch_up}
use Rattle.fio_link.proofs.AllArrives.{all_arrives_where_kept_up_with}
use Rattle.fio_link.proofs.WholeRecords.{whole_unless_full}
use Rattle.fio_link.proofs.GapMarks.{gaps_name_times}
use Rattle.fio_link.proofs.TakenSpans.{has_spans}
use Rattle.fio_link.proofs.WholeLives.{got_blocks, takes_stretches}
use Rattle.fio_link.proofs.Times.{BlockTimely, blocks_timely, blocks_timed}

-- of two numbers at most one apart
one_behind : (m b : ℕ) → m ≤ b → b ≤ m + 1 → (m ≡ b) ⊎ (m + 1 ≡ b)
one_behind m b low high = grind (arith, nat_tests, cases_lt)

-- what is not recorded, of any life
pub rest_is_lost_or_waits : (settings : Settings) (life : Life) → RestIsLostOrWaits settings life
rest_is_lost_or_waits settings life = grind (arith, nat_tests, blocks_end_within, take_all, length-drop, taken_are_pieces)

module _ (settings : Settings) (range : AreInRange settings) (first : ℕ) (machine : Machine) (k : IsKept settings first machine) where
  -- the CPU has taken no more blocks than were made
  behind : machine.round ≤ length (blocks_in settings machine)
  behind = let made = k.one_life.made in omega (arith, k.always.answers.behind)

  -- the record without times is what the taken blocks are
  taken_items : map piece_of machine.items ≡ pieces_of_blocks machine.round (blocks_in settings machine)
  taken_items = ap (map piece_of) k.one_life.kept ∙ got_blocks (take machine.round (blocks_in settings machine))

  -- the headline
  record_is_log : RecordIsLog settings machine
  record_is_log =
      let life = life_of machine.history in
      let pieces = subst (λ ps. ArePieces settings life 0 ps (end_of_blocks (take machine.round (blocks_in settings machine)))) (sym taken_items)
      (taken_are_pieces settings life machine.round behind) in
      record { pieces = pieces; prefix = pieces_begin_log settings life (map piece_of machine.items) _ pieces }

  -- how far the record is
  stands : StandsAtTaken settings machine
  stands =
      let made : next_round machine.polls ≡ length (blocks_in settings machine) = k.one_life.made in
      record {
        behind = one_behind machine.round (length (blocks_in settings machine)) behind (omega (arith, k.always.at_most));
        items = taken_items;
      }

  -- the times of its items
  times : HasTimes settings machine
  times =
      let blocks = blocks_in settings machine in
      subst (λ items. AllZip IsTimed items (flat_map sources_of (take machine.round blocks))) (sym k.one_life.kept)
      (blocks_timed (take machine.round blocks)
      (each-take BlockTimely machine.round blocks (blocks_timely settings (life_of machine.history))))

  -- all that is promised without restarts
  pub sound : IsSound settings first machine
  sound =
      record {
        headline = record_is_log;
        stands = stands;
        rest = rest_is_lost_or_waits settings (life_of machine.history);
        again = k.one_life.again;
        times = times;
        unless_full = whole_unless_full settings machine record_is_log.pieces;
        gaps = gaps_name_times settings machine taken_items;
        settles = stands_without_restart settings first machine k;
      }

-- what every run keeps
pub opens : (settings : Settings) (first : ℕ) (events : List Event) (machine : Machine) (range : AreInRange settings)
    → IsRun settings first events machine → IsOpen settings range first machine
opens settings first events machine range run =
    record { sent = last_were_sent settings first events machine run; always = invariant settings range first events machine run }

-- every run is sound
pub runs_are_sound : HoldsOfRuns IsSoundRun
runs_are_sound settings first events machine range run =
    let o = opens settings first events machine range run in
    let i = o.always in
    record {
      is_run = run;
      rising = rising settings first machine i;
      takes = takes settings range first machine i;
      in_sequence = in_sequence settings first machine i;
      delivers = record {
        takes_block = clean_round_takes_block settings range first machine o.sent;
        takes_one = each_clean_round_takes_one settings range first machine i;
        takes_all = clean_round_takes_all settings range first machine o;
        makes_blocks = makes_block settings range first machine o;
        catches_up = clean_rounds_catch_up settings range first machine o;
        kept_up_with = all_arrives_where_kept_up_with settings range first machine o;
      };
      lives = takes_stretches settings machine (has_spans settings range first events machine run);
      sound = λ none. sound settings range first machine (kept settings range first events machine run none);
    }

-- the headline
pub headline : HoldsOfRuns (λ settings first events machine. Headline settings first events machine.items)
headline settings first events machine range run none =
    (machine, run, refl, ((runs_are_sound settings first events machine range run).sound none).headline)

-- the record rises
pub record_rises : HoldsOfRuns (λ settings first events machine. IsRising machine)
record_rises settings first events machine range run = (runs_are_sound settings first events machine range run).rising

-- the facts on rounds
pub polls_are_in_order : HoldsOfRuns (λ settings first events machine. PollsOf first machine)
polls_are_in_order settings first events machine range run = (invariant settings range first events machine run).polls

pub newest_poll_rounds : HoldsOfRuns (λ settings first events machine. PollsReceivedHaveRounds first machine)
newest_poll_rounds settings first events machine range run = grind (arith, nat_tests, invariant)

pub newest_poll_made_newest_block : HoldsWithoutRestart (λ settings first machine. NewestPollMadeNewestBlock settings machine)
newest_poll_made_newest_block settings first events machine range run none =
    (kept settings range first events machine run none).one_life.made

pub block_answers_are_in_order : HoldsOfRuns (λ settings first events machine. BlockAnswersOf machine)
block_answers_are_in_order settings first events machine range run = (invariant settings range first events machine run).answers

pub answers_carry_blocks : HoldsWithoutRestart AnswersCarryBlocks
answers_carry_blocks settings first events machine range run none place answer round has =
    let k = kept settings range first events machine run none in
    carries_own settings range first machine k.always k.one_life place answer round has
