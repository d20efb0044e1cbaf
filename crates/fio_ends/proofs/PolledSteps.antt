-- What holds of a log of a module and of its stretches below a poll.
use Rattle.fio_module.proofs.Names.{◌≡◌, ℕ, ◌+◌, ◌%◌, ◌<◌, ◌≤◌, Bool, true, false, List, [], ◌∷◌, length, Option, Some, None, bit_of, ◌-◌, refl, ap, sym, subst, ◌∙◌, arith, Life, Commanded, Poll, Received, life_of, Settings, Sending, latest_sending, answer_octets}
use Rattle.std.specs.Option.{option_map_or}
use Rattle.fio_message.specs.declared.commands.Command.TheVariants as commands
use Rattle.fio_message.specs.Commands.{command_octets}
use Rattle.fio_message.specs.Decoding.{command_in}
use Rattle.fio_message.proofs.MessageLaws.{command_back}
use Rattle.fio_module.specs.Life.{Event, History}
use Rattle.fio_module.specs.Replies.{reply_to}
use Rattle.fio_check.specs.Stretches.{stretches_with, seam_of}
use Rattle.fio_ends.specs.StretchLogs.{StretchGoesOn, IsNearInLog, IsNearLatest, IsNotBelow, LatestBlock, ShowsRestart, Stretch, entries_added, stretches_with_entries}
use Rattle.fio_check.specs.declared.stretches.LogStretches.{LogStretches}
use Rattle.fio_ends.proofs.RisingPieces.{front_of, rise_longer}
use Rattle.fio_ends.proofs.StretchPolls.{below_poll, current_there, first_is_one, stays_one, first_there, known_below, old_there}
use Rattle.fio_ends.proofs.StretchSteps.{EndsAt, Holds, IsCurrent, IsOld, NewestOf, Stands, StandsBelow}
use Rattle.fio_ends.proofs.ToldSendings.{octets_of}

-- stamps that are the same show the same
shows_of : (above other stamp same : ℕ) → above ≡ other → stamp ≡ same → ShowsRestart other same → ShowsRestart above stamp
shows_of above other stamp same is equal shows = rw (is, equal) shows

-- the octets of a poll are read as one
poll_read : (round : ℕ) → command_in (command_octets (commands.Poll (round % 256))) ≡ Some (commands.Poll (round % 256))
poll_read round =
    command_back (commands.Poll (round % 256)) (command_octets (commands.Poll (round % 256))) (record { within = omega arith; spelled = refl })

module _ (settings : Settings) (few : settings.per_block ≤ 255) (history : History) (kept : LogStretches) (stretches : List Stretch) (later : ℕ) where
  abbrev event : Event
  event = Received (command_octets (commands.Poll (later % 256)))

  abbrev polled : Life
  polled = Commanded (commands.Poll (later % 256)) ∷ life_of history

  life_is : life_of (event ∷ history) ≡ polled
  life_is = rw (poll_read later) refl

  known_polled : (newest : Option ℕ) → NewestOf settings (life_of history) newest → NewestOf settings (life_of (event ∷ history)) (Some later)
  known_polled newest known = rw life_is (known_below settings few (life_of history) later newest known)

  ends_polled : (stretch : Stretch) (rest : List Stretch) (place : ℕ) → EndsAt history stretch rest place → EndsAt (event ∷ history) stretch rest place
  ends_polled stretch rest place ends = record {
    start = ends.start;
    begins = ends.begins;
    in_order = ends.in_order;
    within = ends.within;
    room = ends.room;
    entries = ends.entries;
    rises = rise_longer history event (ends.start - bit_of stretch.is_lost) rest ends.rises;
  }

  below_polled : (is_restarted : Bool) (newest : Option ℕ) (latest : LatestBlock) → IsNotBelow newest later
      → StandsBelow is_restarted settings history newest kept stretches latest
      → StandsBelow is_restarted settings (event ∷ history) (Some later) kept stretches latest
  below_polled true newest latest rises old = record {
    above = old.above;
    keeps = old.keeps;
    stamp = old.stamp;
    rises = rise_longer history event (length (front_of history)) stretches old.rises;
  }
  below_polled false newest latest rises current =
      let not_below : current.round ≤ later = subst (λ (n : Option ℕ). IsNotBelow n later) current.is_round rises in
      let next = below_poll settings few (life_of history) later (length (front_of history)) current.above latest.round current.place current.round
      current.block current.sending current.below not_below in
      record {
        above = current.above;
        keeps = current.keeps;
        stamp = current.stamp;
        place = current.place;
        round = later;
        block = next.0;
        sending = next.1;
        is_round = refl;
        below = rw life_is next.2;
        stretch = current.stretch;
        rest = current.rest;
        are = current.are;
        ends = ends_polled current.stretch current.rest current.place current.ends;
      }

  stands_polled : (newest : Option ℕ) (latest : Option LatestBlock) → IsNotBelow newest later → Stands settings history newest kept stretches latest
      → Stands settings (event ∷ history) (Some later) kept stretches latest
  stands_polled newest None rises stands = stands
  stands_polled newest (Some latest) rises stands = below_polled latest.is_restarted newest latest rises stands

  -- its answer is not in the log
  pub holds_polled : (newest : Option ℕ) (latest : Option LatestBlock) → IsNotBelow newest later → Holds settings history newest kept stretches latest
      → Holds settings (event ∷ history) (Some later) kept stretches latest
  holds_polled newest latest rises holds = record {
    known = known_polled newest holds.known;
    stands = stands_polled newest latest rises holds.stands;
  }

  -- ---- its answer is in the log

  module _ (time : Option ℕ) (is_believed : Bool) where
    abbrev octets : List ℕ
    octets = option_map_or answer_octets (reply_to settings history (command_octets (commands.Poll (later % 256)))) []

    abbrev stamp : ℕ
    stamp = option_map_or (λ (sending : Sending). sending.stamp) (latest_sending settings polled) 0

    -- the block is the latest one below the answer
    abbrev IsLatest : List ℕ → ℕ → Type 0
    IsLatest octets stamp = IsCurrent settings (event ∷ history) (Some later) (stretches_with kept time octets is_believed)
        (stretches_with_entries (seam_of kept octets is_believed) (entries_added kept octets (command_in octets)) stretches)
        (record { round = later; stamp = stamp; is_restarted = false })

    octets_are : (sending : Sending) → latest_sending settings polled ≡ Some sending → octets ≡ octets_of sending
    octets_are sending sent = rw (poll_read later) (rw sent refl)

    stamp_is : (sending : Sending) → latest_sending settings polled ≡ Some sending → stamp ≡ sending.stamp
    stamp_is sending sent = rw sent refl

    is_latest : (sending : Sending) → latest_sending settings polled ≡ Some sending → IsLatest (octets_of sending) sending.stamp
        → IsLatest octets stamp
    is_latest sending sent there =
        subst (λ (o : List ℕ). IsLatest o stamp) (sym (octets_are sending sent))
        (subst (λ (s : ℕ). IsLatest (octets_of sending) s) (sym (stamp_is sending sent)) there)

    -- the newest block, with its life as it is read
    module _ (known : NewestOf settings (life_of (event ∷ history)) (Some later)) where
      sent_is : latest_sending settings polled ≡ Some known.1
      sent_is = subst (λ (life : Life). latest_sending settings life ≡ Some known.1) life_is known.2.sent

      none_latest : kept.has_block ≡ 0 → stretches ≡ [] → IsLatest octets stamp
      none_latest none empty =
          is_latest known.1 sent_is (first_there settings (event ∷ history) kept stretches time is_believed later known.0 known.1 known.2 none empty)

      old_latest : (latest : LatestBlock) → IsOld history kept stretches latest → ShowsRestart latest.stamp stamp → IsLatest octets stamp
      old_latest latest old shows =
          is_latest known.1 sent_is (old_there settings (event ∷ history) kept stretches time is_believed later known.0 known.1 known.2 latest
          (record {
            above = old.above;
            keeps = old.keeps;
            stamp = old.stamp;
            rises = rise_longer history event (length (front_of history)) stretches old.rises;
          })
          (subst (λ (s : ℕ). ShowsRestart latest.stamp s) (stamp_is known.1 sent_is) shows))

    current_latest : (newest : Option ℕ) (latest : LatestBlock) → IsNotBelow newest later → IsCurrent settings history newest kept stretches latest
        → later < latest.round + 256 → IsLatest octets stamp
    current_latest newest latest rises current near =
        let not_below : current.round ≤ later = subst (λ (n : Option ℕ). IsNotBelow n later) current.is_round rises in
        let next = below_poll settings few (life_of history) later (length (front_of history)) current.above latest.round current.place current.round
        current.block current.sending current.below not_below in
        is_latest next.1 next.2.newest.sent
        (current_there settings (event ∷ history) kept stretches time is_believed later current.above latest.round current.place next.0 next.1
        current.keeps (rw life_is next.2) current.stretch current.rest current.are
        (ends_polled current.stretch current.rest current.place current.ends) near next.3)

    below_logged : (is_restarted : Bool) (newest : Option ℕ) (latest : LatestBlock) → NewestOf settings (life_of (event ∷ history)) (Some later)
        → IsNotBelow newest later → IsNearInLog is_restarted latest later stamp
        → StandsBelow is_restarted settings history newest kept stretches latest → IsLatest octets stamp
    below_logged true newest latest known rises near old = old_latest known latest old near
    below_logged false newest latest known rises near current = current_latest newest latest rises current near

    stands_logged : (newest : Option ℕ) (latest : Option LatestBlock) → NewestOf settings (life_of (event ∷ history)) (Some later)
        → IsNotBelow newest later → IsNearLatest latest later stamp → Stands settings history newest kept stretches latest → IsLatest octets stamp
    stands_logged newest None known rises near stands = none_latest known stands.0 stands.1
    stands_logged newest (Some latest) known rises near stands = below_logged latest.is_restarted newest latest known rises near stands

    pub holds_logged : (newest : Option ℕ) (latest : Option LatestBlock) → IsNotBelow newest later → IsNearLatest latest later stamp
        → Holds settings history newest kept stretches latest
        → Holds settings (event ∷ history) (Some later) (stretches_with kept time octets is_believed)
        (stretches_with_entries (seam_of kept octets is_believed) (entries_added kept octets (command_in octets)) stretches)
        (Some (record { round = later; stamp = stamp; is_restarted = false }))
    holds_logged newest latest rises near holds =
        let known = known_polled newest holds.known in
        record { known = known; stands = stands_logged newest latest known rises near holds.stands }

    -- ---- the number of stretches stays

    abbrev is_lost : Bool
    is_lost = option_map_or (λ (sending : Sending). sending.lost) (latest_sending settings polled) false

    -- how many stretches are below an answer with these octets
    abbrev count : List ℕ → ℕ
    count octets = length (stretches_with_entries (seam_of kept octets is_believed) (entries_added kept octets (command_in octets)) stretches)

    lost_is : (sending : Sending) → latest_sending settings polled ≡ Some sending → is_lost ≡ sending.lost
    lost_is sending sent = rw sent refl

    first_counts : NewestOf settings (life_of (event ∷ history)) (Some later) → kept.has_block ≡ 0 → stretches ≡ [] → is_lost ≡ false
        → is_believed ≡ true → count octets ≡ 1
    first_counts known none empty whole believed =
        let sent = sent_is known in
        ap count (octets_are known.1 sent)
        ∙ first_is_one settings (event ∷ history) kept stretches time is_believed later known.0 known.1 known.2 none empty
        (sym (lost_is known.1 sent) ∙ whole) believed

    current_counts : (newest : Option ℕ) (latest : LatestBlock) → IsNotBelow newest later → IsCurrent settings history newest kept stretches latest
        → later ≤ latest.round + 1 → (ShowsRestart latest.stamp stamp → ⊥) → is_lost ≡ false → is_believed ≡ true
        → count octets ≡ length stretches
    current_counts newest latest rises current near shows whole believed =
        let not_below : current.round ≤ later = subst (λ (n : Option ℕ). IsNotBelow n later) current.is_round rises in
        let next = below_poll settings few (life_of history) later (length (front_of history)) current.above latest.round current.place current.round
        current.block current.sending current.below not_below in
        let sent = next.2.newest.sent in
        ap count (octets_are next.1 sent)
        ∙ stays_one settings (event ∷ history) kept stretches time is_believed later current.above latest.round current.place next.0 next.1
        current.keeps (rw life_is next.2) current.stretch current.rest current.are
        (ends_polled current.stretch current.rest current.place current.ends) (sym (lost_is next.1 sent) ∙ whole) near next.3
        (λ s. shows (shows_of latest.stamp current.above.stamp stamp next.1.stamp current.stamp (stamp_is next.1 sent) s)) believed

    below_counts : (is_restarted : Bool) (newest : Option ℕ) (latest : LatestBlock) → IsNotBelow newest later
        → StandsBelow is_restarted settings history newest kept stretches latest
        → is_restarted ≡ false → later ≤ latest.round + 1 → (ShowsRestart latest.stamp stamp → ⊥) → is_lost ≡ false → is_believed ≡ true
        → count octets ≡ length stretches
    below_counts true newest latest rises old goes near shows whole believed = absurd (cc goes)
    below_counts false newest latest rises current goes near shows whole believed = current_counts newest latest rises current near shows whole believed

    pub stands_counts : (newest : Option ℕ) (latest : Option LatestBlock) → IsNotBelow newest later
        → Holds settings history newest kept stretches latest
        → StretchGoesOn latest later stamp → is_lost ≡ false → is_believed ≡ true → length stretches ≤ 1 → count octets ≤ 1
    stands_counts newest None rises holds goes whole believed few =
        omega (arith, first_counts (known_polled newest holds.known) holds.stands.0 holds.stands.1 whole believed)
    stands_counts newest (Some latest) rises holds goes whole believed few =
        omega (arith, below_counts latest.is_restarted newest latest rises holds.stands goes.0 goes.1 goes.2 whole believed)
