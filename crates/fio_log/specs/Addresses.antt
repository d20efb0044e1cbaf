-- Whether the octet before each message of a log is an address, by the first frames that have one without a frame check: a state, and
-- what a frame does to it.
use Rattle.std.specs.Prelude.{ℕ, ◌+◌, ◌*◌, ◌%◌, ◌^◌, ◌==◌, ◌&&◌, ◌||◌, Bool, false, not, nat_le, nat_lt, replicate, slice_index_or, slice_set, Option, Some, None, if◌then◌else◌}
use Rattle.fio_message.specs.declared.types.TheConstants.{ANSWER, POLL}
use Rattle.fio_log.specs.declared.addresses.AddressedFrame.{AddressedFrame}
use Rattle.fio_log.specs.declared.addresses.AddressAnswers.{AddressAnswers}
use Rattle.fio_log.specs.declared.addresses.AddressPolls.{AddressPolls}
use Rattle.fio_log.specs.declared.addresses.AddressTurns.{AddressTurns}
use Rattle.fio_log.specs.declared.addresses.Addresses.{Addresses}
use Rattle.fio_log.specs.declared.addresses.TheConstants.{SAME_ANSWERS, SHOWN_FRAMES, VALUES}

-- one more, if it is so
abbrev pub more_if : Bool → ℕ → ℕ
more_if is_so count = if is_so then (count + 1) % 2 ^ 16 else count

-- ---- answers, and the latest command of their type

-- what is seen of answers above the first frame
abbrev pub no_answers : AddressAnswers
no_answers = record { command = None; same = 0; others = 0 }

-- what is seen below an answer, or another frame that is no command: it counts if it is of the type of the latest command
abbrev pub answers_below : Option AddressedFrame → AddressAnswers → AddressedFrame → AddressAnswers
answers_below None answers frame = answers
answers_below (Some command) answers frame = if frame.code == command.code + ANSWER
    then record answers {
      same = more_if (frame.address == command.address) answers.same;
      others = more_if (not (frame.address == command.address)) answers.others;
    }
    else answers

-- what is seen below a frame
abbrev pub answers_with : AddressAnswers → AddressedFrame → AddressAnswers
answers_with answers frame = if nat_lt frame.code ANSWER
    then record answers { command = Some frame }
    else answers_below answers.command answers frame

-- ---- turns: frames with one octet, one below the other

-- the turns above the first frame
abbrev pub no_turns : AddressTurns
no_turns = record { last = None; turns = replicate VALUES 0; values = 0; again = 0 }

-- an octet is that of the frame above
abbrev pub is_same_turn : Option ℕ → ℕ → Bool
is_same_turn None address = false
is_same_turn (Some last) address = last == address

-- how many turns an octet has after one more, at most two
abbrev pub one_turn_more : ℕ → ℕ
one_turn_more turns = if nat_lt turns 2 then turns + 1 else 2

-- the turns below one more of an octet that has had this many
abbrev pub turns_again : AddressTurns → ℕ → ℕ → AddressTurns
turns_again turns address count = record turns {
  last = Some address;
  turns = slice_set turns.turns address (one_turn_more count);
  values = more_if (count == 0) turns.values;
  again = more_if (count == 1) turns.again;
}

-- the turns below a frame with this octet
abbrev pub turns_with : AddressTurns → ℕ → AddressTurns
turns_with turns address = if is_same_turn turns.last address then turns
    else turns_again turns address (slice_index_or turns.turns address 0)

-- ---- polls

-- what is seen of polls above the first frame
abbrev pub no_polls : AddressPolls
no_polls = record { above = None; latest = replicate VALUES None; own = 0; passing = 0 }

-- a number goes on from another one: it is the same or the next
abbrev pub number_goes_on : ℕ → ℕ → Bool
number_goes_on above number = number == above || number == (above + 1) % 256

-- what is counted at a poll with the octet that the poll with the number `latest` had, but not the poll above
abbrev pub polls_back : AddressPolls → ℕ → ℕ → ℕ → AddressPolls
polls_back polls latest above number = record polls {
  own = more_if (number_goes_on latest number && not (number_goes_on above number)) polls.own;
  passing = more_if (number_goes_on above number && not (number_goes_on latest number)) polls.passing;
}

-- what is counted at a poll: only one with another octet than the poll above, which was there before, says something
abbrev pub polls_counted : Option AddressedFrame → Option ℕ → AddressPolls → AddressedFrame → AddressPolls
polls_counted None latest polls poll = polls
polls_counted (Some above) None polls poll = polls
polls_counted (Some above) (Some latest) polls poll = if above.address == poll.address then polls
    else polls_back polls latest above.number poll.number

-- what is seen below a poll
abbrev pub polls_seen : AddressPolls → AddressedFrame → AddressPolls
polls_seen polls poll = record (polls_counted polls.above (slice_index_or polls.latest poll.address None) polls poll) {
  above = Some poll;
  latest = slice_set polls.latest poll.address (Some poll.number);
}

-- what is seen of polls below a frame
abbrev pub polls_seen_below : AddressPolls → AddressedFrame → AddressPolls
polls_seen_below polls frame = if frame.code == POLL then polls_seen polls frame else polls

-- ---- the log

-- what is seen above the first frame
abbrev pub no_addresses : Addresses
no_addresses = record { frames = 0; answers = no_answers; turns = no_turns; polls = no_polls }

-- what is seen below a frame
abbrev pub addresses_below : Addresses → AddressedFrame → Addresses
addresses_below seen frame = record {
  frames = (seen.frames + 1) % 2 ^ 16;
  answers = answers_with seen.answers frame;
  turns = turns_with seen.turns frame.address;
  polls = polls_seen_below seen.polls frame;
}

-- what is seen below a frame: only the first ones show something
abbrev pub addresses_with : Addresses → AddressedFrame → Addresses
addresses_with seen frame = if nat_lt seen.frames SHOWN_FRAMES then addresses_below seen frame else seen

-- Almost all answers have the octet of their command.
abbrev pub answer_alike : AddressAnswers → Bool
answer_alike answers = nat_lt (SAME_ANSWERS * answers.others) answers.same

-- No more numbers of polls go on from the poll above than from the latest one with their octet: it is no counter.
abbrev pub are_of_stations : AddressPolls → Bool
are_of_stations polls = nat_le polls.passing polls.own

-- The octets are addresses: they are all the same; or answers have those of their commands, at least two come back after others, and
-- they are no counter.
abbrev pub are_addresses : Addresses → Bool
are_addresses seen = nat_lt seen.turns.values 2
    || answer_alike seen.answers && (nat_le 2 seen.turns.again && are_of_stations seen.polls)
