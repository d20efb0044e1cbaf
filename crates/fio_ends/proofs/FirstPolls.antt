-- The first poll for the block that is due. If that block is made, it was made at this poll or later: all that was sent above was
-- received by then, or is lost.
use Rattle.fio_ends.proofs.Names.{◌≡◌, ◌∙◌, ◌+◌, ◌<◌, ◌≤◌, ◌⊎◌, inl, inr, ℕ, Bool, true, false, List, [], ◌∷◌, ◌++◌, length, length-append, Option, Some, None, refl, ap, sym, subst, arith, slice_get, slice_get_within, AllByRecursion, same_Some, Command, command_in, poll_in, InputItem, ArrayVec, Settings, Life, Occurrence, Scanned, LineSynced, Raised, Commanded, life_after_command, blocks_of, SentFrame, HasPoll, next_round, get_after_push, Sent, cases_lt, item_for, items_sent, polling, polls_with, unwrap_or}
use Rattle.fio_message.specs.declared.commands.Command.TheVariants as commands
use Rattle.fio_ends.proofs.Following.{AreBefore, IsNoCommand}
use Rattle.fio_ends.proofs.Receives.{before_received}
use Rattle.fio_ends.proofs.Sends.{before_more, before_other}

-- ---- what has no item of an input

-- this command has none
abbrev pub NamesNot : ℕ → Option Command → Type 0
NamesNot input command = (items : ArrayVec InputItem) → command ≡ Some (commands.ConfigureInputs items) → item_for input items.items ≡ None

-- nor has a frame from this place on
abbrev pub NoneNames : List SentFrame → ℕ → ℕ → Type 0
NoneNames frames from input =
    (place : ℕ) (frame : SentFrame) → from ≤ place → slice_get frames place ≡ Some frame → NamesNot input (command_in frame.octets)

-- of what happens to the module: it is no command with one
abbrev pub LeavesInput : ℕ → Occurrence → Type 0
LeavesInput input (Commanded command) = NamesNot input (Some command)
LeavesInput input other = Unit {0}

-- nothing that is no command has one
pub leaves_quiet : (input : ℕ) (more : List Occurrence) → AllByRecursion IsNoCommand more → AllByRecursion (LeavesInput input) more
leaves_quiet input [] quiet = tt
leaves_quiet input (Commanded command ∷ more) quiet = absurd quiet.0
leaves_quiet input (Scanned raw ∷ more) quiet = (tt, leaves_quiet input more quiet.1)
leaves_quiet input (LineSynced ∷ more) quiet = (tt, leaves_quiet input more quiet.1)
leaves_quiet input (Raised mask ∷ more) quiet = (tt, leaves_quiet input more quiet.1)

-- ---- the first poll

-- since a life at which the block of this round was not made, no command with an item of these inputs was received
pub record IsLeftSince (settings : Settings) (round : ℕ) (now : Life) (since : ℕ → Bool) : Type 0 where
  pub before : Life
  pub few : length (blocks_of settings before) ≤ round
  pub more : List Occurrence
  pub is : now ≡ more ++ before
  pub none : (input : ℕ) → since input ≡ false → AllByRecursion (LeavesInput input) more

-- the block of a round is not made; or the first poll of the round at this place, or one below, is received, and since a life at
-- which the block was not made no item of these inputs is
abbrev pub IsBelow : Settings → List SentFrame → ℕ → ℕ → Life → (ℕ → Bool) → ℕ → Type 0
IsBelow settings frames last round now since place =
    (length (blocks_of settings now) ≤ round) ⊎ ((place < last) × IsLeftSince settings round now since)

-- the frame at a place is the first poll of a round, and the frames from there on have no item of the inputs of which none was sent
-- since
pub record HasFirstPoll (settings : Settings) (frames : List SentFrame) (last round : ℕ) (now : Life) (since : ℕ → Bool) : Type 0 where
  pub place : ℕ
  pub inside : place < length frames
  pub earlier : (at n r : ℕ) → at < place → HasPoll frames at n r → r < round
  pub names : (input : ℕ) → since input ≡ false → NoneNames frames place input
  pub below : IsBelow settings frames last round now since place

-- what is known of the polls of a round, by what is known of content
pub record KnowsPolls (settings : Settings) (frames : List SentFrame) (polls : List ℕ) (last round : ℕ) (now : Life) (clear polled : Bool) (since : ℕ → Bool) : Type 0 where
  pub unpolled : clear ≡ true → polled ≡ false → AreBefore frames polls round (length frames)
  pub first_poll : clear ≡ true → polled ≡ true → HasFirstPoll settings frames last round now since

-- ---- something happens that is no command

left-more : (settings : Settings) (round : ℕ) (now : Life) (since : ℕ → Bool) (occurrence : Occurrence) → ((input : ℕ) → since input ≡ false → LeavesInput input occurrence)
    → IsLeftSince settings round now since → IsLeftSince settings round (occurrence ∷ now) since
left-more settings round now since occurrence leaves l = record {
  before = l.before;
  few = l.few;
  more = occurrence ∷ l.more;
  is = ap (λ life. occurrence ∷ life) l.is;
  none = λ input free. (leaves input free, l.none input free);
}

module _ (settings : Settings) (frames : List SentFrame) (polls : List ℕ) (last round : ℕ) (now : Life) (clear polled : Bool) (since : ℕ → Bool)
    (p : KnowsPolls settings frames polls last round now clear polled since) where
  happened : (occurrence : Occurrence) → blocks_of settings (occurrence ∷ now) ≡ blocks_of settings now → ((input : ℕ) → LeavesInput input occurrence)
      → KnowsPolls settings frames polls last round (occurrence ∷ now) clear polled since
  happened occurrence same leaves = grind (arith, left-more)

  pub polls_scanned : (raw : ℕ) → KnowsPolls settings frames polls last round (Scanned raw ∷ now) clear polled since
  polls_scanned raw = happened (Scanned raw) refl (λ input. tt)

  pub polls_synced : KnowsPolls settings frames polls last round (LineSynced ∷ now) clear polled since
  polls_synced = happened LineSynced refl (λ input. tt)

  pub polls_raised : (mask : ℕ) → KnowsPolls settings frames polls last round (Raised mask ∷ now) clear polled since
  polls_raised mask = happened (Raised mask) refl (λ input. tt)

  -- ---- a command is sent

  module _ (f : SentFrame) (made : next_round polls ≡ length (blocks_of settings now)) where
    -- a poll, if none is above
    first_begins : AreBefore frames polls round (length frames) → ((items : ArrayVec InputItem) → command_in f.octets ≡ Some (commands.ConfigureInputs items) → ⊥)
        → (below : ℕ → Bool) → HasFirstPoll settings (frames ++ f ∷ []) last round now below
    first_begins b none below = record {
      place = length frames;
      inside = omega (arith, length-append frames (f ∷ []));
      earlier = λ at n r low has. (before_more frames f polls round b).sent at n r low has;
      names = λ input free place frame high at.
          elim (get_after_push frames f place frame at) as (λ _. NamesNot input (command_in frame.octets)) [
            | inl old ↦ absurd (omega (arith, high, slice_get_within frames place frame old))
            | inr new ↦ (λ items spells. absurd (none items (ap (λ (g : SentFrame). command_in g.octets) (sym new.1) ∙ spells)))
          ];
      below = inl (omega (arith, made, b.received));
    }

    -- a command, if a poll is above
    first_stays : (below : ℕ → Bool) → ((input : ℕ) → below input ≡ false → (since input ≡ false) × NamesNot input (command_in f.octets))
        → HasFirstPoll settings frames last round now since → HasFirstPoll settings (frames ++ f ∷ []) last round now below
    first_stays below fewer h = record {
      place = h.place;
      inside = omega (arith, h.inside, length-append frames (f ∷ []));
      earlier = λ at n r low has.
          elim (get_after_push frames f at has.frame has.at_place) as (λ _. r < round) [
            | inl old ↦ h.earlier at n r low (record { frame = has.frame; at_place = old; spells = has.spells; of_round = has.of_round })
            | inr new ↦ absurd (omega (arith, low, new.0, h.inside))
          ];
      names = λ input free place frame high at.
          elim (get_after_push frames f place frame at) as (λ _. NamesNot input (command_in frame.octets)) [
            | inl old ↦ h.names input (fewer input free).0 place frame high old
            | inr new ↦ subst (λ (g : SentFrame). NamesNot input (command_in g.octets)) (sym new.1) (fewer input free).1
          ];
      below = by h.below;
    }
      where
        by : IsBelow settings frames last round now since h.place → IsBelow settings (frames ++ f ∷ []) last round now below h.place
        by (inl early) = inl early
        by (inr late) = inr (
          late.0,
          record {
            before = late.1.before;
            few = late.1.few;
            more = late.1.more;
            is = late.1.is;
            none = λ input free. late.1.none input (fewer input free).0;
          },
        )

    -- any command: of the inputs of which no item was sent since it has none, if a poll is above or it is one
    pub polls_sent : (command : Command) → command_in f.octets ≡ Some command → (below : ℕ → Bool)
        → (unwrap_or (polling (Sent command)) polled ≡ true → (input : ℕ) → below input ≡ false → (since input ≡ false) × (item_for input (items_sent command) ≡ None))
        → KnowsPolls settings (frames ++ f ∷ []) polls last round now clear (unwrap_or (polling (Sent command)) polled) below
    polls_sent command reads below fewer = by command reads fewer
      where
        names : (command : Command) → command_in f.octets ≡ Some command → (input : ℕ) → item_for input (items_sent command) ≡ None → NamesNot input (command_in f.octets)
        names command reads input none items spells =
            let same : command ≡ commands.ConfigureInputs items = same_Some _ _ (sym reads ∙ spells) in
            ap (λ c. item_for input (items_sent c)) (sym same) ∙ none

        by : (command : Command) → command_in f.octets ≡ Some command
            → (unwrap_or (polling (Sent command)) polled ≡ true → (input : ℕ) → below input ≡ false → (since input ≡ false) × (item_for input (items_sent command) ≡ None))
            → KnowsPolls settings (frames ++ f ∷ []) polls last round now clear (unwrap_or (polling (Sent command)) polled) below
        by (commands.Poll number) reads fewer = record { unpolled = λ on free. absurd (cc free); first_poll = λ on held. by-polled polled refl on }
          where
            by-polled : (was : Bool) → polled ≡ was → clear ≡ true → HasFirstPoll settings (frames ++ f ∷ []) last round now below
            by-polled true is on = first_stays below (λ input free. (let l = fewer refl input free in (l.0, names (commands.Poll number) reads input l.1))) (p.first_poll on is)
            by-polled false is on = first_begins (p.unpolled on is) (λ items spells. absurd (cc (sym reads ∙ spells))) below
        by other reads fewer = record {
          unpolled = λ on free. before_other frames f polls round (rw reads refl) (p.unpolled on free);
          first_poll = λ on held. first_stays below (λ input free. (let l = fewer held input free in (l.0, names other reads input l.1))) (p.first_poll on held);
        }

  -- ---- the module receives a frame

  -- the frame at a place; its polls then are as many as its blocks
  pub polls_received : (place : ℕ) (frame : SentFrame) → last ≤ place → slice_get frames place ≡ Some frame
      → (made : next_round polls ≡ length (blocks_of settings now))
      → next_round (polls_with (poll_in frame.octets) frame.round polls) ≡ length (blocks_of settings (life_after_command (command_in frame.octets) now))
      → KnowsPolls settings frames (polls_with (poll_in frame.octets) frame.round polls) (place + 1) round (life_after_command (command_in frame.octets) now) clear polled since
  polls_received place frame new at made made_then = record {
    unpolled = λ on free. before_received frames polls round (length frames) place frame (poll_in frame.octets) at refl (slice_get_within frames place frame at) (p.unpolled on free);
    first_poll = λ on held. (let h = p.first_poll on held in record {
      place = h.place;
      inside = h.inside;
      earlier = h.earlier;
      names = h.names;
      below = by h h.below;
    });
  }
    where
      command : Option Command
      command = command_in frame.octets

      left-command : (command : Option Command) → (l : IsLeftSince settings round now since) → ((input : ℕ) → since input ≡ false → NamesNot input command)
          → IsLeftSince settings round (life_after_command command now) since
      left-command None l names = l
      left-command (Some command) l names = left-more settings round now since (Commanded command) (λ input free. names input free) l

      -- a poll above the first one of the round makes no block of it
      few-received : (h : HasFirstPoll settings frames last round now since) → place < h.place → length (blocks_of settings now) ≤ round
          → (polled : Option ℕ) → poll_in frame.octets ≡ polled → next_round (polls_with polled frame.round polls) ≤ round
      few-received h low few None is = omega (arith, made, few)
      few-received h low few (Some number) is =
          let less = h.earlier place number frame.round low (record { frame = frame; at_place = at; spells = is; of_round = refl }) in
          omega (arith, less)

      by : (h : HasFirstPoll settings frames last round now since) → IsBelow settings frames last round now since h.place
          → IsBelow settings frames (place + 1) round (life_after_command command now) since h.place
      by h (inr late) = inr (omega (arith, late.0, new), left-command command late.1 (λ input free. h.names input free place frame (omega (arith, late.0, new)) at))
      by h (inl early) = elim (cases_lt place h.place) as (λ _. IsBelow settings frames (place + 1) round (life_after_command command now) since h.place) [
        | inl low ↦ inl (omega (arith, made_then, few-received h low early (poll_in frame.octets) refl))
        | inr high ↦
            inr (
              omega (arith, high),
              left-command command (record { before = now; few = early; more = []; is = refl; none = λ input free. tt })
                  (λ input free. h.names input free place frame high at),
            )
      ]

-- ---- a block is taken

-- below it no poll of the next round is sent
pub polls_taken : (settings : Settings) (frames : List SentFrame) (polls : List ℕ) (last round : ℕ) (now : Life) (clear polled : Bool) (since : ℕ → Bool) → polled ≡ false
    → ((place n r : ℕ) → HasPoll frames place n r → r ≤ round) → next_round polls ≤ round + 1
    → KnowsPolls settings frames polls last (round + 1) now clear polled since
polls_taken settings frames polls last round now clear polled since none sent most = record {
  unpolled = λ on free. record { sent = λ place n r low has. (let le = sent place n r has in omega (arith, le)); received = most };
  first_poll = λ on held. absurd (cc (sym none ∙ held));
}

-- ---- a log begins

pub polls_begin : (settings : Settings) (frames : List SentFrame) (polls : List ℕ) (last round : ℕ) (now : Life) (polled : Bool) (since : ℕ → Bool)
    → KnowsPolls settings frames polls last round now false polled since
polls_begin settings frames polls last round now polled since = record { unpolled = λ on free. absurd (cc on); first_poll = λ on held. absurd (cc on) }

-- with both ends
pub polls_begun : (settings : Settings) (since : ℕ → Bool) → KnowsPolls settings [] [] 0 0 [] true false since
polls_begun settings since = grind arith
