-- An event of the link, not seen at the tap: what is known of the tap and of its judge stays.
use Rattle.fio_ends.proofs.Names.{◌≡◌, ◌∙◌, ◌+◌, ◌<◌, ◌≤◌, inl, inr, ℕ, Bool, List, [], ◌∷◌, ◌++◌, length, Option, Some, None, refl, ap, sym, subst, arith, append-nil, length-append, slice_get, Answer, Block, Checker, Command, Event, HasBlock, HasPoll, History, IsKept, IsNotRestart, IsWithinRanges, Machine, RuleLimits, SentFrame, Settings, after, after_delivery, after_delivery_to_cpu, after_delivery_to_module, after_sending, answer_frames, command_in, command_octets, get_after_push, get_before_push, in_order, life_of, next_round, number_of, poll_in, polls_with, refusal, reply_to, after_heard, HasPassed, MayArrive, Tap}
use Rattle.fio_message.specs.declared.commands.Command.TheVariants as commands
use Rattle.fio_module.specs.Life as module_events
use Rattle.fio_link.specs.declared.event.Event.TheVariants as events
use Rattle.fio_ends.proofs.BlocksOfLives.{blocks_stay}
use Rattle.fio_ends.proofs.TapKnown.{HasTaken, IsCommandFrame, KeepsTap, TappedOf, more_sent}

-- what is known stays
pub record Stays (settings : Settings) (limits : RuleLimits) (first : ℕ) (machine later : Machine) (tap : Tap) : Type 0 where
  pub keeps : KeepsTap first later tap
  pub known : (checker : Checker) (awaited polled : Option ℕ) (answered : Bool) → TappedOf settings limits first machine tap checker awaited polled answered
      → TappedOf settings limits first later tap checker awaited polled answered

longer : (frames more : List SentFrame) → length frames ≤ length (frames ++ more)
longer frames more = omega (arith, length-append frames more)

-- frames that were there are there where an answer, if any, is sent
block_before : (frames : List SentFrame) (reply : Option Answer) (round place : ℕ) (b : Block) (r : ℕ) → place < length frames
    → HasBlock (frames ++ answer_frames reply round) place b r → HasBlock frames place b r
block_before frames None round place b r low h = subst (λ all. HasBlock all place b r) (append-nil frames) h
block_before frames (Some answer) round place b r low h =
    elim (get_after_push frames _ place h.frame h.at_place) as (λ _. HasBlock frames place b r) [
      | inl old ↦ record { frame = h.frame; at_place = old; spells = h.spells; of_round = h.of_round }
      | inr new ↦ absurd (omega (arith, new.0))
    ]

module _ (settings : Settings) (limits : RuleLimits) (first : ℕ) (machine : Machine) (tap : Tap) (kept : IsKept settings first machine) (keeps : KeepsTap first machine tap) where
  -- ---- the CPU's end sends a command

  module _ (command : Command) where
    abbrev frame_of : SentFrame
    frame_of = record { octets = command_octets command; round = machine.round }

    sends : IsCommandFrame first frame_of → Stays settings limits first machine (after_sending machine command) tap
    sends is = record {
      keeps = record {
        commands_pass = more_sent (length machine.to_module) (length (machine.to_module ++ frame_of ∷ [])) tap.to_module
            (longer machine.to_module (frame_of ∷ [])) keeps.commands_pass;
        answers_pass = keeps.answers_pass;
        to_module = keeps.to_module;
        to_cpu = keeps.to_cpu;
        sent = λ place frame at.
            elim (get_after_push machine.to_module frame_of place frame at) as (λ _. IsCommandFrame first frame) [
              | inl old ↦ keeps.sent place frame old
              | inr new ↦ subst (IsCommandFrame first) (sym new.1) is
            ];
        taken = keeps.taken;
      };
      known = λ checker awaited polled answered k. record {
        limited = k.limited;
        facts = k.facts;
        latest = λ n is. (let l = k.latest n is in
            record {
              round = l.round;
              named = l.named;
              passed = λ place n r has h.
                  elim (get_after_push machine.to_module frame_of place h.frame h.at_place) as (λ _. r ≤ l.round) [
                    | inl old ↦ l.passed place n r has (record { frame = h.frame; at_place = old; spells = h.spells; of_round = h.of_round })
                    | inr new ↦ absurd (omega (arith, new.0, keeps.commands_pass.each (place + 1) has, keeps.commands_pass.last))
                  ];
              ahead = λ place n r le h.
                  elim (get_after_push machine.to_module frame_of place h.frame h.at_place) as (λ _. l.round ≤ r) [
                    | inl old ↦ l.ahead place n r le (record { frame = h.frame; at_place = old; spells = h.spells; of_round = h.of_round })
                    | inr new ↦ (let same : machine.round ≡ r = sym (ap (λ (f : SentFrame). f.round) new.1) ∙ h.of_round in
                        let upto : l.round ≤ machine.round = l.upto in
                        omega arith)
                  ];
              received = l.received;
              upto = l.upto;
              more = l.more;
            });
        waits = k.waits;
      };
    }

  -- ---- the module receives a frame

  module _ (place : ℕ) (frame : SentFrame) (at : slice_get machine.to_module place ≡ Some frame) (has : HasPassed tap.to_module (place + 1)) where
    abbrev reply : Option Answer
    reply = reply_to settings machine.history frame.octets

    received_if : (round : ℕ) (polled : Option ℕ) → poll_in frame.octets ≡ polled → next_round machine.polls ≤ round + 1
        → ((p n r : ℕ) → HasPassed tap.to_module (p + 1) → HasPoll machine.to_module p n r → r ≤ round)
        → next_round (polls_with polled frame.round machine.polls) ≤ round + 1
    received_if round None is low passed = low
    received_if round (Some number) is low passed =
        let less : frame.round ≤ round = passed place number frame.round has (record { frame = frame; at_place = at; spells = is; of_round = refl }) in
        omega arith

    taken_still : HasTaken machine.to_cpu tap.to_cpu machine.round → HasTaken (machine.to_cpu ++ answer_frames reply frame.round) tap.to_cpu machine.round
    taken_still (inl none) = inl none
    taken_still (inr (p, b, r, passed, h, is)) =
        inr (
          p,
          b,
          r,
          passed,
          record {
            frame = h.frame;
            at_place = get_before_push machine.to_cpu (answer_frames reply frame.round) p h.frame h.at_place;
            spells = h.spells;
            of_round = h.of_round;
          },
          is,
        )

    receives : Stays settings limits first machine (after_delivery_to_module settings machine (place + 1) (Some frame)) tap
    receives = record {
      keeps = record {
        commands_pass = keeps.commands_pass;
        answers_pass = more_sent (length machine.to_cpu) (length (machine.to_cpu ++ answer_frames reply frame.round)) tap.to_cpu
            (longer machine.to_cpu (answer_frames reply frame.round)) keeps.answers_pass;
        to_module = keeps.commands_pass.each (place + 1) has;
        to_cpu = keeps.to_cpu;
        sent = keeps.sent;
        taken = taken_still keeps.taken;
      };
      known = λ checker awaited polled answered k. record {
        limited = k.limited;
        facts = k.facts;
        latest = λ n is. (let l = k.latest n is in
            record {
              round = l.round;
              named = l.named;
              passed = l.passed;
              ahead = l.ahead;
              received = received_if l.round (poll_in frame.octets) refl l.received l.passed;
              upto = l.upto;
              more = λ m some. (let t = l.more m some in
                  record {
                    earlier = t.earlier;
                    block = t.block;
                    at_place = blocks_stay settings (life_of machine.history) (command_in frame.octets) t.earlier t.block t.at_place;
                    same = t.same;
                    near = t.near;
                    low = t.low;
                    now = t.now;
                    all = λ p b r passed h. t.all p b r passed (block_before machine.to_cpu reply frame.round p b r
                        (omega (arith, keeps.answers_pass.each (p + 1) passed, keeps.answers_pass.last)) h);
                  });
            });
        waits = k.waits;
      };
    }

  -- ---- the CPU's end hears a frame

  hears : (place : ℕ) (frame : SentFrame) → machine.last_to_cpu ≤ place + 1 → slice_get machine.to_cpu place ≡ Some frame → HasPassed tap.to_cpu (place + 1)
      → Stays settings limits first machine (after_delivery_to_cpu first machine (place + 1) (Some frame)) tap
  hears place frame le at has =
      after_heard first machine (in_order settings first machine kept.always) (λ later. Stays settings limits first machine later tap) place frame le at
      (record {
        keeps = record {
          commands_pass = keeps.commands_pass;
          answers_pass = keeps.answers_pass;
          to_module = keeps.to_module;
          to_cpu = keeps.answers_pass.each (place + 1) has;
          sent = keeps.sent;
          taken = keeps.taken;
        };
        known = λ checker awaited polled answered k. k;
      })
      (λ answer h. record {
        keeps = record {
          commands_pass = keeps.commands_pass;
          answers_pass = keeps.answers_pass;
          to_module = keeps.to_module;
          to_cpu = keeps.answers_pass.each (place + 1) has;
          sent = keeps.sent;
          taken = inr (place, answer, machine.round, has, h, refl);
        };
        known = λ checker awaited polled answered k. record {
          limited = k.limited;
          facts = k.facts;
          latest = λ n is. (let l = k.latest n is in
              record {
                round = l.round;
                named = l.named;
                passed = l.passed;
                ahead = l.ahead;
                received = l.received;
                upto = (let upto : l.round ≤ machine.round = l.upto in omega arith);
                more = l.more;
              });
          waits = k.waits;
        };
      })

  -- ---- any event

  -- something reaches the module that is no frame
  moved : (history : History) → KeepsTap first (record machine { history = history }) tap
  moved history = record {
    commands_pass = keeps.commands_pass;
    answers_pass = keeps.answers_pass;
    to_module = keeps.to_module;
    to_cpu = keeps.to_cpu;
    sent = keeps.sent;
    taken = keeps.taken;
  }

  pub stays : (event : Event) → refusal machine event ≡ None → IsNotRestart event → IsWithinRanges event → MayArrive tap event
      → Stays settings limits first machine (after settings first machine event) tap
  stays (events.Scan raw) fine none within passed = record { keeps = moved (module_events.Scan raw ∷ machine.history); known = λ checker awaited polled answered k. k }
  stays events.LineSync fine none within passed = record { keeps = moved (module_events.LineSync ∷ machine.history); known = λ checker awaited polled answered k. k }
  stays (events.Raise mask) fine none within passed = record { keeps = moved (module_events.Raise mask ∷ machine.history); known = λ checker awaited polled answered k. k }
  stays events.Restart fine none within passed = absurd none
  stays events.Poll fine none within passed = sends (commands.Poll (number_of first machine.round)) (inl refl)
  stays (events.Send command) fine none within passed = sends command (inr (command, fine, within, refl))
  stays (events.ToModule index) fine none within passed =
      after_delivery (λ n found. HasPassed tap.to_module n → Stays settings limits first machine (after_delivery_to_module settings machine n found) tap)
      machine.to_module machine.last_to_module index fine (λ place frame le at has. receives place frame at has) passed
  stays (events.ToCpu index) fine none within passed =
      after_delivery (λ n found. HasPassed tap.to_cpu n → Stays settings limits first machine (after_delivery_to_cpu first machine n found) tap)
      machine.to_cpu machine.last_to_cpu index fine (λ place frame le at has. hears place frame le at has) passed
