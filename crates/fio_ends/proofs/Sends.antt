-- The CPU's end sends a command: its line breaks no rule.
use Rattle.fio_ends.proofs.Names.{◌≡◌, ◌∙◌, ◌+◌, ◌%◌, ◌<◌, inl, inr, ℕ, Bool, true, false, List, [], ◌∷◌, ◌++◌, length, Option, Some, None, refl, ap, sym, subst, arith, length-append, if◌then◌else◌, ◌==◌, not, option_map, option_map_or, nat_tests, same_Some, slice_get_within, Command, command_octets, IsCommand, command_in, poll_in, Settings, facts_with, number_due, answer_type_to, names_absent, observation_in, observation_of, first_broken_within, Facts, RuleLimits, Observation, SentFrame, Machine, number_of, sending_refusal, after_sending, get_after_push, get_last, number_of-fits, none_more, CpuFrame, life_of, no_poll_in, observation_of_command, command_back}
use Rattle.fio_message.specs.declared.commands.Command.TheVariants as commands
use Rattle.fio_check.specs.declared.rules.Rule.TheVariants as tried
use Rattle.fio_check.specs.declared.observation.Observation.TheVariants as seen
use Rattle.fio_ends.proofs.Rules.{KeepsRules, no_rule_broken}
use Rattle.fio_ends.proofs.Following.{AreBefore, IsAsked, Stage, Follows, Keeps, MaySend}

-- a command within its ranges is read back
pub read_back : (command : Command) → IsCommand command → command_in (command_octets command) ≡ Some command
read_back command within = command_back command (command_octets command) (record { within = within; spelled = refl })

-- what it says
pub said_of : (command : Command) → IsCommand command
    → observation_in true (command_octets command) ≡ observation_of_command command
said_of command within = ap (λ read. observation_of read None) (read_back command within)

-- polls sent before one more frame, below its place
pub before_more : (frames : List SentFrame) (f : SentFrame) (polls : List ℕ) (round : ℕ)
    → AreBefore frames polls round (length frames) → AreBefore (frames ++ f ∷ []) polls round (length frames)
before_more frames f polls round b =
    record {
      sent = λ place n r low h.
          elim (get_after_push frames f place h.frame h.at_place) as (λ _. r < round) [
            | inl old ↦ b.sent place n r low (record { frame = h.frame; at_place = old; spells = h.spells; of_round = h.of_round })
            | inr new ↦ absurd (omega (arith, new.0))
          ];
      received = b.received;
    }

-- and all of them, where that frame is no poll
pub before_other : (frames : List SentFrame) (f : SentFrame) (polls : List ℕ) (round : ℕ) → poll_in f.octets ≡ None
    → AreBefore frames polls round (length frames)
    → AreBefore (frames ++ f ∷ []) polls round (length (frames ++ f ∷ []))
before_other frames f polls round none b =
    record {
      sent = λ place n r low h.
          (let old = none_more poll_in frames f none place n r h in
          b.sent place n r (slice_get_within frames place old.frame old.at_place) old);
      received = b.received;
    }

-- a number is not another than the one that is due, if any
is_due : (due : Option ℕ) (number : ℕ) → ((n : ℕ) → due ≡ Some n → n ≡ number)
    → option_map_or (λ n. not (number == n)) due false ≡ false
is_due None number same = refl
is_due (Some n) number same = let is : n ≡ number = same n refl in grind (arith, nat_tests)

-- a poll with the number that is due breaks no rule
pub poll_keeps : (facts : Facts) (number : ℕ) → ((n : ℕ) → number_due facts ≡ Some n → n ≡ number)
    → (limits : RuleLimits) → KeepsRules limits facts (seen.Poll number)
poll_keeps facts number same limits tried.Advance = is_due (number_due facts) number same
poll_keeps facts number same limits rule = refl

-- a poll that has another number than the poll before it comes after a block answer
was_answered : (polled : Option ℕ) (answered : Bool) (number : ℕ)
    → ((n : ℕ) → option_map (λ p. if answered then (p + 1) % 256 else p) polled ≡ Some n → n ≡ number)
    → option_map_or (λ p. not (number == p)) polled false ≡ true → answered ≡ true
was_answered polled answered number due advanced = grind arith

-- a command that may be handed in is no poll
no_poll : (command : Command) → sending_refusal command ≡ None
    → (number : ℕ) → command ≡ commands.Poll number → ⊥
no_poll command fine number is = let refused = rw is at fine in cc refused

-- what it says
pub other_said : (command : Command) → sending_refusal command ≡ None
    → observation_of_command command ≡ seen.Command (answer_type_to command) (names_absent command)
other_said (commands.Poll number) fine = absurd (cc fine)
other_said other fine = refl

module _ (settings : Settings) (first : ℕ) (machine : Machine) (facts : Facts)
    (f : MaySend settings first machine facts) where
  -- the frame of a command
  abbrev frame_of : Command → SentFrame
  frame_of command = record { octets = command_octets command; round = machine.round }

  -- the stage below a command
  under_way : (command : Command) (said : Observation) → IsCommand command
      → IsAsked first (facts_with facts said) machine.round command
      → ((number : ℕ) → command ≡ commands.Poll number → (facts_with facts said).advanced ≡ true
      → AreBefore (machine.to_module ++ frame_of command ∷ []) machine.polls machine.round (length machine.to_module))
      → Stage settings first (life_of machine.history) (facts_with facts said) (after_sending machine command) 0
  under_way command said within asked before =
      let frames = machine.to_module in
      inr (inl (
        command,
        record {
          asked = asked;
          place = length frames;
          frame = frame_of command;
          sent_last = length-append frames (frame_of command ∷ []);
          at_place = get_last frames (frame_of command);
          spells = read_back command within;
          passed = f.sent;
          none_due = refl;
          before = before;
        },
      ))

  -- the machine's own poll
  follows-poll : let number = number_of first machine.round in
      Follows settings first (life_of machine.history) (after_sending machine (commands.Poll number)) 0 (facts_with facts (seen.Poll number))
  follows-poll =
      let number = number_of first machine.round in
      let fits : number < 256 = omega (arith, number_of-fits first machine.round) in
      let command : Command = commands.Poll number in
      record {
        number = λ n is. sym (same_Some _ _ is);
        answered = λ is. absurd (cc is);
        more = λ m is. (let b = f.more m is in
            record { earlier = b.earlier; block = b.block; next = b.next; at_place = b.at_place; same = b.same });
        now = record { more = []; is = refl };
        stage = under_way command (seen.Poll number) fits
            (record {
              awaited = refl;
              named = refl;
              polled = λ n is. (let same : number ≡ n = cc is in (ap Some same, sym same));
            })
            (λ n is advanced. before_more machine.to_module (frame_of command) machine.polls machine.round
            (f.answered (was_answered facts.polled facts.answered number f.number advanced)));
      }

  pub sends-poll : let number = number_of first machine.round in
      let frame : CpuFrame = record { from_cpu = true; octets = command_octets (commands.Poll number) } in
      Keeps settings first (life_of machine.history) facts (frame ∷ []) (after_sending machine (commands.Poll number)) 0
  sends-poll =
      let number = number_of first machine.round in
      let fits : number < 256 = omega (arith, number_of-fits first machine.round) in
      let said = said_of (commands.Poll number) fits in
      record {
        rules = λ limits suit. (
          ap (first_broken_within limits facts) said
              ∙ no_rule_broken limits facts (seen.Poll number) (poll_keeps facts number f.number limits),
          tt,
        );
        follows = subst (λ o. Follows settings first (life_of machine.history) (after_sending machine (commands.Poll number)) 0 (facts_with facts o)) (sym said) follows-poll;
      }

  -- another command
  follows-other : (command : Command) → sending_refusal command ≡ None → IsCommand command
      → Follows settings first (life_of machine.history) (after_sending machine command) 0
      (facts_with facts (seen.Command (answer_type_to command) (names_absent command)))
  follows-other command fine within =
      let none = no_poll_in command fine in
      record {
        number = f.number;
        answered = λ is. before_other machine.to_module (frame_of command) machine.polls machine.round none (f.answered is);
        more = f.more;
        now = record { more = []; is = refl };
        stage = under_way command (seen.Command (answer_type_to command) (names_absent command)) within
            (record {
              awaited = refl;
              named = refl;
              polled = λ number is. absurd (no_poll command fine number is);
            })
            (λ number is advanced. absurd (no_poll command fine number is));
      }

  pub sends-other : (command : Command) → sending_refusal command ≡ None → IsCommand command
      → Keeps settings first (life_of machine.history) facts (record { from_cpu = true; octets = command_octets command } ∷ []) (after_sending machine command) 0
  sends-other command fine within = grind (arith, follows-other, other_said, said_of)
