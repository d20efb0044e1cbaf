-- What the CPU hears of the answer to a command that is no poll.
use Rattle.fio_ends.proofs.Names.{◌≡◌, ◌∙◌, ◌&&◌, ◌||◌, ℕ, Bool, true, false, List, [], ◌∷◌, Some, None, refl, ap, subst, arith, not, nat_le, nat_lt, list_any, same_Some, nat_tests, Answer, Command, InputItem, answer_octets, polled_number, says_error, all_present, Settings, Life, answer_to, answer_type_to, is_absent, names_absent, observation_in, error_back, error_status, list_all}
use Rattle.fio_message.specs.declared.commands.Command.TheVariants as commands
use Rattle.fio_message.specs.Decoding.{message_in}
use Rattle.fio_check.specs.declared.observation.Observation.TheVariants as seen

-- the octets are heard as an answer of the command's type, which does not say that a configuration was
-- taken that names an absent input
pub record IsSaidAs (command : Command) (octets : List ℕ) : Type 0 where
  pub accepted : Bool
  pub heard : observation_in false octets ≡ seen.Answer (answer_type_to command) accepted
  pub fair : (accepted && names_absent command) ≡ false

-- the same, and the octets are those of the module's answer to the command after this life
pub record IsHeardAs (settings : Settings) (life : Life) (command : Command) (octets : List ℕ) : Type 0 where
  pub accepted : Bool
  pub heard : observation_in false octets ≡ seen.Answer (answer_type_to command) accepted
  pub fair : (accepted && names_absent command) ≡ false
  pub answer : Answer
  pub replies : answer_to settings life command ≡ Some answer
  pub spells : octets ≡ answer_octets answer

-- of an input that is there, or not
pub present-if : (there : Bool) (input : ℕ) → nat_lt input 64 ≡ there → nat_le 64 input ≡ not there
present-if true input is = grind (arith, nat_tests)
present-if false input is = grind (arith, nat_tests)

absent-if : (there all any : Bool) → (all && any) ≡ false → ((there && all) && (not there || any)) ≡ false
absent-if true all any apart = apart
absent-if false all any apart = refl

-- a configuration that is applied names no absent input
present_or_absent : (items : List InputItem)
    → (list_all (λ item. nat_lt item.input 64) items && list_any (λ item. is_absent item.input) items) ≡ false
present_or_absent [] = refl
present_or_absent (item ∷ items) =
    let there = nat_lt item.input 64 in
    let all = list_all (λ item. nat_lt item.input 64) items in
    let any = list_any (λ item. is_absent item.input) items in
    ap (λ absent. (there && all) && (absent || any)) (present-if there item.input refl)
    ∙ absent-if there all any (present_or_absent items)

-- it is said to be taken where it is applied
accepted_is : (applied : Bool) → not (says_error (error_status (not applied))) ≡ applied
accepted_is true = ap not (error_back false)
accepted_is false = ap not (error_back true)

-- octets are said so where they spell such an answer
said_as : (settings : Settings) (life : Life) (command : Command) (answer : Answer) → polled_number (Some command) ≡ None
    → answer_to settings life command ≡ Some answer → IsSaidAs command (answer_octets answer)
unfolding message_in
said_as settings life (commands.Poll number) answer none is = absurd (cc none)
said_as settings life (commands.Other kind body) answer none is = absurd (cc is)
said_as settings life (commands.ConfigureInputs items) answer none is =
    let applied = all_present items.items in
    subst (λ a. IsSaidAs (commands.ConfigureInputs items) (answer_octets a)) (same_Some _ _ is)
    (record {
      accepted = not (says_error (error_status (not applied)));
      heard = refl;
      fair = ap (λ accepted. accepted && names_absent (commands.ConfigureInputs items)) (accepted_is applied)
          ∙ present_or_absent items.items;
    })
said_as settings life command answer none is =
    subst (λ a. IsSaidAs command (answer_octets a)) (same_Some _ _ is)
    (record { accepted = false; heard = refl; fair = refl })

-- and are heard so
pub heard_as : (settings : Settings) (life : Life) (command : Command) (answer : Answer) → polled_number (Some command) ≡ None
    → answer_to settings life command ≡ Some answer → IsHeardAs settings life command (answer_octets answer)
heard_as settings life command answer none is =
    let said = said_as settings life command answer none is in
    record {
      accepted = said.accepted;
      heard = said.heard;
      fair = said.fair;
      answer = answer;
      replies = is;
      spells = refl;
    }
