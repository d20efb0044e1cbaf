-- The rules on answers that read no times never accuse: `done`, `accepted`, `cleared` and `watchdog`.
use Rattle.fio_ends.proofs.Names.{◌≡◌, ◌∙◌, ◌&&◌, ◌||◌, ◌==◌, ℕ, ◌<◌, Bool, true, false, not, List, [], ◌∷◌, ◌++◌, refl, ap, sym, subst, arith, fold, if◌then◌else◌, list_any, nat_lt, nat_tests, InputItem, Answer, Command, Block, says_error, all_present, is_absent, Settings, Life, Occurrence, Commanded, life_of, Item, Entry, Gap, items_of_block, ContentFacts, content_with, Heard, Recorded, Ended, events_of_block, Accepted, Cleared, Done, Watchdog, ContentRule, Machine, Always, KeepsRule, below_clear, bit_at, bit_at-lt, bit_at-word_of, bit_of, block_answer, breaks_answer, error_back, error_status, flags_of, is_clear_end, is_some, items_and_end, list_all, same_from_bits_below, watchdog_of, word_of-fits, bit_and, and_le_l, bit_at_and, bit_at-zero, set_before_back, is_flag_up, word_of, is_set_dog, ContentNeverAccuses}
use Rattle.std.specs.Prelude.{min}
use Rattle.fio_message.specs.Bits.{is_set}
use Rattle.fio_message.specs.declared.commands.Command.TheVariants as commands
use Rattle.fio_ends.proofs.Answered.{Says, says_of}
use Rattle.fio_ends.proofs.Following.{GoesOn, IsSince}
use Rattle.fio_ends.proofs.ContentLines.{EventsKeep}
use Rattle.fio_ends.proofs.ContentHeld.{content_never_accuses}
use Rattle.fio_ends.proofs.ContentSteps.{Awaits, IsInvariant}

-- ---- a rule that is kept by each answer, and has no state

-- a rule on answers keeps entries and the ends of blocks
abbrev pub KeepsOthers : ContentRule → Type 0
KeepsOthers rule = (facts : ContentFacts) (input low wide status stamp : ℕ) (level : Bool) → KeepsRule rule facts (Recorded (Entry input level low wide))
    × KeepsRule rule facts (Recorded Gap) × KeepsRule rule facts (Ended status stamp)

pub items_keep : (rule : ContentRule) → KeepsOthers rule → (items : List Item) (facts : ContentFacts) (status stamp : ℕ)
    → EventsKeep rule facts (items_and_end items status stamp)
items_keep rule keeps [] facts status stamp = ((keeps facts 0 0 0 status stamp true).2, tt)
items_keep rule keeps (Gap ∷ items) facts status stamp =
    ((keeps facts 0 0 0 status stamp true).1, items_keep rule keeps items (content_with facts (Recorded Gap)) status stamp)
items_keep rule keeps (Entry input level low wide ∷ items) facts status stamp = (
  (keeps facts input low wide status stamp level).0,
  items_keep rule keeps items (content_with facts (Recorded (Entry input level low wide))) status stamp,
)

module _ (rule : ContentRule) (keeps : KeepsOthers rule)
    (blocks : (facts : ContentFacts) (answer : Block) → KeepsRule rule facts (Heard (block_answer answer)))
    (heard : (facts : ContentFacts) (life : Life) (command : Command) (answer : Answer) → Awaits facts command → Says life command answer
    → KeepsRule rule facts (Heard answer)) where
  pub stateless : (settings : Settings) (first : ℕ) (begin : Machine)
      → IsInvariant settings first begin rule (Unit {0}) tt (λ state machine event. tt) (λ state machine later. Unit {0}) (λ state from machine facts. Unit {0})
  stateless settings first begin = record {
    goes_on = λ state machine event rest holds. tt;
    begins = λ known. tt;
    happens = λ state from machine facts event rest known past holds p. tt;
    sends = λ state from machine facts event command known may within p. tt;
    receives = λ state from machine facts place frame known new at reads p. tt;
    hears = λ state from machine facts place rest command answer known h holds p.
        (heard facts h.life command answer h.awaits (says_of settings from machine facts place command answer h), tt);
    takes = λ state from machine facts place rest number answer block known t polls holds p. (
      (
        blocks facts answer,
        items_keep rule keeps (items_of_block answer) (content_with facts (Heard (block_answer answer))) answer.status answer.stamp,
      ),
      tt,
    );
  }

  kept_by_answers : ContentNeverAccuses rule Always
  kept_by_answers = content_never_accuses rule (Unit {0}) tt (λ state machine event. tt) (λ settings first begin state from machine facts. Unit {0})
      (λ settings first begin range. stateless settings first begin) (λ settings first. tt)

-- ---- done

pub done_heard : (facts : ContentFacts) (life : Life) (command : Command) (answer : Answer) → Awaits facts command → Says life command answer
    → breaks_answer facts answer Done ≡ false
done_heard facts life (commands.LoadCounter load) answer awaits says = rw says.is (error_back false)
done_heard facts life (commands.Poll number) answer awaits says = absurd says
done_heard facts life other answer awaits says = rw says.is refl

pub done_never_accuses : ContentNeverAccuses Done Always
done_never_accuses = kept_by_answers Done (λ facts input low wide status stamp level. (refl, tt, tt)) (λ facts answer. refl) done_heard

-- ---- accepted

-- where not all items are there, some input is absent
none_there : (there : Bool) (input : ℕ) → nat_lt input 64 ≡ there → is_absent input ≡ not there
none_there true input is = grind (arith, nat_tests)
none_there false input is = grind (arith, nat_tests)

by_item : (there all any : Bool) → (not all && not any) ≡ false → (not (there && all) && not (not there || any)) ≡ false
by_item true all any rest = rest
by_item false all any rest = refl

present_or_absent : (items : List InputItem)
    → (not (all_present items) && not (list_any (λ item. is_absent item.input) items)) ≡ false
present_or_absent [] = refl
present_or_absent (item ∷ items) =
    let there = nat_lt item.input 64 in
    let all = list_all (λ item. nat_lt item.input 64) items in
    let any = list_any (λ item. is_absent item.input) items in
    ap (λ absent. not (there && all) && not (absent || any)) (none_there there item.input refl)
    ∙ by_item there all any (present_or_absent items)

pub accepted_heard : (facts : ContentFacts) (life : Life) (command : Command) (answer : Answer) → Awaits facts command → Says life command answer
    → breaks_answer facts answer Accepted ≡ false
accepted_heard facts life (commands.ConfigureInputs items) answer awaits says =
    let refused = not (all_present items.items) in
    let is : (says_error (error_status refused) && not facts.absent_named) ≡ false =
    ap (λ error. error && not facts.absent_named) (error_back refused)
    ∙ ap (λ named. refused && not named) awaits.absent_named
    ∙ present_or_absent items.items in
    rw says.is is
accepted_heard facts life (commands.Poll number) answer awaits says = absurd says
accepted_heard facts life other answer awaits says = rw says.is refl

pub accepted_never_accuses : ContentNeverAccuses Accepted Always
accepted_never_accuses = kept_by_answers Accepted (λ facts input low wide status stamp level. (refl, tt, tt)) (λ facts answer. refl) accepted_heard

-- ---- cleared

none_of_bit : (bit : Bool) (cleared : ℕ) → cleared < 2 → min (bit_of (if cleared == 1 then false else bit)) cleared ≡ 0
none_of_bit bit cleared fits = grind arith

-- no flag is left that is cleared
none_left : (life : Life) (clear : ℕ) → bit_and (flags_of (Commanded (commands.Status clear) ∷ life)) clear ≡ 0
unfolding is_set
none_left life clear =
    let bit = λ (place : ℕ). is_flag_up place (Commanded (commands.Status clear) ∷ life) in
    same_from_bits_below 8 (bit_and (word_of 8 bit) clear) 0 (omega (arith, and_le_l (word_of 8 bit) clear, word_of-fits 8 bit)) (omega arith)
    (λ place below.
    bit_at_and (word_of 8 bit) clear place
    ∙ ap (λ b. min b (bit_at clear place)) (bit_at-word_of 8 bit place below)
    ∙ none_of_bit (is_flag_up place life) (bit_at clear place) (bit_at-lt clear place)
    ∙ sym (bit_at-zero place))

pub cleared_heard : (facts : ContentFacts) (life : Life) (command : Command) (answer : Answer) → Awaits facts command → Says life command answer
    → breaks_answer facts answer Cleared ≡ false
cleared_heard facts life (commands.Status clear) answer awaits says =
    let flags = flags_of (Commanded (commands.Status clear) ∷ life) in
    let is : not (bit_and flags facts.clearing == 0) ≡ false =
    ap (λ c. not (bit_and flags c == 0)) awaits.clearing ∙ ap (λ left. not (left == 0)) (none_left life clear) in
    rw says.is is
cleared_heard facts life (commands.Poll number) answer awaits says = absurd says
cleared_heard facts life other answer awaits says = rw says.is refl

pub cleared_never_accuses : ContentNeverAccuses Cleared Always
cleared_never_accuses = kept_by_answers Cleared (λ facts input low wide status stamp level. (refl, tt, tt)) (λ facts answer. refl) cleared_heard

-- ---- watchdog

-- a watchdog that is set stays so
abbrev pub IsSet : Life → Type 0
IsSet life = is_some (watchdog_of life) ≡ true

set-more : (more life : List Occurrence) → IsSet life → IsSet (more ++ life)
set-more [] life set = set
set-more (Commanded (commands.Watchdog timeout) ∷ more) life set = refl
set-more (other ∷ more) life set = set-more more life set

-- where the answer to a watchdog was heard, it is set since then
abbrev pub KeepsWatchdog : Life → ContentFacts → Type 0
KeepsWatchdog from facts = facts.watchdog_set ≡ true → IsSet from

watchdog_heard : (facts : ContentFacts) (life : Life) (command : Command) (answer : Answer) → Says life command answer
    → (facts.watchdog_set ≡ true → IsSet life) → breaks_answer facts answer Watchdog ≡ false
watchdog_heard facts life other answer says set = grind (arith, set_before_back)

-- the answer to a watchdog is heard
set_since : (command : Command) (life now : Life) (answer : Answer) → Says life command answer → IsSince command life now
    → is_some (is_set_dog (Heard answer)) ≡ true → IsSet now
set_since (commands.Watchdog timeout) life now answer says since is = subst IsSet (sym since.is) (set-more since.more (Commanded (commands.Watchdog timeout) ∷ life) refl)
set_since (commands.Poll number) life now answer says since is = absurd says
set_since other life now answer says since is = absurd (cc (sym (ap (λ a. is_some (is_set_dog (Heard a))) says.is) ∙ is))

set_then : (here before : Bool) (later : Life) → (here ≡ true → IsSet later) → (before ≡ true → IsSet later) → (here || before) ≡ true → IsSet later
set_then true before later new old is = new refl
set_then false before later new old is = old is

set-later : (before now : Life) → GoesOn before now → IsSet before → IsSet now
set-later before now g set = subst IsSet (sym g.is) (set-more g.more before set)

dog_ended : (clear : Bool) (ended : ContentFacts) (stamp : ℕ) → (if clear then below_clear ended stamp else ended).watchdog_set ≡ ended.watchdog_set
dog_ended true ended stamp = refl
dog_ended false ended stamp = refl

-- below the items of a block it is known as above them
dog_below : (facts : ContentFacts) (answer : Block) → (fold content_with facts (events_of_block answer)).watchdog_set ≡ facts.watchdog_set
dog_below facts answer = below (content_with facts (Heard (block_answer answer))) (items_of_block answer)
  where
    below : (above : ContentFacts) (items : List Item) → (fold content_with above (items_and_end items answer.status answer.stamp)).watchdog_set ≡ above.watchdog_set
    below above [] = dog_ended (is_clear_end (Ended answer.status answer.stamp)) _ answer.stamp
    below above (Gap ∷ items) = below (content_with above (Recorded Gap)) items
    below above (Entry input level low wide ∷ items) = below (content_with above (Recorded (Entry input level low wide))) items

pub watchdog_is_invariant : (settings : Settings) (first : ℕ) (begin : Machine)
    → IsInvariant settings first begin Watchdog (Unit {0}) tt (λ state machine event. tt) (λ state machine later. Unit {0}) (λ state from machine facts. KeepsWatchdog from facts)
watchdog_is_invariant settings first begin = record {
  goes_on = λ state machine event rest holds. tt;
  begins = λ known is. absurd (cc is);
  happens = λ state from machine facts event rest known past holds p. p;
  sends = λ state from machine facts event command known may within p is. set-later from (life_of machine.history) known.now (p is);
  receives = λ state from machine facts place frame known new at reads p. p;
  hears = λ state from machine facts place rest command answer known h holds p.
      (let says = says_of settings from machine facts place command answer h in (
        watchdog_heard facts h.life command answer says (λ is. set-later from h.life h.goes_on (p is)),
        set_then (is_some (is_set_dog (Heard answer))) facts.watchdog_set (life_of machine.history)
            (set_since command h.life (life_of machine.history) answer says h.since) (λ is. set-later from (life_of machine.history) known.now (p is)),
      ));
  takes = λ state from machine facts place rest number answer block known t polls holds p. (
    (
      refl,
      items_keep Watchdog (λ facts input low wide status stamp level. (refl, tt, tt)) (items_of_block answer) (content_with facts (Heard (block_answer answer))) answer.status answer.stamp,
    ),
    λ is. set-later from (life_of machine.history) known.now (p (sym (dog_below facts answer) ∙ is)),
  );
}

pub watchdog_never_accuses : ContentNeverAccuses Watchdog Always
watchdog_never_accuses = content_never_accuses Watchdog (Unit {0}) tt (λ state machine event. tt)
    (λ settings first begin state from machine facts. KeepsWatchdog from facts)
    (λ settings first begin range. watchdog_is_invariant settings first begin)
    (λ settings first is. absurd (cc is))
