-- Each event of the link machine keeps which rounds the CPU has taken of each life.
use Rattle.std.proofs.lemmas.Bool.Decides.{nat_tests}
use Rattle.fio_link.proofs.Names.{◌≡◌, ℕ, zero, suc, ◌+◌, ◌≤◌, ◌⊎◌, Bool, true, false, List, [], ◌∷◌, ◌++◌, map, Option, Some, None, slice_get, refl, ap, sym, subst, ◌∙◌, arith, inl, inr, append_assoc, append-nil, option_map, flat_map, flat_map-append, map-append, slice_get-map, Command, Block, command_in, polled_number, Settings, AreInRange, Restart, History, Life, Commanded, life_of, life_after_command, MadeBlock, newest_poll, is_new, blocks_of, next_block, Item, items_of_block, Event, SentFrame, Machine, start, number_of, polls_with, after_module_event, after_delivery_to_module, IsRun, HasPoll, HasBlock, next_round, past_lives, newest_number}
use Rattle.fio_message.specs.declared.commands.Command.TheVariants as commands
use Rattle.fio_link.proofs.AllLives.{behind, past_blocks, all_blocks}
use Rattle.fio_link.proofs.Makers.{makers_of, makers_after}
use Rattle.fio_link.proofs.Kept.{HasInvariant, meets, blocks_if, makers_if}
use Rattle.fio_link.proofs.HeardRows.{after_taken}
use Rattle.fio_link.proofs.Events.{IsKeptByEvents}
use Rattle.fio_link.proofs.Rows.{keeps-start, kept_along}
use Rattle.fio_link.proofs.OneLife.{recorded_of, continues, items_of_block-carried}
use Rattle.fio_link.proofs.Spans.{Span, Of, made_in, blocks_in, rounds_in, taken_from, Chain, took}
use Rattle.fio_link.proofs.GrownSpans.{base_with, grown, begun, ends_with}

-- the blocks of the lives before the present one, life by life
abbrev pub past_made : Settings → History → List (List MadeBlock)
past_made settings history = map (blocks_of settings) (past_lives history)

-- Which rounds the CPU has taken of each life, for the blocks of the lives before and of the present one.
pub record InSpans (made : List (List MadeBlock)) (own : List MadeBlock) (makers : List ℕ) (next round : ℕ) (items : List Item)
    : Type 0 where
  pub spans : List Span
  pub blocks : map made_in spans ≡ made ++ own ∷ []
  pub rounds : makers ≡ rounds_in spans
  pub chain : Chain 0 0 spans next round
  pub kept : items ≡ flat_map recorded_of (taken_from 0 spans)

-- the same for a machine
abbrev pub HasSpans : Settings → Machine → Type 0
HasSpans settings machine =
    InSpans (past_made settings machine.history) (blocks_of settings (life_of machine.history))
    (makers_of machine.history machine.polls) (next_round machine.polls) machine.round machine.items

-- the start
spans-start : (settings : Settings) → HasSpans settings start
spans-start settings =
    record { spans = Of [] 0 0 ∷ []; blocks = refl; rounds = refl; chain = (omega arith, refl, (refl, refl)); kept = refl }

-- the module restarts
spans-restart : (made : List (List MadeBlock)) (own : List MadeBlock) (makers : List ℕ) (next round : ℕ) (items : List Item)
    → InSpans made own makers next round items → InSpans (made ++ own ∷ []) [] makers next round items
spans-restart made own makers next round items o = grind (arith, nat_tests, begun, map-append)

-- a poll of this round makes a block
spans-new : (made : List (List MadeBlock)) (own : List MadeBlock) (makers : List ℕ) (next round polled : ℕ) (items : List Item)
    (block : MadeBlock) → InSpans made own makers next round items
    → next ≤ polled + 1 → polled ≤ round → round ≤ polled + 1 → (own ≡ []) ⊎ (polled ≡ next)
    → InSpans made (own ++ block ∷ []) (makers ++ polled ∷ []) (polled + 1) round items
spans-new made own makers next round polled items block o high upto near fresh =
    let e = ends_with made own o.spans o.blocks in
    let g = grown 0 0 next round polled e.base e.to e.past own block
    (subst (λ ss. Chain 0 0 ss next round) e.are o.chain) high upto near fresh in
    let last = Of (own ++ block ∷ []) (base_with own e.base polled) e.to in
    record {
      spans = e.past ++ last ∷ [];
      blocks = map-append made_in e.past (last ∷ []) ∙ ap (λ bss. bss ++ (own ++ block ∷ []) ∷ []) e.before;
      rounds = ap (λ rs. rs ++ polled ∷ []) (o.rounds ∙ ap rounds_in e.are) ∙ sym g.rounds;
      chain = g.chain;
      kept = o.kept ∙ ap (λ ss. flat_map recorded_of (taken_from 0 ss)) e.are ∙ ap (flat_map recorded_of) (sym g.taken);
    }

-- the CPU takes a block of its round
spans-taken : (made : List (List MadeBlock)) (own : List MadeBlock) (makers : List ℕ) (next round p : ℕ) (items more : List Item)
    (block : MadeBlock) → (o : InSpans made own makers next round items)
    → slice_get (blocks_in o.spans) p ≡ Some block → slice_get makers p ≡ Some round → more ≡ recorded_of block
    → InSpans made own makers next (round + 1) (items ++ more)
spans-taken made own makers next round p items more block o at maker is =
    let t = took 0 0 next round o.spans p block o.chain at (ap (λ ms. slice_get ms p) (sym o.rounds) ∙ maker) in
    record {
      spans = t.later;
      blocks = t.same_blocks ∙ o.blocks;
      rounds = o.rounds ∙ sym t.same_rounds;
      chain = t.chain;
      kept = ap (λ is. is ++ more) o.kept
          ∙ ap (λ is. flat_map recorded_of (taken_from 0 o.spans) ++ is) (is ∙ sym (append-nil (recorded_of block)))
          ∙ sym (flat_map-append recorded_of (taken_from 0 o.spans) (block ∷ []))
          ∙ ap (flat_map recorded_of) (sym t.taken);
    }

-- a life without polls has no blocks
none_made : (settings : Settings) (life : Life) → newest_poll life ≡ None → blocks_of settings life ≡ []
none_made settings [] is = refl
none_made settings (Commanded (commands.Poll number) ∷ life) is = absurd (cc is)
none_made settings (other ∷ life) is = none_made settings life is

-- the blocks of a life after others are recorded as they are
recorded_behind : (past : ℕ) (blocks : List MadeBlock)
    → map recorded_of (map (behind past) blocks) ≡ map recorded_of blocks
recorded_behind past [] = refl
recorded_behind past (block ∷ blocks) = ap (λ is. recorded_of block ∷ is) (recorded_behind past blocks)

-- lists joined
abbrev joined_lists : List (List MadeBlock) → List MadeBlock
joined_lists [] = []
joined_lists (blocks ∷ lists) = blocks ++ joined_lists lists

joined_lists-push : (lists : List (List MadeBlock)) (blocks : List MadeBlock)
    → joined_lists (lists ++ blocks ∷ []) ≡ joined_lists lists ++ blocks
joined_lists-push [] blocks = append-nil blocks
joined_lists-push (first ∷ lists) blocks =
    ap (λ bs. first ++ bs) (joined_lists-push lists blocks) ∙ sym (append_assoc first (joined_lists lists) blocks)

-- the blocks of spans are those lists joined
blocks_joined : (spans : List Span) → blocks_in spans ≡ joined_lists (map made_in spans)
blocks_joined [] = refl
blocks_joined (Of blocks base to ∷ spans) = ap (λ bs. blocks ++ bs) (blocks_joined spans)

-- the blocks of the lives before the present one are recorded as they are in their lives
abbrev ArePastRecorded : Settings → History → Type 0
ArePastRecorded settings history =
    map recorded_of (past_blocks settings history) ≡ map recorded_of (joined_lists (past_made settings history))

-- so are then those of all lives
with_own : (settings : Settings) (history : History) → ArePastRecorded settings history
    → map recorded_of (all_blocks settings history)
    ≡ map recorded_of (joined_lists (past_made settings history ++ blocks_of settings (life_of history) ∷ []))
with_own settings history past = grind (arith, nat_tests, map-append, behind, recorded_behind, joined_lists-push)

past_recorded : (settings : Settings) (history : History) → ArePastRecorded settings history
past_recorded settings [] = refl
past_recorded settings (Restart ∷ history) =
    with_own settings history (past_recorded settings history)
    ∙ ap (λ bss. map recorded_of (joined_lists bss)) (sym (map-append (blocks_of settings) (past_lives history) (life_of history ∷ [])))
past_recorded settings (other ∷ history) = past_recorded settings history

-- an element of a list that is made from another comes from one of its elements
from_map : {A B : Type 0} (f : A → B) (xs : List A) (p : ℕ) (y : B) → slice_get (map f xs) p ≡ Some y
    → (x : A) × (slice_get xs p ≡ Some x) × (f x ≡ y)
from_map f [] p y is = absurd (cc is)
from_map f (x ∷ xs) zero y is = (x, refl, cc)
from_map f (x ∷ xs) (suc p) y is = from_map f xs p y is

module _ (settings : Settings) (range : AreInRange settings) (first : ℕ) (machine : Machine)
    (i : HasInvariant settings first machine) (o : HasSpans settings machine) where
  abbrev life : Life
  life = life_of machine.history

  abbrev makers : List ℕ
  makers = makers_of machine.history machine.polls

  -- a new poll is the first of its life, or of the round after the newest
  fresh : (number round : ℕ) (latest : Option ℕ) → newest_poll life ≡ latest → is_new latest number ≡ true
      → number ≡ number_of first round → round ≤ next_round machine.polls → next_round machine.polls ≤ round + 1
      → (blocks_of settings life ≡ []) ⊎ (round ≡ next_round machine.polls)
  fresh number round None known is named low high = inl (none_made settings life known)
  fresh number round (Some before) known is named low high =
      let newest = i.received.newest before known in
      let same : newest_number first machine.polls ≡ Some before =
      newest_from machine.polls before newest.0 (i.received.numbered ∙ newest.1) in
      inr (continues first round number machine.polls true named low high
      (ap (λ latest. is_new latest number) same ∙ is)).0
    where
      newest_from : (polls : List ℕ) (before : ℕ) (older : List ℕ) → map (number_of first) polls ≡ before ∷ older
          → newest_number first polls ≡ Some before
      newest_from [] before older is = absurd (cc is)
      newest_from (round ∷ rounds) before older is = let same : number_of first round ≡ before = cc in ap Some same

  -- a poll is received, new or not
  received_poll : (number round : ℕ) (new : Bool) → is_new (newest_poll life) number ≡ new
      → number ≡ number_of first round → round ≤ machine.round → next_round machine.polls ≤ round + 1
      → InSpans (past_made settings machine.history) (blocks_if settings life new) (makers_if makers round new)
      (round + 1) machine.round machine.items
  received_poll number round true is named low high =
      let upto : machine.round ≤ next_round machine.polls = i.answers.behind in
      spans-new (past_made settings machine.history) (blocks_of settings life) makers (next_round machine.polls) machine.round
      round machine.items (next_block settings life) o high low (omega arith)
      (fresh number round (newest_poll life) refl is named (omega arith) high)
  received_poll number round false is named low high =
      let upto : machine.round ≤ next_round machine.polls = i.answers.behind in
      let met : round + 1 ≡ next_round machine.polls =
      meets first round number (newest_poll life) machine.polls _ false i.received.numbered i.received.newest
      named (omega arith) high is in
      subst (λ next. InSpans (past_made settings machine.history) (blocks_of settings life) makers next machine.round machine.items)
      (sym met) o

  -- a frame is received that is read as this command, or as none
  received_frame : (place : ℕ) (frame : SentFrame) → machine.last_to_module ≤ place + 1
      → slice_get machine.to_module place ≡ Some frame
      → (command : Option Command) → command_in frame.octets ≡ command
      → InSpans (past_made settings machine.history) (blocks_of settings (life_after_command command life))
      (makers_after (polled_number command) (newest_poll life) (makers_of machine.history)
      (polls_with (polled_number command) frame.round machine.polls))
      (next_round (polls_with (polled_number command) frame.round machine.polls)) machine.round machine.items
  received_frame place frame le at (Some (commands.Poll number)) spells =
      let round = frame.round in
      let poll : HasPoll machine.to_module place number round =
      record { frame = frame; at_place = at; spells = ap polled_number spells; of_round = refl } in
      received_poll number round (is_new (newest_poll life) number) refl (i.polls.numbers place number round poll)
      (i.polls.sent place number round poll) (i.polls.ahead place number round le poll)
  received_frame place frame le at command spells = o

  -- the module receives a frame
  spans_received : (place : ℕ) (frame : SentFrame) → machine.last_to_module ≤ place + 1
      → slice_get machine.to_module place ≡ Some frame
      → HasSpans settings (after_delivery_to_module settings machine (place + 1) (Some frame))
  spans_received place frame le at = received_frame place frame le at (command_in frame.octets) refl

  -- the CPU takes the block of its round
  spans_taken : (place : ℕ) (answer : Block) → HasBlock machine.to_cpu place answer machine.round
      → HasSpans settings (after_taken machine place answer)
  spans_taken place answer block =
      let b = i.carry place answer machine.round block in
      let made = past_made settings machine.history ++ blocks_of settings life ∷ [] in
      let recorded_at : slice_get (map recorded_of (all_blocks settings machine.history)) b.place ≡ Some (recorded_of b.block) =
      slice_get-map recorded_of (all_blocks settings machine.history) b.place ∙ ap (option_map recorded_of) b.is_made in
      let joined : map recorded_of (all_blocks settings machine.history) ≡ map recorded_of (blocks_in o.spans) =
      with_own settings machine.history (past_recorded settings machine.history)
      ∙ ap (λ bss. map recorded_of (joined_lists bss)) (sym o.blocks)
      ∙ ap (map recorded_of) (sym (blocks_joined o.spans)) in
      let found = from_map recorded_of (blocks_in o.spans) b.place (recorded_of b.block)
      (ap (λ is. slice_get is b.place) (sym joined) ∙ recorded_at) in
      spans-taken (past_made settings machine.history) (blocks_of settings life) makers (next_round machine.polls) machine.round
      b.place machine.items (items_of_block answer) found.0 o found.1 b.made_by
      (items_of_block-carried answer b.block b.carried ∙ sym found.2)

module _ (settings : Settings) (range : AreInRange settings) (first : ℕ) where
  -- each event keeps it
  spans_rows : IsKeptByEvents settings first (HasInvariant settings first) (HasSpans settings)
  spans_rows =
      record {
        scans = λ machine raw i o. o;
        syncs = λ machine i o. o;
        raises = λ machine mask i o. o;
        sends = λ machine command i number o. o;
        receives = λ machine place frame i le at o. spans_received settings range first machine i o place frame le at;
        passes = λ machine index i le o. o;
        takes = λ machine place answer i has o. spans_taken settings range first machine i o place answer has;
      }

  restarted : (machine : Machine) → HasSpans settings machine → HasSpans settings (after_module_event machine Restart)
  restarted machine o =
      let life = life_of machine.history in
      let makers = makers_of machine.history machine.polls in
      subst (λ made. InSpans made [] makers (next_round machine.polls) machine.round machine.items)
      (sym (map-append (blocks_of settings) (past_lives machine.history) (life ∷ [])))
      (spans-restart (past_made settings machine.history) (blocks_of settings life) makers (next_round machine.polls)
      machine.round machine.items o)

  -- every run keeps it
  pub has_spans : (events : List Event) (machine : Machine) → IsRun settings first events machine → HasSpans settings machine
  has_spans events machine run =
      kept_along settings range first (HasSpans settings) spans_rows restarted events start machine run
      (keeps-start settings first) (spans-start settings)
