-- Runs in which the maker of the module answers: leaving out his answers leaves a run that is otherwise the same.
use Rattle.fio_link.proofs.Names.{◌≡◌, ℕ, suc, ◌+◌, ◌≤◌, ◌==◌, Bool, true, false, List, [], ◌∷◌, ◌++◌, length, map, Option, Some, None, slice_get, refl, ap, sym, subst, ◌∙◌, arith, nat_tests, if◌then◌else◌, map-append, append-nil, length-map, length-append, slice_get-map, slice_get_within, option_map, Block, block_in, items_of_block, Settings, Event, SentFrame, Machine, start, number_of, item_numbered, delivery_refusal, refusal, answer_frames, after_delivered_block, after_delivery_to_module, after_delivery_to_cpu, after, Leads, HaveNoRestart}
use Rattle.fio_message.specs.declared.answers.OtherAnswer.{OtherAnswer}
use Rattle.fio_module.specs.Makers.{makers_answer}
use Rattle.fio_module.specs.Replies.{reply_to}
use Rattle.fio_link.specs.Answered.{Answer, AnsweredEvent, AnsweredLead, AnswersKeepRecord, IsSameBut, RecordStands, Link, Makers, Own, RunsWithoutAnswers, Sent, events_of_link, frame_carried, makers_frame, own_frames}
use Rattle.fio_link.specs.declared.event.Event.TheVariants as events
use Rattle.fio_link.proofs.Events.{deliverable}
use Rattle.fio_link.proofs.LeftOut.{frames-own, own-append, own-own, own_at, rank, rank-append, rank-mono}
use Rattle.fio_link.proofs.Places.{some_block}
use Rattle.fio_link.proofs.Promises.{runs_are_sound}
use Rattle.fio_link.proofs.Spelled.{no_block_in}

-- a machine to whose frames the maker's answers were added, and whose CPU heard the frame with this number last
abbrev with_sent : Machine → List Sent → ℕ → Machine
with_sent plain sent last = record plain { to_cpu = map frame_carried sent; last_to_cpu = last }

-- these are the machine's own frames with the maker's among them
record Fits (plain : Machine) (sent : List Sent) (last : ℕ) : Type 0 where
  own : own_frames sent ≡ plain.to_cpu
  within : last ≤ length sent
  heard : plain.last_to_cpu ≤ rank sent last

-- what is to be shown of the machine after further events
abbrev WithoutAnswers : Settings → ℕ → List AnsweredEvent → Machine → Machine → Type 0
WithoutAnswers settings first events plain last =
    (fewer : List Event) × (ended : Machine) × Leads settings first plain fewer ended × IsSameBut ended last
    × (HaveNoRestart (events_of_link events) → HaveNoRestart fewer)

-- frames that join the others
fits-more : (plain other : Machine) (sent later : List Sent) (last : ℕ) → Fits plain sent last
    → plain.to_cpu ++ own_frames later ≡ other.to_cpu → other.last_to_cpu ≡ plain.last_to_cpu
    → Fits other (sent ++ later) last
fits-more plain other sent later last fits frames heard = grind (arith, nat_tests, rank-append, length-append, own-append)

-- ---- the CPU hears a frame

heard-if : (first : ℕ) (plain : Machine) (sent : List Sent) (last number index : ℕ) (block : Block) (same : Bool)
    → (if same then record (with_sent plain sent index) { round = plain.round + 1; items = plain.items ++ items_of_block block } else with_sent plain sent index)
    ≡ with_sent (if same then record plain { last_to_cpu = number; round = plain.round + 1; items = plain.items ++ items_of_block block } else record plain { last_to_cpu = number }) sent index
heard-if first plain sent last number index block true = refl
heard-if first plain sent last number index block false = refl

heard-found : (first : ℕ) (plain : Machine) (sent : List Sent) (last number index : ℕ) (found : Option Block)
    → after_delivered_block first (record (with_sent plain sent last) { last_to_cpu = index }) found
    ≡ with_sent (after_delivered_block first (record plain { last_to_cpu = number }) found) sent index
heard-found first plain sent last number index None = refl
heard-found first plain sent last number index (Some block) =
    heard-if first plain sent last number index block (block.number == number_of first plain.round)

-- it does not change which frames were sent
kept-if : (plain : Machine) (block : Block) (same : Bool)
    → (((if same then record plain { round = plain.round + 1; items = plain.items ++ items_of_block block } else plain).to_cpu ≡ plain.to_cpu)
    × ((if same then record plain { round = plain.round + 1; items = plain.items ++ items_of_block block } else plain).last_to_cpu ≡ plain.last_to_cpu))
kept-if plain block true = (refl, refl)
kept-if plain block false = (refl, refl)

kept-found : (first : ℕ) (plain : Machine) (found : Option Block)
    → ((after_delivered_block first plain found).to_cpu ≡ plain.to_cpu) × ((after_delivered_block first plain found).last_to_cpu ≡ plain.last_to_cpu)
kept-found first plain None = (refl, refl)
kept-found first plain (Some block) = kept-if plain block (block.number == number_of first plain.round)

-- an answer of the maker says nothing to the CPU
makers_none : (kind : OtherAnswer) (body : List ℕ) (round : ℕ) → block_in (makers_frame kind body round).octets ≡ None
makers_none kind body round = no_block_in (makers_answer kind body) refl

-- ---- the module receives a frame

module _ (settings : Settings) where
  -- its own answer
  abbrev frames_sent : Machine → Option SentFrame → List SentFrame
  frames_sent machine None = []
  frames_sent machine (Some frame) = answer_frames (reply_to settings machine.history frame.octets) frame.round

  received : (plain : Machine) (sent : List Sent) (last index : ℕ) (found : Option SentFrame)
      → after_delivery_to_module settings (with_sent plain sent last) index found
      ≡ with_sent (after_delivery_to_module settings plain index found) (sent ++ map Own (frames_sent plain found)) last
  received plain sent last index None = ap (λ all. with_sent plain all last) (sym (append-nil sent))
  received plain sent last index (Some frame) =
      let answers = frames_sent plain (Some frame) in
      let frames : map frame_carried sent ++ answers ≡ map frame_carried (sent ++ map Own answers) =
      ap (λ own. map frame_carried sent ++ own) (sym (frames-own answers)) ∙ sym (map-append frame_carried sent (map Own answers)) in
      ap (λ all. record (after_delivery_to_module settings plain index (Some frame)) { to_cpu = all; last_to_cpu = last }) frames

  sends : (plain : Machine) (index : ℕ) (found : Option SentFrame)
      → plain.to_cpu ++ own_frames (map Own (frames_sent plain found)) ≡ (after_delivery_to_module settings plain index found).to_cpu
  sends plain index None = append-nil plain.to_cpu
  sends plain index (Some frame) = ap (λ own. plain.to_cpu ++ own) (own-own (frames_sent plain (Some frame)))

  hears_none : (plain : Machine) (index : ℕ) (found : Option SentFrame)
      → (after_delivery_to_module settings plain index found).last_to_cpu ≡ plain.last_to_cpu
  hears_none plain index None = refl
  hears_none plain index (Some frame) = refl

module _ (settings : Settings) (first : ℕ) where
  -- the same event, and what is left of the later ones
  and_then : (event : Event) (rest : List AnsweredEvent) (plain last : Machine) → refusal plain event ≡ None
      → WithoutAnswers settings first rest (after settings first plain event) last
      → WithoutAnswers settings first (Link event ∷ rest) plain last
  and_then event rest plain last fine w = (event ∷ w.0, w.1, (fine, w.2), w.3, λ none. (none.0, w.4 none.1))

  -- what is shown of the later events
  abbrev Later : List AnsweredEvent → Machine → Type 0
  Later rest ended = (plain : Machine) (sent : List Sent) (last : ℕ) → Fits plain sent last
      → AnsweredLead settings first (with_sent plain sent last) rest ended → WithoutAnswers settings first rest plain ended

  -- the CPU hears an answer of the maker: that is left out
  hears_makers : (rest : List AnsweredEvent) (ended plain : Machine) (sent : List Sent) (last place : ℕ)
      (kind : OtherAnswer) (body : List ℕ) (round : ℕ) → Fits plain sent last → last ≤ suc place → suc place ≤ length sent
      → AnsweredLead settings first (after_delivery_to_cpu first (with_sent plain sent last) (suc place) (Some (makers_frame kind body round))) rest ended
      → Later rest ended → WithoutAnswers settings first (Link (events.ToCpu (suc place)) ∷ rest) plain ended
  hears_makers rest ended plain sent last place kind body round fits order within leads later =
      let shown = fits.heard in
      let more = rank-mono sent last (suc place) order in
      let same = ap (λ found. after_delivered_block first (record (with_sent plain sent last) { last_to_cpu = suc place }) found) (makers_none kind body round) in
      let w = later plain sent (suc place) (record { own = fits.own; within = within; heard = omega arith })
      (subst (λ machine. AnsweredLead settings first machine rest ended) same leads) in
      (w.0, w.1, w.2, w.3, λ none. w.4 none.1)

  -- it hears an answer of the module: its number among these is its rank
  hears_own : (rest : List AnsweredEvent) (ended plain : Machine) (sent : List Sent) (last place : ℕ) (frame : SentFrame)
      → Fits plain sent last → last ≤ suc place → slice_get sent place ≡ Some (Own frame)
      → AnsweredLead settings first (after_delivery_to_cpu first (with_sent plain sent last) (suc place) (Some frame)) rest ended
      → Later rest ended → WithoutAnswers settings first (Link (events.ToCpu (suc place)) ∷ rest) plain ended
  hears_own rest ended plain sent last place frame fits order at leads later =
      let own = own_at sent place frame at in
      let number = suc (rank sent place) in
      let there : slice_get plain.to_cpu (rank sent place) ≡ Some frame = subst (λ frames. slice_get frames (rank sent place) ≡ Some frame) fits.own own.here in
      let found = block_in frame.octets in
      let next = after_delivered_block first (record plain { last_to_cpu = number }) found in
      let kept = kept-found first (record plain { last_to_cpu = number }) found in
      let shown = fits.heard in
      let more = rank-mono sent last (suc place) order in
      let one_more = own.one_more in
      let below = slice_get_within plain.to_cpu (rank sent place) frame there in
      let within = slice_get_within sent place (Own frame) at in
      let low : plain.last_to_cpu ≤ number = omega arith in
      let fine : delivery_refusal (length plain.to_cpu) plain.last_to_cpu number ≡ None = grind (arith, nat_tests) in
      let last_now = kept.1 in
      let w = later next sent (suc place)
      (record { own = fits.own ∙ sym kept.0; within = omega arith; heard = omega arith })
      (subst (λ machine. AnsweredLead settings first machine rest ended) (heard-found first plain sent last number (suc place) found) leads) in
      let led : Leads settings first (after_delivery_to_cpu first plain number (Some frame)) w.0 w.1 = w.2 in (
        events.ToCpu number ∷ w.0,
        w.1,
        (fine, subst (λ one. Leads settings first (after_delivery_to_cpu first plain number one) w.0 w.1) (sym there) led),
        w.3,
        λ none. (tt, w.4 none.1),
      )

  -- it hears either
  hears : (rest : List AnsweredEvent) (ended plain : Machine) (sent : List Sent) (last place : ℕ) (one : Sent)
      → Fits plain sent last → last ≤ suc place → slice_get sent place ≡ Some one
      → AnsweredLead settings first (after_delivery_to_cpu first (with_sent plain sent last) (suc place) (Some (frame_carried one))) rest ended
      → Later rest ended → WithoutAnswers settings first (Link (events.ToCpu (suc place)) ∷ rest) plain ended
  hears rest ended plain sent last place (Own frame) fits order at leads later =
      hears_own rest ended plain sent last place frame fits order at leads later
  hears rest ended plain sent last place (Makers kind body round) fits order at leads later =
      let within = slice_get_within sent place (Makers kind body round) at in
      hears_makers rest ended plain sent last place kind body round fits order (omega arith) leads later

  -- so at each delivery
  hears_at : (rest : List AnsweredEvent) (ended plain : Machine) (sent : List Sent) (last index : ℕ) → Fits plain sent last
      → delivery_refusal (length (map frame_carried sent)) last index ≡ None
      → AnsweredLead settings first (after_delivery_to_cpu first (with_sent plain sent last) index (item_numbered (map frame_carried sent) index)) rest ended
      → Later rest ended → WithoutAnswers settings first (Link (events.ToCpu index) ∷ rest) plain ended
  hears_at rest ended plain sent last index fits fine leads later =
      let d = deliverable (map frame_carried sent) last index fine in
      let numbered : index ≡ suc d.place = let at = d.numbered in omega arith in
      let below = slice_get_within (map frame_carried sent) d.place d.frame d.found in
      let lengths = length-map sent frame_carried in
      let one = some_block sent d.place (omega arith) in
      let shown : item_numbered (map frame_carried sent) (suc d.place) ≡ Some (frame_carried one.0) = slice_get-map frame_carried sent d.place ∙ ap (option_map frame_carried) one.1 in
      let order : last ≤ suc d.place = let le = d.in_order in omega arith in
      let there = subst (λ number. AnsweredLead settings first (after_delivery_to_cpu first (with_sent plain sent last) number (item_numbered (map frame_carried sent) number)) rest ended) numbered leads in
      let here = subst (λ frame. AnsweredLead settings first (after_delivery_to_cpu first (with_sent plain sent last) (suc d.place) frame) rest ended) shown there in
      subst (λ number. WithoutAnswers settings first (Link (events.ToCpu number) ∷ rest) plain ended) (sym numbered)
      (hears rest ended plain sent last d.place one.0 fits order one.1 here later)

  -- all events, one after the other
  walk : (events : List AnsweredEvent) (ended plain : Machine) (sent : List Sent) (last : ℕ) → Fits plain sent last
      → AnsweredLead settings first (with_sent plain sent last) events ended → WithoutAnswers settings first events plain ended
  walk [] ended plain sent last fits leads = (
    [],
    plain,
    refl,
    record {
      sent = sent;
      same = subst (λ (machine : Machine). machine ≡ record plain { to_cpu = map frame_carried sent; last_to_cpu = machine.last_to_cpu }) (sym leads) refl;
      own = fits.own;
    },
    λ none. none,
  )
  walk (Answer kind body ∷ rest) ended plain sent last fits leads =
      let one = Makers kind body plain.round ∷ [] in
      let w = walk rest ended plain (sent ++ one) last (fits-more plain plain sent one last fits (append-nil plain.to_cpu) refl)
      (subst (λ frames. AnsweredLead settings first (record plain { to_cpu = frames; last_to_cpu = last }) rest ended) (sym (map-append frame_carried sent one)) leads.1) in
      (w.0, w.1, w.2, w.3, w.4)
  walk (Link (events.ToCpu index) ∷ rest) ended plain sent last fits leads =
      hears_at rest ended plain sent last index fits leads.0 leads.1 (λ next all heard. walk rest ended next all heard)
  walk (Link (events.ToModule index) ∷ rest) ended plain sent last fits leads =
      let found = item_numbered plain.to_module index in
      let next = after_delivery_to_module settings plain index found in
      let later = map Own (frames_sent settings plain found) in
      and_then (events.ToModule index) rest plain ended leads.0
      (walk rest ended next (sent ++ later) last
      (fits-more plain next sent later last fits (sends settings plain index found) (hears_none settings plain index found))
      (subst (λ machine. AnsweredLead settings first machine rest ended) (received settings plain sent last index found) leads.1))
  walk (Link (events.Send command) ∷ rest) ended plain sent last fits leads =
      and_then (events.Send command) rest plain ended leads.0
      (walk rest ended (after settings first plain (events.Send command)) sent last (record { own = fits.own; within = fits.within; heard = fits.heard }) leads.1)
  walk (Link event ∷ rest) ended plain sent last fits leads =
      and_then event rest plain ended leads.0
      (walk rest ended (after settings first plain event) sent last (record { own = fits.own; within = fits.within; heard = fits.heard }) leads.1)

-- so of each run
pub runs_without_answers : RunsWithoutAnswers
runs_without_answers settings first events machine run =
    walk settings first events machine start [] 0 (record { own = refl; within = omega arith; heard = omega arith }) run

-- what is said of a machine without his answers is said of the one with them
kept : (settings : Settings) (events : List AnsweredEvent) (machine : Machine) (frames : List SentFrame) (last : ℕ)
    → RecordStands settings events machine → RecordStands settings events (record machine { to_cpu = frames; last_to_cpu = last })
kept settings events machine frames last k = grind (arith, nat_tests)

pub answers_keep_record : AnswersKeepRecord
answers_keep_record settings first events machine range run = grind (arith, nat_tests, runs_without_answers, runs_are_sound, kept)
