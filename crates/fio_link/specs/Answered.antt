-- The link with a module whose maker answers commands himself. His answers are no block answers, and come whenever he gives them:
-- to any command, late, more than once, or never.
use Rattle.std.specs.Prelude.{◌≡◌, ℕ, List, [], ◌∷◌, ◌++◌, map, Option, None}
use Rattle.fio_message.specs.Answers.{answer_octets}
use Rattle.fio_message.specs.declared.answers.OtherAnswer.{OtherAnswer}
use Rattle.fio_message.specs.declared.answers.OtherAnswer.TheVariants.{ComplexOutputs, ControllerId, TrackInputs}
use Rattle.fio_module.specs.Makers.{makers_answer}
use Rattle.fio_module.specs.Settings.{Settings, AreInRange, standard_settings}
use Rattle.fio_link.specs.declared.event.Event.{Event}
use Rattle.fio_link.specs.Headline.{HaveNoRestart, RecordIsLog}
use Rattle.fio_link.specs.Link.{IsRun, Machine, Refusal, SentFrame, after, refusal, start}
use Rattle.fio_link.specs.Restarts.{TakesStretchOfEachLife}
use Rattle.fio_link.specs.Rising.{IsRising}

-- what happens: an event of the link, or the module sends an answer of its maker, of this kind and with this body
pub data AnsweredEvent : Type 0 where
  Link : (event : Event) → AnsweredEvent
  Answer : (kind : OtherAnswer) → (body : List ℕ) → AnsweredEvent

-- the frame of such an answer
abbrev pub makers_frame : OtherAnswer → List ℕ → ℕ → SentFrame
makers_frame kind body round = record { octets = answer_octets (makers_answer kind body); round = round }

-- the machine after an event that is not refused: the frame of the maker's answer joins those to the CPU
abbrev pub after_answered : Settings → ℕ → Machine → AnsweredEvent → Machine
after_answered settings first machine (Link event) = after settings first machine event
after_answered settings first machine (Answer kind body) =
    record machine { to_cpu = machine.to_cpu ++ makers_frame kind body machine.round ∷ [] }

-- why an event is refused, if it is refused: no answer of the maker is
abbrev pub answered_refusal : Machine → AnsweredEvent → Option Refusal
answered_refusal machine (Link event) = refusal machine event
answered_refusal machine (Answer kind body) = None

-- these events, none of them refused, lead from one machine to another
abbrev pub AnsweredLead : Settings → ℕ → Machine → List AnsweredEvent → Machine → Type 0
AnsweredLead settings first machine [] last = last ≡ machine
AnsweredLead settings first machine (event ∷ events) last =
    (answered_refusal machine event ≡ None)
    × AnsweredLead settings first (after_answered settings first machine event) events last

-- these events, none of them refused, lead from the start to this machine
abbrev pub IsAnsweredRun : Settings → ℕ → List AnsweredEvent → Machine → Type 0
IsAnsweredRun settings first events machine = AnsweredLead settings first start events machine

-- the events of the link among them
abbrev pub events_of_link : List AnsweredEvent → List Event
events_of_link [] = []
events_of_link (Link event ∷ events) = event ∷ events_of_link events
events_of_link (Answer kind body ∷ events) = events_of_link events

-- ---- without the maker's answers

-- a frame to the CPU: the module's own, or the maker's answer of this kind with this body
pub data Sent : Type 0 where
  Own : (frame : SentFrame) → Sent
  Makers : (kind : OtherAnswer) → (body : List ℕ) → (round : ℕ) → Sent

-- the frame
abbrev pub frame_carried : Sent → SentFrame
frame_carried (Own frame) = frame
frame_carried (Makers kind body round) = makers_frame kind body round

-- the module's own among these
abbrev pub own_frames : List Sent → List SentFrame
own_frames [] = []
own_frames (Own frame ∷ sent) = frame ∷ own_frames sent
own_frames (Makers kind body round ∷ sent) = own_frames sent

-- A machine is the same as one without the maker's answers, but for the frames of these: all that has reached the module, all that
-- was sent to it, each of its own answers, and the CPU's record and number.
pub record IsSameBut (plain machine : Machine) : Type 0 where
  pub sent : List Sent
  pub same : machine ≡ record plain { to_cpu = map frame_carried sent; last_to_cpu = machine.last_to_cpu }
  pub own : own_frames sent ≡ plain.to_cpu

-- Whatever the maker answers, there is a run without his answers that is otherwise the same.
abbrev pub RunsWithoutAnswers : Type 0
RunsWithoutAnswers =
    (settings : Settings) (first : ℕ) (events : List AnsweredEvent) (machine : Machine) →
    IsAnsweredRun settings first events machine →
    (fewer : List Event) × (plain : Machine) × IsRun settings first fewer plain × IsSameBut plain machine
    × (HaveNoRestart (events_of_link events) → HaveNoRestart fewer)

-- So what is promised of the record stands, word for word: the headline, that it rises through all lives, and that it has one
-- contiguous run of the blocks of each.
pub record RecordStands (settings : Settings) (events : List AnsweredEvent) (machine : Machine) : Type 0 where
  pub headline : HaveNoRestart (events_of_link events) → RecordIsLog settings machine
  pub rising : IsRising machine
  pub lives : TakesStretchOfEachLife settings machine

-- so it is of each run
abbrev pub AnswersKeepRecord : Type 0
AnswersKeepRecord =
    (settings : Settings) (first : ℕ) (events : List AnsweredEvent) (machine : Machine) →
    AreInRange settings → IsAnsweredRun settings first events machine → RecordStands settings events machine

-- ---- an instance

-- the kinds of the answers that the maker gives
abbrev pub kinds_given : List AnsweredEvent → List OtherAnswer
kinds_given [] = []
kinds_given (Link event ∷ events) = kinds_given events
kinds_given (Answer kind body ∷ events) = kind ∷ kinds_given events

-- There is a run in which the maker answers 56, 57 and 59, and the CPU hears each of these answers, and takes a block below them.
unfoldable pub MakersMayAnswer : Type 0
MakersMayAnswer =
    (events : List AnsweredEvent) × (machine : Machine)
    × IsAnsweredRun (standard_settings 2) 0 events machine
    × (kinds_given events ≡ TrackInputs ∷ ComplexOutputs ∷ ControllerId ∷ [])
    × (machine.last_to_cpu ≡ 4) × (machine.round ≡ 1)
