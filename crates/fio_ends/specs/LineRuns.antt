-- Both ends over two lines of octets are a run of the link.
use Rattle.std.specs.Prelude.{◌≡◌, ◌≢◌, ℕ, ◌≤◌, Bool, List, [], ◌∷◌, map, Some}
use Rattle.fio_message.specs.Octets.{IsOctet}
use Rattle.fio_module.specs.Settings.{Settings, AreInRange, standard_settings}
use Rattle.fio_link.specs.declared.event.Event.{Event}
use Rattle.fio_link.specs.Headline.{Headline}
use Rattle.fio_link.specs.Link.{Machine, SentFrame, item_numbered, polling_of}
use Rattle.fio_link.specs.Sound.{IsSoundRun}
use Rattle.fio_wire.specs.declared.limits.TheConstants.{FLAG}
use Rattle.fio_wire.specs.Frames.{frame_of}
use Rattle.fio_wire.specs.Laws.{IsFate, Octet, Struck}
use Rattle.fio_wire.specs.Octets.{sent, stuffed}
use Rattle.fio_ends.specs.Lines.{Framing, IsFraming, WireLine, WiredEnds, ends_at_start, Brought, WireEvent, events_on_wire, MayCome, after_line_event, Arrives, EndOf}

-- these events may come one after the other, and lead from some ends to others
abbrev pub LeadOverLines : Settings → Framing → WiredEnds → List WireEvent → WiredEnds → Type 0
LeadOverLines settings framing ends [] last = last ≡ ends
LeadOverLines settings framing ends (event ∷ events) last =
    MayCome framing ends event
    × LeadOverLines settings framing (after_line_event settings framing ends event) events last

-- ---- What is promised

-- what was written for each frame of the machine
abbrev pub written_of : Framing → List SentFrame → List (List ℕ)
written_of framing sent_frames =
    map (λ frame. sent framing.address framing.control frame.octets) sent_frames

-- The ends are those of a run of the link: what holds of each run holds of this machine, and they have what it has.
pub record AreOfRun (settings : Settings) (framing : Framing) (first : ℕ) (events : List Event) (ends : WiredEnds) : Type 0 where
  pub machine : Machine
  pub sound : IsSoundRun settings first events machine
  pub history : ends.history ≡ machine.history
  pub polling : ends.polling ≡ polling_of first machine
  pub to_module : ends.to_module.written ≡ written_of framing machine.to_module
  pub to_cpu : ends.to_cpu.written ≡ written_of framing machine.to_cpu

-- a promise holds for both ends over two lines, from their start on
abbrev pub HoldsOverLines : (Settings → Framing → ℕ → List WireEvent → WiredEnds → Type 0) → Type 0
HoldsOverLines Holds =
    (settings : Settings) (framing : Framing) (first : ℕ) (events : List WireEvent) (last : WiredEnds)
    → AreInRange settings → IsFraming framing → IsOctet first
    → LeadOverLines settings framing (ends_at_start first) events last
    → Holds settings framing first events last

-- Whatever the lines may bring, what the ends do is a run of the link.
abbrev pub LinesAreRuns : Type 0
LinesAreRuns =
    HoldsOverLines (λ settings framing first events last. AreOfRun settings framing first (events_on_wire events) last)

-- So the headline holds over lines.
abbrev pub HeadlineOverLines : Type 0
HeadlineOverLines =
    HoldsOverLines (λ settings framing first events last. Headline settings first (events_on_wire events) last.polling.items)

-- ---- What the premise leaves open

-- what a line brings for a part: its octets one by one, and what ends it
abbrev pub part_brought : (Brought → WireEvent) → List ℕ → Brought → List WireEvent
part_brought at [] ending = at ending ∷ []
part_brought at (octet ∷ part) ending = at (Arrives (Octet octet)) ∷ part_brought at part ending

-- these events may come, one after the other
abbrev pub MayFollow : Settings → Framing → WiredEnds → List WireEvent → Type 0
MayFollow settings framing ends events = (later : WiredEnds) × LeadOverLines settings framing ends events later

-- Directly after a flag a line may bring each frame that was written to it whole, if none after it came before.
abbrev pub EachFrameMayCome : (WiredEnds → WireLine) → (Brought → WireEvent) → Type 0
EachFrameMayCome line_of at =
    (settings : Settings) (framing : Framing) (ends : WiredEnds) (number : ℕ) (message : List ℕ)
    → (line_of ends).part ≡ Some [] → (line_of ends).last ≤ number
    → item_numbered (line_of ends).written number ≡ Some (sent framing.address framing.control message)
    → MayFollow settings framing ends
    (part_brought at (stuffed (frame_of framing.address framing.control message)) (EndOf number))

-- octets between two flags that are a frame as it was struck: some of its bits are flipped, in a way that the frame check finds
abbrev pub IsStruck : List ℕ → Type 0
IsStruck part = (frame : List ℕ) × (errors : List Bool) × IsFate (Struck frame errors part)

-- Directly after a flag a line may bring each frame that was struck: it is noise.
abbrev pub EachStruckFrameMayCome : (WiredEnds → WireLine) → (Brought → WireEvent) → Type 0
EachStruckFrameMayCome line_of at =
    (settings : Settings) (framing : Framing) (ends : WiredEnds) (part : List ℕ)
    → (line_of ends).part ≡ Some [] → IsStruck part
    → MayFollow settings framing ends (part_brought at part (Arrives (Octet FLAG)))

-- There are lines over which the CPU's record gains something.
abbrev pub LinesBringRecords : Type 0
LinesBringRecords =
    (framing : Framing) × IsFraming framing × (events : List WireEvent) × (last : WiredEnds)
    × LeadOverLines (standard_settings 2) framing (ends_at_start 125) events last × (last.polling.items ≢ [])
