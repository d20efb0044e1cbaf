-- What a log of a right link says above a line, and what the judge of a log keeps of it.
use Rattle.fio_ends.proofs.Names.{◌≡◌, ◌∙◌, ◌&&◌, not, arith, Checker, checker_below_lines, Observation, ◌⊎◌, ◌||◌, inl, inr, ℕ, Bool, true, false, [], ◌∷◌, Option, Some, None, refl, ap, CpuFrame, observation_in, Event, Judging, Machine, frame_heard, frames_at, is_command, item_numbered, judging_below, judges_each, Around, around_frame, around_said, around_with, mark_if, SentFrame, SeenAbove, below_frames, found_saying, lost_if, below_command, nat_tests}
use Rattle.fio_link.specs.declared.event.Event.TheVariants as happen

-- ---- an event has one frame at most

of_heard : (heard : Option SentFrame) → ((frame_heard heard ≡ []) × (false ≡ false)) ⊎ ((frame : CpuFrame) × (frame_heard heard ≡ frame ∷ []))
of_heard None = inl (refl, refl)
of_heard (Some frame) = inr (record { from_cpu = false; octets = frame.octets }, refl)

-- and a command has one
pub one_frame : (first : ℕ) (machine : Machine) (event : Event)
    → ((frames_at first machine event ≡ []) × (is_command event ≡ false)) ⊎ ((frame : CpuFrame) × (frames_at first machine event ≡ frame ∷ []))
one_frame first machine (happen.Scan raw) = inl (refl, refl)
one_frame first machine happen.LineSync = inl (refl, refl)
one_frame first machine (happen.Raise mask) = inl (refl, refl)
one_frame first machine happen.Poll = inr (_, refl)
one_frame first machine (happen.Send command) = inr (_, refl)
one_frame first machine (happen.ToModule index) = inl (refl, refl)
one_frame first machine (happen.ToCpu index) = of_heard (item_numbered machine.to_cpu index)
one_frame first machine happen.Restart = inl (refl, refl)

-- ---- loads

-- the loads that may be under way where a log goes on: as many as where its part begins, or one below a line that speaks of loss
abbrev pub Stays : SeenAbove → Option ℕ → Type 0
Stays above now = (now ≡ above.begins) ⊎ ((now ≡ Some 1) × (above.warned ≡ true))

pub stays_framed : (event : Event) (above : SeenAbove) (frame : CpuFrame) (now : Option ℕ) → Stays above now → Stays (below_frames event above (frame ∷ [])) (below_command event now)
stays_framed event above frame now stays = grind (arith, nat_tests, is_command, inl)

pub stays_lost : (above : SeenAbove) (now : Option ℕ) → above.begins ≡ Some 1 → Stays above now → Stays (lost_if true above) now
stays_lost above now begins stays = elim stays [ inl same ↦ inl (same ∙ begins) | inr one ↦ inr one ]

pub stays_warned : (above : SeenAbove) (now : Option ℕ) → Stays above now → Stays (record above { warned = true }) now
stays_warned above now stays = elim stays [ inl same ↦ inl same | inr one ↦ inr (one.0, refl) ]

-- ---- what is above

-- what the judge keeps is what the log says above
pub record Agrees (begun : Bool) (above : SeenAbove) (around : Around) (judging : Judging) : Type 0 where
  pub framed : around.framed ≡ above.framed
  pub warned : around.remarked ≡ true → above.warned ≡ true
  pub each : above.framed ≡ false → judges_each judging.checker.skips ≡ (begun && not above.lost)
  pub begins : above.lost ≡ true → above.begins ≡ Some 1

framed_by : (around : Around) (observation : Observation) → (around_frame around observation).framed ≡ true
framed_by around observation = grind arith

framed_said : (around : Around) (said : Option Bool) (from_cpu : Bool) → (around_said around said from_cpu).framed ≡ around.framed
framed_said around said from_cpu = grind arith

warned_by : (around : Around) (observation : Observation) → (around_frame around observation).remarked ≡ true → around.remarked ≡ true
warned_by around observation is = grind arith

warned_said : (around : Around) (said : Option Bool) (from_cpu : Bool) → (around_said around said from_cpu).remarked ≡ around.remarked
warned_said around said from_cpu = grind arith

pub agrees_framed : (begun : Bool) (above : SeenAbove) (around : Around) (judging next : Judging) (event : Event) (said : Option Bool) (frame : CpuFrame)
    → Agrees begun above around judging → Agrees begun (below_frames event above (frame ∷ [])) (around_with around (found_saying said frame)) next
agrees_framed begun above around judging next event said frame agrees = grind (arith, nat_tests, observation_in, framed_said, framed_by, warned_by, warned_said)

-- below a mark a checker does not judge each frame
each_lost : (checker : Checker) → judges_each (checker_below_lines checker checker.skips).skips ≡ false
each_lost checker = grind (arith, nat_tests, checker_below_lines)

not_lost : (begun : Bool) → false ≡ (begun && false)
not_lost true = refl
not_lost false = refl

pub agrees_lost : (begun lost marked : Bool) (above : SeenAbove) (around : Around) (judging : Judging) → Agrees begun above around judging
    → (lost ≡ true → (marked ≡ true) ⊎ (above.lost ≡ true)) → (lost ≡ false → marked ≡ false)
    → Agrees begun (lost_if lost above) around (judging_below judging (mark_if marked))
agrees_lost begun true true above around judging agrees marks none =
    record { framed = agrees.framed; warned = agrees.warned; each = λ no. each_lost judging.checker ∙ not_lost begun; begins = λ is. refl }
agrees_lost begun true false above around judging agrees marks none = elim (marks refl) [
  | inl is ↦ absurd (cc is)
  | inr was ↦ record { framed = agrees.framed; warned = agrees.warned; each = λ no. agrees.each no ∙ ap (λ (l : Bool). begun && not l) was; begins = λ is. refl }
]
agrees_lost begun false true above around judging agrees marks none = absurd (cc (none refl))
agrees_lost begun false false above around judging agrees marks none = agrees

-- a line that says a message is a mark where the place is lost, if it is not lost above
pub possible_marks : (around framed begun each lost : Bool) → around ≡ framed → (framed ≡ false → each ≡ (begun && not lost))
    → (framed || begun) ≡ true → ((around || each) ≡ true) ⊎ (lost ≡ true)
possible_marks around true begun each lost same is loses = inl (rw same refl)
possible_marks around false true each true same is loses = inr refl
possible_marks around false true each false same is loses = inl (rw same (is refl))
possible_marks around false false each lost same is loses = absurd (cc loses)

pub possible_none : (around framed begun each lost : Bool) → around ≡ framed → (framed ≡ false → each ≡ (begun && not lost))
    → (framed || begun) ≡ false → (around || each) ≡ false
possible_none around true begun each lost same is loses = absurd (cc loses)
possible_none around false true each lost same is loses = absurd (cc loses)
possible_none around false false each lost same is loses = rw same (is refl)
