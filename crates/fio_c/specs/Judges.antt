-- The judge of a link as C sees it.
use Rattle.std.specs.Prelude.{ℕ, ◌≡◌, ◌==◌, replicate, unwrap_or, if◌then◌else◌}
use Rattle.fio_check.specs.ContentKept.{content_checking}
use Rattle.fio_check.specs.ContentRules.{content_rule_number}
use Rattle.fio_check.specs.LinkJudges.{Judging}
use Rattle.fio_check.specs.Rules.{rule_number}
use Rattle.fio_check.specs.declared.outcome.Excuse.{Excuse}
use Rattle.fio_check.specs.declared.outcome.Excuse.TheVariants.{Load, Unheard}
use Rattle.fio_check.specs.declared.outcome.LogPlace.{LogPlace}
use Rattle.fio_check.specs.declared.outcome.LogPlace.TheVariants.{Bus, Cpu, Module}
use Rattle.fio_check.specs.declared.outcome.FrameOutcome.{FrameOutcome}
use Rattle.fio_check.specs.declared.outcome.FrameOutcome.TheVariants.{Broken, BrokenContent, Excused, Kept, NotJudged, Restarted}
use Rattle.fio_check.specs.declared.outcome.Unjudged.{Unjudged}
use Rattle.fio_check.specs.declared.outcome.Unjudged.TheVariants.{AboveCommand, PlaceLost}
use Rattle.fio_c.specs.Checkers.{checker_in, octet_if, with_due}
use Rattle.fio_c.specs.declared.checker.FlatBreach.{FlatBreach}
use Rattle.fio_c.specs.declared.judge.FlatJudge.{FlatJudge}
use Rattle.fio_c.specs.declared.judge.JudgeOutcome.{JudgeOutcome}

-- the judge that a struct of C represents, whatever its octets are
abbrev pub judge_in : FlatJudge → Judging
judge_in flat = record {
  checker = checker_in flat.checker;
  content = content_checking flat.content;
  latest = octet_if flat.has_latest flat.latest;
  asked = octet_if flat.has_asked flat.asked;
  polls = flat.polls;
}

-- the octets that the struct of a judge reserves are 0, those of its checker of transcripts too
abbrev pub ReservesZeros : FlatJudge → Type 0
ReservesZeros flat = (flat.reserved ≡ replicate 5 0) × (flat.checker.reserved ≡ replicate 4 0)

-- where a frame was logged: 0 the CPU's end, 1 the module, else the bus
abbrev pub place_in : ℕ → LogPlace
place_in at = if at == 0 then Cpu else if at == 1 then Module else Bus

-- the reason of a frame that is excused
abbrev pub excuse_number : Excuse → ℕ
excuse_number Load = 1
excuse_number Unheard = 2

-- the reason of a frame that is not judged
abbrev pub unjudged_number : Unjudged → ℕ
unjudged_number AboveCommand = 3
unjudged_number PlaceLost = 4

-- an outcome of this kind, for this reason, without a breach
abbrev pub without_breach : ℕ → ℕ → JudgeOutcome
without_breach kind why =
    record { kind = kind; why = why; rule = 0; has_due = 0; due = 0; got = 0; input = 255; reserved = 0; items = 0 }

-- an outcome with a breach of a rule of transcripts
abbrev pub with_breach : FlatBreach → JudgeOutcome
with_breach breach = record (without_breach 1 0) {
  rule = breach.rule;
  has_due = breach.has_due;
  due = breach.due;
  got = breach.got;
}

-- the outcome of a frame as C sees it
abbrev pub flat_outcome : FrameOutcome → JudgeOutcome
flat_outcome Kept = without_breach 0 0
flat_outcome (Broken breach) = with_breach (with_due (rule_number breach.rule) breach.due)
flat_outcome (BrokenContent breach) = record (without_breach 2 0) {
  rule = content_rule_number breach.rule;
  input = unwrap_or breach.input 255;
  items = breach.items;
}
flat_outcome (Excused excuse) = without_breach 3 (excuse_number excuse)
flat_outcome Restarted = without_breach 4 0
flat_outcome (NotJudged reason) = without_breach 5 (unjudged_number reason)
