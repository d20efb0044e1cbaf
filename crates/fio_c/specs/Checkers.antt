-- The checker of the rules as C sees it.
use Rattle.std.specs.Prelude.{ℕ, ◌==◌, Bool, true, false, not, Option, Some, None, is_some, unwrap_or, if◌then◌else◌, replicate}
use Rattle.fio_message.specs.Bits.{bit_of}
use Rattle.fio_check.specs.declared.checker.Breach.{Breach}
use Rattle.fio_check.specs.declared.checker.Checker.{Checker}
use Rattle.fio_check.specs.declared.checker.Due.{Due}
use Rattle.fio_check.specs.declared.checker.Skips.{Skips}
use Rattle.fio_check.specs.declared.checker.Skips.TheVariants.{Nothing, ToCommand, ToPoll}
use Rattle.fio_check.specs.declared.limits.RuleLimits.{RuleLimits}
use Rattle.fio_flat.specs.declared.module.FlatLimits.{FlatLimits}
use Rattle.fio_check.specs.declared.content.ContentBreach.{ContentBreach}
use Rattle.fio_check.specs.ContentRules.{content_rule_number}
use Rattle.fio_check.specs.Rules.{rule_number}
use Rattle.fio_c.specs.declared.checker.FlatBreach.{FlatBreach}
use Rattle.fio_c.specs.declared.checker.FlatChecker.{FlatChecker}
use Rattle.fio_c.specs.declared.content.FlatContentBreach.{FlatContentBreach}

-- the limits of a module, from a struct of C
abbrev pub limits_of : FlatLimits → RuleLimits
limits_of limits = record { per_block = limits.per_block; waiting = limits.waiting }

-- a number, if its flag is set
abbrev pub octet_if : ℕ → ℕ → Option ℕ
octet_if has octet = if has == 0 then None else Some octet

-- whether the latest block answer has C, if one is above
abbrev pub more_in : ℕ → Option Bool
more_in more = if more == 0 then None else Some (not (more == 1))

-- whether the latest block answer has C, as an octet
abbrev pub flat_more : Option Bool → ℕ
flat_more None = 0
flat_more (Some false) = 1
flat_more (Some true) = 2

-- what a checker skips
abbrev pub skips_in : ℕ → Skips
skips_in skips = if skips == 0 then Nothing else if skips == 2 then ToCommand else ToPoll

-- what a checker skips, as an octet
abbrev pub flat_skips : Skips → ℕ
flat_skips Nothing = 0
flat_skips ToPoll = 1
flat_skips ToCommand = 2

-- the checker that a struct of C represents, whatever its octets are
abbrev pub checker_in : FlatChecker → Checker
checker_in flat = record {
  limits = record { per_block = flat.per_block; waiting = flat.waiting };
  facts = record {
    awaited = octet_if flat.has_awaited flat.awaited;
    absent_named = not (flat.absent_named == 0);
    polled = octet_if flat.has_polled flat.polled;
    answered = not (flat.answered == 0);
    advanced = not (flat.advanced == 0);
    more = more_in flat.more;
  };
  skips = skips_in flat.skips;
}

-- the struct of C that represents a checker: a number that it lacks is 0
abbrev pub flat_checker : Checker → FlatChecker
flat_checker checker = record {
  has_awaited = bit_of (is_some checker.facts.awaited);
  awaited = unwrap_or checker.facts.awaited 0;
  absent_named = bit_of checker.facts.absent_named;
  has_polled = bit_of (is_some checker.facts.polled);
  polled = unwrap_or checker.facts.polled 0;
  answered = bit_of checker.facts.answered;
  advanced = bit_of checker.facts.advanced;
  more = flat_more checker.facts.more;
  skips = flat_skips checker.skips;
  per_block = checker.limits.per_block;
  waiting = checker.limits.waiting;
  reserved = replicate 4 0;
}

-- a breach of this rule
abbrev pub with_due : ℕ → Option Due → FlatBreach
with_due rule None = record { rule = rule; has_due = 0; due = 0; got = 0 }
with_due rule (Some due) = record { rule = rule; has_due = 1; due = due.expected; got = due.actual }

-- a breach as C sees it; without one all numbers are 0
abbrev pub flat_breach : Option Breach → FlatBreach
flat_breach None = record { rule = 0; has_due = 0; due = 0; got = 0 }
flat_breach (Some breach) = with_due (rule_number breach.rule) breach.due

-- a breach of a rule on content as C sees it, with input 255 for none; without a breach all numbers are 0
abbrev pub flat_content_breach : Option ContentBreach → FlatContentBreach
flat_content_breach None = record { rule = 0; input = 0; items = 0 }
flat_content_breach (Some breach) = record {
  rule = content_rule_number breach.rule;
  input = unwrap_or breach.input 255;
  items = breach.items;
}
