-- The judge of a link, one frame at a time.
use Rattle.std.proofs.Common.{arith}
use Rattle.fio_check.proofs.Names.{◌≡◌, ℕ, Bool, true, false, List, Option, Some, None, refl, Checker, Command, ContentBreach, ContentKept, Judging, Skips, breach_among, checker_with, checking_above, checking_with, command_from, content_events, content_here, found_in_frame, loads_below, observation_in, place_lost}
use Rattle.fio_check.specs.LinkJudges.{checking_again}
use Rattle.fio_check.proofs.Checkers.{limits-stay}

-- ---- a checker of the rules on content that begins anew

-- a command breaks no rule on content
pub command-keeps : (kept : ContentKept) (number : Option ℕ) (command : Option Command)
    → breach_among kept.facts 0 (content_events number command None) ≡ None
command-keeps kept number None = refl
command-keeps kept number (Some command) = refl

-- one that begins anew finds nothing
pub again-finds-nothing : (loads : ℕ) (from_cpu : Bool) (octets : List ℕ) → found_in_frame (checking_again loads) from_cpu octets ≡ None
again-finds-nothing loads true octets = command-keeps (checking_again loads).kept None (command_from true octets)
again-finds-nothing loads false octets = refl

here-by : (judging : Judging) (skips : Skips) (from_cpu : Bool) (octets : List ℕ) (breach : ContentBreach)
    → found_in_frame (checking_above judging skips) from_cpu octets ≡ Some breach
    → checking_above judging skips ≡ judging.content
here-by judging skips from_cpu octets breach found = grind (arith, again-finds-nothing)

-- so where a rule on content is broken, the checker is none that begins anew
pub here-is : (judging : Judging) (from_cpu : Bool) (octets : List ℕ) (breach : ContentBreach)
    → found_in_frame (content_here judging) from_cpu octets ≡ Some breach
    → content_here judging ≡ judging.content
here-is judging from_cpu octets breach found = here-by judging judging.checker.skips from_cpu octets breach found

-- a restart that the rule on the watchdog tells, below a frame that both checkers took
pub restart-loses : (before : Judging) (checker : Checker) (asked stamp : Option ℕ) (polls : ℕ) (from_cpu : Bool) (octets : List ℕ) (breach : ContentBreach)
    → checker ≡ checker_with before.checker from_cpu (observation_in from_cpu octets)
    → found_in_frame (content_here before) from_cpu octets ≡ Some breach
    → place_lost (record before { checker = checker; content = checking_with (content_here before) from_cpu octets; asked = asked; polls = polls })
    (checking_with (content_here before) from_cpu octets).kept.facts.excuses stamp
    ≡ place_lost before (loads_below before from_cpu octets) stamp
restart-loses before checker asked stamp polls from_cpu octets breach is found = grind (arith, here-is, limits-stay)
