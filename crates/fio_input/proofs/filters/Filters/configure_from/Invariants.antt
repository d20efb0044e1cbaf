use Rattle.fio_input.proofs.Names.{List, ◌∷◌, take, FilterEvent, Configure, AreFiltersAfter}
use Rattle.fio_input.specs.Filters.{with_ignored}
use Rattle.fio_input.proofs.filters.Filters.configure_from.Given as goal

abbrev pub invariant-loop-place : goal.invariant-loop-place
invariant-loop-place g l =
    (history : List FilterEvent) → AreFiltersAfter l.fn.self history → AreFiltersAfter (with_ignored l.self l.ignored) (Configure (take l.place (g.C.Configuration.items l.items)) ∷ history)
