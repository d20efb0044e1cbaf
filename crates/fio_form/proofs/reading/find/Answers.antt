use Rattle.std.proofs.Common.{◌∙◌, List, ℕ, ap, drop}
use Rattle.std.specs.Prelude.{take}
use Rattle.fio_form.specs.Reading.{swapped}
use Rattle.fio_form.specs.declared.octets.TheConstants.{OCTETS}
use Rattle.fio_form.proofs.Finding.{found_at}
use Rattle.fio_form.proofs.reading.find.Goals as goal

pub returns-in-Some-clause-octets : goal.returns-in-Some-clause-octets
returns-in-Some-clause-octets c =
    c.in-Some.ensures.octets
    ∙ ap (λ (octets : List ℕ). swapped c.args.form.now.is_swapped (take OCTETS octets))
    (found_at c.args.form.now c.args.line.now (drop c.in-Some.found.front c.args.line.now) c.in-Some.ensures.front)

pub returns-in-Some-clause-some : goal.returns-in-Some-clause-some
returns-in-Some-clause-some c =
    λ none. c.in-Some.ensures.some (found_at c.args.form.now c.args.line.now (drop c.in-Some.found.front c.args.line.now) c.in-Some.ensures.front ∙ none)
