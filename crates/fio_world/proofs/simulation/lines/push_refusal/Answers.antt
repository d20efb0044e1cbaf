use Rattle.fio_world.proofs.Names.{rules, ◌≡◌, ◌≢◌, ℕ, List, ◌++◌, IsSomeAnd, codes, decimal, refl, refusal_in, refused_line, WorldError}
use Rattle.fio_world.specs.Faults.{world_error_text}
use Rattle.fio_world.specs.declared.outcome.WorldError.TheVariants.{NotSent, OutOfOrder, PollIsOurs, Memory}
use Rattle.fio_world.proofs.simulation.lines.push_refusal.Goals as goal

-- the line with the text of a fault is that of the refusal
refused : (text whole : List ℕ) (number : ℕ) (fault : WorldError) → fault ≢ Memory
    → whole ≡ text ++ (decimal number ++ (codes " refused " ++ (world_error_text fault ++ codes "\n")))
    → IsSomeAnd (refusal_in fault) (λ refusal. whole ≡ text ++ refused_line number refusal)
refused text whole number (NotSent index) other appended = appended
refused text whole number (OutOfOrder index last) other appended = appended
refused text whole number PollIsOurs other appended = appended
refused text whole number Memory other appended = absurd (other refl)

pub returns : goal.returns
returns c =
    let other : c.args.fault ≢ Memory = search rules in
    let appended : c.extend_from_slice.new.self.items
    ≡ c.args.text.now.items ++ (decimal c.args.number
    ++ (codes " refused " ++ (world_error_text c.args.fault ++ codes "\n"))) = search rules in
    refused _ _ _ _ other appended
