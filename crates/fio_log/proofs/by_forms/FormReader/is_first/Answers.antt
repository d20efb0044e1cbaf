use Rattle.std.proofs.Common.{◌≡◌, Bool, None, true, false, not, refl}
use Rattle.fio_log.proofs.by_forms.FormReader.is_first.Goals as goal

true_if : (b : Bool) → false ≡ not b → b ≡ true
true_if true is = refl
true_if false is = absurd (cc)

pub returns-in-Some-clause-begins : goal.returns-in-Some-clause-begins
returns-in-Some-clause-begins c = λ none.
    let is : c.second_in.result ≡ None = c.second_in.ensures (rw c.list.ensures none) in
    true_if c.is_none.result (rw is at c.is_none.ensures)
