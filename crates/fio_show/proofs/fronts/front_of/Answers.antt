use Rattle.std.proofs.Common.{◌≡◌, ℕ, List, ◌+◌, ◌-◌, ◌≤◌, ◌++◌, codes, decimal, length, take, drop, replicate, ap, sym, ◌∙◌, arith, append_assoc, length-append, take_at}
use Rattle.std.proofs.lemmas.Fmt.{length-decimal-le}
use Rattle.std.proofs.lemmas.List.{take-take}
use Rattle.fio_text.proofs.RoomLemmas.{start-of}
use Rattle.fio_show.proofs.fronts.front_of.Goals as goal

pub returns : goal.returns
returns c =
    let input = c.args.input in
    let front = codes "input " ++ (decimal input ++ codes " state ") in
    let rest : List ℕ = replicate 16 0 in
    let line = c.put_pieces-start.new.line in
    let start = c.put_pieces-start.result in
    let count = 112 - start in
    let put : drop start line ≡ front ++ rest =
    c.put_pieces-start.ensures.put
    ∙ ap (λ more. codes "input " ++ more)
    (c.put_pieces-put_number.ensures.put ∙ ap (λ number. decimal number ++ (codes " state " ++ rest)) c.put_pieces-from.ensures)
    ∙ ap (λ more. codes "input " ++ more) (sym (append_assoc (decimal input) (codes " state ") rest)) in
    let starts : start + length front ≡ 112 = omega (arith, start-of line front rest start put (omega arith), c.put_pieces-start.array_long) in
    let three : length (decimal input) ≤ 3 = length-decimal-le 3 input (omega arith) (omega arith) (omega arith) in
    let within : count ≤ 16 = omega (arith, starts, three, length-append (decimal input) (codes " state ")) in
    let copied : start + 16 - start ≡ 16 = omega arith in
    record {
      front = ap (take count) (c.copy_from_slice.ensures.after ∙ ap (λ n. take n (drop start line)) copied ∙ ap (take 16) put)
          ∙ take-take count 16 (front ++ rest) within
          ∙ take_at front rest count (omega (arith, starts));
      within = within;
    }
