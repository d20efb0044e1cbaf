-- Octets that are put into room before others.
use Rattle.std.proofs.Common.{◌≡◌, ℕ, ◌+◌, ◌-◌, ◌≤◌, List, ◌++◌, length, drop, sym, ap, ◌∙◌, arith, length-append, length-drop}
use Rattle.std.proofs.Math.Seq.{drop-append-add}
use Rattle.std.proofs.lemmas.List.{drop-drop}

-- what is from `end` on is kept if octets are put in front of it
pub kept : (old new octets : List ℕ) (start end at : ℕ) → drop start new ≡ octets ++ drop end old → start + length octets ≡ end → end ≤ at
    → drop at new ≡ drop at old
kept old new octets start end at put starts past =
    let behind : start + (length octets + (at - end)) ≡ at = omega arith in
    let over : end + (at - end) ≡ at = omega arith in
    sym (ap (λ n. drop n new) behind) ∙ sym (drop-drop (length octets + (at - end)) start new)
    ∙ ap (λ l. drop (length octets + (at - end)) l) put ∙ drop-append-add octets (drop end old) (at - end)
    ∙ drop-drop (at - end) end old ∙ ap (λ n. drop n old) over

-- where octets start, given how many octets follow them to the end of a line
pub start-of : (line octets rest : List ℕ) (start : ℕ) → drop start line ≡ octets ++ rest → start ≤ length line
    → start + length octets + length rest ≡ length line
start-of line octets rest start is within =
    omega (arith, within, ap length is, length-append octets rest, length-drop start line)
