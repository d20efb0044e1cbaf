-- The answer of a module is written whole where there is room for the longest.
use Rattle.std.proofs.Common.{◌≡◌, ℕ, ◌≤◌, List, length, Option, Some, None, refl, subst}
use Rattle.std.proofs.lemmas.Option.{same_Some}
use Rattle.fio_message.specs.declared.answers.Answer.{Answer}
use Rattle.fio_message.specs.declared.answers.Answer.TheVariants as answers
use Rattle.fio_message.specs.Answers.{answer_octets}
use Rattle.fio_flat.specs.declared.module.ErrorCounts.{ErrorCounts}
use Rattle.fio_flat.specs.Module.{WritesReply, with_errors}
use Rattle.fio_flat.specs.Written.{WritesAnswer}

-- with error counts it is as long
errors_fit : (errors : ErrorCounts) (reply : Option Answer) (most : ℕ)
    → ((answer : Answer) → reply ≡ Some answer → length (answer_octets answer) ≤ most)
    → (answer : Answer) → with_errors errors reply ≡ Some answer → length (answer_octets answer) ≤ most
errors_fit errors None most fits answer is = absurd (cc is)
errors_fit errors (Some (answers.Status flags receive transmit stamp)) most fits answer is =
    subst (λ a. length (answer_octets a) ≤ most) (same_Some _ _ is) (fits (answers.Status flags receive transmit stamp) refl)
errors_fit errors (Some other) most fits answer is = fits answer is

written : (reply : Option Answer) (before after : List ℕ) (count : ℕ)
    → ((answer : Answer) → reply ≡ Some answer → length (answer_octets answer) ≤ length before)
    → WritesAnswer reply before after count → WritesReply reply before after count
written None before after count fits wrote = wrote
written (Some answer) before after count fits wrote = (wrote.counted, wrote.room (fits answer refl))

pub reply_written : (errors : ErrorCounts) (reply : Option Answer) (before after : List ℕ) (count : ℕ)
    → ((answer : Answer) → reply ≡ Some answer → length (answer_octets answer) ≤ length before)
    → WritesAnswer (with_errors errors reply) before after count → WritesReply (with_errors errors reply) before after count
reply_written errors reply before after count fits wrote =
    written (with_errors errors reply) before after count (errors_fit errors reply (length before) fits) wrote
