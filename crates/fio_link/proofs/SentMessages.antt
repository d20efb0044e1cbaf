-- Messages among frames and one frame more.
use Rattle.std.proofs.lemmas.Bool.Decides.{nat_tests}
use Rattle.fio_link.proofs.Names.{◌≡◌, ℕ, ◌≤◌, List, [], ◌∷◌, ◌++◌, length, Option, Some, None, arith, slice_get_within, SentFrame}
use Rattle.fio_link.specs.Frames.{HasMessage}
use Rattle.fio_link.proofs.Places.{get_after_push}

module _ {A : Type 0} (decoded : List ℕ → Option A) (frames : List SentFrame) (f : SentFrame) where
  -- what holds of each message among frames, and of that of one frame more, holds of each among all
  pub each_more : (P : ℕ → A → ℕ → Type 0)
      → ((p : ℕ) (a : A) (r : ℕ) → HasMessage decoded frames p a r → P p a r)
      → ((a : A) → decoded f.octets ≡ Some a → P (length frames) a f.round)
      → (p : ℕ) (a : A) (r : ℕ) → HasMessage decoded (frames ++ f ∷ []) p a r → P p a r
  each_more P old new p a r h = grind (arith, nat_tests, get_after_push)

  -- the messages among frames and one more are those among the frames, if the last frame is no message
  pub none_more : decoded f.octets ≡ None
      → (p : ℕ) (a : A) (r : ℕ) → HasMessage decoded (frames ++ f ∷ []) p a r → HasMessage decoded frames p a r
  none_more none = each_more (HasMessage decoded frames) (λ p a r old. old) (λ a spells. absurd (cc (none, spells)))

  -- rounds that never fall, and are at most that of one frame more, do not fall with it
  pub rise_more :
      ((p q : ℕ) (a b : A) (r s : ℕ) → p ≤ q → HasMessage decoded frames p a r → HasMessage decoded frames q b s → r ≤ s)
      → ((p : ℕ) (a : A) (r : ℕ) → HasMessage decoded frames p a r → r ≤ f.round)
      → (p q : ℕ) (a b : A) (r s : ℕ) → p ≤ q
      → HasMessage decoded (frames ++ f ∷ []) p a r → HasMessage decoded (frames ++ f ∷ []) q b s → r ≤ s
  rise_more rise most p q a b r s le h k =
      each_more (λ q b s. p ≤ q → r ≤ s)
      (λ q b s older le. each_more (λ p a r. p ≤ q → r ≤ s)
      (λ p a r old le. rise p q a b r s le old older)
      (λ a spells le. absurd (omega (arith, slice_get_within frames q older.frame older.at_place))) p a r h le)
      (λ b spells le. each_more (λ p a r. r ≤ f.round) most (λ a spells. omega arith) p a r h) q b s k le
