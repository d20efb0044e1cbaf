-- What holds of each block that a module makes.
use Rattle.std.proofs.lemmas.Bool.Decides.{nat_tests}
use Rattle.fio_link.proofs.Names.{◌≡◌, ℕ, zero, suc, ◌^◌, ◌<◌, ◌≤◌, Bool, true, false, List, [], ◌∷◌, ◌++◌, length, take, drop, map, Some, slice_get, subst, arith, length-take, if◌then◌else◌, AllByRecursion, IsEntry, Poll, Settings, Life, Scanned, Commanded, Transition, entry_of, log_of, transition_at, is_reported, filter_events, MadeBlock, newest_poll, is_new, blocks_of, next_block}
use Rattle.fio_module.specs.Log.{transitions_below}

-- what holds of each element of two lists holds of each of both together
pub each-append : {A : Type 0} (P : A → Type 0) (xs ys : List A) → AllByRecursion P xs → AllByRecursion P ys
    → AllByRecursion P (xs ++ ys)
each-append P [] ys p q = q
each-append P (x ∷ xs) ys p q = (p.0, each-append P xs ys p.1 q)

-- the first of a list are all
pub each-take : {A : Type 0} (P : A → Type 0) (n : ℕ) (xs : List A) → AllByRecursion P xs
    → AllByRecursion P (take n xs)
each-take P zero xs p = tt
each-take P (suc n) [] p = tt
each-take P (suc n) (x ∷ xs) p = (p.0, each-take P n xs p.1)

-- and of the last ones
pub each-drop : {A : Type 0} (P : A → Type 0) (n : ℕ) (xs : List A) → AllByRecursion P xs
    → AllByRecursion P (drop n xs)
each-drop P zero xs p = p
each-drop P (suc n) [] p = tt
each-drop P (suc n) (x ∷ xs) p = each-drop P n xs p.1

-- what holds of each element may be weakened
pub each-map : {A : Type 0} (P Q : A → Type 0) → ((x : A) → P x → Q x) → (xs : List A) → AllByRecursion P xs
    → AllByRecursion Q xs
each-map P Q f [] p = tt
each-map P Q f (x ∷ xs) p = (f x p.0, each-map P Q f xs p.1)

-- what holds of each element holds of the one at a place
pub each-at : {A : Type 0} (P : A → Type 0) (xs : List A) (k : ℕ) (x : A) → AllByRecursion P xs
    → slice_get xs k ≡ Some x → P x
each-at P [] k x p is = absurd (cc is)
each-at P (y ∷ ys) zero x p is = let same : y ≡ x = cc in subst P same p.0
each-at P (y ∷ ys) (suc k) x p is = each-at P ys k x p.1 is

-- if one more block is made, or none
each_block-if : (P : MadeBlock → Type 0) (new : Bool) (blocks : List MadeBlock) (block : MadeBlock)
    → AllByRecursion P blocks → P block → AllByRecursion P (if new then blocks ++ block ∷ [] else blocks)
each_block-if P true blocks block all one = each-append P blocks (block ∷ []) all (one, tt)
each_block-if P false blocks block all one = all

-- what holds of each block as it is made holds of all blocks of a life
pub each_block : (P : MadeBlock → Type 0) (settings : Settings)
    → ((life : Life) → P (next_block settings life))
    → (life : Life) → AllByRecursion P (blocks_of settings life)
each_block P settings made [] = tt
each_block P settings made (Commanded (Poll number) ∷ life) =
    each_block-if P (is_new (newest_poll life) number) (blocks_of settings life) (next_block settings life)
    (each_block P settings made life) (made life)
each_block P settings made (other ∷ life) = each_block P settings made life

-- a transition of an input that a module has
abbrev pub HasInput : Transition → Type 0
HasInput transition = transition.input < 64

-- one input of a scan
one_input : (reported : Bool) (life : Life) (input : ℕ) → input < 64
    → AllByRecursion HasInput (if reported then transition_at life input ∷ [] else [])
one_input true life input low = (low, tt)
one_input false life input low = tt

-- the inputs of a scan below a number
below_inputs : (count raw : ℕ) (life : Life) → count ≤ 64
    → AllByRecursion HasInput (transitions_below count raw life)
unfolding transitions_below
below_inputs zero raw life low = tt
below_inputs (suc input) raw life low =
    each-append HasInput (transitions_below input raw life) _ (below_inputs input raw life (omega arith))
    (one_input (is_reported input raw (filter_events life)) (Scanned raw ∷ life) input (omega arith))

-- the log has transitions of such inputs alone
log_inputs : (life : Life) → AllByRecursion HasInput (log_of life)
log_inputs [] = tt
log_inputs (Scanned raw ∷ life) =
    each-append HasInput (log_of life) _ (log_inputs life) (below_inputs 64 raw life (omega arith))
log_inputs (other ∷ life) = log_inputs life

-- the entries of such transitions are in the ranges of an answer
pub entries_fit : (transitions : List Transition) → AllByRecursion HasInput transitions
    → AllByRecursion IsEntry (map entry_of transitions)
entries_fit [] p = tt
entries_fit (transition ∷ transitions) p = ((omega (arith, p.0), omega arith), entries_fit transitions p.1)

-- a block whose answer is within its ranges
pub record FitsAnswer (per_block : ℕ) (block : MadeBlock) : Type 0 where
  pub count : length block.transitions ≤ per_block
  pub inputs : AllByRecursion HasInput block.transitions
  pub stamp : block.stamp < 2 ^ 32

-- the block that a new poll makes next fits an answer
pub next_fits : (settings : Settings) (life : Life)
    → FitsAnswer settings.per_block (next_block settings life)
next_fits settings life = grind (arith, nat_tests, length-take, each-take, each-drop, log_inputs)

-- each block of a life fits an answer
pub blocks_fit : (settings : Settings) (life : Life)
    → AllByRecursion (FitsAnswer settings.per_block) (blocks_of settings life)
blocks_fit settings life = each_block (FitsAnswer settings.per_block) settings (next_fits settings) life
