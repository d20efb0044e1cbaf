-- A block that is sent again was made at a poll for it, and what was received since has no item of an input of which none was sent
-- since the first of these polls. So, if it has no C, it settles the input as a clear block does.
use Rattle.fio_ends.proofs.Names.{◌≡◌, ◌∙◌, ◌<◌, ◌≤◌, ◌&&◌, ◌⊎◌, inl, inr, ℕ, Bool, true, false, not, List, [], ◌∷◌, ◌++◌, length, length-append, refl, ap, sym, subst, arith, slice_get_within, AllByRecursion, append_assoc, Block, Settings, AreInRange, Life, Occurrence, life_of, log_of, scans_of, MadeBlock, next_block, blocks_in, ContentFacts, Machine, blocks_without_more_take_all, each-front, later_log, append_cancel_right, each-back}
use Rattle.fio_ends.proofs.ContentSteps.{IsKnown, PollsKnown, Takes}
use Rattle.fio_ends.proofs.Following.{GoesOn}
use Rattle.fio_ends.proofs.FirstPolls.{HasFirstPoll, IsBelow, LeavesInput}
use Rattle.fio_ends.proofs.Lives.{made_since, scans_grow}
use Rattle.fio_ends.proofs.Settled.{setting-command, setting-quiet, setting_of}
use Rattle.fio_ends.proofs.Watching.{NoneHidden, none_hidden-command, none_hidden-now, none_hidden-quiet}

-- the life at which a block was made, and what happened since: no item of these inputs was received
pub record IsMadeThen (settings : Settings) (now : Life) (since : ℕ → Bool) (block : MadeBlock) : Type 0 where
  pub life : Life
  pub is : block ≡ next_block settings life
  pub more : List Occurrence
  pub now_is : now ≡ more ++ life
  pub none : (input : ℕ) → since input ≡ false → AllByRecursion (LeavesInput input) more

-- what is known of the block that the CPU takes, if a clear block is above
abbrev pub MadeThen : Settings → Life → MadeBlock → ContentFacts → Type 0
MadeThen settings now block facts = facts.clear ≡ true → IsMadeThen settings now facts.since_poll block

-- such an input is settled
pub settles_open : (clear since : Bool) → (clear && not since) ≡ true → (clear ≡ true) × (since ≡ false)
settles_open clear since is = grind arith

module _ (settings : Settings) (range : AreInRange settings) (first : ℕ) (begin : Machine) (from : Life) (machine : Machine) (place number : ℕ) (answer : Block) (block : MadeBlock)
    (known : IsKnown settings first begin from machine) (t : Takes settings first from machine place number answer block) (facts : ContentFacts) (polls : PollsKnown settings machine facts) where
  abbrev now : Life
  now = life_of machine.history

  made_inside : machine.round < length (blocks_in settings machine)
  made_inside = slice_get_within (blocks_in settings machine) machine.round block t.made

  first_poll : facts.clear ≡ true → HasFirstPoll settings machine.to_module machine.last_to_module machine.round now facts.since_poll
  first_poll clear = by facts.polled refl
    where
      by : (polled : Bool) → facts.polled ≡ polled → HasFirstPoll settings machine.to_module machine.last_to_module machine.round now facts.since_poll
      by true is = polls.first_poll clear is
      by false is = (let b = polls.unpolled clear is in absurd (omega (arith, b.received, known.is_kept.one_life.made, made_inside)))

  pub made_then : MadeThen settings now block facts
  made_then clear = (let h = first_poll clear in by h.place h.below)
    where
      by : (place : ℕ) → IsBelow settings machine.to_module machine.last_to_module machine.round now facts.since_poll place → IsMadeThen settings now facts.since_poll block
      by place (inl few) = absurd (omega (arith, few, made_inside))
      by place (inr late) =
          let l = late.1 in
          let m = made_since settings l.before now machine.round block (record { more = l.more; is = l.is }) l.few t.made in
          let parts : l.more ≡ m.upto.more ++ m.begun.more =
          append_cancel_right l.more (m.upto.more ++ m.begun.more) l.before
          (sym l.is ∙ m.upto.is ∙ ap (λ life. m.upto.more ++ life) m.begun.is ∙ sym (append_assoc m.upto.more m.begun.more l.before)) in
          record {
            life = m.life;
            is = m.is;
            more = m.upto.more;
            now_is = m.upto.is;
            none = λ input free. each-front (LeavesInput input) m.upto.more m.begun.more (subst (AllByRecursion (LeavesInput input)) parts (l.none input free));
          }

-- ---- what stays of an input

module _ (input : ℕ) (low : input < 64) where
  hidden-left : (occurrence : Occurrence) (life : Life) (upto : ℕ) → LeavesInput input occurrence → upto ≤ length (log_of life) → NoneHidden life upto input
      → NoneHidden (occurrence ∷ life) upto input
  hidden-left occurrence life upto leaves within hidden = grind (arith, none_hidden-command, none_hidden-quiet)

  pub hidden-since : (more life : List Occurrence) (upto : ℕ) → AllByRecursion (LeavesInput input) more → upto ≤ length (log_of life) → NoneHidden life upto input
      → NoneHidden (more ++ life) upto input
  hidden-since [] life upto leaves within hidden = hidden
  hidden-since (occurrence ∷ more) life upto leaves within hidden =
      let grown = later_log more life in
      hidden-left occurrence (more ++ life) upto leaves.0 (omega (arith, within, ap length grown.1, length-append (log_of life) grown.0))
      (hidden-since more life upto leaves.1 within hidden)

  setting-left : (occurrence : Occurrence) (life : Life) → LeavesInput input occurrence → setting_of input (occurrence ∷ life) ≡ setting_of input life
  setting-left occurrence life leaves = grind (arith, setting-command, setting-quiet)

  pub setting-unnamed : (more life : List Occurrence) → AllByRecursion (LeavesInput input) more → setting_of input (more ++ life) ≡ setting_of input life
  setting-unnamed [] life leaves = refl
  setting-unnamed (occurrence ∷ more) life leaves = setting-left occurrence (more ++ life) leaves.0 ∙ setting-unnamed more life leaves.1

  -- where a block without C was made, all that was logged is recorded
  pub made_ends : (settings : Settings) (now : Life) (since : ℕ → Bool) (block : MadeBlock) → (m : IsMadeThen settings now since block) → block.more ≡ false
      → block.end ≡ length (log_of m.life)
  made_ends settings now since block m whole =
      ap (λ (b : MadeBlock). b.end) m.is ∙ blocks_without_more_take_all settings m.life (ap (λ (b : MadeBlock). b.more) (sym m.is) ∙ whole)

  -- no change is hidden since
  pub hidden_then : (settings : Settings) (now : Life) (since : ℕ → Bool) (block : MadeBlock) → IsMadeThen settings now since block → since input ≡ false → block.more ≡ false
      → NoneHidden now block.end input
  hidden_then settings now since block m free whole =
      let ends = made_ends settings now since block m whole in
      subst (λ life. NoneHidden life block.end input) (sym m.now_is)
      (hidden-since m.more m.life block.end (m.none input free) (omega (arith, ends)) (none_hidden-now m.life block.end input ends))

-- ---- a life that goes on from it

-- of two ends of a list the one is an end of the other
ends_of : (front other back rest : List Occurrence) → front ++ back ≡ other ++ rest
    → ((middle : List Occurrence) × ((back ≡ middle ++ rest) × (other ≡ front ++ middle))) ⊎ ((middle : List Occurrence) × (rest ≡ middle ++ back))
ends_of [] other back rest is = inl (other, (is, refl))
ends_of (first ∷ front) [] back rest is = inr (first ∷ front, sym is)
ends_of (first ∷ front) (one ∷ other) back rest is =
    let same : first ≡ one = cc is in
    let tails : front ++ back ≡ other ++ rest = cc is in
    by same (ends_of front other back rest tails)
  where
    by : first ≡ one → ((middle : List Occurrence) × ((back ≡ middle ++ rest) × (other ≡ front ++ middle))) ⊎ ((middle : List Occurrence) × (rest ≡ middle ++ back))
        → ((middle : List Occurrence) × ((back ≡ middle ++ rest) × (one ∷ other ≡ first ∷ (front ++ middle)))) ⊎ ((middle : List Occurrence) × (rest ≡ middle ++ back))
    by same (inl found) = inl (found.0, (found.1.0, ap (λ rest. one ∷ rest) found.1.1 ∙ ap (λ head. head ∷ (front ++ found.0)) (sym same)))
    by same (inr found) = inr found

-- what happened from such a life on, and up to it
pub record IsLeftBetween (made life now : Life) (since : ℕ → Bool) : Type 0 where
  pub before : List Occurrence
  pub is : life ≡ before ++ made
  pub none_before : (input : ℕ) → since input ≡ false → AllByRecursion (LeavesInput input) before
  pub more : List Occurrence
  pub now_is : now ≡ more ++ life
  pub none_more : (input : ℕ) → since input ≡ false → AllByRecursion (LeavesInput input) more

-- a life that the present one goes on from, if it is at later scans than the block
pub left_between : (settings : Settings) (now life : Life) (since : ℕ → Bool) (block : MadeBlock) (m : IsMadeThen settings now since block) → GoesOn life now → block.scans < scans_of life
    → IsLeftBetween m.life life now since
left_between settings now life since block m g later = by (ends_of g.more m.more life m.life (sym g.is ∙ m.now_is))
  where
    scans : block.scans ≡ scans_of m.life
    scans = ap (λ (b : MadeBlock). b.scans) m.is

    by : ((middle : List Occurrence) × ((life ≡ middle ++ m.life) × (m.more ≡ g.more ++ middle))) ⊎ ((middle : List Occurrence) × (m.life ≡ middle ++ life)) → IsLeftBetween m.life life now since
    by (inl found) = record {
      before = found.0;
      is = found.1.0;
      none_before = λ input free. each-back (LeavesInput input) g.more found.0 (subst (AllByRecursion (LeavesInput input)) found.1.1 (m.none input free));
      more = g.more;
      now_is = g.is;
      none_more = λ input free. each-front (LeavesInput input) g.more found.0 (subst (AllByRecursion (LeavesInput input)) found.1.1 (m.none input free));
    }
    by (inr found) = (let grown = scans_grow life m.life (record { more = found.0; is = found.1 }) in absurd (omega (arith, grown, scans, later)))
