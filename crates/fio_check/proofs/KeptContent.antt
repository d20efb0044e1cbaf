-- The events of a block, and the number of a CPU's end, as the checker of the rules on content takes them.
use Rattle.fio_check.proofs.Names.{◌≡◌, ◌∙◌, ◌+◌, ◌++◌, ℕ, Bool, true, false, List, [], ◌∷◌, Option, Some, None, refl, sym, ap, ap₂, arith, length, map, fold, option_or, gap_if, Item, if◌then◌else◌, not, is_set, InputAbove, ContentFacts, content_with, breach_among, breach_found, ContentEvent, Recorded, Ended, items_and_end, ContentBreach, coming, content_step, fun_ext, input_coming, input_ended, is_set-zero, says_again, says_more, seen_below, settles, ◌||◌}
use Rattle.fio_check.specs.ContentFacts.{timely_below}
use Rattle.fio_check.specs.ContentKept.{flagged_number, is_flagged}

pub option_or_assoc : {A : Type 0} (a b c : Option A) → option_or (option_or a b) c ≡ option_or a (option_or b c)
option_or_assoc None b c = refl
option_or_assoc (Some x) b c = refl

pub option_or-none : {A : Type 0} (a : Option A) → option_or a None ≡ a
option_or-none None = refl
option_or-none (Some x) = refl

-- ---- the events of a block

-- items, and then one event more
among_last : (items : List Item) (facts : ContentFacts) (above : ℕ) (last : ContentEvent)
    → option_or (breach_among facts above (map Recorded items)) (breach_found (fold content_with facts (map Recorded items)) (above + length items) last)
    ≡ breach_among facts above (map Recorded items ++ (last ∷ []))
among_last [] facts above last =
    let same : above + 0 ≡ above = omega arith in
    ap (λ n. breach_found facts n last) same ∙ sym (option_or-none (breach_found facts above last))
among_last (item ∷ items) facts above last =
    let same : above + length (item ∷ items) ≡ (above + 1) + length items = omega arith in
    option_or_assoc (breach_found facts above (Recorded item)) (breach_among (content_with facts (Recorded item)) (above + 1) (map Recorded items)) _
    ∙ ap (option_or (breach_found facts above (Recorded item)))
    (ap (λ n. option_or (breach_among (content_with facts (Recorded item)) (above + 1) (map Recorded items)) (breach_found (fold content_with (content_with facts (Recorded item)) (map Recorded items)) n last)) same
    ∙ among_last items (content_with facts (Recorded item)) (above + 1) last)

-- with a gap mark above them, or none
gap-found : (facts : ContentFacts) (lost : Bool) (items : List Item) (last : ContentEvent)
    → breach_among (fold content_with facts (map Recorded (gap_if lost))) (length (gap_if lost)) (map Recorded items ++ (last ∷ []))
    ≡ breach_among facts 0 (map Recorded (gap_if lost ++ items) ++ (last ∷ []))
gap-found facts true items last = refl
gap-found facts false items last = refl

-- what is found in a block
pub block_found : (facts below : ContentFacts) (lost : Bool) (entries : List Item) (status stamp items : ℕ) (found in_entries in_end : Option ContentBreach)
    → below ≡ fold content_with facts (map Recorded (gap_if lost)) → items ≡ length (gap_if lost)
    → in_entries ≡ option_or found (breach_among below items (map Recorded entries))
    → in_end ≡ option_or in_entries (breach_found (fold content_with below (map Recorded entries)) (items + length entries) (Ended status stamp))
    → in_end ≡ option_or found (breach_among facts 0 (items_and_end (gap_if lost ++ entries) status stamp))
block_found facts below lost entries status stamp items found in_entries in_end begins counts enters ends =
    ends ∙ ap (λ f. option_or f (breach_found (fold content_with below (map Recorded entries)) (items + length entries) (Ended status stamp))) enters
    ∙ option_or_assoc found (breach_among below items (map Recorded entries)) _
    ∙ ap (option_or found) (among_last entries below items (Ended status stamp)
    ∙ ap₂ (λ f n. breach_among f n (map Recorded entries ++ (Ended status stamp ∷ []))) begins counts
    ∙ gap-found facts lost entries (Ended status stamp))

-- ---- the end of a block

-- an input below it
pub ended_input : (facts : ContentFacts) (status stamp input : ℕ)
    → (content_step facts (Ended status stamp)).inputs input ≡ input_ended (settles facts input (Ended status stamp)) (input_coming input (coming facts (Ended status stamp)) (facts.inputs input))
ended_input facts status stamp input = grind arith

-- no poll is sent since
pub ended_unpolled : (facts : ContentFacts) (status stamp : ℕ) → (content_step facts (Ended status stamp)).polled ≡ false
ended_unpolled facts status stamp = grind arith

-- one without C settles inputs, and keeps its stamp
pub ended_full : (old mid settled full : ContentFacts) (status stamp : ℕ) → says_more status ≡ false
    → mid ≡ (record old {
      seen = seen_below (Ended status stamp) old.seen;
      inputs = λ input. input_coming input (coming old (Ended status stamp)) (old.inputs input);
    })
    → settled ≡ (record mid { inputs = λ input. input_ended (settles mid input (Ended status stamp)) (mid.inputs input) })
    → full ≡ (record settled {
      clear = not (says_again status) || settled.clear;
      timely = timely_below (not (says_again status)) settled;
      full = if timely_below (not (says_again status)) settled then Some stamp else None;
      floor = Some (record { time = stamp; input = None });
    })
    → (record full { polled = false; since_poll = λ input. false }) ≡ content_step old (Ended status stamp)
ended_full old mid settled full status stamp whole comes settles_is full_is = grind arith

-- one with C does neither
pub ended_more : (old : ContentFacts) (status stamp : ℕ) → says_more status ≡ true → old.full ≡ (if old.timely then old.full else None)
    → (record old { polled = false; since_poll = λ input. false }) ≡ content_step old (Ended status stamp)
ended_more old status stamp more known = grind arith

-- the inputs that a clear block settles
pub settled_clear : (old : ContentFacts) (inputs : ℕ → InputAbove) (status stamp : ℕ) → says_more status ≡ false → says_again status ≡ false
    → ((input : ℕ) → inputs input ≡ input_ended (not (is_set 0 input)) (old.inputs input))
    → (record old { inputs = inputs }) ≡ (record old { inputs = λ input. input_ended (settles old input (Ended status stamp)) (old.inputs input) })
settled_clear old inputs status stamp whole first settled = rw (whole, first)
    (ap (λ inputs. record old { inputs = inputs }) (fun_ext (λ input. settled input ∙ ap (λ b. input_ended (not b) (old.inputs input)) (is_set-zero input))))

-- the stamp of a block is kept only where times are known
pub flagged_if : (clear full : ℕ) → flagged_number clear full ≡ (if is_flagged clear then flagged_number clear full else None)
flagged_if clear full = grind arith
