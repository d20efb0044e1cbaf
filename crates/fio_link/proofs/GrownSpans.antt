-- The rounds of each life as a block is made, and as the module restarts.
use Rattle.std.proofs.lemmas.Bool.Decides.{nat_tests}
use Rattle.fio_link.proofs.Names.{◌≡◌, ℕ, suc, ◌+◌, ◌-◌, ◌≤◌, ◌⊎◌, List, [], ◌∷◌, ◌++◌, length, take, drop, map, refl, ap, sym, ◌∙◌, arith, inl, inr, length-append, length-drop, append_assoc, append-nil, take-append-le, drop-append-le, MadeBlock}
use Rattle.fio_link.proofs.Spans.{Span, Of, made_in, rounds_from, rounds_in, taken_from, low_after, Chain}

-- the round of the first block of a life, once this round makes one more
abbrev pub base_with : List MadeBlock → ℕ → ℕ → ℕ
base_with [] base round = round
base_with (block ∷ blocks) base round = base

-- the present life, and the spans once a poll of this round has made a block in it
pub record Grown (low from next round polled base to : ℕ) (past : List Span) (own : List MadeBlock) (block : MadeBlock)
    : Type 0 where
  pub chain : Chain low from (past ++ Of (own ++ block ∷ []) (base_with own base polled) to ∷ []) (polled + 1) round
  pub rounds : rounds_in (past ++ Of (own ++ block ∷ []) (base_with own base polled) to ∷ [])
      ≡ rounds_in (past ++ Of own base to ∷ []) ++ polled ∷ []
  pub taken : taken_from from (past ++ Of (own ++ block ∷ []) (base_with own base polled) to ∷ [])
      ≡ taken_from from (past ++ Of own base to ∷ [])

-- one more block has the next round
rounds_from-push : (base : ℕ) (blocks : List MadeBlock) (block : MadeBlock)
    → rounds_from base (blocks ++ block ∷ []) ≡ rounds_from base blocks ++ (base + length blocks) ∷ []
rounds_from-push base [] block = let same : base ≡ base + 0 = omega arith in ap (λ r. r ∷ []) same
rounds_from-push base (b ∷ blocks) block =
    let same : (base + 1) + length blocks ≡ base + suc (length blocks) = omega arith in
    ap (λ rs. base ∷ rs) (rounds_from-push (base + 1) blocks block)
    ∙ ap (λ r. base ∷ (rounds_from (base + 1) blocks ++ r ∷ [])) same

-- the present life alone
grown_alone : (low from next round polled base to : ℕ) (own : List MadeBlock) (block : MadeBlock)
    → Chain low from (Of own base to ∷ []) next round
    → next ≤ polled + 1 → polled ≤ round → round ≤ polled + 1 → (own ≡ []) ⊎ (polled ≡ next)
    → Grown low from next round polled base to [] own block
grown_alone low from next round polled base to [] block c high upto near fresh = grind (arith, nat_tests)
grown_alone low from next round polled base to (first ∷ own) block c high upto near fresh =
    let all = first ∷ own in
    let forward : from ≤ to = c.0 in
    let f = c.1 in
    let follows : low ≤ base + 1 = f.follows in
    let begins : base ≤ from = f.begins in
    let soon : from ≤ base + 1 = f.begins_soon in
    let ends : to ≤ base + suc (length own) = f.ends in
    let after : base + suc (length own) ≡ next = c.2.0 in
    let upto_now : to ≡ round = c.2.1 in
    let this : polled ≡ next = elim fresh as (λ _. polled ≡ next) [ inl none ↦ absurd (cc none) | inr same ↦ same ] in
    let more : length (own ++ block ∷ []) ≡ length own + 1 = length-append own (block ∷ []) in
    let start = from - base in
    let in_list : start ≤ length all = omega arith in
    let left : length (drop start all) ≡ length all - start = length-drop start all in
    let kept : take (to - from) (drop start (all ++ block ∷ [])) ≡ take (to - from) (drop start all) =
    ap (take (to - from)) (drop-append-le start all (block ∷ []) in_list)
    ∙ take-append-le (to - from) (drop start all) (block ∷ []) (omega arith) in
    let number : base + length all ≡ polled = omega arith in
    record {
      chain = (
        forward,
        record { follows = follows; begins = begins; begins_soon = soon; ends_late = omega arith; ends = omega arith },
        (omega arith, upto_now),
      );
      rounds = append-nil (rounds_from base (all ++ block ∷ [])) ∙ rounds_from-push base all block
          ∙ ap (λ r. rounds_from base all ++ r ∷ []) number
          ∙ ap (λ rs. rs ++ polled ∷ []) (sym (append-nil (rounds_from base all)));
      taken = ap (λ bs. bs ++ []) kept;
    }

-- after the lives before it
pub grown : (low from next round polled base to : ℕ) (past : List Span) (own : List MadeBlock) (block : MadeBlock)
    → Chain low from (past ++ Of own base to ∷ []) next round
    → next ≤ polled + 1 → polled ≤ round → round ≤ polled + 1 → (own ≡ []) ⊎ (polled ≡ next)
    → Grown low from next round polled base to past own block
grown low from next round polled base to [] own block c high upto near fresh =
    grown_alone low from next round polled base to own block c high upto near fresh
grown low from next round polled base to (Of blocks b t ∷ past) own block c high upto near fresh =
    let rest = grown (low_after low blocks b) t next round polled base to past own block c.2 high upto near fresh in
    record {
      chain = (c.0, c.1, rest.chain);
      rounds = ap (λ rs. rounds_from b blocks ++ rs) rest.rounds
          ∙ sym (append_assoc (rounds_from b blocks) (rounds_in (past ++ Of own base to ∷ [])) (polled ∷ []));
      taken = ap (λ bs. take (t - from) (drop (from - b) blocks) ++ bs) rest.taken;
    }

-- a new life begins
pub record Begun (low from next round : ℕ) (spans : List Span) : Type 0 where
  pub chain : Chain low from (spans ++ Of [] 0 round ∷ []) next round
  pub rounds : rounds_in (spans ++ Of [] 0 round ∷ []) ≡ rounds_in spans
  pub taken : taken_from from (spans ++ Of [] 0 round ∷ []) ≡ taken_from from spans

pub begun : (low from next round : ℕ) (spans : List Span) → Chain low from spans next round
    → Begun low from next round spans
begun low from next round [] c = grind (arith, nat_tests)
begun low from next round (Of blocks base to ∷ spans) c =
    let rest = begun (low_after low blocks base) to next round spans c.2 in
    record {
      chain = (c.0, c.1, rest.chain);
      rounds = ap (λ rs. rounds_from base blocks ++ rs) rest.rounds;
      taken = ap (λ bs. take (to - from) (drop (from - base) blocks) ++ bs) rest.taken;
    }

-- spans of which these are the last blocks
pub record EndsWith (made : List (List MadeBlock)) (own : List MadeBlock) (spans : List Span) : Type 0 where
  pub past : List Span
  pub base : ℕ
  pub to : ℕ
  pub are : spans ≡ past ++ Of own base to ∷ []
  pub before : map made_in past ≡ made

-- after one more
ends_behind : (blocks : List MadeBlock) (made : List (List MadeBlock)) (own others : List MadeBlock) (base to : ℕ) (spans : List Span)
    → others ≡ blocks → EndsWith made own spans → EndsWith (blocks ∷ made) own (Of others base to ∷ spans)
ends_behind blocks made own others base to spans same rest =
    record {
      past = Of others base to ∷ rest.past;
      base = rest.base;
      to = rest.to;
      are = ap (λ ss. Of others base to ∷ ss) rest.are;
      before = ap (λ bss. others ∷ bss) rest.before ∙ ap (λ bs. bs ∷ made) same;
    }

pub ends_with : (made : List (List MadeBlock)) (own : List MadeBlock) (spans : List Span)
    → map made_in spans ≡ made ++ own ∷ [] → EndsWith made own spans
ends_with [] own (Of blocks base to ∷ []) is =
    let same : blocks ≡ own = cc in
    record { past = []; base = base; to = to; are = ap (λ bs. Of bs base to ∷ []) same; before = refl }
ends_with (blocks ∷ made) own [] is = absurd (cc is)
ends_with (blocks ∷ made) own (Of others base to ∷ spans) is =
    let same : others ≡ blocks = cc in
    let tail : map made_in spans ≡ made ++ own ∷ [] = cc in
    ends_behind blocks made own others base to spans same (ends_with made own spans tail)
ends_with [] own _ is = absurd (cc is)
