-- A CPU that begins anew takes one stretch of the module's blocks in each of its lives.
use Rattle.std.proofs.lemmas.Bool.Decides.{nat_tests}
use Rattle.fio_link.proofs.Names.{◌≡◌, ◌+◌, ◌-◌, ◌≤◌, ◌⊎◌, List, [], ◌∷◌, ◌++◌, length, take, drop, map, refl, ap, sym, subst, ◌∙◌, arith, inl, inr, length-append, length-drop, append-nil, flat_map, AllByRecursion, AllZip, Settings, AreInRange, life_of, MadeBlock, blocks_of, SentFrame, Machine, piece_of, blocks_in, IsTimed, sources_of, next_round, TakenLife, AtEachRestart}
use Rattle.std.proofs.lemmas.List.{take-append-drop}
use Rattle.fio_link.specs.CpuRestarts.{NewCpuLife, LivesFollow, BeginsAgain, TakesOneStretch, EachTakesOneStretch, MissesOneAtMost, NewCpuTakesStretches}
use Rattle.fio_link.proofs.OneLife.{recorded_of, record_of}
use Rattle.fio_link.proofs.NewCpu.{BeginsAt, EndsLife, ends_life}
use Rattle.fio_link.proofs.Times.{BlockTimely, blocks_timely, blocks_timed}
use Rattle.fio_link.proofs.WholeLives.{got_blocks}
use Rattle.fio_link.proofs.RestartLosses.{each-behind, each-front}

-- the blocks that the CPU took in a life, and what comes of them
module _ (settings : Settings) (made : List MadeBlock) (life : NewCpuLife) where
  abbrev frames : List SentFrame
  frames = life.last.to_cpu

  -- before these blocks and after them
  stretch : (before taken later : List MadeBlock) → blocks_in settings life.last ≡ before ++ (taken ++ later)
      → (before ≡ made) ⊎ BeginsAgain made before frames → length later ≤ 1
      → life.last.items ≡ flat_map recorded_of taken
      → (part : TakenLife) × TakesOneStretch settings made life part
  stretch before taken later blocks begins few kept =
      let timely = each-front BlockTimely taken later (each-behind BlockTimely before (taken ++ later)
      (subst (AllByRecursion BlockTimely) blocks (blocks_timely settings (life_of life.last.history)))) in (
        record { life = life_of life.last.history; before = before; taken = taken; after = later },
        record {
          of_module = refl;
          blocks = blocks;
          begins = begins;
          one_after = few;
          items = ap (map piece_of) kept ∙ got_blocks taken;
          times = subst (λ items. AllZip IsTimed items (flat_map sources_of taken)) (sym kept) (blocks_timed taken timely);
        },
      )

  stretch_taken : (range : AreInRange settings) → EndsLife settings range life.first made life.last
      → (part : TakenLife) × TakesOneStretch settings made life part
  stretch_taken range e = of_life e.begins
    where
      of_life : BeginsAt settings range life.first made life.last → (part : TakenLife) × TakesOneStretch settings made life part
      of_life (inl u) =
          stretch made [] [] (u.same ∙ sym (append-nil made)) (inl refl) (omega arith) u.nothing
      of_life (inr b) =
          let round = life.last.round in
          let s = b.since in
          let polled : next_round life.last.polls ≡ 0 + length s.rest = s.made in
          let same : round - 0 ≡ round = omega arith in
          stretch b.before (take round s.rest) (drop round s.rest)
          (s.split ∙ ap (λ bs. b.before ++ bs) (sym (take-append-drop round s.rest)))
          b.begins (omega (arith, length-drop round s.rest, e.order.at_most)) (s.kept ∙ ap (λ n. record_of n s.rest) same)

-- a restart between two such lives
misses_one : (settings : Settings) (made : List MadeBlock) (old new : NewCpuLife) (a b : TakenLife)
    → TakesOneStretch settings made old a → TakesOneStretch settings (blocks_in settings old.last) new b → MissesOneAtMost a b
misses_one settings made old new a b t u =
    let taken = a.before ++ a.taken in
    let all : blocks_in settings old.last ≡ a.before ++ (a.taken ++ a.after) =
    ap (blocks_of settings) (sym t.of_module) ∙ t.blocks in
    let counted = ap length all ∙ length-append a.before (a.taken ++ a.after) in
    let both = length-append a.taken a.after in
    let sum = length-append a.before a.taken in
    let few = t.one_after in
    let near = begun u.begins in
    record {
      given_up = omega (arith, length-drop (length taken) b.before);
      twice = omega (arith, length-drop (length b.before) taken);
    }
  where
    begun : (b.before ≡ blocks_in settings old.last) ⊎ BeginsAgain (blocks_in settings old.last) b.before new.last.to_cpu
        → (length b.before ≤ length (blocks_in settings old.last)) × (length (blocks_in settings old.last) ≤ length b.before + 1)
    begun (inl same) = let e = ap length same in (omega arith, omega arith)
    begun (inr again) =
        let e = ap length again.is_newest ∙ length-append b.before (again.newest ∷ []) in (omega arith, omega arith)

-- the parts of several lives
record AreTaken (settings : Settings) (made : List MadeBlock) (lives : List NewCpuLife) : Type 0 where
  pub parts : List TakenLife
  pub each : EachTakesOneStretch settings made lives parts
  pub restarts : AtEachRestart MissesOneAtMost parts

are_taken : (settings : Settings) (range : AreInRange settings) (machine : Machine) (lives : List NewCpuLife)
    → LivesFollow settings machine lives → AreTaken settings (blocks_in settings machine) lives
are_taken settings range machine [] f = record { parts = []; each = refl; restarts = tt }
are_taken settings range machine (life ∷ lives) f =
    let here = stretch_taken settings (blocks_in settings machine) life range (ends_life settings range life.first machine life.last life.events f.0 f.1) in
    let rest = are_taken settings range life.last lives f.2 in
    record {
      parts = here.0 ∷ rest.parts;
      each = (here.1, rest.each);
      restarts = restarted lives rest.parts rest.each rest.restarts;
    }
  where
    restarted : (lives : List NewCpuLife) (parts : List TakenLife) → EachTakesOneStretch settings (blocks_in settings life.last) lives parts
        → AtEachRestart MissesOneAtMost parts
        → AtEachRestart MissesOneAtMost ((stretch_taken settings (blocks_in settings machine) life range (ends_life settings range life.first machine life.last life.events f.0 f.1)).0 ∷ parts)
    restarted lives [] each restarts = tt
    restarted [] (part ∷ parts) each restarts = absurd (cc each)
    restarted (next ∷ lives) (part ∷ parts) each restarts =
        let here = stretch_taken settings (blocks_in settings machine) life range (ends_life settings range life.first machine life.last life.events f.0 f.1) in
        (misses_one settings (blocks_in settings machine) life next here.0 part here.1 each.0, restarts)

pub new_cpu_takes_stretches : NewCpuTakesStretches
new_cpu_takes_stretches settings machine lives range f = grind (arith, nat_tests, are_taken)
