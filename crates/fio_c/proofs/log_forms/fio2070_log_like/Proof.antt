use Rattle.fio_c.proofs.Lent.{Body, !, Goes-dropped, Is, MutBor, MutRef, Ptr, RawPtr, ShrSlice, SliceRefOf, Stays, WpFn, [], addr, alloc_all, and_then, await, block_ptr, calls_at, done, drop, ends_at, enter, fact, fex, flent, flft, fpack, framed, free_all, fsplit, ftrue, full_share, get, group, heard, id⊢, in_a_block, join, keep, lands_as, lasts, later, lends_ref, lft_end, lft_new, lies_at, look_at, mem, move, named, no_more, nothing, of_opd, pass_all, peeks, pick, plain, prop, proved, qed, raw, rawptr_Tells, rawptr_vals, ref_back, refl, regoal, returns, sets, shows, shr_slice_Lawful, shr_slice_Tells, shr_slice_vals, some, split, stay_dropped, stop, suffices, tables, through, triple_of, u32, u8, uint_Lawful, use1, use2, use3, vptr, w32, walk_of, yes, ‵, ℕ, ◌$◌, ◌++◌, ◌∵◌, ◌∷◌, ◌⊛◌}
use Rattle.fio_log.specs.Telling.{Telling}
use Rattle.fio_log.specs.contracts.reader.Reader.{the_row as R}
use Rattle.fio_c.specs.Logs.{HasLearnt}
use Rattle.fio_c.specs.contracts.log_forms.fio2070_log_like as f
use Rattle.fio_c.proofs.log_forms.fio2070_log_like.Statement.{statement}
use Rattle.fio_c.proofs.log_forms.fio2070_log_like.Code as code
use Rattle.fio_c.specs.contracts.log_forms.learn as g
use Rattle.fio_c.proofs.log_forms.learn.Met.{met}

abbrev stayed : Stays f.ended.signature.params f.ended.kept
stayed = (stay_dropped _ yes, (stay_dropped _ yes, tt))

pub fio2070_log_like_spec : {M : Type 1} → statement M
fio2070_log_like_spec 𝓤 𝓛 𝓜 𝓡 wired =
    let c = f.clauses 𝓛 𝓜.mem 𝓡.returns in let W = walk_of 𝓛 f.ended stayed c in let 𝓣 = tables 𝓤 𝓛.H 𝓜 𝓡 𝓡.env in
    proved 𝓛 f.ended stayed c 𝓜 𝓡 (
      Goes-dropped 𝓛 1 (plain (λ _. RawPtr)) yes (λ κs x w. refl),
      (Goes-dropped 𝓛 1 (SliceRefOf (0 ∷ []) tt (plain (λ _. u8)) (λ _. tt)) yes (λ κs x w. refl), tt),
    )
    f.Key.name code.function (code.unfolded 𝓤 𝓛.H 𝓜 𝓡 wired)
    (λ κs. (rawptr_vals, (shr_slice_vals, tt))) (λ κs. (rawptr_Tells, (shr_slice_Tells (named 0) κs.0 u8, tt))) (λ κs qs bounds a n are.
    let κ = κs.0 in let q = qs.0 in
    let s = a.1.0 in let sv = shr_slice_vals s in
    let y : Ptr → W.Ghost = λ r. ((κs, qs, bounds, (r, (s, tt)), (rawptr_vals r, (sv, tt))), n) in
    qed 𝓛 (((‵ (flft κ q) ⊛ ‵ ftrue) ⊛ (‵ (RawPtr.own_val a.0 (rawptr_vals a.0)) ⊛ (‵ ((ShrSlice (named 0) κ u8).own_val s sv) ⊛ ‵ ftrue))) ∷ ‵ (lies_at R full_share a.0 n) ∷ []) ∵
    split ! $ split ! $ move ! (2 ∷ []) $ split ! $ drop ! $ split ! $ keep ! (4 ∷ 0 ∷ 2 ∷ []) $
    -- [the reader; the octets; the token of their lifetime]
    in_a_block ! a.0 (λ r. lies_at R full_share r n) (id⊢ 𝓤 _) (λ b o e.
    regoal ! (λ r. prop (WpFn 𝓤 𝓛.H 𝓣.C 𝓣.Λ code.function (rawptr_vals r ++ sv) (W.post (y r)))) e refl $
    enter ! _ _ _ _ _ $ alloc_all ! (λ l. pass_all ! refl ((tt, tt), (((shr_slice_Lawful 𝓛 (named 0) κ u8).typed s sv are.1.0).0, tt)) $
    sets ! (of_opd ! (get ! refl)) refl (tt, tt) $
    sets ! (addr ! (through ! refl (stop !))) refl (tt, tt) $
    lft_new ! tt (λ α. move ! (1 ∷ 0 ∷ []) $
    use1 𝓛 (later (some (λ (γ : ℕ). ‵ ((MutRef (named 0) (α ∷ []) R).own_val (record { ref_ptr = (b, o); ghost_name = γ; now = n }) (vptr b o ∷ [])) ⊛ ‵ (flent (α ∷ []) (Body (mem R) b o γ)))))
    (lends_ref 𝓛 R (named 0) (α ∷ []) n b o) $ await ! tt $ pick ! (λ γ. split ! $
    -- [the loan; what its lender keeps; the token of α; the octets; their token]
    let r : MutBor Telling = record { ref_ptr = (b, o); ghost_name = γ; now = n } in
    let G = triple_of 𝓛 g.signature (g.spec 𝓛 𝓜.mem 𝓡.returns) in
    let z : G.Ghost = (((α ∷ [], (κ, tt)), (full_share, (q, tt)), tt, (r, (s, tt)), (vptr b o ∷ [], (sv, tt))), tt) in
    nothing ! $ move ! (4 ∷ 0 ∷ []) $ join ! $ move ! (1 ∷ 0 ∷ []) $ join ! $
    nothing ! $ move ! (4 ∷ 0 ∷ []) $ join ! $ move ! (3 ∷ 0 ∷ []) $ join ! $ join ! $
    nothing ! $ move ! (1 ∷ 0 ∷ []) $ use2 𝓛 (raw (G.pre z)) (id⊢ 𝓤 _) $
    calls_at ! (framed 𝓤 𝓛.H 𝓜 (tables 𝓤 𝓛.H 𝓜 𝓡 𝓡.env)) G (met 𝓤 𝓛 𝓜 𝓡 (code.calls-fio_c::log_forms::learn 𝓡.env wired)) z
    (and_then ! (get ! refl) (and_then ! (get ! refl) (no_more !))) (λ v.
    use1 𝓛 (later (some (λ (m : ℕ). ((‵ (flft (α ∷ []) full_share) ⊛ (‵ (flft κ q) ⊛ ‵ ftrue)) ⊛ ‵ (u32.own_val m (v ∷ []))) ⊛
    some (λ (ws : Telling × (Unit {0} × Unit {0})). ‵ (lasts g.ended z.0.0 z.0.3 ws) ⊛ raw (fact 𝓤 (HasLearnt n m ws.0)))))) (id⊢ 𝓤 _) $
    await ! tt $ pick ! (λ m. split ! $ split ! $ split ! $ lft_end ! tt $
    move ! (1 ∷ []) $ split ! $ move ! (3 ∷ []) $
    -- [the count; the token of the octets; nothing; α is over; what is left of the call; the lender's part]
    peeks ! u32 (Is u32) (shows 𝓛 u32) m (v ∷ []) (λ is.
    lands_as ! refl refl ((uint_Lawful 𝓛 w32).typed m _ is).0 $
    move ! (4 ∷ []) $ pick ! (λ ws. split ! $ move ! (1 ∷ []) $ heard ! _ (λ has. fsplit ! $ fsplit ! $
    -- [the reader's last value; its borrow; the others'; the count; the token; nothing; α is over; the lender's part]
    move ! (6 ∷ 7 ∷ 0 ∷ []) $ use3 𝓛 (later (‵ ((mem R).own_at ws.0 b o))) (ref_back 𝓛 R (α ∷ []) γ ws.0 b o) $ await ! tt $
    returns ! (look_at ! 0 refl) $ free_all ! refl $ keep ! (0 ∷ 3 ∷ 4 ∷ []) $
    suffices ! _ (ends_at 𝓛 f.ended stayed c (y (block_ptr b o)) v m (tt, (tt, tt)) (tt, (tt, tt))) $
    fpack ! (HasLearnt n m ws.0) (λ _. lies_at R full_share (block_ptr b o) ws.0) has $
    fpack ! Telling (λ after. fex (HasLearnt n m after) (λ _. lies_at R full_share (block_ptr b o) after)) ws.0 $
    -- [the reader; the count; the token of the octets]
    nothing ! $ nothing ! $ join ! $ nothing ! $ join ! $
    nothing ! $ move ! (4 ∷ 0 ∷ []) $ join ! $ move ! (0 ∷ 1 ∷ 3 ∷ []) $ group ! 3 $ done !))))))))))
