use Rattle.fio_c.proofs.Lent.{ℕ, List, [], ◌∷◌, ◌++◌, refl, w64, MutBor, proved, full_share, flent, fex, flft, ftrue, id⊢, fact, tables, SliceRefOf, u8, usize, yes, Is, shows, LentAgain, comes_back, lends_again, lends_ref, ref_back, mem, uint_Lawful, Ptr, RawPtr, block_ptr, in_a_block, lies_at, rawptr_Tells, rawptr_vals, MutRef, mut_Tells, mut_vals, plain, ShrSlice, shr_slice_Lawful, shr_slice_Tells, shr_slice_vals, heard, nothing, peeks, calls_at, lasts, triple_of, framed, Goes-dropped, Goes-ref, Stays, ends_at, stay_dropped, stay_ref, walk_of, named, vptr, WpFn, alloc_all, free_all, get, lands_as, look_at, pass_all, sets, through, !, ◌$◌, ◌∵◌, ◌⊛◌, ‵, await, done, drop, fpack, fsplit, group, join, keep, later, move, pick, prop, qed, raw, regoal, some, split, suffices, use1, use2, use3, addr, and_then, enter, no_more, of_opd, returns, stop, Body, lft_end, lft_new}
use Rattle.fio_log.specs.Telling.{Telling}
use Rattle.fio_log.specs.contracts.reader.Reader.{the_row as R}
use Rattle.fio_c.specs.Logs.{HasRead}
use Rattle.fio_c.specs.declared.log_batch.LogBatch.{LogBatch}
use Rattle.fio_c.specs.contracts.log_batch.LogBatch.{the_row as B}
use Rattle.fio_c.specs.contracts.log.fio2070_log_read as f
use Rattle.fio_c.proofs.log.fio2070_log_read.Statement.{statement}
use Rattle.fio_c.proofs.log.fio2070_log_read.Code as code
use Rattle.fio_c.specs.contracts.log.read_log as g
use Rattle.fio_c.proofs.log.read_log.Met.{met}

abbrev stayed : Stays f.ended.signature.params f.ended.kept
stayed = (stay_dropped _ yes, (stay_dropped _ yes, (stay_ref (1 ∷ []) tt (plain (λ _. B)), tt)))

pub fio2070_log_read_spec : {M : Type 1} → statement M
fio2070_log_read_spec 𝓤 𝓛 𝓜 𝓡 wired =
    let c = f.clauses 𝓛 𝓜.mem 𝓡.returns in let W = walk_of 𝓛 f.ended stayed c in let 𝓣 = tables 𝓤 𝓛.H 𝓜 𝓡 𝓡.env in
    proved 𝓛 f.ended stayed c 𝓜 𝓡 (
      Goes-dropped 𝓛 2 (plain (λ _. RawPtr)) yes (λ κs x w. refl),
      (Goes-dropped 𝓛 2 (SliceRefOf (0 ∷ []) tt (plain (λ _. u8)) (λ _. tt)) yes (λ κs x w. refl), (Goes-ref 𝓛 2 1 tt (plain (λ _. B)), tt)),
    )
    f.Key.name code.function (code.unfolded 𝓤 𝓛.H 𝓜 𝓡 wired)
    (λ κs. (rawptr_vals, (shr_slice_vals, (mut_vals, tt)))) (λ κs. (rawptr_Tells, (shr_slice_Tells (named 0) κs.0 u8, (mut_Tells (named 1) κs.1.0 B, tt)))) (λ κs qs bounds a n are.
    let κ = κs.0 in let q = qs.0 in let μ = κs.1.0 in let p = qs.1.0 in
    let s = a.1.0 in let sv = shr_slice_vals s in
    let w = a.1.1.0 in let wv = mut_vals w in let bb = w.ref_ptr.0 in let bo = w.ref_ptr.1 in
    let Ref = λ (κ' : List ℕ) (x : MutBor LogBatch). (MutRef (named 0) κ' B).own_val x wv in
    let y : Ptr → W.Ghost = λ r. ((κs, qs, bounds, (r, (s, (w, tt))), (rawptr_vals r, (sv, (wv, tt)))), n) in
    qed 𝓛 (((‵ (flft κ q) ⊛ (‵ (flft μ p) ⊛ ‵ ftrue)) ⊛ (‵ (RawPtr.own_val a.0 (rawptr_vals a.0)) ⊛ (‵ ((ShrSlice (named 0) κ u8).own_val s sv) ⊛ (‵ (Ref μ w) ⊛ ‵ ftrue)))) ∷ ‵ (lies_at R full_share a.0 n) ∷ []) ∵
    split ! $ split ! $ move ! (1 ∷ []) $ split ! $ move ! (3 ∷ []) $ split ! $ drop ! $ split ! $ move ! (1 ∷ []) $ split ! $ keep ! (6 ∷ 2 ∷ 5 ∷ 0 ∷ 3 ∷ []) $
    -- [the reader; the octets; the token of their lifetime; the batch; the token of its lifetime]
    in_a_block ! a.0 (λ r. lies_at R full_share r n) (id⊢ 𝓤 _) (λ b o e.
    regoal ! (λ r. prop (WpFn 𝓤 𝓛.H 𝓣.C 𝓣.Λ code.function (rawptr_vals r ++ (sv ++ wv)) (W.post (y r)))) e refl $
    enter ! _ _ _ _ _ $ alloc_all ! (λ l. pass_all ! refl ((tt, tt), (((shr_slice_Lawful 𝓛 (named 0) κ u8).typed s sv are.1.0).0, ((tt, tt), tt))) $
    sets ! (of_opd ! (get ! refl)) refl (tt, tt) $
    sets ! (addr ! (through ! refl (stop !))) refl (tt, tt) $
    sets ! (addr ! (through ! refl (stop !))) refl (tt, tt) $
    lft_new ! tt (λ α. move ! (1 ∷ 0 ∷ []) $
    use1 𝓛 (later (some (λ (γ : ℕ). ‵ ((MutRef (named 0) (α ∷ []) R).own_val (record { ref_ptr = (b, o); ghost_name = γ; now = n }) (vptr b o ∷ [])) ⊛ ‵ (flent (α ∷ []) (Body (mem R) b o γ)))))
    (lends_ref 𝓛 R (named 0) (α ∷ []) n b o) $ await ! tt $ pick ! (λ γ. split ! $
    -- [the reader's loan; what its lender keeps; the token of α; the octets; their token; the batch; its token]
    lft_new ! tt (λ β. move ! (6 ∷ 7 ∷ []) $
    use2 𝓛 (later (some (λ (δ : ℕ). ‵ (Ref (β ∷ []) (record w { ghost_name = δ })) ⊛ ‵ (LentAgain B μ (β ∷ []) p w.ghost_name bb bo δ w.now))))
    (lends_again 𝓛 B (named 0) μ (β ∷ []) p w.ghost_name bb bo (named 0) w.now) $ await ! tt $ pick ! (λ δ. split ! $
    -- [the batch's loan; what its lender keeps; the token of β; the reader's loan; its lender's part; the token of α; the octets; their token]
    let r : MutBor Telling = record { ref_ptr = (b, o); ghost_name = γ; now = n } in
    let G = triple_of 𝓛 g.signature (g.spec 𝓛 𝓜.mem 𝓡.returns) in
    let z : G.Ghost = (((α ∷ [], (κ, (β ∷ [], tt))), (full_share, (q, (full_share, tt))), tt, (r, (s, (record w { ghost_name = δ }, tt))), (vptr b o ∷ [], (sv, (wv, tt)))), tt) in
    nothing ! $ move ! (1 ∷ 0 ∷ []) $ join ! $ move ! (6 ∷ 0 ∷ []) $ join ! $ move ! (3 ∷ 0 ∷ []) $ join ! $
    nothing ! $ move ! (3 ∷ 0 ∷ []) $ join ! $ move ! (5 ∷ 0 ∷ []) $ join ! $ move ! (4 ∷ 0 ∷ []) $ join ! $ join ! $
    nothing ! $ move ! (1 ∷ 0 ∷ []) $ use2 𝓛 (raw (G.pre z)) (id⊢ 𝓤 _) $
    calls_at ! (framed 𝓤 𝓛.H 𝓜 (tables 𝓤 𝓛.H 𝓜 𝓡 𝓡.env)) G (met 𝓤 𝓛 𝓜 𝓡 (code.calls-fio_c::log::read_log 𝓡.env wired)) z
    (and_then ! (get ! refl) (and_then ! (get ! refl) (and_then ! (get ! refl) (no_more !)))) (λ v.
    use1 𝓛 (later (some (λ (m : ℕ). ((‵ (flft (α ∷ []) full_share) ⊛ (‵ (flft κ q) ⊛ (‵ (flft (β ∷ []) full_share) ⊛ ‵ ftrue))) ⊛ ‵ (usize.own_val m (v ∷ []))) ⊛
    some (λ (ws : Telling × (Unit {0} × (LogBatch × Unit {0}))). ‵ (lasts g.ended z.0.0 z.0.3 ws) ⊛ raw (fact 𝓤 (HasRead n s.now m ws.0 ws.1.1.0)))))) (id⊢ 𝓤 _) $
    await ! tt $ pick ! (λ m. split ! $ split ! $ split ! $ lft_end ! tt $
    move ! (1 ∷ []) $ split ! $ move ! (1 ∷ []) $ split ! $ lft_end ! tt $ move ! (4 ∷ []) $
    -- [the count; β is over; nothing; the token of the octets; α is over; what is left of the call; the lenders' parts]
    peeks ! usize (Is usize) (shows 𝓛 usize) m (v ∷ []) (λ is.
    lands_as ! refl refl ((uint_Lawful 𝓛 w64).typed m _ is).0 $
    move ! (5 ∷ []) $ pick ! (λ ws. split ! $ move ! (1 ∷ []) $ heard ! _ (λ has. fsplit ! $ fsplit ! $
    -- [the reader's last value; its borrow; the others'; the count; β is over; nothing; the token; α is over; the batch's lender; the reader's]
    move ! (7 ∷ 9 ∷ 0 ∷ []) $ use3 𝓛 (later (‵ ((mem R).own_at ws.0 b o))) (ref_back 𝓛 R (α ∷ []) γ ws.0 b o) $ await ! tt $
    move ! (2 ∷ []) $ fsplit ! $ move ! (1 ∷ []) $ fsplit ! $ fsplit ! $
    -- [the batch's last value; its borrow; nothing; the octets'; the reader; its borrow; the count; β is over; nothing; the token; the batch's lender]
    move ! (7 ∷ 10 ∷ 0 ∷ []) $ use3 𝓛 (later (‵ (Ref μ (record w { now = ws.1.1.0 })) ⊛ ‵ (flft μ p)))
    (comes_back 𝓛 B (named 0) μ (β ∷ []) p w.ghost_name bb bo δ w.now ws.1.1.0) $ await ! tt $ split ! $
    returns ! (look_at ! 0 refl) $ free_all ! refl $ keep ! (5 ∷ 7 ∷ 9 ∷ 0 ∷ 1 ∷ []) $
    suffices ! _ (ends_at 𝓛 f.ended stayed c (y (block_ptr b o)) v m (tt, (tt, (ws.1.1.0, tt))) (tt, (tt, (tt, tt)))) $
    fpack ! (HasRead n s.now m ws.0 ws.1.1.0) (λ _. lies_at R full_share (block_ptr b o) ws.0) has $
    fpack ! Telling (λ after. fex (HasRead n s.now m after ws.1.1.0) (λ _. lies_at R full_share (block_ptr b o) after)) ws.0 $
    -- [the reader; the count; the token of the octets; the batch; its token]
    nothing ! $ move ! (4 ∷ 0 ∷ []) $ join ! $ nothing ! $ join ! $ nothing ! $ join ! $
    nothing ! $ move ! (5 ∷ 0 ∷ []) $ join ! $ move ! (4 ∷ 0 ∷ []) $ join ! $ move ! (0 ∷ 1 ∷ 3 ∷ []) $ group ! 3 $ done !))))))))))))
