use Rattle.fio_c.proofs.Lent.{Body, !, Goes-dropped, Goes-ref, LentAgain, List, MutBor, MutRef, Ptr, RawPtr, Stays, WpFn, [], addr, alloc_all, and_then, ap, await, block_ptr, calls_at, comes_back, done, drop, ends_at, enter, fact, feq_i, feq_l, fex, flent, flft, fpack, framed, free_all, fsplit, ftrue, full_share, get, group, heard, id⊢, in_a_block, join, keep, lands_as, lasts, later, lends_again, lends_ref, lft_end, lft_new, lies_at, look_at, mem, move, mut_Tells, mut_vals, named, no_more, nothing, of_opd, only, pass_all, pick, plain, prop, proved, qed, raw, rawptr_Tells, rawptr_vals, ref_back, refl, regoal, returns, sets, some, split, stay_dropped, stay_ref, stop, suffices, tables, through, triple_of, unit, unit_lit, use1, use2, use3, vptr, vunit, walk_of, yes, ‵, ℕ, ◌$◌, ◌++◌, ◌∵◌, ◌∷◌, ◌⊛◌}
use Rattle.fio_log.specs.Telling.{Telling}
use Rattle.fio_log.specs.contracts.reader.Reader.{the_row as R}
use Rattle.fio_c.specs.Logs.{HasForms}
use Rattle.fio_c.specs.declared.log_forms.LogFormList.{LogFormList}
use Rattle.fio_c.specs.contracts.log_forms.LogFormList.{the_row as B}
use Rattle.fio_c.specs.contracts.log_forms.fio2070_log_forms as f
use Rattle.fio_c.proofs.log_forms.fio2070_log_forms.Statement.{statement}
use Rattle.fio_c.proofs.log_forms.fio2070_log_forms.Code as code
use Rattle.fio_c.specs.contracts.log_forms.write_forms as g
use Rattle.fio_c.proofs.log_forms.write_forms.Met.{met}

abbrev stayed : Stays f.ended.signature.params f.ended.kept
stayed = (stay_dropped _ yes, (stay_ref (0 ∷ []) tt (plain (λ _. B)), tt))

pub fio2070_log_forms_spec : {M : Type 1} → statement M
fio2070_log_forms_spec 𝓤 𝓛 𝓜 𝓡 wired =
    let c = f.clauses 𝓛 𝓜.mem 𝓡.returns in let W = walk_of 𝓛 f.ended stayed c in let 𝓣 = tables 𝓤 𝓛.H 𝓜 𝓡 𝓡.env in
    proved 𝓛 f.ended stayed c 𝓜 𝓡 (Goes-dropped 𝓛 1 (plain (λ _. RawPtr)) yes (λ κs x w. refl), (Goes-ref 𝓛 1 0 tt (plain (λ _. B)), tt))
    f.Key.name code.function (code.unfolded 𝓤 𝓛.H 𝓜 𝓡 wired)
    (λ κs. (rawptr_vals, (mut_vals, tt))) (λ κs. (rawptr_Tells, (mut_Tells (named 0) κs.0 B, tt))) (λ κs qs bounds a n are.
    let μ = κs.0 in let p = qs.0 in
    let w = a.1.0 in let wv = mut_vals w in let bb = w.ref_ptr.0 in let bo = w.ref_ptr.1 in
    let Ref = λ (κ' : List ℕ) (x : MutBor LogFormList). (MutRef (named 0) κ' B).own_val x wv in
    let y : Ptr → W.Ghost = λ r. ((κs, qs, bounds, (r, (w, tt)), (rawptr_vals r, (wv, tt))), n) in
    qed 𝓛 (((‵ (flft μ p) ⊛ ‵ ftrue) ⊛ (‵ (RawPtr.own_val a.0 (rawptr_vals a.0)) ⊛ (‵ (Ref μ w) ⊛ ‵ ftrue))) ∷ ‵ (lies_at R full_share a.0 n) ∷ []) ∵
    split ! $ split ! $ move ! (2 ∷ []) $ split ! $ drop ! $ split ! $ keep ! (4 ∷ 0 ∷ 2 ∷ []) $
    -- [the reader; the forms; the token of their lifetime]
    in_a_block ! a.0 (λ r. lies_at R full_share r n) (id⊢ 𝓤 _) (λ b o e.
    regoal ! (λ r. prop (WpFn 𝓤 𝓛.H 𝓣.C 𝓣.Λ code.function (rawptr_vals r ++ wv) (W.post (y r)))) e refl $
    enter ! _ _ _ _ _ $ alloc_all ! (λ l. pass_all ! refl ((tt, tt), ((tt, tt), tt)) $
    sets ! (of_opd ! (get ! refl)) refl (tt, tt) $
    sets ! (addr ! (through ! refl (stop !))) refl (tt, tt) $
    sets ! (addr ! (through ! refl (stop !))) refl (tt, tt) $
    lft_new ! tt (λ α. move ! (1 ∷ 0 ∷ []) $
    use1 𝓛 (later (some (λ (γ : ℕ). ‵ ((MutRef (named 0) (α ∷ []) R).own_val (record { ref_ptr = (b, o); ghost_name = γ; now = n }) (vptr b o ∷ [])) ⊛ ‵ (flent (α ∷ []) (Body (mem R) b o γ)))))
    (lends_ref 𝓛 R (named 0) (α ∷ []) n b o) $ await ! tt $ pick ! (λ γ. split ! $
    -- [the reader's loan; what its lender keeps; the token of α; the forms; their token]
    lft_new ! tt (λ β. move ! (4 ∷ 5 ∷ []) $
    use2 𝓛 (later (some (λ (δ : ℕ). ‵ (Ref (β ∷ []) (record w { ghost_name = δ })) ⊛ ‵ (LentAgain B μ (β ∷ []) p w.ghost_name bb bo δ w.now))))
    (lends_again 𝓛 B (named 0) μ (β ∷ []) p w.ghost_name bb bo (named 0) w.now) $ await ! tt $ pick ! (λ δ. split ! $
    -- [the forms' loan; what its lender keeps; the token of β; the reader's loan; its lender's part; the token of α]
    let r : MutBor Telling = record { ref_ptr = (b, o); ghost_name = γ; now = n } in
    let G = triple_of 𝓛 g.signature (g.spec 𝓛 𝓜.mem 𝓡.returns) in
    let z : G.Ghost = (((α ∷ [], (β ∷ [], tt)), (full_share, (full_share, tt)), tt, (r, (record w { ghost_name = δ }, tt)), (vptr b o ∷ [], (wv, tt))), tt) in
    nothing ! $ move ! (1 ∷ 0 ∷ []) $ join ! $ move ! (3 ∷ 0 ∷ []) $ join ! $
    nothing ! $ move ! (3 ∷ 0 ∷ []) $ join ! $ move ! (4 ∷ 0 ∷ []) $ join ! $ join ! $
    nothing ! $ move ! (1 ∷ 0 ∷ []) $ use2 𝓛 (raw (G.pre z)) (id⊢ 𝓤 _) $
    calls_at ! (framed 𝓤 𝓛.H 𝓜 (tables 𝓤 𝓛.H 𝓜 𝓡 𝓡.env)) G (met 𝓤 𝓛 𝓜 𝓡 (code.calls-fio_c::log_forms::write_forms 𝓡.env wired)) z
    (and_then ! (get ! refl) (and_then ! (get ! refl) (no_more !))) (λ v.
    use1 𝓛 (later (some (λ (u : Unit {0}). ((‵ (flft (α ∷ []) full_share) ⊛ (‵ (flft (β ∷ []) full_share) ⊛ ‵ ftrue)) ⊛ ‵ (unit.own_val u (v ∷ []))) ⊛
    some (λ (ws : Telling × (LogFormList × Unit {0})). ‵ (lasts g.ended z.0.0 z.0.3 ws) ⊛ raw (fact 𝓤 (HasForms n ws.1.0.count ws.0)))))) (id⊢ 𝓤 _) $
    await ! tt $ pick ! (λ u. split ! $ split ! $ split ! $ lft_end ! tt $
    move ! (1 ∷ []) $ split ! $ lft_end ! tt $ move ! (3 ∷ []) $ feq_l ! (λ is_unit.
    lands_as ! (ap only is_unit) refl (tt, tt) $
    -- [β is over; nothing; α is over; what is left of the call; the lenders' parts]
    move ! (3 ∷ []) $ pick ! (λ ws. split ! $ move ! (1 ∷ []) $ heard ! _ (λ ends. fsplit ! $ fsplit ! $
    -- [the reader's last value; its borrow; the others'; β is over; nothing; α is over; the forms' lender; the reader's]
    move ! (5 ∷ 7 ∷ 0 ∷ []) $ use3 𝓛 (later (‵ ((mem R).own_at ws.0 b o))) (ref_back 𝓛 R (α ∷ []) γ ws.0 b o) $ await ! tt $
    move ! (2 ∷ []) $ fsplit ! $ fsplit ! $
    -- [the forms' last value; its borrow; nothing; the reader; its borrow; β is over; nothing; the forms' lender]
    move ! (5 ∷ 7 ∷ 0 ∷ []) $ use3 𝓛 (later (‵ (Ref μ (record w { now = ws.1.0 })) ⊛ ‵ (flft μ p)))
    (comes_back 𝓛 B (named 0) μ (β ∷ []) p w.ghost_name bb bo δ w.now ws.1.0) $ await ! tt $ split ! $
    sets ! (of_opd ! (unit_lit !)) refl (tt, tt) $
    returns ! (look_at ! 0 refl) $ free_all ! refl $ keep ! (4 ∷ 0 ∷ 1 ∷ []) $
    suffices ! _ (ends_at 𝓛 f.ended stayed c (y (block_ptr b o)) vunit tt (tt, (ws.1.0, tt)) (tt, (tt, tt))) $
    fpack ! (HasForms n ws.1.0.count ws.0) (λ _. lies_at R full_share (block_ptr b o) ws.0) ends $
    fpack ! Telling (λ after. fex (HasForms n ws.1.0.count after) (λ _. lies_at R full_share (block_ptr b o) after)) ws.0 $
    -- [the reader; the forms; their token]
    feq_i ! _ (vunit ∷ []) _ refl $ nothing ! $ move ! (3 ∷ 0 ∷ []) $ join ! $ nothing ! $ join ! $
    nothing ! $ move ! (4 ∷ 0 ∷ []) $ join ! $ group ! 3 $ done !))))))))))))
