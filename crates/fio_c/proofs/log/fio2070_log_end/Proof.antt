use Rattle.fio_c.proofs.Lent.{ℕ, [], ◌∷◌, refl, ap, MutBor, proved, full_share, flent, fex, flft, ftrue, id⊢, fact, tables, unit, yes, lends_ref, ref_back, mem, Ptr, RawPtr, block_ptr, in_a_block, lies_at, rawptr_Tells, rawptr_vals, MutRef, plain, heard, nothing, only, calls_at, lasts, on_entry, triple_of, framed, Goes-dropped, Stays, ends_at, stay_dropped, walk_of, named, vptr, vunit, WpFn, alloc_all, free_all, get, lands_as, look_at, pass_all, sets, through, !, ◌$◌, ◌∵◌, ◌⊛◌, ‵, await, done, drop, feq_i, feq_l, fpack, fsplit, group, join, keep, later, move, pick, prop, qed, raw, regoal, some, split, suffices, use1, use2, use3, addr, and_then, enter, no_more, of_opd, returns, stop, unit_lit, Body, lft_end, lft_new}
use Rattle.fio_log.specs.Telling.{Telling}
use Rattle.fio_log.specs.contracts.reader.Reader.{the_row as R}
use Rattle.fio_c.specs.Logs.{HasEnded}
use Rattle.fio_c.specs.contracts.log.fio2070_log_end as f
use Rattle.fio_c.proofs.log.fio2070_log_end.Statement.{statement}
use Rattle.fio_c.proofs.log.fio2070_log_end.Code as code
use Rattle.fio_c.specs.contracts.log.end_log as g
use Rattle.fio_c.proofs.log.end_log.Met.{met}

abbrev stayed : Stays f.ended.signature.params f.ended.kept
stayed = (stay_dropped _ yes, tt)

pub fio2070_log_end_spec : {M : Type 1} → statement M
fio2070_log_end_spec 𝓤 𝓛 𝓜 𝓡 wired =
    let c = f.clauses 𝓛 𝓜.mem 𝓡.returns in let W = walk_of 𝓛 f.ended stayed c in let 𝓣 = tables 𝓤 𝓛.H 𝓜 𝓡 𝓡.env in
    proved 𝓛 f.ended stayed c 𝓜 𝓡 (Goes-dropped 𝓛 0 (plain (λ _. RawPtr)) yes (λ κs x w. refl), tt)
    f.Key.name code.function (code.unfolded 𝓤 𝓛.H 𝓜 𝓡 wired)
    (λ κs. (rawptr_vals, tt)) (λ κs. (rawptr_Tells, tt)) (λ κs qs bounds a n are.
    let y : Ptr → W.Ghost = λ p. ((κs, qs, bounds, (p, tt), (rawptr_vals p, tt)), n) in
    qed 𝓛 (raw (on_entry 𝓛 f.signature κs qs a (y a.0).0.4) ∷ ‵ (lies_at R full_share a.0 n) ∷ []) ∵ drop ! $
    in_a_block ! a.0 (λ p. lies_at R full_share p n) (id⊢ 𝓤 _) (λ b o e.
    regoal ! (λ p. prop (WpFn 𝓤 𝓛.H 𝓣.C 𝓣.Λ code.function (rawptr_vals p) (W.post (y p)))) e refl $
    enter ! _ _ _ _ _ $ alloc_all ! (λ l. pass_all ! refl ((tt, tt), tt) $
    -- [the reader; the locals]
    sets ! (of_opd ! (get ! refl)) refl (tt, tt) $
    sets ! (addr ! (through ! refl (stop !))) refl (tt, tt) $
    lft_new ! tt (λ α. move ! (1 ∷ 0 ∷ []) $
    use1 𝓛 (later (some (λ (γ : ℕ). ‵ ((MutRef (named 0) (α ∷ []) R).own_val (record { ref_ptr = (b, o); ghost_name = γ; now = n }) (vptr b o ∷ [])) ⊛ ‵ (flent (α ∷ []) (Body (mem R) b o γ)))))
    (lends_ref 𝓛 R (named 0) (α ∷ []) n b o) $ await ! tt $ pick ! (λ γ. split ! $
    -- [the loan; what the lender keeps; the token of α]
    let r : MutBor Telling = record { ref_ptr = (b, o); ghost_name = γ; now = n } in
    let G = triple_of 𝓛 g.signature (g.spec 𝓛 𝓜.mem 𝓡.returns) in
    let z : G.Ghost = (((α ∷ [], tt), (full_share, tt), tt, (r, tt), (vptr b o ∷ [], tt)), tt) in
    nothing ! $ move ! (1 ∷ 0 ∷ []) $ join ! $ nothing ! $ move ! (3 ∷ 0 ∷ []) $ join ! $ join ! $
    nothing ! $ move ! (1 ∷ 0 ∷ []) $ use2 𝓛 (raw (G.pre z)) (id⊢ 𝓤 _) $
    calls_at ! (framed 𝓤 𝓛.H 𝓜 (tables 𝓤 𝓛.H 𝓜 𝓡 𝓡.env)) G (met 𝓤 𝓛 𝓜 𝓡 (code.calls-fio_c::log::end_log 𝓡.env wired)) z
    (and_then ! (get ! refl) (no_more !)) (λ v.
    use1 𝓛 (later (some (λ (u : Unit {0}). ((‵ (flft (α ∷ []) full_share) ⊛ ‵ ftrue) ⊛ ‵ (unit.own_val u (v ∷ []))) ⊛
    some (λ (ws : Telling × Unit {0}). ‵ (lasts g.ended z.0.0 z.0.3 ws) ⊛ raw (fact 𝓤 (HasEnded n ws.0)))))) (id⊢ 𝓤 _) $
    await ! tt $ pick ! (λ u. split ! $ split ! $ split ! $ lft_end ! tt $ move ! (2 ∷ []) $ feq_l ! (λ is_unit.
    lands_as ! (ap only is_unit) refl (tt, tt) $
    move ! (2 ∷ []) $ pick ! (λ ws. split ! $ move ! (1 ∷ []) $ heard ! _ (λ ends. fsplit ! $ fsplit ! $
    -- [the loan's last value; its borrow; nothing; α is over; nothing; what the lender keeps]
    move ! (3 ∷ 5 ∷ 0 ∷ []) $ use3 𝓛 (later (‵ ((mem R).own_at ws.0 b o))) (ref_back 𝓛 R (α ∷ []) γ ws.0 b o) $ await ! tt $
    sets ! (of_opd ! (unit_lit !)) refl (tt, tt) $
    returns ! (look_at ! 0 refl) $ free_all ! refl $ keep ! (0 ∷ []) $
    suffices ! _ (ends_at 𝓛 f.ended stayed c (y (block_ptr b o)) vunit tt (tt, tt) (tt, tt)) $
    fpack ! (HasEnded n ws.0) (λ _. lies_at R full_share (block_ptr b o) ws.0) ends $
    fpack ! Telling (λ h. fex (HasEnded n h) (λ _. lies_at R full_share (block_ptr b o) h)) ws.0 $
    feq_i ! _ (vunit ∷ []) _ refl $ nothing ! $ nothing ! $ join ! $ nothing ! $ group ! 3 $ done !))))))))))
