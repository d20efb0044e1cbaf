use Rattle.fio_c.proofs.Lent.{[], ◌∷◌, refl, w8, proved, full_share, fex, ftrue, id⊢, part_in, fact, tables, u8, yes, Is, shows, part_at, uint_Makes, uint_Tells, uint_vals, Ptr, RawPtr, block_ptr, in_a_block, lies_at, ptr_val, rawptr_Tells, rawptr_vals, room_at, plain, heard, nothing, owned, peeks, calls_at, lasts, on_entry, triple_of, framed, Goes-dropped, Stays, ends_at, stay_dropped, walk_of, vint, vunit, WpFn, alloc_all, free_all, get, lands_as, look_at, pass_all, sets, through, !, ◌$◌, ◌∵◌, ◌⊛◌, ‵, await, done, drop, feq_i, fpack, group, join, keep, later, move, pick, prop, qed, raw, regoal, some, split, suffices, use1, use2, and_then, assigns, enter, init, no_more, of_opd, returns, stop, unit_lit}
use Rattle.fio_log.specs.Telling.{Telling}
use Rattle.fio_log.specs.contracts.reader.Reader.{the_row as R}
use Rattle.fio_log.proofs.reader.Reader.TheLaws.{the_row_laws as laws}
use Rattle.fio_c.specs.Logs.{HasBegun, form_of}
use Rattle.fio_c.specs.contracts.log.fio2070_log_start as f
use Rattle.fio_c.proofs.log.fio2070_log_start.Statement.{statement}
use Rattle.fio_c.proofs.log.fio2070_log_start.Code as code
use Rattle.fio_c.specs.contracts.log.new_reader as g
use Rattle.fio_c.proofs.log.new_reader.Met.{met}

abbrev stayed : Stays f.ended.signature.params f.ended.kept
stayed = (stay_dropped _ yes, (stay_dropped _ yes, tt))

pub fio2070_log_start_spec : {M : Type 1} → statement M
fio2070_log_start_spec 𝓤 𝓛 𝓜 𝓡 wired =
    let c = f.clauses 𝓛 𝓜.mem 𝓡.returns in let W = walk_of 𝓛 f.ended stayed c in let 𝓣 = tables 𝓤 𝓛.H 𝓜 𝓡 𝓡.env in
    proved 𝓛 f.ended stayed c 𝓜 𝓡 (Goes-dropped 𝓛 0 (plain (λ _. RawPtr)) yes (λ κs x w. refl), (Goes-dropped 𝓛 0 (plain (λ _. u8)) yes (λ κs x w. refl), tt))
    f.Key.name code.function (code.unfolded 𝓤 𝓛.H 𝓜 𝓡 wired)
    (λ κs. (rawptr_vals, (uint_vals w8, tt))) (λ κs. (rawptr_Tells, (uint_Tells w8, tt))) (λ κs qs bounds a n are.
    let form = a.1.0 in
    let y : Ptr → W.Ghost = λ p. ((κs, qs, bounds, (p, (form, tt)), (rawptr_vals p, (uint_vals w8 form, tt))), n) in
    qed 𝓛 (raw (on_entry 𝓛 f.signature κs qs a (y a.0).0.4) ∷ ‵ (room_at R a.0) ∷ []) ∵ drop ! $
    in_a_block ! a.0 (λ p. room_at R p) (id⊢ 𝓤 _) (λ b o e.
    regoal ! (λ p. prop (WpFn 𝓤 𝓛.H 𝓣.C 𝓣.Λ code.function (ptr_val p ∷ vint w8 form ∷ []) (W.post (y p)))) e refl $
    enter ! _ _ _ _ _ $ alloc_all ! (λ l. pass_all ! refl ((tt, tt), ((tt, record { fits = are.1.0.1 }), tt)) $
    -- [the room; the locals]
    sets ! (of_opd ! (get ! refl)) refl (tt, tt) $
    let G = triple_of 𝓛 g.signature (g.spec 𝓛 𝓜.mem 𝓡.returns) in
    let z : G.Ghost = ((tt, tt, tt, (form, tt), (vint w8 form ∷ [], tt)), tt) in
    nothing ! $ owned ! u8 _ (uint_Makes 𝓛 w8) form _ (refl, are.1.0.1) $ join ! $ nothing ! $ join ! $
    nothing ! $ move ! (1 ∷ 0 ∷ []) $ use2 𝓛 (raw (G.pre z)) (id⊢ 𝓤 _) $
    calls_at ! (framed 𝓤 𝓛.H 𝓜 (tables 𝓤 𝓛.H 𝓜 𝓡 𝓡.env)) G (met 𝓤 𝓛 𝓜 𝓡 (code.calls-fio_c::log::new_reader 𝓡.env wired)) z
    (and_then ! (get ! refl) (no_more !)) (λ v.
    use1 𝓛 (later (some (λ (x : Telling). (‵ ftrue ⊛ ‵ (R.own_val x (v ∷ []))) ⊛
    some (λ (ws : Unit {0} × Unit {0}). ‵ (lasts g.ended tt (form, tt) ws) ⊛ raw (fact 𝓤 (HasBegun (form_of form) x)))))) (id⊢ 𝓤 _) $
    await ! tt $ pick ! (λ x. split ! $ split ! $ drop ! $ move ! (1 ∷ []) $ pick ! (λ ws. split ! $ drop ! $ heard ! _ (λ begun.
    -- [what the reader owns; the room; the locals]
    peeks ! R (Is R) (shows 𝓛 R) x (v ∷ []) (λ is. let fits = ((laws.lawful 𝓛).typed x (v ∷ []) is).0 in
    lands_as ! refl refl fits $
    assigns ! (of_opd ! (get ! refl)) (through ! refl (stop !)) (init ! 1 refl fits) $
    move ! (1 ∷ 0 ∷ []) $ use2 𝓛 (‵ (part_at R full_share x b o)) (part_in 𝓛 R refl full_share x b o v) $
    sets ! (of_opd ! (unit_lit !)) refl (tt, tt) $
    returns ! (look_at ! 0 refl) $ free_all ! refl $ keep ! (0 ∷ []) $
    suffices ! _ (ends_at 𝓛 f.ended stayed c (y (block_ptr b o)) vunit tt (tt, (tt, tt)) (tt, (tt, tt))) $
    fpack ! (HasBegun (form_of form) x) (λ _. lies_at R full_share (block_ptr b o) x) begun $
    fpack ! Telling (λ telling. fex (HasBegun (form_of form) telling) (λ _. lies_at R full_share (block_ptr b o) telling)) x $
    feq_i ! _ (vunit ∷ []) _ refl $ nothing ! $ nothing ! $ join ! $ nothing ! $ join ! $ nothing ! $ group ! 3 $ done !))))))))
