-- The waiting entries gain each new transition, and a new poll takes the oldest of them.
use Rattle.std.proofs.lemmas.Bool.Decides.{nat_tests}
use Rattle.fio_module.proofs.Names.{◌≡◌, ℕ, suc, inl, inr, ◌+◌, ◌-◌, ◌≤◌, Bool, List, [], ◌∷◌, ◌++◌, length, take, drop, refl, ap, sym, ◌∙◌, arith, append_assoc, append-nil, length-append, if◌then◌else◌, fold, take-append-drop, drop-drop, drop-append-le, length-drop, leb_tells, Poll, Settings, Scanned, Commanded, Transition, log_of, blocks_of, newest_end, next_block, start_after, count_from, with_waiting, ScansAddWaiting, NewPollsTakeWaiting, OthersLeaveWaiting}
use Rattle.fio_module.proofs.Ends.{last_end-append, end-later}
use Rattle.fio_module.proofs.BlockLaws.{newest_end_within}

-- one more transition in the log
add_one : (settings : Settings) (log : List Transition) (before : ℕ) (transition : Transition) → before ≤ length log
    → drop (start_after settings (log ++ transition ∷ []) before) (log ++ transition ∷ [])
    ≡ with_waiting settings.waiting (drop (start_after settings log before) log) transition
add_one settings log before transition within =
    let start = start_after settings log before in
    let longer = log ++ transition ∷ [] in
    let waiting = drop start log in
    let one_more = length-append log (transition ∷ []) in
    let as_many = length-drop start log in
    let inside : start ≤ length log = omega arith in
    let appended : drop start longer ≡ waiting ++ transition ∷ [] = drop-append-le start log (transition ∷ []) inside in
    let choice : Bool → List Transition = λ room. if room then waiting ++ transition ∷ [] else drop 1 (waiting ++ transition ∷ []) in
    elim (leb_tells (suc (length waiting)) settings.waiting) [
      | inl room ↦
          let same : start_after settings longer before ≡ start = omega (arith, one_more, as_many, room.1) in
          ap (λ n. drop n longer) same ∙ appended ∙ sym (ap choice room.0)
      | inr full ↦
          let next : start_after settings longer before ≡ start + 1 = omega (arith, one_more, as_many, full.1) in
          ap (λ n. drop n longer) next ∙ sym (drop-drop 1 start longer) ∙ ap (drop 1) appended ∙ sym (ap choice full.0)
    ]

-- more of them, one after another
add_all : (settings : Settings) (before : ℕ) (log more : List Transition) → before ≤ length log
    → drop (start_after settings (log ++ more) before) (log ++ more)
    ≡ fold (with_waiting settings.waiting) (drop (start_after settings log before) log) more
add_all settings before log [] within = rw append-nil refl
add_all settings before log (transition ∷ more) within =
    let still : before ≤ length (log ++ transition ∷ []) = omega (arith, length-append log (transition ∷ [])) in
    ap (λ all. drop (start_after settings all before) all) (sym (append_assoc log (transition ∷ []) more))
    ∙ add_all settings before (log ++ transition ∷ []) more still
    ∙ ap (λ waiting. fold (with_waiting settings.waiting) waiting more) (add_one settings log before transition within)

-- a scan adds its transitions to what waits
pub scans_add_waiting : ScansAddWaiting
scans_add_waiting settings life raw = grind (arith, nat_tests, add_all, newest_end_within)

-- a new poll takes the first of what waits
pub new_polls_take_waiting : NewPollsTakeWaiting
new_polls_take_waiting settings life number new =
    let log = log_of life in
    let start = start_after settings log (newest_end settings life) in
    let count = count_from settings log start in
    let polled = Commanded (Poll number) ∷ life in
    let ends : newest_end settings polled ≡ start + count =
    rw new (last_end-append 0 (blocks_of settings life) (next_block settings life)) in
    let begins : start_after settings log (newest_end settings polled) ≡ start + count =
    ap (start_after settings log) ends
    ∙ end-later (newest_end settings life) (length log - settings.waiting) settings.per_block (length log) in
    sym (take-append-drop count (drop start log))
    ∙ ap (λ rest. take count (drop start log) ++ rest) (drop-drop count start log ∙ ap (λ n. drop n log) (sym begins))

-- everything else leaves the waiting entries unchanged
pub others_leave_waiting : OthersLeaveWaiting
others_leave_waiting settings life (Scanned raw) same = absurd (cc same)
others_leave_waiting settings life (Commanded (Poll number)) same = rw same refl
others_leave_waiting settings life other same = refl
