-- What the judge of a log that leaves late answers out does with a frame, by its checker and by what it keeps of the answers.
use Rattle.fio_ends.proofs.Names.{◌≡◌, ◌||◌, inl, inr, ℕ, Bool, true, false, List, Option, Some, None, refl, ap, sym, subst, if◌then◌else◌, option_map, Checker, Judging, LogPlace, Observation, checker_below_lines, observation_in, late_with, lateness_of, is_at_cpu, LogJudging, is_explained, is_same_end, judges_each, judging_in_time, late_settled, link_lost, log_below, log_by_lateness, log_counting, log_forgetting, log_lost, log_reaching, log_with, log_with_event, one_more, outcome_by_lateness, outcome_here, outcome_in_log, outcome_in_time, place_by, place_of, unsettled, LateAnswers, Lateness, InTime, Bus, Cpu, Module, BeginsPart, MayHaveHeldFrame, Remark, SaysMessage, SpeaksOfLoss, event_of_remark, IsNoBreach}
use Rattle.fio_ends.proofs.LateRules.{Holds, MayBeAt, Takes, TakesInTime, below_in_time, explained}

-- the place of a log is one of which this is proved
abbrev pub IsPlaced : LogPlace → Option LogPlace → Type 0
IsPlaced Cpu place = Unit {0}
IsPlaced other (Some at) = is_at_cpu at ≡ false
IsPlaced other None = ⊥

placed_at : (place : LogPlace) (log : LogJudging) (given : Option LogPlace) (said : Option Bool) → IsPlaced place given → MayBeAt place (place_by log given said)
placed_at Cpu log given said is = tt
placed_at Module log (Some at) said is = is
placed_at Module log None said is = absurd is
placed_at Bus log (Some at) said is = is
placed_at Bus log None said is = absurd is

-- this is known of the judge of a log that leaves late answers out
pub record IsJudged (place : LogPlace) (P : Checker → Option ℕ → Option ℕ → Bool → Type 0) (log : LogJudging) : Type 0 where
  pub placed : IsPlaced place log.place
  pub late : LateAnswers
  pub is : log.late ≡ Some late
  pub holds : Holds P log.link.checker late

link_checker : (Q : Checker → Type 0) (never : Bool) (judging : Judging) → Q (checker_below_lines judging.checker judging.checker.skips)
    → Q (link_lost never judging).checker
link_checker Q true judging q = q
link_checker Q false judging q = q

-- a frame that is judged, by whether it is late
module _ (place : LogPlace) (Q : Checker → Option ℕ → Option ℕ → Bool → Type 0) (log : LogJudging) (placed : IsPlaced place log.place) (late : LateAnswers)
    (at : LogPlace) (may : MayBeAt place at) (from_cpu : Bool) (octets : List ℕ) where
  abbrev now : LateAnswers
  now = late_with late (observation_in from_cpu octets)

  kept_on : (settled : Bool) (log : LogJudging) → IsPlaced place log.place → Holds Q log.link.checker now
      → IsJudged place Q (if settled then record log { late = Some (record now { settled = true }) } else log_forgetting log (unsettled now))
  kept_on true log is q = record { placed = is; late = record now { settled = true }; is = refl; holds = q }
  kept_on false log is q = record { placed = is; late = unsettled now; is = refl; holds = q }

  abbrev JudgedBy : Lateness → Type 0
  JudgedBy lateness =
      IsJudged place Q (log_by_lateness lateness log now at from_cpu octets)
      × IsNoBreach (outcome_by_lateness lateness now at (outcome_in_time log.link at from_cpu octets))

  timely_judged : TakesInTime place Q log.link.checker late from_cpu (observation_in from_cpu octets) → JudgedBy InTime
  timely_judged t =
      let outcome = outcome_in_time log.link at from_cpu octets in (
        kept_on (late_settled now at outcome) (record log { link = judging_in_time log.link at from_cpu octets }) placed
            (below_in_time log.link at from_cpu octets (λ checker. Holds Q checker now) t.lost t.kept t.anew),
        explained log.link at from_cpu octets place may (late_settled now at outcome) t.found,
      )

  pub by_lateness : Takes place Q log.link.checker late from_cpu (observation_in from_cpu octets)
      → JudgedBy (lateness_of late (observation_in from_cpu octets))
  by_lateness (inl t) = subst JudgedBy (sym t.timely) (timely_judged t)
  by_lateness (inr (inl (is, q))) = subst JudgedBy (sym is) (record { placed = placed; late = now; is = refl; holds = q }, tt)
  by_lateness (inr (inr (is, q))) =
      subst JudgedBy (sym is) (record { placed = placed; late = now; is = refl; holds = link_checker (λ checker. Holds Q checker now) log.never_loads log.link q }, tt)

-- what is known where the place is lost too
abbrev pub IsKnownLost : (Checker → Option ℕ → Option ℕ → Bool → Type 0) → Type 0
IsKnownLost P = (checker : Checker) (awaited polled : Option ℕ) (answered : Bool) → P checker awaited polled answered
    → P (checker_below_lines checker checker.skips) awaited polled answered

module _ (place : LogPlace) (P : Checker → Option ℕ → Option ℕ → Bool → Type 0) (known : IsKnownLost P) where
  lost_judged : (log : LogJudging) → IsJudged place P log → IsJudged place P (log_lost log)
  lost_judged log j = record {
    placed = j.placed;
    late = unsettled j.late;
    is = ap (option_map unsettled) j.is;
    holds = link_checker (λ checker. Holds P checker j.late) log.never_loads log.link (known log.link.checker j.late.awaited j.late.polled j.late.answered j.holds);
  }

  lost_if_judged : (lost : Bool) (log : LogJudging) → IsJudged place P log → IsJudged place P (if lost then log_lost log else log)
  lost_if_judged true log j = lost_judged log j
  lost_if_judged false log j = j

  either_judged : (same : Bool) (log : LogJudging) (agreeing contrary : ℕ) → IsJudged place P log
      → IsJudged place P (if same then record log { agreeing = agreeing } else record log { contrary = contrary })
  either_judged true log agreeing contrary j = record { placed = j.placed; late = j.late; is = j.is; holds = j.holds }
  either_judged false log agreeing contrary j = record { placed = j.placed; late = j.late; is = j.is; holds = j.holds }

  counting_judged : (log : LogJudging) (from_cpu : Bool) (said : Option Bool) → IsJudged place P log → IsJudged place P (log_counting log from_cpu said)
  counting_judged log from_cpu None j = j
  counting_judged log from_cpu (Some by_cpu) j = either_judged (is_same_end by_cpu from_cpu) log (one_more log.agreeing) (one_more log.contrary) j

  reaching_judged : (log : LogJudging) (from_cpu : Bool) (said : Option Bool) (observation : Observation) → IsJudged place P log
      → IsJudged place P (log_reaching log from_cpu said observation)
  reaching_judged log from_cpu said observation j =
      let counted = log_counting log from_cpu said in
      let above = lost_if_judged (is_explained counted from_cpu observation) counted (counting_judged log from_cpu said j) in
      record { placed = above.placed; late = above.late; is = above.is; holds = above.holds }

  -- a frame that is taken breaks nothing
  pub frame_judged : (Q : Checker → Option ℕ → Option ℕ → Bool → Type 0) (log : LogJudging) (from_cpu : Bool) (said : Option Bool) (octets : List ℕ) → IsJudged place P log
      → ((checker : Checker) (late : LateAnswers) → Holds P checker late → Takes place Q checker late from_cpu (observation_in from_cpu octets))
      → IsJudged place Q (log_with log from_cpu said octets) × IsNoBreach (outcome_in_log log from_cpu said octets)
  frame_judged Q log from_cpu said octets j takes =
      let reached = log_reaching log from_cpu said (observation_in from_cpu octets) in
      let r = reaching_judged log from_cpu said (observation_in from_cpu octets) j in
      let at = place_of reached said in
      subst (λ (late : Option LateAnswers). IsJudged place Q (log_below reached late at from_cpu octets) × IsNoBreach (outcome_here reached late at from_cpu octets)) (sym r.is)
      (by_lateness place Q reached r.placed r.late at (placed_at place reached reached.place said r.placed) from_cpu octets (takes reached.link.checker r.late r.holds))

  -- what is known stays below another line
  pub remark_judged : (log : LogJudging) (remark : Remark) → IsJudged place P log → IsJudged place P (log_with_event log (event_of_remark remark))
  remark_judged log MayHaveHeldFrame j = lost_judged log j
  remark_judged log SaysMessage j = lost_if_judged (log.has_frames || judges_each log.link.checker.skips) log j
  remark_judged log BeginsPart j = lost_if_judged log.has_frames log j
  remark_judged log SpeaksOfLoss j = record { placed = j.placed; late = j.late; is = j.is; holds = j.holds }
