-- Clean rounds as stretches of the module's life.
use Rattle.fio_link.proofs.Names.{◌≡◌, ℕ, ◌+◌, ◌<◌, ◌≤◌, ◌∷◌, ◌++◌, length, ap, ◌∙◌, arith, scans_in, Settings, AreInRange, Life, Commanded, life_of, scans_of, filter_events, blocks_of, Machine, number_of, blocks_in, next_round, HasTakenAll, Pause}
use Rattle.fio_message.specs.declared.commands.Command.TheVariants as commands
use Rattle.fio_link.specs.KeptUp.{IsRoundAfter}
use Rattle.fio_link.proofs.Grown.{grows, scans_grown}
use Rattle.fio_link.proofs.Settled.{IsAlong, along, along_round, ends_round, count_blocks}

-- all that happened to the module until it had received a poll
abbrev pub stretch_of : ℕ → Life → Life
stretch_of number before = Commanded (commands.Poll number) ∷ before

module _ (settings : Settings) (range : AreInRange settings) (first : ℕ) (base : Machine) where
  -- a clean round after a pause, with the stretches of the life in it
  pub record HasStretch (pause : Pause) (earlier done receipt last : Machine) : Type 0 where
    pub number : ℕ
    pub settled : Life
    pub untaken : Life
    pub after_it : Life
    pub upto : life_of receipt.history ≡ untaken ++ (settled ++ life_of done.history)
    pub rest : life_of last.history ≡ after_it ++ stretch_of number (life_of receipt.history)
    pub few_settled : scans_of (life_of done.history) + scans_in (filter_events settled) ≤ scans_of (life_of earlier.history) + pause.settled
    pub few_untaken : scans_in (filter_events untaken) ≤ pause.untaken
    -- a block was made since the CPU had last taken all
    pub one_more : length (blocks_of settings (settled ++ life_of done.history)) < length (blocks_of settings (stretch_of number (life_of receipt.history)))
    pub more : length (blocks_in settings done) < length (blocks_in settings last)
    pub at_end : IsAlong settings range first base last
    pub all_taken : HasTakenAll first last

  pub has_stretch : (pause : Pause) (earlier done receipt last : Machine) → IsAlong settings range first base done → HasTakenAll first done
      → IsRoundAfter settings first pause earlier done receipt last → HasStretch pause earlier done receipt last
  has_stretch pause earlier done receipt last a taken p =
      let t = p.settled.leads_on in
      let u = p.untaken.leads_on in
      let l = p.leads_on in
      let g = grows settings first done p.between t.events t.no_restart t.leads in
      let v = grows settings first p.between receipt u.events u.no_restart u.leads in
      let w = grows settings first done p.begin l.events l.no_restart l.leads in
      let at_begin = along settings range first base done p.begin l.events l.no_restart l.leads a in
      let e = ends_round settings range first p.begin receipt last at_begin.is_open p.round in
      let h = e.round in
      let ends = along_round settings range first base p.begin receipt last at_begin h in
      let from = grows settings first h.polled last h.after_it h.none_after h.rest in
      let count_done = count_blocks settings range first base done a in
      let count_between = count_blocks settings range first base p.between (along settings range first base done p.between t.events t.no_restart t.leads a) in
      let count_poll = count_blocks settings range first base h.polled ends.0 in
      let count_last = count_blocks settings range first base last ends.1 in
      let newest : next_round h.polled.polls ≡ p.begin.round + 1 = ap next_round h.polls in
      let blocks_between = ap (λ l. length (blocks_of settings l)) g.life in
      let blocks_poll = ap (λ l. length (blocks_of settings l)) h.life in
      let scans_settled = scans_grown done p.between g.stretch g.life in
      let scans_untaken = scans_grown p.between receipt v.stretch v.life in
      record {
        number = number_of first p.begin.round;
        settled = g.stretch;
        untaken = v.stretch;
        after_it = from.stretch;
        upto = v.life ∙ ap (λ l. v.stretch ++ l) g.life;
        rest = from.life ∙ ap (λ l. from.stretch ++ l) h.life;
        few_settled = omega (arith, p.settled.in_time);
        few_untaken = omega (arith, p.untaken.in_time);
        one_more = omega (arith, p.all_taken);
        more = omega (arith, taken.answered, h.newest, w.round);
        at_end = ends.1;
        all_taken = e.all_taken;
      }
