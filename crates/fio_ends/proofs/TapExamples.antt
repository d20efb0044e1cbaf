-- A worked log of a tap, by computation: a right CPU's end sends a poll that is excused there.
use Rattle.fio_ends.proofs.Names.{◌≡◌, inl, List, [], ◌∷◌, None, Some, refl, Excused, Kept, ToCpu, ToModule, standard_rule_limits, standard_settings, start, log_starting, outcomes_in_log, LateAbove, Link, Unheard, Bus, AreTapped, AtEnds, PassesToCpu, PassesToModule, TapStep, log_tapped, untapped}
use Rattle.fio_message.specs.Bits.{is_set}
use Rattle.fio_message.specs.Decoding.{message_in}
use Rattle.fio_check.specs.ContentRules.{first_differing, is_excused}
use Rattle.fio_check.specs.declared.log_judge.LogStart.TheVariants.{LateAnswers as StartLate}
use Rattle.fio_link.specs.declared.event.Event.TheVariants.{Poll}
use Rattle.fio_ends.specs.TapLogs.{TapsExcusePolls}

-- an answer has passed the tap, and its poll again, before the CPU's end hears it and polls for the next block
abbrev pub steps : List TapStep
steps =
    AtEnds Poll ∷ PassesToModule None 1 ∷ AtEnds (ToModule 1) ∷ PassesToCpu None 1 ∷ AtEnds Poll ∷ PassesToModule None 2 ∷ AtEnds (ToCpu 1) ∷ AtEnds Poll
    ∷ PassesToModule None 3 ∷ []

are_tapped : AreTapped (standard_settings 2) 0 start untapped steps
unfolding message_in is_set
are_tapped =
    ((refl, tt, tt, tt), (refl, ((refl, tt, tt, inl refl), (refl, ((refl, tt, tt, tt), (refl, ((refl, tt, tt, inl refl), ((refl, tt, tt, tt), (refl, tt)))))))))

outcomes : outcomes_in_log (log_starting standard_rule_limits (Some Bus) StartLate) (log_tapped (standard_settings 2) 0 start steps)
    ≡ Link Kept ∷ Link Kept ∷ Link (Excused Unheard) ∷ LateAbove ∷ []
unfolding message_in is_set first_differing is_excused
outcomes = refl

pub taps_excuse_polls : TapsExcusePolls
unfolding TapsExcusePolls
taps_excuse_polls = (steps, are_tapped, outcomes)
