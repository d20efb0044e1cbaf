-- How long an answer to a poll is, if few entries waited whenever a block was made.
use Rattle.std.proofs.lemmas.Bool.Decides.{nat_tests}
use Rattle.fio_link.proofs.Names.{◌≡◌, ℕ, ◌+◌, ◌-◌, ◌*◌, ◌<◌, ◌≤◌, Bool, true, false, List, [], ◌∷◌, ◌++◌, length, Option, Some, None, slice_get, refl, ap, sym, subst, ◌∙◌, arith, length-append, length-map, length-take, length-drop, option_map, flat_map, if◌then◌else◌, answer_octets, command_in, command_back, Entry, Settings, Life, Commanded, life_of, newest_poll, is_new, blocks_of, blocks_old, waiting_of, AtEachTime, holds_now, Sending, answer_of_sending, first_sending, latest_sending, repeat_of, SentFrame, Machine, number_of, item_numbered, answer_frames, after_delivery_to_module, after}
use Rattle.std.specs.Prelude.{min, ◌^◌}
use Rattle.std.proofs.lemmas.Option.{same_Some}
use Rattle.fio_message.specs.Octets.{entry_octets}
use Rattle.fio_message.specs.declared.commands.Command.TheVariants.{Poll}
use Rattle.fio_message.specs.declared.commands.Command.TheVariants as commands
use Rattle.fio_link.specs.declared.event.Event.TheVariants as events
use Rattle.fio_link.specs.Rate.{frame_length, octets_answered}
use Rattle.fio_link.proofs.Events.{frame_at_place}
use Rattle.fio_link.proofs.Kept.{after_frame, after_poll}
use Rattle.fio_link.proofs.Received.{latest_sent}
use Rattle.fio_link.proofs.RoundNumbers.{number_of-fits}
use Rattle.fio_link.proofs.WithinRounds.{poll_frame}
use Rattle.fio_module.proofs.ListParts.{get_last}

-- a poll, new or not
few_if : (new : Bool) (most : ℕ) (fresh : Sending) (latest : Option Sending) (sending : Sending)
    → (new ≡ true → length fresh.entries ≤ most)
    → (new ≡ false → (before : Sending) → latest ≡ Some before → length before.entries ≤ most)
    → (if new then Some fresh else option_map repeat_of latest) ≡ Some sending → length sending.entries ≤ most
few_if true most fresh latest sending few known is = subst (λ (s : Sending). length s.entries ≤ most) (same_Some _ _ is) (few refl)
few_if false most fresh None sending few known is = absurd (cc is)
few_if false most fresh (Some before) sending few known is = grind (arith, nat_tests, same_Some)

module _ (settings : Settings) (life : Life) (most : ℕ) where
  -- a block that was made then takes few
  abbrev pub TakesFew : Life → Type 0
  TakesFew l = min settings.per_block (length (waiting_of settings (l ++ life))) ≤ most

  few_first : (l : Life) (number : ℕ) → TakesFew l → length (first_sending settings (l ++ life) number).entries ≤ most
  few_first l number few = grind (arith, nat_tests, length-map, length-take, length-drop)

  -- a block that was made since then
  pub few_since : (later : Life) → AtEachTime TakesFew later
      → length (blocks_of settings life) < length (blocks_of settings (later ++ life))
      → (sending : Sending) → latest_sending settings (later ++ life) ≡ Some sending → length sending.entries ≤ most
  few_since [] each more sending is = absurd (omega arith)
  few_since (Commanded (Poll number) ∷ later) each more sending is =
      few_if (is_new (newest_poll (later ++ life)) number) most (first_sending settings (later ++ life) number)
      (latest_sending settings (later ++ life)) sending
      (λ new. few_first later number (holds_now TakesFew later each.1))
      (λ old. let same = ap length (blocks_old settings (later ++ life) number old) in few_since later each.1 (omega arith)) is
  few_since (other ∷ later) each more sending is = few_since later each.1 more sending is

-- the octets of entries
length_entries : (entries : List Entry) → length (flat_map entry_octets entries) ≡ 3 * length entries
length_entries [] = refl
length_entries (entry ∷ entries) =
    omega (arith, length-append (entry_octets entry) (flat_map entry_octets entries), length_entries entries)

length_sent : (sending : Sending) → length (answer_octets (answer_of_sending sending)) ≡ 8 + 3 * length sending.entries
length_sent sending = grind (arith, nat_tests, length_entries, length-append)

-- the module answers a poll with its latest sending
pub answer_is_sent : (settings : Settings) (first round : ℕ) (machine : Machine) (place : ℕ)
    → slice_get machine.to_module place ≡ Some (poll_frame first round)
    → (sending : Sending) × (latest_sending settings (Commanded (Poll (number_of first round)) ∷ life_of machine.history) ≡ Some sending)
    × (octets_answered settings first machine (place + 1) ≡ 8 + 3 * length sending.entries)
answer_is_sent settings first round machine place at =
    let number = number_of first round in
    let frame = poll_frame first round in
    let life : Life = Commanded (commands.Poll number) ∷ life_of machine.history in
    let fits : number < 2 ^ 8 = omega (arith, number_of-fits first round) in
    let spelled : command_in frame.octets ≡ Some (commands.Poll number) =
    command_back (commands.Poll number) frame.octets (record { within = fits; spelled = refl }) in
    let found = latest_sent settings life number refl in
    let sending = found.0 in
    let l = found.1 in
    let answer_frame : SentFrame = record { octets = answer_octets (answer_of_sending sending); round = round } in
    let answering : Machine = after_poll machine place frame (answer_frame ∷ []) in
    let same : answering ≡ after settings first machine (events.ToModule (place + 1)) =
    sym (ap (after_delivery_to_module settings machine (place + 1)) (frame_at_place machine.to_module place ∙ at)
    ∙ ap (after_frame settings machine place frame) spelled
    ∙ ap (λ latest. after_poll machine place frame (answer_frames (option_map answer_of_sending latest) round)) l.is) in
    let there : item_numbered answering.to_cpu (length machine.to_cpu + 1) ≡ Some answer_frame =
    frame_at_place (machine.to_cpu ++ answer_frame ∷ []) (length machine.to_cpu) ∙ get_last machine.to_cpu answer_frame in (
      sending,
      l.is,
      subst (λ (m : Machine). frame_length (item_numbered m.to_cpu (length machine.to_cpu + 1)) ≡ 8 + 3 * length sending.entries) same
          (ap frame_length there ∙ length_sent sending),
    )
