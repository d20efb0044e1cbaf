use Rattle.std.proofs.Common.{◌∷◌, ◌≡◌, length, min, sym, subst, arith, length-append}
use Rattle.fio_message.specs.Views.{command_of}
use Rattle.fio_message.proofs.Decoded.{command_read}
use Rattle.fio_module.specs.Life.{Commanded, life_of}
use Rattle.fio_module.specs.Replies.{answer_to}
use Rattle.fio_module.specs.Rings.{ring_in}
use Rattle.fio_module.specs.State.{IsAfter}
use Rattle.fio_module.proofs.LongestAnswers.{answer_fits}
use Rattle.fio_flat.specs.Module.{WritesReply, events_reached, with_errors}
use Rattle.fio_c.proofs.Replies.{reply_written}
use Rattle.fio_c.proofs.Rings.{front_used, front_written}
use Rattle.fio_c.proofs.sized_module.fio2070_sized_module_receive.Goals as goal

pub returns-clause-carried : goal.returns-clause-carried
returns-clause-carried c room settings history after =
    let device = c.args.device.now in
    let ring = c.args.ring.now in
    let command = command_of c.in-Ok.command in
    let life = life_of (events_reached history) in
    let back = c.split_at_mut-slots.result.1.now in
    let used : c.min-used.result ≡ min device.waiting (length ring) = omega (arith, c.min-used.ensures, c.from.ensures) in
    let before = front_used device.waiting c.min-used.result ring c.split_at_mut-slots.result.0.now used c.split_at_mut-slots.ensures.front in
    let behind = front_written device.waiting ring c.answer.new.slots back
    (omega (arith, used, c.split_at_mut-slots.ensures.front_len)) (omega (arith, length-append c.answer.new.slots back, c.split_at_mut-slots.ensures.front_len, c.split_at_mut-slots.ensures.back_len)) in
    record {
      state = rw (command_read c.args.octets.now command c.in-Ok.ensures.exact) (
          subst (λ slots. IsAfter settings c.answer.new.state (ring_in c.answer.new.place slots) (Commanded command ∷ life))
          (sym behind)
          (c.answer.ensures.carried settings life
          (subst (λ slots. IsAfter settings device.state (ring_in device.place slots) life) before after.state)));
      errors = after.errors;
      limit = after.limit;
    }

pub returns-clause-reply : goal.returns-clause-reply
returns-clause-reply c room command is settings history after =
    let device = c.args.device.now in
    let ring = c.args.ring.now in
    let command = command_of c.in-Ok.command in
    let life = life_of (events_reached history) in
    let used : c.min-used.result ≡ min device.waiting (length ring) = omega (arith, c.min-used.ensures, c.from.ensures) in
    let before = front_used device.waiting c.min-used.result ring c.split_at_mut-slots.result.0.now used c.split_at_mut-slots.ensures.front in
    rw (command_read c.args.octets.now command c.in-Ok.ensures.exact) (
    subst (λ errors. WritesReply (with_errors errors (answer_to settings life command)) c.args.out.now c.answer.new.out c.answer.result)
    after.errors
    (reply_written device.errors (answer_to settings life command) c.args.out.now c.answer.new.out c.answer.result
    (λ answer is. omega (arith, room, after.state.per_block, answer_fits settings life command answer is))
    (c.answer.ensures.answer settings life
    (subst (λ slots. IsAfter settings device.state (ring_in device.place slots) life) before after.state))))
