use Rattle.fio_module.proofs.Names.{Option, ℕ, sym, subst}
use Rattle.arrayvec.specs.ArrayVec.{ArrayVec}
use Rattle.fio_message.specs.Views.{command_of}
use Rattle.fio_module.specs.Replies.{Encodes, reply_to}
use Rattle.fio_module.proofs.PollAnswers.{received-obeyed}
use Rattle.fio_module.proofs.module.Module.receive.Goals as goal

pub returns-in-Nothing-clause-stands : goal.returns-in-Nothing-clause-stands
returns-in-Nothing-clause-stands c settings history after =
    let received = received-obeyed _ _ _ _ c.args.octets.now (command_of c.in-Ok.command) _ c.in-Ok.ensures.exact c.carry_out-reply.ensures in
    (received settings history after).0

pub returns : goal.returns
returns c =
    let octets = c.args.octets.now in
    let received = received-obeyed _ _ _ _ octets (command_of c.in-Ok.command) _ c.in-Ok.ensures.exact c.carry_out-reply.ensures in
    record {
      stands = λ settings history after. (received settings history after).0;
      reply = λ settings history after.
          subst (λ (frame : Option (ArrayVec ℕ)). Encodes (reply_to settings history octets) frame)
          (sym c.if-not-write_reply.ensures.written) (received settings history after).1;
    }
