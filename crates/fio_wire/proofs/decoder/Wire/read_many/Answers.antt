use Rattle.std.proofs.Common.{◌≡◌, ◌<◌, ◌+◌, ◌∙◌, length, take, arith, sym, ap, true}
use Rattle.fio_wire.specs.Frames.{is_nothing}
use Rattle.fio_wire.specs.Octets.{Reading, next, reading_of, said_of, says, settings_of}
use Rattle.fio_wire.proofs.Batch.{heard_more, one_less, read_more, silent}
use Rattle.fio_wire.proofs.decoder.Wire.read_many.Goals as goal

pub returns-then-not-is_nothing-clause-heard : goal.returns-then-not-is_nothing-clause-heard
returns-then-not-is_nothing-clause-heard c =
    let more : c.octets.count < length c.args.octets.now = omega (arith, c.octets-test.true) in
    λ is. heard_more says next 0 (settings_of c.args.self.now) (settings_of c.octets.self) (reading_of c.args.self.now) (reading_of c.octets.self) c.args.octets.now c.octets.count c.read-heard.result more
    (c.octets.invariant.said is) (c.octets.invariant.next is) c.octets.invariant.settings (c.read-heard.ensures.heard (c.octets.invariant.is is))

pub octets-preserved : goal.octets-preserved
octets-preserved c =
    let more : c.octets.count < length c.args.octets.now = omega (arith, c.octets-test.true) in
    let begun : Reading = reading_of c.args.self.now in
    let nothing : is_nothing c.read-heard.result ≡ true = sym c.is_nothing.ensures ∙ c.if-not-is_nothing.false in
    record {
      within = omega (arith, more);
      is = λ is. c.read-heard.ensures.is (c.octets.invariant.is is);
      settings = c.read-heard.ensures.settings ∙ c.octets.invariant.settings;
      next = λ is. read_more next 0 begun (reading_of c.octets.self) (reading_of c.read-heard.new.self) c.args.octets.now c.octets.count more
          (c.octets.invariant.next is) (c.read-heard.ensures.next (c.octets.invariant.is is));
      said = λ is. silent (settings_of c.args.self.now) (said_of begun (take (c.octets.count + 1) c.args.octets.now))
          (ap is_nothing (sym (heard_more says next 0 (settings_of c.args.self.now) (settings_of c.octets.self) begun (reading_of c.octets.self) c.args.octets.now c.octets.count c.read-heard.result more
          (c.octets.invariant.said is) (c.octets.invariant.next is) c.octets.invariant.settings (c.read-heard.ensures.heard (c.octets.invariant.is is)))) ∙ nothing);
    }

pub returns-clause-last : goal.returns-clause-last
returns-clause-last c = λ is. one_less says next (reading_of c.args.self.now) c.args.octets.now c.octets.count (c.octets.invariant.said is)
