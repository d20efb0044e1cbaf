use Rattle.std.proofs.Common.{◌≡◌, ◌<◌, ◌+◌, ◌∙◌, length, take, arith, sym, ap, Bool, true, false, List}
use Rattle.fio_wire.specs.Frames.{wire_heard, is_nothing}
use Rattle.fio_wire.specs.Bits.{Reading, lowest_bits, next, reading_of, said_of, says, settings_of}
use Rattle.fio_wire.proofs.Batch.{heard_more, one_less, read_more, silent}
use Rattle.fio_wire.proofs.LowestBits.{bit_at, length_bits}
use Rattle.fio_wire.proofs.bit_decoder.WireBits.read_many.Goals as goal

pub returns-then-not-is_nothing-clause-heard : goal.returns-then-not-is_nothing-clause-heard
returns-then-not-is_nothing-clause-heard c =
    let line : List Bool = lowest_bits c.args.line.now in
    let more : c.bits.count < length line = omega (arith, c.bits-test.true, length_bits c.args.line.now) in
    λ is. heard_more says next false (settings_of c.args.self.now) (settings_of c.bits.self) (reading_of c.args.self.now) (reading_of c.bits.self) line c.bits.count c.read-heard.result more
    (c.bits.invariant.said is) (c.bits.invariant.next is) c.bits.invariant.settings
    (c.read-heard.ensures.heard (c.bits.invariant.is is) ∙ ap (λ b. wire_heard (settings_of c.bits.self) (says (reading_of c.bits.self) b)) (sym (bit_at c.args.line.now c.bits.count)))

pub returns-then-not-is_nothing-clause-next : goal.returns-then-not-is_nothing-clause-next
returns-then-not-is_nothing-clause-next c =
    let line : List Bool = lowest_bits c.args.line.now in
    let more : c.bits.count < length line = omega (arith, c.bits-test.true, length_bits c.args.line.now) in
    λ is. read_more next false (reading_of c.args.self.now) (reading_of c.bits.self) (reading_of c.read-heard.new.self) line c.bits.count more
    (c.bits.invariant.next is) (c.read-heard.ensures.next (c.bits.invariant.is is) ∙ ap (next (reading_of c.bits.self)) (sym (bit_at c.args.line.now c.bits.count)))

pub bits-preserved : goal.bits-preserved
bits-preserved c =
    let line : List Bool = lowest_bits c.args.line.now in
    let more : c.bits.count < length line = omega (arith, c.bits-test.true, length_bits c.args.line.now) in
    let begun : Reading = reading_of c.args.self.now in
    let nothing : is_nothing c.read-heard.result ≡ true = sym c.is_nothing.ensures ∙ c.if-not-is_nothing.false in
    record {
      within = omega (arith, c.bits-test.true);
      is = λ is. c.read-heard.ensures.is (c.bits.invariant.is is);
      settings = c.read-heard.ensures.settings ∙ c.bits.invariant.settings;
      next = λ is. read_more next false begun (reading_of c.bits.self) (reading_of c.read-heard.new.self) line c.bits.count more
          (c.bits.invariant.next is) (c.read-heard.ensures.next (c.bits.invariant.is is) ∙ ap (next (reading_of c.bits.self)) (sym (bit_at c.args.line.now c.bits.count)));
      said = λ is. silent (settings_of c.args.self.now) (said_of begun (take (c.bits.count + 1) line))
          (ap is_nothing (sym (heard_more says next false (settings_of c.args.self.now) (settings_of c.bits.self) begun (reading_of c.bits.self) line c.bits.count c.read-heard.result more
          (c.bits.invariant.said is) (c.bits.invariant.next is) c.bits.invariant.settings
          (c.read-heard.ensures.heard (c.bits.invariant.is is) ∙ ap (λ b. wire_heard (settings_of c.bits.self) (says (reading_of c.bits.self) b)) (sym (bit_at c.args.line.now c.bits.count))))) ∙ nothing);
    }

pub returns-clause-last : goal.returns-clause-last
returns-clause-last c = λ is. one_less says next (reading_of c.args.self.now) (lowest_bits c.args.line.now) c.bits.count (c.bits.invariant.said is)
