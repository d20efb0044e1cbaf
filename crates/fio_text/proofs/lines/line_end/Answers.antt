use Rattle.std.proofs.Common.{eqb, inl, inr, arith}
use Rattle.std.proofs.lemmas.Bool.{eqb-true, eq-eqb, cases_lt}
use Rattle.std.proofs.lemmas.Simd.{run_in_chunk_fails, run_in_chunk_stops}
use Rattle.fio_text.proofs.lines.line_end.Goals as goal

pub lanes-preserved : goal.lanes-preserved
lanes-preserved c = record {
  within = omega arith;
  before = λ k less at. elim (cases_lt k c.lanes.at) [
    | inl old ↦ c.lanes.invariant.before k old at
    | inr new ↦ cc (
      run_in_chunk_fails (λ octet. eqb octet 10) c.args.text.now c.lanes.at 16 c.before_feed-free.result 0
          (omega arith) c.before_feed-free.ensures k new (omega arith),
      eq-eqb _ _ at,
    )
  ];
}

pub returns-then-free-lt-LANES-clause-before : goal.returns-then-free-lt-LANES-clause-before
returns-then-free-lt-LANES-clause-before c = λ k less at. elim (cases_lt k c.lanes.at) [
  | inl old ↦ c.lanes.invariant.before k old at
  | inr new ↦ cc (
    run_in_chunk_fails (λ octet. eqb octet 10) c.args.text.now c.lanes.at 16 c.before_feed-free.result 0
        (omega arith) c.before_feed-free.ensures k new less,
    eq-eqb _ _ at,
  )
]

pub returns-then-free-lt-LANES-clause-feed : goal.returns-then-free-lt-LANES-clause-feed
returns-then-free-lt-LANES-clause-feed c = λ less.
    eqb-true _ _ (run_in_chunk_stops (λ octet. eqb octet 10) c.args.text.now c.lanes.at 16 c.before_feed-free.result 0
    (omega arith) c.before_feed-free.ensures c.if-free-lt-LANES.true)
