use Rattle.fio_tool.proofs.Names.{◌≡◌, map, sym}
use Rattle.fio_tool.proofs.CommandLineLemmas.{only_tool, some_tool, no_tool}
use Rattle.fio_tool.proofs.program.run_program.Goals as goal

-- the words name a tool

pub returns-in-Ok-Some-clause-unread : goal.returns-in-Ok-Some-clause-unread
returns-in-Ok-Some-clause-unread g c = λ none.
    let chosen = rw c.in-Ok-Some.field-0-is at c.in-Ok-Some.ensures.tool in
    absurd (none c.in-Ok-Some.tool (record { faultless = c.in-Ok-Some.ensures.fault; named = sym chosen }))

pub returns-in-Ok-Some-clause-reported : goal.returns-in-Ok-Some-clause-reported
returns-in-Ok-Some-clause-reported g c = λ other names low.
    let chosen = rw c.in-Ok-Some.field-0-is at c.in-Ok-Some.ensures.tool in
    let same : c.in-Ok-Some.tool ≡ other = only_tool _ c.in-Ok-Some.tool other chosen names in
    rw (← same) (c.report_tool.ensures.reported low)

pub returns-in-Ok-Some-clause-named : goal.returns-in-Ok-Some-clause-named
returns-in-Ok-Some-clause-named g c = λ other names. c.report_tool.ensures.never_two

pub returns-in-Ok-Some-clause-no_subcommand : goal.returns-in-Ok-Some-clause-no_subcommand
returns-in-Ok-Some-clause-no_subcommand g c = λ faultless none.
    let chosen = rw c.in-Ok-Some.field-0-is at c.in-Ok-Some.ensures.tool in
    absurd (some_tool (map (λ word. word.now) c.args.words.now) c.in-Ok-Some.tool chosen none)

pub returns-in-Ok-Some-clause-refused : goal.returns-in-Ok-Some-clause-refused
returns-in-Ok-Some-clause-refused g c = λ faulty. absurd (faulty c.in-Ok-Some.ensures.fault)

-- they are valid, and name none

pub returns-in-Ok-None-clause-reported : goal.returns-in-Ok-None-clause-reported
returns-in-Ok-None-clause-reported g c = λ other names low.
    let chosen = rw c.in-Ok-None.field-0-is at c.in-Ok-None.ensures.tool in
    absurd (no_tool _ other chosen names)

pub returns-in-Ok-None-clause-named : goal.returns-in-Ok-None-clause-named
returns-in-Ok-None-clause-named g c = λ other names.
    let chosen = rw c.in-Ok-None.field-0-is at c.in-Ok-None.ensures.tool in
    absurd (no_tool _ other chosen names)

pub returns-in-Ok-None-clause-refused : goal.returns-in-Ok-None-clause-refused
returns-in-Ok-None-clause-refused g c = λ faulty. absurd (faulty c.in-Ok-None.ensures.fault)
