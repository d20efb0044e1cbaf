use Rattle.fio_tool.proofs.CommandLineLemmas.{none_named}
use Rattle.fio_tool.proofs.command_line.tool_named.Goals as goal

pub returns-clause-unknown : goal.returns-clause-unknown
returns-clause-unknown c =
    let all = c.tools-test.false in
    none_named c.args.name.now c.tools.tool-index all c.tools.invariant
