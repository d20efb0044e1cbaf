use Rattle.fio_tool.proofs.Names.{◌≡◌, take, fold, app_of, program, with_tool, tools}
use Rattle.fio_tool.proofs.command_line.command_line.Given as goal

abbrev pub invariant-tools : goal.invariant-tools
invariant-tools l = app_of l.command ≡ fold with_tool program (take l.tool-index tools)
