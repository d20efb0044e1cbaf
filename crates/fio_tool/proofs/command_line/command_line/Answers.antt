use Rattle.fio_tool.proofs.Names.{◌≡◌, ◌∙◌, sym, ap, get_or, take, fold, app_of, new_shape, shape_of, with_subcommand, program, with_tool, name_of, tools, Show}
use Rattle.fio_tool.proofs.CommandLineLemmas.{with_tools-more}
use Rattle.fio_tool.proofs.command_line.command_line.Goals as goal

pub tools-preserved : goal.tools-preserved
tools-preserved c =
    let place = c.tools.tool-index in
    let tool = get_or tools place Show in
    let before : app_of c.tools.command ≡ fold with_tool program (take place tools) =
    c.tools.invariant in
    let shaped : shape_of c.subcommand.result ≡ new_shape (name_of tool) =
    c.subcommand.ensures.shape in
    c.in_ok-command.ensures.shape c.subcommand.ensures.local
    ∙ ap (with_subcommand (app_of c.tools.command)) shaped
    ∙ ap (λ app. with_tool app tool) before
    ∙ sym (with_tools-more place c.tools-test.true)
