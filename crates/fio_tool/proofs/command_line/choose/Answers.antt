use Rattle.fio_tool.proofs.Names.{◌≡◌, ◌∙◌, sym, ap, subst, option_map, map, List, ℕ, [], App, is_simple, subcommand_of, chosen_name}
use Rattle.clap.specs.Matches.{subcommand_name_of}
use Rattle.clap.specs.Faults.{fault_of, is_simple_and_free}
use Rattle.fio_tool.proofs.CommandLineLemmas.{command_line-is_simple, command_line-is_simple_and_free, name-of_rows, chosen-tool}
use Rattle.fio_tool.proofs.command_line.choose.Goals as goal

pub returns-clause-tool : goal.returns-clause-tool
returns-clause-tool c =
    let app = c.in_ok-command.ensures in
    let m = c.in_ok-matches.matches in
    let words : List (List ℕ) = map (λ word. word.now) c.args.words.now in
    let met = (c.in_ok-matches.ensures.matches (ap is_simple app ∙ command_line-is_simple)).1
    ∙ ap (λ (a : App). subcommand_of a words) app in
    let chosen : chosen_name words ≡ subcommand_name_of m =
    sym (ap (option_map (λ entry. entry.0)) met) ∙ name-of_rows m in
    let found = c.tool_met.ensures in
    chosen-tool words (subcommand_name_of m) c.tool_met.result chosen found.known found.unknown

pub returns-clause-fault : goal.returns-clause-fault
returns-clause-fault c =
    let app = c.in_ok-command.ensures in
    subst (λ (a : App). fault_of a (map (λ word. word.now) c.args.words.now) ≡ []) app
    (c.in_ok-matches.ensures.kinds (ap is_simple_and_free app ∙ command_line-is_simple_and_free))
