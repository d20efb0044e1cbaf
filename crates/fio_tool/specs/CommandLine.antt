-- The words of a command line, read by clap's own function.
use Rattle.std.specs.Prelude.{◌≡◌, ℕ, List, [], ◌∷◌, Option, Some, codes, fold, option_map, true}
use Rattle.clap.specs.Faults.{fault_of}
use Rattle.clap.specs.Simple.{App, new_app, new_shape, on_top, with_subcommand, subcommand_of}
use Rattle.fio_tool.specs.declared.tools.Tool.{Tool}
use Rattle.fio_tool.specs.declared.tools.Tool.TheVariants.{Show, Simulate, Check, Record}

-- the tools, in the order in which help lists them
abbrev pub tools : List Tool
tools = Show ∷ Simulate ∷ Check ∷ Record ∷ []

-- the name of a tool's subcommand
abbrev pub name_of : Tool → List ℕ
name_of Show = codes "show"
name_of Simulate = codes "simulate"
name_of Check = codes "check"
name_of Record = codes "record"

-- the program's name, with a version and without a subcommand for help
abbrev pub program : App
program =
    on_top (λ top. record top { disable_help_subcommand = true; has_version = true })
    (new_app (codes "fio2070"))

-- the command line with a subcommand added for one more tool
abbrev pub with_tool : App → Tool → App
with_tool app tool = with_subcommand app (new_shape (name_of tool))

-- the command line: a subcommand for each tool
abbrev pub command_line : App
command_line = fold with_tool program tools

-- the name of the subcommand that the words give; the first word is the program's name
abbrev pub chosen_name : List (List ℕ) → Option (List ℕ)
chosen_name words = option_map (λ found. found.0) (subcommand_of command_line words)

-- the command line is valid, and names this tool
pub record NamesTool (words : List (List ℕ)) (tool : Tool) : Type 0 where
  pub faultless : fault_of command_line words ≡ []
  pub named : chosen_name words ≡ Some (name_of tool)
