-- What the program writes for an input, and its exit status: for each tool, the text and whether it reports a fault.
use Rattle.std.specs.Prelude.{◌≡◌, ◌≢◌, ◌⊎◌, ℕ, Bool, true, false, List, Option, ◌++◌, codes, Result, Ok, Err, IfOk, IfErr}
use Rattle.std.specs.Io.KnownBytes.{Appends, Keeps}
use Rattle.clap.specs.Kinds.{Kinds, IsAmong}
use Rattle.clap.specs.declared.error.kind.ErrorKind.{ErrorKind}
use Rattle.clap.specs.declared.error.kind.ErrorKind.TheVariants.{DisplayHelp, DisplayVersion, OutOfMemory}
use Rattle.fio_message.specs.Texts.{memory_text}
use Rattle.fio_tool.specs.Show.{show_text, is_show_good}
use Rattle.fio_tool.specs.Simulate.{simulate_text, is_simulate_good}
use Rattle.fio_tool.specs.Check.{check_text, is_check_good}
use Rattle.fio_tool.specs.Record.{record_text, is_record_good}
use Rattle.fio_tool.specs.Streams.{TakesAtMost, TakesInput}
use Rattle.fio_tool.specs.declared.endings.Ending.{Ending}
use Rattle.fio_tool.specs.declared.endings.Ending.TheVariants.{Good, Bad}
use Rattle.fio_tool.specs.declared.endings.ToolFault.{ToolFault}
use Rattle.fio_tool.specs.declared.endings.ToolFault.TheVariants.{Read, Write, Memory}
use Rattle.fio_tool.specs.declared.streams.TheConstants.{MOST_READ}
use Rattle.fio_tool.specs.declared.tools.Tool.{Tool}
use Rattle.fio_tool.specs.declared.tools.Tool.TheVariants.{Show, Simulate, Check, Record}

-- the text that a tool writes for an input
abbrev pub program_text : Tool → List ℕ → List ℕ
program_text Show input = show_text input
program_text Simulate input = simulate_text input
program_text Check input = check_text input
program_text Record input = record_text input

-- whether a tool reports no fault
abbrev pub is_program_good : Tool → List ℕ → Bool
is_program_good Show input = is_show_good input
is_program_good Simulate input = is_simulate_good input
is_program_good Check input = is_check_good input
is_program_good Record input = is_record_good input

-- the ending of a tool that found no fault, or of one that found a fault
abbrev pub ending_of : Bool → Ending
ending_of true = Good
ending_of false = Bad

-- how a tool ends after writing this text
abbrev pub program_ending : Tool → List ℕ → Ending
program_ending tool input = ending_of (is_program_good tool input)

-- the exit status after a tool
abbrev pub status_of : Result Ending ToolFault → ℕ
status_of (Ok Good) = 0
status_of (Ok Bad) = 1
status_of (Err fault) = 3

-- the exit status of a tool that has written its text
abbrev pub program_status : Tool → List ℕ → ℕ
program_status tool input = status_of (Ok (program_ending tool input))

-- The tool read this input and wrote the text for it. `left` and `left'` are the octets that a reader has left before and
-- after; `held` and `held'` are those that a writer holds before and after; both as far as they report them.
pub record HasReported
    (tool : Tool) (input : List ℕ) (left left' held held' : Option (List ℕ)) : Type 0 where
  pub taken : TakesInput left left' input
  pub written : Appends held held' (program_text tool input)

-- The tool ran, and ended with the text of what it read, or with a fault.
pub record HasRun
    (tool : Tool) (result : Result Ending ToolFault) (left left' held held' : Option (List ℕ))
    : Type 0 where
  -- it ended as its text says, and wrote that text for what it read
  pub ok :
      IfOk result (λ ending. (input : List ℕ)
      × HasReported tool input left left' held held' × (ending ≡ program_ending tool input))
  -- it read no more than it needs to know that an input is too long
  pub taken : TakesAtMost MOST_READ left left'
  -- after a fault other than one of writing, nothing is written
  pub unwritten : IfErr result (λ fault. fault ≢ Write → Keeps held held')

-- why a tool ends without its text
abbrev pub tool_fault_text : ToolFault → List ℕ
tool_fault_text Read = codes "read fault"
tool_fault_text Write = codes "write fault"
tool_fault_text Memory = memory_text

-- the line that reports this fault
abbrev pub fault_line : ToolFault → List ℕ
fault_line fault = codes "fio2070: " ++ (tool_fault_text fault ++ codes "\n")

-- ---- command lines that name no tool

-- the line for a command line that names no subcommand
abbrev pub no_subcommand_line : List ℕ
no_subcommand_line = codes "fio2070: no subcommand\n"

-- the status if clap returns an error of this kind: help and the version are no mistakes
abbrev pub refusal_status : ErrorKind → ℕ
refusal_status DisplayHelp = 0
refusal_status DisplayVersion = 0
refusal_status OutOfMemory = 3
refusal_status _ = 2

-- the status of a command line whose fault is of one of these kinds: that of the kind, or 3 if memory runs out
abbrev pub IsRefusalStatus : Kinds → ℕ → Type 0
IsRefusalStatus kinds status =
    (status ≡ 3) ⊎ ((kind : ErrorKind) × IsAmong kind kinds × (status ≡ refusal_status kind))
