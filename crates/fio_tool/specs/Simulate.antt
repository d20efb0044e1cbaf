-- What `simulate` writes for a text.
use Rattle.std.specs.Prelude.{ℕ, Bool, false, List, ◌++◌, ◌&&◌, codes, not, if◌then◌else◌, Result, Ok, Err}
use Rattle.fio_world.specs.Faults.{script_error_text}
use Rattle.fio_world.specs.Scripts.{Scenario, script_in}
use Rattle.fio_world.specs.Reports.{report_of}
use Rattle.fio_world.specs.declared.script.ScriptError.{ScriptError}
use Rattle.fio_tool.specs.InputFaults.{is_too_long, too_long_text}

-- the report of a script, or the line of its first faulty line
abbrev pub script_text : Result Scenario ScriptError → List ℕ
script_text (Ok scenario) = (report_of scenario).text
script_text (Err fault) = script_error_text fault ++ codes "\n"

-- whether this is a script whose events are all done
abbrev pub is_script_good : Result Scenario ScriptError → Bool
is_script_good (Ok scenario) = (report_of scenario).good
is_script_good (Err fault) = false

-- the text that `simulate` writes for an input
abbrev pub simulate_text : List ℕ → List ℕ
simulate_text input = if is_too_long input then too_long_text else script_text (script_in input)

-- whether `simulate` reports no fault
abbrev pub is_simulate_good : List ℕ → Bool
is_simulate_good input = not (is_too_long input) && is_script_good (script_in input)
