use Rattle.fio_tool.proofs.Names.{◌≡◌, ◌<◌, ℕ, get_or, name_of, tools, Show}
use Rattle.fio_tool.proofs.command_line.tool_named.Given as goal

-- no tool so far has the name
abbrev pub invariant-tools : goal.invariant-tools
invariant-tools l = (place : ℕ) → place < l.tool-index → name_of (get_or tools place Show) ≡ l.name → ⊥
