use Rattle.fio_tool.proofs.Names.{take_more, ◌≡◌, ◌+◌, ◌<◌, ◌≤◌, arith, length, take, get_or, ◌⊎◌, inl, inr, ℕ, List, [], ◌∷◌, map, Bool, true, false, Option, Some, None, option_map, refl, ap, sym, ◌∙◌, IfSome, cond, Box, Global, same_Some, find, fold, IfNone, Shape, entered, built, built_leaf, new_shape, rows_at, is_simple, names_of, argument_words, label_of, subcommand_rows_of, subcommand_rows, program, with_tool, command_line, chosen_name, NamesTool, name_of, tools, Show, Simulate, Check, Record}
use Rattle.std.proofs.lemmas.List.Sums.{fold-append}
use Rattle.std.specs.Box.{box_value}
use Rattle.clap.specs.Walk.{Text, answers_to, stop_after}
use Rattle.clap.specs.Matches.{subcommand_name_of}
use Rattle.clap.specs.Faults.{is_simple_and_free}
use Rattle.clap.specs.declared.parser.matches.ArgMatches.{ArgMatches}
use Rattle.clap.specs.declared.parser.matches.ArgMatches.TheViews.{out-ArgMatches, out-SubCommand}
use Rattle.clap.specs.declared.parser.matches.SubCommand.{SubCommand}
use Rattle.clap.proofs.OnLiterals.{clap_on_literals}
use Rattle.fio_tool.specs.declared.tools.Tool.{Tool}

-- clap's function of the words applies to this command line
pub command_line-is_simple : is_simple command_line ≡ true
unfolding clap_on_literals
command_line-is_simple = refl

-- and so does its function of their faults
pub command_line-is_simple_and_free : is_simple_and_free command_line ≡ true
unfolding clap_on_literals
command_line-is_simple_and_free = refl

-- the command line with one more tool
pub with_tools-more : (place : ℕ) → place < length tools
    → fold with_tool program (take (place + 1) tools)
    ≡ with_tool (fold with_tool program (take place tools)) (get_or tools place Show)
with_tools-more place within =
    ap (fold with_tool program) (take_more tools place Show within)
    ∙ fold-append with_tool program (take place tools) (get_or tools place Show ∷ [])

-- the name is one of these commands'
abbrev IsAmong : Text → List Shape → Type 0
IsAmong name [] = ⊥
IsAmong name (s ∷ shapes) = (s.name ≡ name) ⊎ IsAmong name shapes

abbrev name_in : List Text → Option Shape → Option Text
name_in rest found = option_map (λ entry. entry.0) (option_map (λ s. rows_at s rest) found)

found-first : (later : Option Shape) (s : Shape) (shapes : List Shape) (rest : List Text)
    (name : Text) (passes : Bool) → (name_in rest later ≡ Some name → IsAmong name shapes)
    → name_in rest (cond passes (Some s) later) ≡ Some name → IsAmong name (s ∷ shapes)
found-first later s shapes rest name true among e = inl (cc)
found-first later s shapes rest name false among e = inr (among e)

-- what a search finds has the name of one of them
found-among : (test : Shape → Bool) (shapes : List Shape) (rest : List Text) (name : Text)
    → name_in rest (find test shapes) ≡ Some name → IsAmong name shapes
found-among test [] rest name e = absurd (cc)
found-among test (s ∷ shapes) rest name e =
    found-first (find test shapes) s shapes rest name (test s) (found-among test shapes rest name) e

-- a tool has this name
abbrev pub IsToolName : Text → Type 0
IsToolName name = (tool : Tool) × (name_of tool ≡ name)

-- a name among those of the subcommands of tools is a tool's
tool-among : (ts : List Tool) (name : Text)
    → IsAmong name (map (λ tool. built_leaf (new_shape (name_of tool))) ts) → IsToolName name
tool-among [] name none = absurd none
tool-among (tool ∷ ts) name among =
    elim among [ inl same ↦ (tool, same) | inr later ↦ tool-among ts name later ]

-- each subcommand is a tool's
entered-name : (stop : Option (Text × List Text)) (name : Text)
    → option_map (λ found. found.0) (entered (built command_line) stop) ≡ Some name
    → IsToolName name
entered-name None name e = absurd (cc)
entered-name (Some words) name e =
    let test = λ (s : Shape). answers_to words.0 (label_of s) in
    tool-among tools name (found-among test (built command_line).subs words.1 name e)

name-rows : (met : Option (Box SubCommand Global))
    → option_map (λ entry. entry.0) (subcommand_rows met)
    ≡ option_map (λ b. (out-SubCommand (box_value b)).name.now) met
name-rows None = refl
name-rows (Some b) = refl

-- the name of the subcommand that was met, in both views
pub name-of_rows : (m : ArgMatches)
    → option_map (λ entry. entry.0) (subcommand_rows_of m) ≡ subcommand_name_of m
name-of_rows m = name-rows (out-ArgMatches m).subcommand

-- the name that words choose is a tool's
chosen-name : (words : List Text) (name : Text) → chosen_name words ≡ Some name → IsToolName name
chosen-name words name e =
    let app = built command_line in
    let arguments = argument_words command_line words in
    entered-name (stop_after app.top.rules (names_of app) arguments) name e

-- a tool that is looked up by the name that words choose, if they choose one
pub chosen-tool : (words : List Text) (name : Option Text) (tool : Option Tool)
    → chosen_name words ≡ name
    → IfSome tool (λ t. name ≡ Some (name_of t)) → IfNone tool ((t : Tool) → name ≡ Some (name_of t) → ⊥)
    → option_map name_of tool ≡ chosen_name words
chosen-tool words None None chosen known unknown = sym chosen
chosen-tool words (Some name) None chosen known unknown =
    let is_known = chosen-name words name chosen in absurd (unknown is_known.0 (ap Some (sym is_known.1)))
chosen-tool words name (Some t) chosen known unknown = sym (chosen ∙ known)

-- a name that none of the tools up to the last has is no tool's
pub none_named : (name : Text) (count : ℕ) → 4 ≤ count
    → ((place : ℕ) → place < count → name_of (get_or tools place Show) ≡ name → ⊥)
    → (tool : Tool) → name_of tool ≡ name → ⊥
none_named name count all none Show = none 0 (omega (arith, all))
none_named name count all none Simulate = none 1 (omega (arith, all))
none_named name count all none Check = none 2 (omega (arith, all))
none_named name count all none Record = none 3 (omega (arith, all))

-- a tool's name after the program's names that tool
pub names_tool : (first : Text) (tool : Tool) → NamesTool (first ∷ name_of tool ∷ []) tool
unfolding clap_on_literals
names_tool first Show = record { faultless = refl; named = refl }
names_tool first _ = record { faultless = refl; named = refl }

-- ---- words name one tool at most

same_name : (tool other : Tool) → name_of tool ≡ name_of other → tool ≡ other
same_name Show Show same = refl
same_name Simulate Simulate same = refl
same_name Check Check same = refl
same_name Record Record same = refl
same_name tool other same = absurd (cc)

pub only_tool : (words : List Text) (tool other : Tool) → Some (name_of tool) ≡ chosen_name words → NamesTool words other
    → tool ≡ other
only_tool words tool other chosen names = same_name tool other (same_Some _ _ (chosen ∙ names.named))

pub some_tool : (words : List Text) (tool : Tool) → Some (name_of tool) ≡ chosen_name words → chosen_name words ≡ None → ⊥
some_tool words tool chosen none = let is = chosen ∙ none in cc

pub no_tool : (words : List Text) (tool : Tool) → None ≡ chosen_name words → NamesTool words tool → ⊥
no_tool words tool none names = let is = none ∙ names.named in cc
