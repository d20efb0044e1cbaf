-- Which command a struct of C is, with its items and its body.
use Rattle.std.proofs.Common.{◌≡◌, ℕ, ◌<◌, ◌≤◌, true, List, [], length, Option, Some, None, refl, sym, ap, subst, ◌∙◌, arith}
use Rattle.std.proofs.lemmas.List.{length-map, nil_from_length}
use Rattle.std.proofs.lemmas.Option.{same_Some}
use Rattle.fio_message.specs.declared.limits.TheConstants.{BODY_OCTETS}
use Rattle.fio_message.proofs.Cases.{◌⊳◌, IsNoneFrom, at_codes}
use Rattle.fio_message.specs.Commands.{other_command_code, other_command_of}
use Rattle.fio_message.specs.declared.commands.Command.{Command}
use Rattle.fio_message.specs.declared.commands.Command.TheVariants as commands
use Rattle.fio_message.specs.declared.commands.OtherCommand.{OtherCommand}
use Rattle.fio_message.specs.declared.commands.OtherCommand.TheVariants.{TrackInputs, ComplexOutputs, ControllerId}
use Rattle.fio_c.specs.declared.commands.ConfigurationItem.{ConfigurationItem}
use Rattle.fio_c.specs.declared.commands.FlatCommand.{FlatCommand}
use Rattle.fio_c.specs.Flat.{flat_command, command_of_type, read_item, read_items, are_items}
use Rattle.fio_c.specs.Given.{IsCommandGiven, command_by_type, fixed_command, command_items, command_body}

-- what does not fit is more
pub above : (count most : ℕ) → (count ≤ most → ⊥) → most < count
above count most none = grind arith

-- the flat form counts the items and the octets of the body
counted : (command : Command) → (flat_command command).count ≡ length (command_items command)
counted (commands.ConfigureInputs items) = refl
counted other = refl

long : (command : Command) → (flat_command command).body ≡ length (command_body command)
long (commands.Other kind body) = refl
long other = refl

-- the count of a struct is that of the items, and its body has as many octets as the body
pub command_counts : (flat : FlatCommand) (list : List ConfigurationItem) (octets : List ℕ) (command : Command)
    → IsCommandGiven flat list octets command → (flat.count ≡ length list) × (flat.body ≡ length octets)
command_counts flat list octets command given = (
  ap (λ (f : FlatCommand). f.count) given.flat ∙ counted command ∙ ap length (sym given.items) ∙ length-map list read_item,
  ap (λ (f : FlatCommand). f.body) given.flat ∙ long command ∙ ap length (sym given.body),
)

-- the flat form of a command has the fields of its type alone
flat_by_type : (command : Command) → flat_command command ≡ command_by_type (flat_command command)
flat_by_type (commands.Other TrackInputs body) = refl
flat_by_type (commands.Other ComplexOutputs body) = refl
flat_by_type (commands.Other ControllerId body) = refl
flat_by_type other = refl

pub command_kept : (flat : FlatCommand) (list : List ConfigurationItem) (octets : List ℕ) (command : Command)
    → IsCommandGiven flat list octets command → flat ≡ command_by_type flat
command_kept flat list octets command given =
    given.flat ∙ flat_by_type command ∙ ap command_by_type (sym given.flat)

-- the struct of a configuration is the flat form of its items
configuration_flat : (flat : FlatCommand) (list : List ConfigurationItem) → flat.code ≡ 51
    → flat ≡ command_by_type flat → flat.count ≡ length list
    → flat ≡ flat_command (commands.ConfigureInputs (record { items = read_items list }))
configuration_flat flat list code whole count =
    whole
    ∙ ap command_by_type (ap (λ n. record flat { code = n }) code)
    ∙ ap (λ n. record (command_of_type 51) { count = n }) (count ∙ sym (length-map list read_item))

-- it is a configuration
pub configuration_given : (flat : FlatCommand) (list : List ConfigurationItem) (octets : List ℕ) → flat.code ≡ 51
    → flat ≡ command_by_type flat → flat.count ≡ length list → flat.body ≡ length octets → are_items list ≡ true
    → IsCommandGiven flat list octets (commands.ConfigureInputs (record { items = read_items list }))
configuration_given flat list octets code whole count body named =
    let is = configuration_flat flat list code whole count in
    let none : length octets ≡ 0 = omega (arith, body, ap (λ (f : FlatCommand). f.body) is) in
    record { flat = is; items = refl; named = named; body = nil_from_length octets none; short = omega (arith, none) }

-- a type is that of the command that has it
code_of_other : (code : ℕ) (kind : OtherCommand) → other_command_of code ≡ Some kind → code ≡ other_command_code kind
code_of_other code kind is = grind arith

-- the struct of a command that has only a body is the flat form of its body
other_flat : (flat : FlatCommand) (octets : List ℕ) (kind : OtherCommand) → flat.code ≡ other_command_code kind
    → flat ≡ command_by_type flat → flat.body ≡ length octets
    → flat ≡ flat_command (commands.Other kind (record { items = octets }))
other_flat flat octets TrackInputs code whole body =
    whole
    ∙ ap command_by_type (ap (λ n. record flat { code = n }) code)
    ∙ ap (λ n. record (command_of_type 56) { body = n }) body
other_flat flat octets ComplexOutputs code whole body =
    whole
    ∙ ap command_by_type (ap (λ n. record flat { code = n }) code)
    ∙ ap (λ n. record (command_of_type 57) { body = n }) body
other_flat flat octets ControllerId code whole body =
    whole
    ∙ ap command_by_type (ap (λ n. record flat { code = n }) code)
    ∙ ap (λ n. record (command_of_type 59) { body = n }) body

-- it is that command
pub other_given : (flat : FlatCommand) (list : List ConfigurationItem) (octets : List ℕ) (kind : OtherCommand)
    → other_command_of flat.code ≡ Some kind → flat ≡ command_by_type flat
    → flat.count ≡ length list → flat.body ≡ length octets → length octets ≤ BODY_OCTETS
    → IsCommandGiven flat list octets (commands.Other kind (record { items = octets }))
other_given flat list octets kind is whole count body short =
    let same = other_flat flat octets kind (code_of_other flat.code kind is) whole body in
    let none : length list ≡ 0 = omega (arith, count, ap (λ (f : FlatCommand). f.count) same) in
    let no = nil_from_length list none in
    record { flat = same; items = ap read_items no; named = ap are_items no; body = refl; short = short }

-- The struct of a command without items and body is its flat form.
abbrev IsFixed : FlatCommand → Command → Type 0
IsFixed flat command =
    (flat ≡ flat_command command) × (command_items command ≡ []) × (command_body command ≡ [])

-- the struct of the command that is found by its fields
taken : (flat : FlatCommand) (found command : Command) → Some found ≡ Some command → IsFixed flat found → IsFixed flat command
taken flat found command is fixed = subst (IsFixed flat) (same_Some found command is) fixed

-- with this code the struct is that of the command that is found by its fields
abbrev FixedAt : FlatCommand → Command → ℕ → Type 0
FixedAt flat command code =
    fixed_command (record flat { code = code }) ≡ Some command
    → record flat { code = code } ≡ command_by_type (record flat { code = code })
    → IsFixed (record flat { code = code }) command

-- no other type has a command without items and body
unknown : (flat : FlatCommand) (code : ℕ) → IsNoneFrom code 49 12 → fixed_command (record flat { code = code }) ≡ None
unknown flat code none =
    simp (none.0, none.1.0, none.1.1.1.0, none.1.1.1.1.0, none.1.1.1.1.1.0, none.1.1.1.1.1.1.0, none.1.1.1.1.1.1.1.1.1.0, none.1.1.1.1.1.1.1.1.1.1.1.0) refl

fixed_flat : (flat : FlatCommand) (command : Command) → fixed_command flat ≡ Some command
    → flat ≡ command_by_type flat → IsFixed flat command
fixed_flat flat command =
    at_codes (FixedAt flat command) 49 12 flat.code
    ((λ is whole. taken (record flat { code = 49 }) (commands.Status flat.clear) command is (whole, refl, refl))
    ⊳ (λ is whole. taken (record flat { code = 50 }) (commands.LoadCounter flat.load) command is (whole, refl, refl))
    ⊳ (λ is whole. absurd (cc is))
    ⊳ (λ is whole. taken (record flat { code = 52 }) commands.RawInputs command is (whole, refl, refl))
    ⊳ (λ is whole. taken (record flat { code = 53 }) commands.FilteredInputs command is (whole, refl, refl))
    ⊳ (λ is whole. taken (record flat { code = 54 }) (commands.Poll flat.block) command is (whole, refl, refl))
    ⊳ (λ is whole. taken (record flat { code = 55 }) (commands.SetOutputs flat.levels flat.controls) command is (whole, refl, refl))
    ⊳ (λ is whole. absurd (cc is))
    ⊳ (λ is whole. absurd (cc is))
    ⊳ (λ is whole. taken (record flat { code = 58 }) (commands.Watchdog flat.timeout) command is (whole, refl, refl))
    ⊳ (λ is whole. absurd (cc is))
    ⊳ (λ is whole. taken (record flat { code = 60 }) commands.Identify command is (whole, refl, refl))
    ⊳ tt)
    (λ none is whole. absurd (cc (sym (unknown flat flat.code none) ∙ is)))

-- a struct without a command is that of none
pub no_fixed : (flat : FlatCommand) (list : List ConfigurationItem) (octets : List ℕ) (found : Option Command)
    → fixed_command flat ≡ found → flat ≡ command_by_type flat
    → flat.count ≡ length list → flat.body ≡ length octets
    → ((command : Command) → IsCommandGiven flat list octets command → ⊥) → found ≡ None
no_fixed flat list octets None is whole count body refused = refl
no_fixed flat list octets (Some command) is whole count body refused =
    let fixed = fixed_flat flat command is whole in
    let list_none = nil_from_length list (omega (arith, count, ap (λ (f : FlatCommand). f.count) fixed.0, counted command, ap length fixed.1)) in
    let none : length octets ≡ 0 = omega (arith, body, ap (λ (f : FlatCommand). f.body) fixed.0, long command, ap length fixed.2) in
    let octets_none = nil_from_length octets none in
    absurd (refused command (record {
      flat = fixed.0;
      items = ap read_items list_none ∙ sym fixed.1;
      named = ap are_items list_none;
      body = octets_none ∙ sym fixed.2;
      short = omega (arith, none);
    }))
