-- How often the CPU may poll over a line that takes its time.
use Rattle.std.specs.Prelude.{ℕ, ◌+◌, ◌-◌, ◌*◌, ◌/◌, ◌<◌, ◌≤◌, nat_lt, min, if◌then◌else◌}
use Rattle.fio_wire.specs.Lengths.{most_bits}
use Rattle.fio_module.specs.Settings.{Settings}
use Rattle.fio_link.specs.declared.line.TimedLine.{TimedLine}
use Rattle.fio_link.specs.declared.line.Traffic.{Traffic}

-- with these settings, and at most `opened` open inputs, whose filters are at least this
abbrev pub traffic_of : Settings → ℕ → ℕ → Traffic
traffic_of settings opened filter =
    record { opened = opened; filter = filter; per_block = settings.per_block; waiting = settings.waiting }

-- how many scans come at most while this number of bits is on a line of this rate
abbrev pub scans_on_line : ℕ → ℕ → ℕ
scans_on_line rate bits = (1000 * bits + (rate - 1)) / rate

-- how many scans come at most until the module has a poll: its 2 octets and the other traffic are on the line
abbrev pub poll_scans : TimedLine → ℕ
poll_scans line = scans_on_line line.rate (most_bits line.kind 2 + line.other)

-- how many scans come at most until the CPU has the answer, if this is of so many octets
abbrev pub answer_scans : TimedLine → ℕ → ℕ
answer_scans line octets =
    line.answer + scans_on_line line.rate (most_bits line.kind 2 + most_bits line.kind octets + line.other)

-- how many scans come at most between two polls in a row, if the CPU polls every `pace` scans by its own clock: this may be slow, and
-- the second poll late
abbrev pub most_apart : TimedLine → ℕ → ℕ
most_apart line pace = (pace * (1000000 + line.drift) + 999999) / 1000000 + line.jitter

-- and how many at least: its clock may be fast, and the first poll late
abbrev pub least_apart : TimedLine → ℕ → ℕ
least_apart line pace = pace * (1000000 - line.drift) / 1000000 - line.jitter

-- how many scans come at most from one clean round's poll to that of the next
abbrev pub clean_pace : TimedLine → ℕ → ℕ
clean_pace line pace = (line.lost + 1) * most_apart line pace

-- how many scans the blocks are behind at most when the module receives a clean round's poll
abbrev pub most_behind : TimedLine → ℕ → ℕ
most_behind line pace = line.lost * most_apart line pace + clean_pace line pace + poll_scans line

-- the most changes that the open inputs can report in so many scans
abbrev pub most_changes : Traffic → ℕ → ℕ
most_changes traffic scans = traffic.opened * (1 + (scans - 1) / traffic.filter)

-- the most entries of an answer
abbrev pub most_entries : TimedLine → Traffic → ℕ → ℕ
most_entries line traffic pace = min traffic.per_block (most_changes traffic (most_behind line pace))

-- how many scans a round takes at most: a block of c entries has 8 + 3 c octets
abbrev pub round_scans : TimedLine → Traffic → ℕ → ℕ
round_scans line traffic pace = answer_scans line (8 + 3 * most_entries line traffic pace)

-- A pace of a line: if the CPU polls every `pace` scans by its own clock, each round ends before the next one, the blocks make up
-- for all scans, and the buffer has room for what comes between two blocks.
pub record IsPace (line : TimedLine) (traffic : Traffic) (pace : ℕ) : Type 0 where
  pub some_rate : 1 ≤ line.rate
  pub ends : round_scans line traffic pace ≤ least_apart line pace
  pub enough : traffic.opened * clean_pace line pace ≤ traffic.per_block * traffic.filter
  pub room : traffic.opened * (most_behind line pace + (traffic.filter - 1)) ≤ traffic.waiting * traffic.filter

-- no pace is below this number
abbrev pub HasNoPaceBelow : TimedLine → Traffic → ℕ → Type 0
HasNoPaceBelow line traffic most = (pace : ℕ) → pace < most → IsPace line traffic pace → ⊥

-- how many scans a change that waits for the block after the next can be older: none, if a block takes all that the scans
-- from one clean round to the next can bring
abbrev pub held_over : TimedLine → Traffic → ℕ → ℕ
held_over line traffic pace =
    if nat_lt traffic.per_block (most_changes traffic (clean_pace line pace)) then traffic.filter - 1 else 0

-- how many scans a transition is late at most, until it is in the record
abbrev pub most_late : TimedLine → Traffic → ℕ → ℕ
most_late line traffic pace =
    line.lost * most_apart line pace + clean_pace line pace + round_scans line traffic pace + held_over line traffic pace - 1

-- how much of the line's time a round's bits take at most, in thousandths, rounded up
abbrev pub most_load : TimedLine → Traffic → ℕ → ℕ
most_load line traffic pace =
    let octets = 8 + 3 * most_entries line traffic pace in
    let bits = most_bits line.kind 2 + most_bits line.kind octets + line.other in
    let time = line.rate * least_apart line pace in
    (1000 * (1000 * bits) + (time - 1)) / time
