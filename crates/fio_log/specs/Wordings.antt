-- What the words of a line say that gives no frame: that octets were lost, or that a log or a part of one begins.
use Rattle.std.specs.Prelude.{◌≡◌, ℕ, ◌==◌, ◌&&◌, ◌||◌, not, Bool, true, false, if◌then◌else◌, List, [], ◌∷◌, codes, drop}
use Rattle.std.specs.List.{list_any, prefix_len, slice_split}
use Rattle.std.specs.Char.{is_ascii_alphabetic}
use Rattle.std.specs.Str.{str_eq_ignore_ascii_case}
use Rattle.fio_log.specs.declared.verdict.Reason.{Reason}
use Rattle.fio_log.specs.declared.verdict.Reason.TheVariants as reasons

-- whether a character is not a letter of ASCII
abbrev pub is_no_letter : ℕ → Bool
is_no_letter character = not (is_ascii_alphabetic character)

-- the words of a line: the letters between other characters
abbrev pub words_of : List ℕ → List (List ℕ)
words_of line = slice_split is_no_letter line

-- whether a word is one of some others, in any case of letters
abbrev pub is_one_of : List (List ℕ) → List ℕ → Bool
is_one_of known word = list_any (λ one. str_eq_ignore_ascii_case one word) known

-- whether a line has one of some words
abbrev pub has_one_of : List (List ℕ) → List ℕ → Bool
has_one_of known line = list_any (is_one_of known) (words_of line)

-- the words of loss
abbrev pub loss_words : List (List ℕ)
loss_words =
    codes "missed" ∷ codes "missing" ∷ codes "lost" ∷ codes "loss" ∷ codes "drop" ∷ codes "dropped" ∷ codes "drops"
    ∷ codes "discarded" ∷ codes "suppressed" ∷ codes "overrun" ∷ codes "overruns" ∷ codes "overflow" ∷ codes "overflowed"
    ∷ codes "full" ∷ codes "truncated" ∷ []

-- whether a line speaks of loss
abbrev pub speaks_of_loss : List ℕ → Bool
speaks_of_loss line = has_one_of loss_words line

-- the words for what may begin: a log, or a part of one
abbrev pub log_words : List (List ℕ)
log_words =
    codes "log" ∷ codes "logs" ∷ codes "logfile" ∷ codes "logging" ∷ codes "logger" ∷ codes "capture" ∷ codes "capturing"
    ∷ codes "trace" ∷ codes "session" ∷ codes "recording" ∷ codes "file" ∷ codes "port" ∷ codes "script" ∷ codes "journal"
    ∷ codes "syslog" ∷ codes "syslogd" ∷ codes "rsyslogd" ∷ []

-- the words that say that it begins
abbrev pub start_words : List (List ℕ)
start_words =
    codes "started" ∷ codes "starting" ∷ codes "start" ∷ codes "begin" ∷ codes "begins" ∷ codes "beginning" ∷ codes "began"
    ∷ codes "begun" ∷ codes "opened" ∷ codes "open" ∷ codes "new" ∷ codes "rotated" ∷ codes "rotating" ∷ codes "resumed"
    ∷ codes "continued" ∷ codes "created" ∷ codes "reopened" ∷ codes "restarted" ∷ codes "restart" ∷ []

-- the words that name logs, or what writes them, and nothing else
abbrev pub capture_words : List (List ℕ)
capture_words =
    codes "logfile" ∷ codes "logging" ∷ codes "capture" ∷ codes "capturing" ∷ codes "snapshot" ∷ codes "terminal" ∷ []

-- the words that say that one of these begins
abbrev pub turn_words : List (List ℕ)
turn_words =
    codes "enabled" ∷ codes "enabling" ∷ codes "listening" ∷ codes "on" ∷ codes "ready" ∷ codes "turned" ∷ []

-- the words with which a program begins what it writes
abbrev pub welcome_words : List (List ℕ)
welcome_words = codes "welcome" ∷ []

-- whether a character is of a rule: one of `-=*#~_`
abbrev pub is_of_rule : ℕ → Bool
is_of_rule character =
    character == 45 || character == 61 || character == 42 || character == 35 || character == 126 || character == 95

-- whether a character is a blank or a tab
abbrev pub is_blank_or_tab : ℕ → Bool
is_blank_or_tab character = character == 32 || character == 9

-- whether a text begins with three characters of a rule, or with `==>`
abbrev pub begins_ruled : List ℕ → Bool
begins_ruled (first ∷ second ∷ third ∷ rest) =
    is_of_rule first && is_of_rule second && is_of_rule third || first == 61 && second == 61 && third == 62
begins_ruled other = false

-- Whether a line is the heading of a log, or of a part of one: after its blanks it begins with a rule; or it names a log and says
-- that it begins; or it welcomes to the program that writes it.
abbrev pub is_heading : List ℕ → Bool
is_heading line =
    begins_ruled (drop (prefix_len is_blank_or_tab line) line)
    || has_one_of log_words line && has_one_of start_words line
    || has_one_of capture_words line && has_one_of turn_words line || has_one_of welcome_words line

-- what a reason says of the words of a line is true: that the line speaks of loss and is not a heading, or that it is one
abbrev pub SaysWords : List ℕ → Reason → Type 0
SaysWords line reasons.Loss = (is_heading line ≡ false) × (speaks_of_loss line ≡ true)
SaysWords line reasons.Heading = is_heading line ≡ true
SaysWords line other = Unit {0}

-- why a line with octets of no message gives no frame, by its words: it is a heading, or they say nothing of it
abbrev pub reason_beside_octets : List ℕ → Reason
reason_beside_octets line = if is_heading line then reasons.Heading else reasons.None

-- Why a line without octets gives no frame, by its words. A heading that speaks of loss is a heading.
abbrev pub reason_without_octets : List ℕ → Reason
reason_without_octets line =
    if is_heading line then reasons.Heading else (if speaks_of_loss line then reasons.Loss else reasons.NoOctets)
