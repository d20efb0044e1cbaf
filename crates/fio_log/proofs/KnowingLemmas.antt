-- What is known of a log, from one line to the next.
use Rattle.std.proofs.Common.{◌≡◌, ◌≤◌, ◌<◌, ◌+◌, ◌∙◌, ℕ, Bool, true, false, List, [], ◌∷◌, ◌++◌, Some, length, get_or, sym, ap, arith, inl, inr, length-append}
use Rattle.std.proofs.lemmas.Bool.Decides.{leb_tells}
use Rattle.std.proofs.lemmas.List.{get_or_append_left, get_or_at}
use Rattle.fio_log.specs.Blanks.{Texts, is_blank_line}
use Rattle.fio_log.specs.Knowing.{AreLinesFrom, HasAllOf, HasWindowOf, KnowsLines, SaysOf}
use Rattle.fio_log.specs.Lines.{Text}
use Rattle.fio_log.specs.Waiting.{KnowsAsBefore}
use Rattle.fio_log.specs.Wordings.{SaysWords}
use Rattle.fio_log.specs.declared.teller.Teller.{Teller}
use Rattle.fio_log.specs.declared.verdict.Kind.TheVariants.{Blank}
use Rattle.fio_log.specs.declared.verdict.LineVerdict.{LineVerdict}

-- a line that is not long
abbrev pub short : List ℕ → Text
short line = record { octets = line; is_long = false }

pub same_window : (texts : Texts) (before after : Teller) → KnowsAsBefore before after → HasWindowOf texts before → HasWindowOf texts after
same_window texts before after same window = λ some.
    let lines = same.lines some in
    let before_some : 0 < before.first = rw lines.first at some in
    rw (lines.first, lines.lines, lines.window) (window before_some)

none_first : (before after : Teller) → KnowsAsBefore before after → before.first ≡ 0 → after.first ≡ 0
none_first before after same none = elim (leb_tells 1 after.first) [
  | inl some ↦
      let first : after.first ≡ before.first = (same.lines (omega (arith, some.1))).first in
      omega (arith, first, none)
  | inr more ↦ omega (arith, more.1)
]

same_filling : (texts : Texts) (before after : Teller) (read told : ℕ) → KnowsAsBefore before after
    → (before.is_known ≡ false → HasAllOf texts before read told) → after.is_known ≡ false → HasAllOf texts after read told
same_filling texts before after read told same filling unknown =
    let was : before.is_known ≡ false = sym same.known ∙ unknown in
    let all : HasAllOf texts before read told = filling was in
    let window : after.learning.window ≡ before.learning.window = same.window was in
    record { none = none_first before after same all.none; all = rw window all.all; lines = rw window all.lines }

-- a teller with the same window, and the same verdict that waits
pub same_lines : (texts : Texts) (before after : Teller) (read told : ℕ) → KnowsAsBefore before after
    → after.waiting ≡ before.waiting → KnowsLines texts before read told → KnowsLines texts after read told
same_lines texts before after read told same waits knows = record {
  window = same_window texts before after same knows.window;
  filling = same_filling texts before after read told same knows.filling;
  waiting = rw waits knows.waiting;
}

-- a teller that knows the forms, and lines below
pub known_lines : (texts : Texts) (teller : Teller) (read more told : ℕ) → teller.is_known ≡ true → KnowsLines texts teller read told
    → KnowsLines texts teller more told
known_lines texts teller read more told known knows = record {
  window = knows.window;
  filling = λ unknown. let no : false ≡ true = sym unknown ∙ known in absurd (cc);
  waiting = knows.waiting;
}

-- lines with the next one
pub pushed_lines : (texts : Texts) (first : ℕ) (lines : List (List ℕ)) (line : List ℕ) → AreLinesFrom texts first (length lines) lines
    → texts (first + length lines) ≡ short line → AreLinesFrom texts first (length (lines ++ line ∷ [])) (lines ++ line ∷ [])
pushed_lines texts first lines line are last = λ at within. elim (leb_tells (at + 1) (length lines)) [
  | inl below ↦
      let less : at < length lines = omega (arith, below.1) in
      let same : get_or (lines ++ line ∷ []) at [] ≡ get_or lines at [] = get_or_append_left lines (line ∷ []) [] at less in
      rw same (are at less)
  | inr above ↦
      let longer : length (lines ++ line ∷ []) ≡ length lines + 1 = length-append lines (line ∷ []) in
      let here : length lines ≡ at = omega (arith, above.1, within, longer) in
      let same : get_or (lines ++ line ∷ []) at [] ≡ line = get_or_at lines line [] [] at here in
      let there : texts (first + at) ≡ short line = rw here at last in
      rw same there
]

-- a line that is not long, by its octets
pub short_line : (text other : Text) (line : List ℕ) → text.is_long ≡ false → line ≡ text.octets → text ≡ other → other ≡ short line
short_line text other line long same is =
    let whole : text ≡ short text.octets = ap (λ b. record { octets = text.octets; is_long = b }) long in
    sym is ∙ whole ∙ ap short (sym same)

-- a teller whose window has each line, once it knows the forms
pub drained : (texts : Texts) (before after : Teller) (window : List (List ℕ)) (read told most : ℕ) → before.is_known ≡ false
    → window ≡ before.learning.window → read ≤ most
    → (told + length window ≤ most → AreLinesFrom texts (told + 1) (length window) window → HasWindowOf texts after)
    → after.is_known ≡ true → after.waiting ≡ before.waiting → KnowsLines texts before read told → KnowsLines texts after read told
drained texts before after window read told most unknown same within gives known waits knows =
    let all : HasAllOf texts before read told = knows.filling unknown in
    record {
      window = gives (rw same (omega (arith, all.all, within))) (rw same all.lines);
      filling = λ still. let no : false ≡ true = sym still ∙ known in absurd (cc);
      waiting = rw waits knows.waiting;
    }

-- a teller with a verdict that waits and says what is true
pub settled_lines : (texts : Texts) (before after : Teller) (verdict : LineVerdict) (read told : ℕ) → KnowsAsBefore before after
    → after.waiting ≡ Some verdict → SaysOf (texts (told + 1)) verdict → KnowsLines texts before read told
    → KnowsLines texts after read told
settled_lines texts before after verdict read told same waits says knows = record {
  window = same_window texts before after same knows.window;
  filling = same_filling texts before after read told same knows.filling;
  waiting = rw waits says;
}

-- what is said of the text of a line
pub says_of : (text : Text) (octets : List ℕ) (is_long : Bool) (verdict : LineVerdict) → text ≡ record { octets = octets; is_long = is_long }
    → SaysWords octets verdict.reason → (verdict.kind ≡ Blank → is_blank_line (record { octets = octets; is_long = is_long }) ≡ true)
    → SaysOf text verdict
says_of text octets is_long verdict is words blank = rw is (record { words = words; blank = blank })

-- a teller that differs from one in what is said of the next verdict
pub before_of : (before middle after : Teller) → KnowsAsBefore before middle → after.is_known ≡ middle.is_known
    → after.learning ≡ middle.learning → after.first ≡ middle.first → after.lines ≡ middle.lines → KnowsAsBefore before after
before_of before middle after same known learning first lines =
    let window : after.learning.window ≡ middle.learning.window = ap (λ l. l.window) learning in
    record {
      known = known ∙ same.known;
      window = λ unknown. window ∙ same.window unknown;
      lines = λ some.
          let there : 0 < middle.first = rw first at some in
          let kept = same.lines there in
          record { first = first ∙ kept.first; lines = lines ∙ kept.lines; window = window ∙ kept.window };
    }

-- a teller that has the same window
pub same_kept : (texts : Texts) (before after : Teller) (read told : ℕ) → after.is_known ≡ before.is_known
    → after.learning.window ≡ before.learning.window → after.first ≡ before.first → after.lines ≡ before.lines
    → after.waiting ≡ before.waiting → KnowsLines texts before read told → KnowsLines texts after read told
same_kept texts before after read told known window first lines waits knows =
    let same : KnowsAsBefore before after = record {
      known = known;
      window = λ unknown. window;
      lines = λ some. record { first = first; lines = lines; window = window };
    } in
    same_lines texts before after read told same waits knows

-- a teller whose window has each line and the next one, once it knows the forms
pub drained_line : (texts : Texts) (before after : Teller) (window : List (List ℕ)) (above read told most : ℕ) (line : List ℕ)
    → before.is_known ≡ false → read ≡ above + 1 → window ≡ before.learning.window ++ line ∷ [] → read ≤ most
    → texts read ≡ short line
    → (told + length window ≤ most → AreLinesFrom texts (told + 1) (length window) window → HasWindowOf texts after)
    → after.is_known ≡ true → after.waiting ≡ before.waiting → KnowsLines texts before above told → KnowsLines texts after read told
drained_line texts before after window above read told most line unknown next same within is gives known waits knows =
    let all : HasAllOf texts before above told = knows.filling unknown in
    let longer : length (before.learning.window ++ line ∷ []) ≡ length before.learning.window + 1 = length-append before.learning.window (line ∷ []) in
    let counted : told + length (before.learning.window ++ line ∷ []) ≤ most = omega (arith, longer, next, all.all, within) in
    let here : read ≡ told + 1 + length before.learning.window = omega (arith, next, all.all) in
    let last : texts (told + 1 + length before.learning.window) ≡ short line = rw here at is in
    record {
      window = gives (rw same counted) (rw same (pushed_lines texts (told + 1) before.learning.window line all.lines last));
      filling = λ still. let no : false ≡ true = sym still ∙ known in absurd (cc);
      waiting = rw waits knows.waiting;
    }
