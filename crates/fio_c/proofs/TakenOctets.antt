-- Octets that a reader takes one piece after another.
use Rattle.std.proofs.Common.{◌≡◌, ℕ, ◌+◌, Bool, true, false, if◌then◌else◌, List, [], ◌∷◌, ◌++◌, length, refl, sym, ap, ◌∙◌, append_assoc, append-nil, add-zero, add_assoc}
use Rattle.std.proofs.lemmas.List.{length-append}
use Rattle.std.proofs.lemmas.List.Sums.{fold-append}
use Rattle.fio_log.specs.Lines.{Lines, Text, is_whole, lines_after, only, with_octet_made, with_octet_of}
use Rattle.fio_log.specs.Telling.{HasTaken, Telling, read_after}
use Rattle.fio_c.specs.Logs.{HasTakenOctets}

-- these lines before others
abbrev before : List Text → Lines → Lines
before whole lines = record { whole = whole ++ lines.whole; making = lines.making }

whole_before : (whole more : List Text) (text : Text) (is_whole : Bool)
    → (if is_whole then (whole ++ more) ++ text ∷ [] else whole ++ more) ≡ whole ++ (if is_whole then more ++ text ∷ [] else more)
whole_before whole more text true = append_assoc whole more (text ∷ [])
whole_before whole more text false = refl

-- lines that are whole stay before what octets make
pub lines_after-before : (whole : List Text) (lines : Lines) (octets : List ℕ) → lines_after (before whole lines) octets ≡ before whole (lines_after lines octets)
lines_after-before whole lines [] = refl
lines_after-before whole lines (octet ∷ octets) =
    let making = with_octet_made lines.making octet in
    ap (λ all. lines_after (record { whole = all; making = making }) octets) (whole_before whole lines.whole making.text (is_whole making.ending))
    ∙ lines_after-before whole (with_octet_of lines octet) octets

-- no octets
abbrev pub none_taken : (reader : Telling) → HasTakenOctets reader [] reader
none_taken reader = record { whole = []; lines = refl; read = sym (add-zero reader.read); is_ended = refl }

pub counted : (read : ℕ) (text : Text) (is_whole : Bool) (whole : List Text)
    → (if is_whole then read + length whole + 1 else read + length whole) ≡ read + length (whole ++ (if is_whole then text ∷ [] else []))
counted read text true whole = sym (ap (λ n. read + n) (length-append whole (text ∷ [])) ∙ sym (add_assoc read (length whole) 1))
counted read text false whole = ap (λ all. read + length all) (sym (append-nil whole))

-- a piece more
abbrev pub piece_taken : (first between last : Telling) (octets piece : List ℕ) → HasTakenOctets first octets between → HasTaken between piece last
    → HasTakenOctets first (octets ++ piece) last
piece_taken first between last octets piece taken more = record {
  whole = taken.whole ++ (if is_whole last.making.ending then last.making.text ∷ [] else []);
  lines = fold-append with_octet_of (only first.making) octets piece
      ∙ ap (λ lines. lines_after lines piece) (taken.lines ∙ ap (λ whole. record { whole = whole; making = between.making }) (sym (append-nil taken.whole)))
      ∙ lines_after-before taken.whole (only between.making) piece
      ∙ ap (before taken.whole) more.lines;
  read = more.read ∙ ap (λ read. read_after read last.making) taken.read ∙ counted first.read last.making.text (is_whole last.making.ending) taken.whole;
  is_ended = more.is_ended ∙ taken.is_ended;
}

-- a reader that differs in nothing that counts here
abbrev pub same_taken : (first between last : Telling) (octets : List ℕ) → last.making ≡ between.making → last.read ≡ between.read
    → last.is_ended ≡ between.is_ended → HasTakenOctets first octets between → HasTakenOctets first octets last
same_taken first between last octets making read is_ended taken = record {
  whole = taken.whole;
  lines = taken.lines ∙ ap (λ one. record { whole = taken.whole; making = one }) (sym making);
  read = read ∙ taken.read;
  is_ended = is_ended ∙ taken.is_ended;
}

-- the same octets in another form
abbrev pub taken_as : (first last : Telling) (octets others : List ℕ) → others ≡ octets → HasTakenOctets first octets last → HasTakenOctets first others last
taken_as first last octets others same taken = record {
  whole = taken.whole;
  lines = ap (lines_after (only first.making)) same ∙ taken.lines;
  read = taken.read;
  is_ended = taken.is_ended;
}
