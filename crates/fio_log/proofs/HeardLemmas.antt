-- What is heard of a line, and what its verdict says of that.
use Rattle.std.proofs.Common.{◌≡◌, ℕ, ◌∙◌, Bool, true, false, List, [], ◌∷◌, Some, slice_get, sym, ap, subst, refl, arith, inl, inr, MatchBool, ◌||◌}
use Rattle.fio_form.specs.Messages.{is_message}
use Rattle.fio_form.specs.declared.form.LineForm.{LineForm}
use Rattle.fio_rows.proofs.LineLaws.{read_right}
use Rattle.fio_rows.specs.Laws.{SaysMessages}
use Rattle.fio_rows.specs.Lines.{is_message_open, is_message_whole, read_in}
use Rattle.fio_rows.specs.Rows.{Rows, state_of}
use Rattle.fio_rows.specs.declared.rows.Reading.{Reading}
use Rattle.fio_rows.specs.declared.said.LineSaid.{LineSaid}
use Rattle.fio_rows.specs.declared.said.Said.{Said}
use Rattle.fio_rows.specs.declared.said.Said.TheVariants as said
use Rattle.fio_rows.specs.declared.saying.Open.{Open}
use Rattle.fio_rows.specs.declared.saying.Open.TheVariants as opens
use Rattle.fio_log.specs.Heard.{Above, HasNothingBeside, HasRowRoom, IsReadOf, KeepsFirst, Known, LeavesOpen, Tells, TellsEcho, TellsFrame, TellsMessage, TellsOnly, TellsPart, TellsSaid, is_lost, is_of_echoes, known_of, lacks_octets, rows_going_on, says_octets}
use Rattle.fio_log.specs.OwnTexts.{spells}
use Rattle.fio_log.specs.declared.heading.LineAbove.{LineAbove}
use Rattle.fio_log.specs.declared.by_forms.FormReader.{FormReader}
use Rattle.fio_log.specs.declared.by_forms.LineHeard.{LineHeard}
use Rattle.fio_log.specs.declared.verdict.Kind.{Kind}
use Rattle.fio_log.specs.declared.verdict.Kind.TheVariants as kinds
use Rattle.fio_log.specs.declared.verdict.Reason.{Reason}
use Rattle.fio_log.specs.declared.verdict.Reason.TheVariants as reasons

-- what is read of a line by forms
pub messages_read : (forms : List LineForm) (line tail : List ℕ) (state after : Rows) → after ≡ read_in forms line tail state → SaysMessages after
messages_read forms line tail state after is = rw is (read_right forms line tail state)

pub closed_open : (pending : Open) → is_message_open pending ≡ false → is_message_whole pending ≡ false
closed_open opens.Nothing closed = refl
closed_open _ closed = absurd (cc)

-- what is read of a line, by equal forms
pub read_by : (forms other : List LineForm) (line : List ℕ) (above : Rows) (heard : LineSaid) (after : Reading) → forms ≡ other
    → IsReadOf forms line above heard after → IsReadOf other line above heard after
read_by forms other line above heard after same is = rw same at is

-- what is passed over
pub messages_skipped : (after : Rows) → after.said ≡ said.Damaged → is_message_open after.pending ≡ false → SaysMessages after
messages_skipped after is closed = record {
  said = λ says. let no : false ≡ true = rw is at says in absurd (cc);
  open_message = λ whole. let no : false ≡ true = sym (closed_open after.pending closed) ∙ whole in absurd (cc);
}

both_false : (a b : Bool) → a ≡ false → b ≡ false → (a || b) ≡ false
both_false true b first second = absurd (cc)
both_false false b first second = second

by_false : (P Q : Type 0) (b : Bool) → b ≡ false → Q → MatchBool b P Q
by_false P Q true is q = absurd (cc)
by_false P Q false is q = q

by_true : (P Q : Type 0) (b : Bool) → b ≡ true → P → MatchBool b P Q
by_true P Q true is p = p
by_true P Q false is p = absurd (cc)

either : (a b : Bool) → b ≡ true → (a || b) ≡ true
either true b is = refl
either false b is = is

-- a line that is too long
pub tells_long : (known : Known) (line : List ℕ) (heard : LineHeard) (reason : Reason) (frames : List (List ℕ)) → heard.is_long ≡ true
    → Tells known line heard kinds.Damaged reason frames
tells_long known line heard reason frames long =
    let lost : is_lost known.forms line heard ≡ true = rw long refl in
    by_true _ _ (is_lost known.forms line heard) lost refl

-- a line that lacks octets
pub tells_gone : (known : Known) (line : List ℕ) (heard : LineHeard) (reason : Reason) (frames : List (List ℕ))
    → lacks_octets known.forms line heard ≡ true → Tells known line heard kinds.Damaged reason frames
tells_gone known line heard reason frames gone =
    by_true _ _ (is_lost known.forms line heard) (either heard.is_long (lacks_octets known.forms line heard) gone) refl

-- a line whose octets count
pub tells_kept : (known : Known) (line : List ℕ) (heard : LineHeard) (kind : Kind) (reason : Reason) (frames : List (List ℕ)) → heard.is_long ≡ false
    → lacks_octets known.forms line heard ≡ false → TellsSaid heard.said.said known line heard kind reason frames
    → Tells known line heard kind reason frames
tells_kept known line heard kind reason frames short kept tells =
    by_false _ _ (is_lost known.forms line heard) (both_false heard.is_long (lacks_octets known.forms line heard) short kept) tells

-- what a line says
pub tells_as : (known : Known) (line : List ℕ) (heard : LineHeard) (kind : Kind) (reason : Reason) (frames : List (List ℕ)) (says what : Said) → says ≡ what
    → TellsSaid what known line heard kind reason frames → TellsSaid says known line heard kind reason frames
tells_as known line heard kind reason frames says what is tells = rw is tells

-- another reason, if a message above is broken
said_because : (says : Said) (known : Known) (line : List ℕ) (heard : LineHeard) (kind : Kind) (reason other : Reason) (frames : List (List ℕ))
    → (heard.said.is_broken ≡ false → other ≡ reason) → TellsSaid says known line heard kind reason frames
    → TellsSaid says known line heard kind other frames
said_because said.Frame known line heard kind reason other frames same tells =
    frame_because (is_of_echoes (slice_get known.forms heard.said.form)) known line heard kind reason other frames same tells
  where
    frame_because : (echo : Bool) (known : Known) (line : List ℕ) (heard : LineHeard) (kind : Kind) (reason other : Reason) (frames : List (List ℕ))
        → (heard.said.is_broken ≡ false → other ≡ reason)
        → MatchBool echo (TellsEcho known.message known.last kind) (TellsMessage known.forms known.message line known.rows heard kind reason frames)
        → MatchBool echo (TellsEcho known.message known.last kind) (TellsMessage known.forms known.message line known.rows heard kind other frames)
    frame_because true known line heard kind reason other frames same tells = tells
    frame_because false known line heard kind reason other frames same tells = record {
      given = tells.given;
      first = tells.first;
      only = λ is whole. record {
        only = (tells.only is whole).only;
        none = λ unbroken. same unbroken ∙ (tells.only is whole).none unbroken;
      };
      full = tells.full;
    }
said_because said.Part known line heard kind reason other frames same tells = tells
said_because said.Stream known line heard kind reason other frames same tells = tells
said_because said.Idle known line heard kind reason other frames same tells = tells
said_because said.Stray known line heard kind reason other frames same tells = tells
said_because said.Damaged known line heard kind reason other frames same tells = tells
said_because said.Other known line heard kind reason other frames same tells = tells

pub tells_because : (known : Known) (line : List ℕ) (heard : LineHeard) (kind : Kind) (reason other : Reason) (frames : List (List ℕ))
    → (heard.said.is_broken ≡ false → other ≡ reason) → Tells known line heard kind reason frames → Tells known line heard kind other frames
tells_because known line heard kind reason other frames same tells = by_lost (is_lost known.forms line heard) tells
  where
    by_lost : (lost : Bool) → MatchBool lost (kind ≡ kinds.Damaged) (TellsSaid heard.said.said known line heard kind reason frames)
        → MatchBool lost (kind ≡ kinds.Damaged) (TellsSaid heard.said.said known line heard kind other frames)
    by_lost true damaged = damaged
    by_lost false said = said_because heard.said.said known line heard kind reason other frames same said

-- a reader that knows another line above
pub tells_below : (before after : FormReader) (above : LineAbove) (line : List ℕ) (heard : LineHeard) (kind : Kind)
    (reason : Reason) (frames : List (List ℕ)) → after ≡ record before { above = above } → Tells (known_of after) line heard kind reason frames
    → Tells (known_of before) line heard kind reason frames
tells_below before after above line heard kind reason frames same tells =
    let known : known_of after ≡ known_of before = ap known_of same in
    subst (λ (k : Known). Tells k line heard kind reason frames) known tells

-- a line below which no message is open
pub left_closed : (rows : ℕ) (heard : LineHeard) (after : Reading) (below : Above) → is_message_open below.state.pending ≡ false
    → LeavesOpen rows heard kinds.Damaged after below
left_closed rows heard after below closed = record {
  open_message = λ is. let no : false ≡ true = sym closed ∙ is in absurd (cc);
  part = λ part. inl (refl, closed);
}

-- a part, which is open below its line
pub left_part : (rows : ℕ) (heard : LineHeard) (kind : Kind) (after : Reading) (below : Above)
    → below ≡ record { state = state_of after; rows = rows_going_on heard.goes_on rows } → LeavesOpen rows heard kind after below
left_part rows heard kind after below same = record { open_message = λ is. ap (λ (a : Above). a.state) same; part = λ part. inr same }

-- a line that is no part, below which what was heard of it is open
pub left_same : (rows : ℕ) (heard : LineHeard) (kind : Kind) (after : Reading) (below : Above) (what : Said) → heard.said.said ≡ what
    → (what ≡ said.Part → ⊥) → (is_message_open below.state.pending ≡ true → below.state ≡ state_of after) → LeavesOpen rows heard kind after below
left_same rows heard kind after below what is other same = record { open_message = same; part = λ part. absurd (other (sym is ∙ part)) }

-- an echo
pub tells_echo : (known : Known) (line : List ℕ) (heard : LineHeard) (kind : Kind) (reason : Reason) (frames : List (List ℕ))
    → is_of_echoes (slice_get known.forms heard.said.form) ≡ true → TellsEcho known.message known.last kind
    → TellsFrame known line heard kind reason frames
tells_echo known line heard kind reason frames echo tells = by_true _ _ _ echo tells

-- no echo
pub tells_own : (known : Known) (line : List ℕ) (heard : LineHeard) (kind : Kind) (reason : Reason) (frames : List (List ℕ))
    → is_of_echoes (slice_get known.forms heard.said.form) ≡ false → TellsMessage known.forms known.message line known.rows heard kind reason frames
    → TellsFrame known line heard kind reason frames
tells_own known line heard kind reason frames own tells = by_false _ _ _ own tells

-- a message without room for its row
pub tells_no_room : (forms : List LineForm) (message line : List ℕ) (rows : ℕ) (heard : LineHeard) (reason : Reason) (frames : List (List ℕ)) (is_kept : Bool) → is_kept ≡ false
    → (HasRowRoom rows heard → is_kept ≡ true) → TellsMessage forms message line rows heard kinds.Damaged reason frames
tells_no_room forms message line rows heard reason frames is_kept failed room = record {
  given = λ is has. let wrong : false ≡ true = sym failed ∙ room has in absurd (cc);
  first = λ is. absurd (cc);
  only = λ is. absurd (cc);
  full = λ many. refl;
}

-- a message that is none
pub tells_none : (forms : List LineForm) (message line : List ℕ) (rows : ℕ) (heard : LineHeard) (reason : Reason) (frames : List (List ℕ)) (octets : List ℕ) (is_taken : Bool)
    → octets ≡ message → is_taken ≡ false → (spells octets ≡ true → is_taken ≡ true) → TellsMessage forms message line rows heard kinds.Damaged reason frames
tells_none forms message line rows heard reason frames octets is_taken same failed room = record {
  given = λ is has.
      let spelled : spells octets ≡ true = ap spells same ∙ is in
      let wrong : false ≡ true = sym failed ∙ room spelled in
      absurd (cc);
  first = λ is. absurd (cc);
  only = λ is. absurd (cc);
  full = λ many. refl;
}

-- a message that is reported
pub tells_message : (forms : List LineForm) (message line : List ℕ) (rows : ℕ) (heard : LineHeard) (reason : Reason) (before frames : List (List ℕ)) (octets : List ℕ)
    → octets ≡ message → HasRowRoom rows heard → before ≡ octets ∷ [] → KeepsFirst before frames
    → (HasNothingBeside forms heard.said.found line → (frames ≡ before) × (reason ≡ reasons.None))
    → TellsMessage forms message line rows heard kinds.Frames reason frames
tells_message forms message line rows heard reason before frames octets same room taken keeps alone = record {
  given = λ is has. refl;
  first = λ is.
      let there : slice_get before 0 ≡ Some octets = ap (λ told. slice_get told 0) taken in
      keeps octets there ∙ ap Some same;
  only = λ is whole. record {
    only = (alone whole).0 ∙ taken ∙ ap (λ (one : List ℕ). one ∷ []) same;
    none = λ unbroken. (alone whole).1;
  };
  full = λ many. absurd (omega (arith, room many.0, many.1));
}

-- a part
pub tells_part : (rows : ℕ) (heard : LineHeard) → HasRowRoom rows heard → TellsPart rows heard kinds.Part
tells_part rows heard room = record { part = λ has. refl; full = λ many. absurd (omega (arith, room many.0, many.1)) }

-- a part without room for its row
pub tells_no_part : (rows : ℕ) (heard : LineHeard) (is_kept : Bool) → is_kept ≡ false → (HasRowRoom rows heard → is_kept ≡ true)
    → TellsPart rows heard kinds.Damaged
tells_no_part rows heard is_kept failed room = record {
  part = λ has. let wrong : false ≡ true = sym failed ∙ room has in absurd (cc);
  full = λ many. refl;
}

-- a message that ended and is reported
pub tells_only : (message : List ℕ) (frames : List (List ℕ)) (octets : List ℕ) (is_told : Bool) → octets ≡ message → is_told ≡ true
    → (is_told ≡ true → frames ≡ octets ∷ []) → TellsOnly message kinds.Frames frames
tells_only message frames octets is_told same is taken = record {
  given = refl;
  only = taken is ∙ ap (λ (one : List ℕ). one ∷ []) same;
}

-- a message that ended and is none
pub tells_no_other : (message : List ℕ) (kind : Kind) (frames : List (List ℕ)) (octets : List ℕ) (is_told : Bool) → octets ≡ message
    → is_told ≡ false → (spells octets ≡ true → is_told ≡ true) → is_message message ≡ true → TellsOnly message kind frames
tells_no_other message kind frames octets is_told same failed room is =
    let spelled : spells octets ≡ true = ap spells same ∙ is in
    let wrong : false ≡ true = sym failed ∙ room spelled in
    absurd (cc)

-- a message that ended, by an equal one
pub same_only : (one other : List ℕ) (kind : Kind) (frames : List (List ℕ)) → one ≡ other
    → (is_message one ≡ true → TellsOnly one kind frames) → is_message other ≡ true → TellsOnly other kind frames
same_only one other kind frames same tells is = rw same at (tells (ap is_message same ∙ is))

-- a line that says octets is one of a form
pub octets_not_other : (says : Said) → says_octets says ≡ true → says ≡ said.Other → ⊥
octets_not_other says octets is = let wrong : false ≡ true = rw is at octets in absurd (cc)

pub octets_not_damaged : (says : Said) → says_octets says ≡ true → says ≡ said.Damaged → ⊥
octets_not_damaged says octets is = let wrong : false ≡ true = rw is at octets in absurd (cc)
