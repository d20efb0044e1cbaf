-- Pieces that rise stay so as the module lives on.
use Rattle.fio_module.proofs.Names.{◌≡◌, ℕ, ◌+◌, ◌-◌, ◌≤◌, List, [], ◌∷◌, ◌++◌, length, refl, ap, sym, ◌∙◌, arith, length-append, append-nil, append_assoc, bit_of, Received, Restart, life_of, log_of, whole_log, Transition, transitions_below}
use Rattle.fio_module.specs.Life.{Event, History, Scan}
use Rattle.fio_module.proofs.LifeLaws.{log_of-with_command}
use Rattle.fio_message.specs.Decoding.{command_in}
use Rattle.fio_ends.specs.StretchLogs.{IsPieceOfLife, PiecesRise, Stretch}
use Rattle.fio_ends.proofs.PartsOfLogs.{part_of}

-- the list of all transitions before the present life
abbrev pub front_of : History → List Transition
front_of [] = []
front_of (Restart ∷ history) = whole_log history
front_of (event ∷ history) = front_of history

-- the list of the present life ends that of all lives
pub whole_is : (history : History) → whole_log history ≡ front_of history ++ log_of (life_of history)
whole_is [] = refl
whole_is (Scan raw ∷ history) =
    let scanned = transitions_below 64 raw (life_of history) in
    ap (λ (log : List Transition). log ++ scanned) (whole_is history) ∙ append_assoc (front_of history) (log_of (life_of history)) scanned
whole_is (Received octets ∷ history) =
    whole_is history ∙ ap (λ (log : List Transition). front_of history ++ log) (sym (log_of-with_command (command_in octets) (life_of history)))
whole_is (Restart ∷ history) = sym (append-nil (whole_log history))
whole_is (event ∷ history) = whole_is history

pub whole_length : (history : History) → length (whole_log history) ≡ length (front_of history) + length (log_of (life_of history))
whole_length history = ap length (whole_is history) ∙ length-append (front_of history) (log_of (life_of history))

-- a piece stays one
piece_longer : (history : History) (event : Event) (stretch : Stretch) (start end : ℕ) → IsPieceOfLife history stretch start end
    → IsPieceOfLife (event ∷ history) stretch start end
piece_longer history event stretch start end piece = record {
  later = event ∷ piece.later;
  earlier = piece.earlier;
  at = ap (λ (h : History). event ∷ h) piece.at;
  begins = piece.begins;
  in_order = piece.in_order;
  within = piece.within;
  entries = piece.entries;
}

-- and so do pieces
pub rise_longer : (history : History) (event : Event) (place : ℕ) (stretches : List Stretch) → PiecesRise history place stretches
    → PiecesRise (event ∷ history) place stretches
rise_longer history event place [] rise = tt
rise_longer history event place (stretch ∷ stretches) rise = (
  rise.0,
  rise.1,
  rise.2,
  rise.3,
  piece_longer history event stretch rise.0 rise.1 rise.4,
  rise_longer history event (rise.0 - bit_of stretch.is_lost) stretches rise.5,
)

-- up to a later place they are pieces too
pub rise_higher : (history : History) (place higher : ℕ) (stretches : List Stretch) → place ≤ higher → PiecesRise history place stretches
    → PiecesRise history higher stretches
rise_higher history place higher [] le rise = tt
rise_higher history place higher (stretch ∷ stretches) le rise = (rise.0, rise.1, omega (arith, rise.2), rise.3, rise.4, rise.5)

-- a piece of the present life
pub piece_now : (history : History) (stretch : Stretch) (start end : ℕ) → length (front_of history) ≤ start → start ≤ end
    → end ≤ length (whole_log history) → stretch.entries ≡ part_of (whole_log history) start end → IsPieceOfLife history stretch start end
piece_now history stretch start end begins order within entries = record {
  later = [];
  earlier = history;
  at = refl;
  begins = omega (arith, whole_length history);
  in_order = order;
  within = within;
  entries = entries;
}
