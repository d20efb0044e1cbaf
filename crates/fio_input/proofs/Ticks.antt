-- The counter through ticks and line syncs.
use Rattle.fio_input.proofs.Names.{◌≡◌, ℕ, ◌+◌, ◌%◌, ◌^◌, ◌≤◌, List, [], ◌∷◌, ◌++◌, Option, Some, None, refl, ◌∙◌, arith, unwrap_or}
use Rattle.fio_input.specs.Counter.{CounterEvent, Tick, AskLoad, LineSync, asked_number, ticks_unless_loaded, counter, ticks_in, one_more_if_loaded, loads_in}

-- a line sync takes no load away
loads_grow : (asked : Option ℕ) (loads : ℕ) → loads ≤ one_more_if_loaded asked loads
loads_grow None loads = omega arith
loads_grow (Some number) loads = omega arith

-- later events take no load away
pub loads_in-append : (later history : List CounterEvent) → loads_in history ≤ loads_in (later ++ history)
loads_in-append [] history = omega arith
loads_in-append (Tick ∷ later) history = loads_in-append later history
loads_in-append (AskLoad number ∷ later) history = loads_in-append later history
loads_in-append (LineSync ∷ later) history =
    let before = loads_in-append later history in
    let here = loads_grow (asked_number (later ++ history)) (loads_in (later ++ history)) in
    omega arith

-- a line sync that loads nothing does not change the number of loads
same_loads : (asked : Option ℕ) (loads before : ℕ) → before ≤ loads → one_more_if_loaded asked loads ≡ before → loads ≡ before
same_loads None loads before h e = e
same_loads (Some number) loads before h e = absurd (omega arith)

-- a line sync that loads nothing does not change the counter
same_counter : (asked : Option ℕ) (loads before loaded ticks : ℕ) → before ≤ loads → one_more_if_loaded asked loads ≡ before
    → (unwrap_or asked loaded + ticks_unless_loaded asked ticks) % 2 ^ 32 ≡ (loaded + ticks) % 2 ^ 32
same_counter None loads before loaded ticks h e = refl
same_counter (Some number) loads before loaded ticks h e = absurd (omega arith)

-- one more tick
one_more_tick : (loaded ticks before later : ℕ) → (loaded + ticks) % 2 ^ 32 ≡ (before + later) % 2 ^ 32
    → (loaded + (ticks + 1)) % 2 ^ 32 ≡ (before + (later + 1)) % 2 ^ 32
one_more_tick loaded ticks before later e = omega arith

-- while no line sync loads, the counter rises by one for each tick
pub counter-append : (later history : List CounterEvent) → loads_in (later ++ history) ≡ loads_in history
    → counter (later ++ history) ≡ (counter history + ticks_in later) % 2 ^ 32
counter-append [] history e = omega arith
counter-append (Tick ∷ later) history e =
    one_more_tick _ _ (counter history) (ticks_in later) (counter-append later history e)
counter-append (AskLoad number ∷ later) history e = counter-append later history e
counter-append (LineSync ∷ later) history e =
    let asked = asked_number (later ++ history) in
    let loads = loads_in (later ++ history) in
    let grown = loads_in-append later history in
    same_counter asked loads (loads_in history) _ _ grown e
    ∙ counter-append later history (same_loads asked loads (loads_in history) grown e)
