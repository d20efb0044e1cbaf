-- Where blocks begin and end.
use Rattle.fio_module.proofs.Names.{◌≡◌, ℕ, ◌+◌, ◌-◌, ◌≤◌, false, List, [], ◌∷◌, ◌++◌, min, max, refl, arith, nat_lt, nat_tests, MadeBlock, last_end}

-- the last of some blocks and one more is that one
pub last_end-append : (place : ℕ) (blocks : List MadeBlock) (block : MadeBlock)
    → last_end place (blocks ++ block ∷ []) ≡ block.end
last_end-append place [] block = refl
last_end-append place (first ∷ blocks) block = last_end-append first.end blocks block

-- after a block from the later of two places nothing before its end waits any more
pub end-later : (before pushed count len : ℕ)
    → max (max before pushed + min count (len - max before pushed)) pushed
    ≡ max before pushed + min count (len - max before pushed)
end-later before pushed count len = omega arith

-- such a block ends no earlier than the later place
pub end-not_before : (before pushed count len : ℕ)
    → nat_lt (max before pushed + min count (len - max before pushed)) pushed ≡ false
end-not_before before pushed count len = grind (arith, nat_tests)

-- such a block ends within the log
pub end-within : (before len limit count : ℕ) → before ≤ len
    → max before (len - limit) + min count (len - max before (len - limit)) ≤ len
end-within before len limit count within = omega arith
