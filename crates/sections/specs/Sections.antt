-- Questions asked in order, and an area without a key.
use Rattle.std.specs.Prelude.{ℕ, Bool, cond, eqb}
use Rattle.rules.specs.declared.Area.{Area}

-- the refusal number after one more question
unfoldable pub asked : ℕ → Bool → ℕ → ℕ
asked before ok number = cond (eqb before 0) (cond ok 0 number) before

-- an area from start to end, of no key: boundaries do not depend on it
abbrev pub stretch : ℕ → ℕ → Area
stretch start end = record { key = record { slot = 0; start = 0; end = 0; channels = 0; sectors = 0 }; start = start; end = end }
