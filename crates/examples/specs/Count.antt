-- How the examples are counted.
use Rattle.std.specs.Prelude.{ℕ, zero, suc, ◌+◌, ◌%◌, ◌^◌, Bool, true, cond}
use Rattle.examples.specs.declared.tally.Tally.{Tally}

-- one more example was run, and it was right or not
abbrev pub ended : Tally → Bool → Tally
ended t ok = record { run = (t.run + 1) % 2 ^ 64; right = (t.right + cond ok 1 0) % 2 ^ 64 }

-- n more examples were run, and all of them were right
abbrev pub all_right : ℕ → Tally → Tally
all_right zero t = t
all_right (suc n) t = ended (all_right n t) true
