-- The coarser list in tables of its own.
use Rattle.std.specs.Prelude.{ℕ, cond, eqb}
use Rattle.rules.specs.declared.AreaIndex.{AreaIndex}
use Rattle.rules.specs.Tests.{after}
use Rattle.rules_coarsen.specs.Coarse.{coarse_number, coarse}
use Rattle.tables.specs.Index.{Tables, room_of, index_in, refusal, tables_from, MadeOut, made_out_of}

-- the number that refuses: 1 to 4 of the finer list with its kind bytes, else that of the rules; 0 for none
unfoldable pub coarse_refusal : AreaIndex → Tables → ℕ → Tables → ℕ
coarse_refusal x t k u = cond (eqb (refusal x t) 0) (coarse_number (room_of t) (index_in x t) k (room_of u)) (refusal x t)

-- the answer, and the coarser list's tables u afterwards; the finer list's tables t are only read
abbrev pub coarse_in : AreaIndex → Tables → ℕ → Tables → MadeOut
coarse_in x t k u = made_out_of (λ z. tables_from z u) u (after (refusal x t) (coarse (room_of t) (index_in x t) k (room_of u)))
