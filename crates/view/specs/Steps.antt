-- What the functions of a view need of each other.
use Rattle.std.specs.Prelude.{ℕ, cond}
use Rattle.rules.specs.declared.AreaIndex.{AreaIndex}
use Rattle.rules_view.specs.View.{is_role}
use Rattle.tables.specs.Index.{Tables, refusal}

-- 52, then 1 to 4: the number of the first answered no, 0 for none
unfoldable pub asked : ℕ → AreaIndex → Tables → ℕ
asked role x t = cond (is_role role) (refusal x t) 52
