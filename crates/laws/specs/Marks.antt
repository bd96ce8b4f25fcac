-- The LSNs of kept hints.
use Rattle.std.specs.Prelude.{ℕ, cond, List, [], ◌∷◌}
use Rattle.rules.specs.declared.Hint.{Hint}
use Rattle.rules.specs.Sections.{is_kept}

unfoldable pub kept_lsns : List Hint → List ℕ
kept_lsns [] = []
kept_lsns (h ∷ hs) = cond (is_kept h) (h.lsn ∷ kept_lsns hs) (kept_lsns hs)
