-- What the functions of keep_hint need of each other.
use Rattle.std.specs.Prelude.{ℕ, ◌/◌, Bool, ◌&&◌, ◌||◌, List, ltb, length, get_or}
use Rattle.rules.specs.declared.Hint.{Hint}
use Rattle.rules.specs.Values.{no_hint}
use Rattle.rules.specs.Sections.{is_kept, kept_count}

-- 53 of the hint at a place, under the limit M
unfoldable pub may_keep : ℕ → List Hint → ℕ → Bool
may_keep most hs i = ltb i (length hs) && (is_kept (get_or hs i no_hint) || ltb (kept_count hs) (most / 4))
