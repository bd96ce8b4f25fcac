-- What the passes over a table of hints compute: a cutoff gap, how many at it go, and the hints that stay.
use Rattle.std.specs.Prelude.{ℕ, zero, suc, ◌+◌, ◌-◌, Bool, ◌&&◌, ◌||◌, List, eqb, ltb, length, get_or}
use Rattle.rules.specs.declared.Hint.{Hint}
use Rattle.rules.specs.Values.{no_hint, max32}
use Rattle.rules.specs.Hints.{count_of, kept}
use Rattle.laws.specs.Cutoff.{below, stays}
use Rattle.laws.specs.Cutoff as cutoff
use Rattle.thin.specs.declared.Cut.{Cut}
use Rattle.thin.specs.declared.PassState.{PassState}
use Rattle.thin.specs.Thin.{one, gap_from}

-- how many gaps are below g
abbrev pub lower : List Hint → ℕ → ℕ
lower hs g = count_of (below hs g) (length hs)

-- the cutoff c drops e of the hints
abbrev pub Cuts : List Hint → ℕ → Cut → Type 0
Cuts hs e c = cutoff.Cuts hs (length hs) e c.gap c.rest

-- the hints that stay at a cutoff
abbrev pub remaining : List Hint → Cut → List Hint
remaining hs c = kept (stays hs c.gap c.rest) hs (length hs)

-- the number before place i, as the passes carry it
unfoldable pub ahead : List Hint → ℕ → ℕ
ahead hs zero = max32
ahead hs (suc i) = (get_or hs i no_hint).number

-- ---- a pass
abbrev pub first_place : Cut → PassState
first_place c = record { left = c.rest; before = max32; kept = 0 }

-- does the next hint stay?
unfoldable pub stayed : Cut → PassState → Hint → Bool
stayed c p h =
    let g = gap_from p.before h in
    ltb c.gap g || (eqb g c.gap && eqb p.left 0)

-- the place behind it
abbrev pub next_place : Cut → PassState → Hint → PassState
next_place c p h =
    record {
      left = p.left - one (eqb (gap_from p.before h) c.gap);
      before = h.number;
      kept = p.kept + one (stayed c p h);
    }
