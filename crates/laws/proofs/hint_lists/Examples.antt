-- The definitions at small lists, by computing. Assumes nothing.
use mathlib.Core.Path.{◌≡◌, refl}
use mathlib.Core.Bool.{true, false}
use mathlib.Core.List.{[], ◌∷◌}
use Prim.Native.Nat.{ℕ}
use Rattle.rules.specs.declared.Area.{Area}
use Rattle.rules.specs.declared.Confirmation.{Confirmation}
use Rattle.rules.specs.declared.Hint.{Hint}
use Rattle.rules.specs.Tests.{all, walk}
use Rattle.rules.specs.Sections.{rising_ok, rising, hints_ok, is_kept}
use Rattle.rules.specs.Hints.{count_of, rise, rise_at, gap, smaller, rank, kept, thin, insert, in_area, insert_all, limited_to, joined_hints, held_confirmation, last_ones, keep, keep_all}

abbrev hint_at : ℕ → ℕ → Hint
hint_at l n = record { lsn = l; number = n; mark = 0 }

abbrev confirmed_at : ℕ → ℕ → ℕ → Confirmation
confirmed_at l t d = record { lsn = l; threshold = t; digest = d }

abbrev place : Area
place = record { key = record { slot = 0; start = 5; end = 50; channels = 2; sectors = 100 }; start = 5; end = 50 }

-- document 01's example: the smallest gaps go
pub thinned : thin 2 (hint_at 10 5 ∷ hint_at 20 8 ∷ hint_at 30 9 ∷ hint_at 40 30 ∷ []) ≡ hint_at 10 5 ∷ hint_at 40 30 ∷ []
unfolding thin kept rank smaller gap rise_at is_kept rise count_of
thinned = refl

-- a hint outside the area is dropped, and one at a held LSN replaces it
pub joined : joined_hints place 8 (hint_at 10 5 ∷ hint_at 30 9 ∷ []) (hint_at 20 8 ∷ hint_at 60 40 ∷ hint_at 30 7 ∷ []) ≡ hint_at 10 5 ∷ hint_at 20 8 ∷ hint_at 30 7 ∷ []
unfolding joined_hints limited_to insert_all insert in_area
joined = refl

pub in_order : hints_ok place (hint_at 10 5 ∷ hint_at 20 8 ∷ hint_at 30 9 ∷ []) ≡ true
unfolding hints_ok rising walk rising_ok all
in_order = refl

pub out_of_order : hints_ok place (hint_at 10 5 ∷ hint_at 10 8 ∷ []) ≡ false
unfolding hints_ok rising walk rising_ok all
out_of_order = refl

-- the lower threshold stays, another digest replaces, the lowest LSN goes
pub confirmed : keep_all true 2 (confirmed_at 10 7 1 ∷ confirmed_at 20 7 1 ∷ []) (confirmed_at 10 9 1 ∷ confirmed_at 20 9 2 ∷ confirmed_at 30 4 4 ∷ []) ≡ confirmed_at 20 9 2 ∷ confirmed_at 30 4 4 ∷ []
unfolding keep_all keep last_ones insert held_confirmation
confirmed = refl

-- document 01: M = 2, confirmed at 10 and 20; a new one at 5 is itself dropped
pub dropped : keep true 2 (confirmed_at 10 7 1 ∷ confirmed_at 20 7 1 ∷ []) (confirmed_at 5 7 1) ≡ confirmed_at 10 7 1 ∷ confirmed_at 20 7 1 ∷ []
unfolding keep last_ones insert
dropped = refl
