-- Change request 8: folds as they should be, in one table.
use Rattle.std.specs.Prelude.{◌≡◌, List, [], ◌∷◌, map}
use Rattle.short_sum.specs.ShortSum.{fnv32, fold}
use Rattle.short_sum.specs.declared.Folded.{Folded}
use Rattle.short_sum.specs.declared.Folded.TheVariants.{Refused, Sum}

pub record Example : Type 0 where
  pub found : Folded
  pub expected : Folded

abbrev pub example : Folded → Folded → Example
example f e = record { found = f; expected = e }

-- each example gives what it should
abbrev pub Hold : List Example → Type 0
Hold t = map (λ (e : Example). e.found) t ≡ map (λ (e : Example). e.expected) t

-- the sums of "foobar" at both widths, the bytes e8 c8, whose folded sum is the number 49, an odd
-- width, and k below half the width and at the width
abbrev pub folds : List Example
folds =
    example (fold 32 16 0xbf9cf968) (Sum 0x46f4)
    ∷ example (fold 32 31 0xbf9cf968) (Sum 0x3f9cf969)
    ∷ example (fold 64 32 0x85944171f73967e8) (Sum 0x72ad2699)
    ∷ example (fold 64 63 0x85944171f73967e8) (Sum 0x5944171f73967e9)
    ∷ example (fold 32 16 (fnv32 (0xe8 ∷ 0xc8 ∷ []))) (Sum 49)
    ∷ example (fold 5 3 31) (Sum 4)
    ∷ example (fold 5 2 31) (Refused 49)
    ∷ example (fold 32 15 0xbf9cf968) (Refused 49)
    ∷ example (fold 32 32 0xbf9cf968) (Refused 49)
    ∷ example (fold 64 31 0x85944171f73967e8) (Refused 49)
    ∷ example (fold 64 64 0x85944171f73967e8) (Refused 49)
    ∷ []
