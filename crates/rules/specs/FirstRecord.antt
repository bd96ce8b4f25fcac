-- Document 01, "First record", with change request 4: where its three bytes lie, or why there is none.
use Rattle.std.specs.Prelude.{ℕ, ◌+◌, ◌*◌, ◌/◌, ◌%◌, ◌^◌, ◌||◌, cond, List, eqb, ltb, length, get_or, Option, None, Some}
use Rattle.rules.specs.declared.Absence.TheVariants.{NoFrame, Missing}
use Rattle.rules.specs.declared.First.{First}
use Rattle.rules.specs.declared.First.TheVariants.{Number, Nothing}

-- Header byte h: f = (h >> 2) mod 8
abbrev pub frames : ℕ → ℕ
frames h = h / 2 ^ 2 % 8

-- k = h >> 5
abbrev pub packets : ℕ → ℕ
packets h = h / 2 ^ 5

-- bytes a, b, c at r give (a × 60 + b) × 75 + c
unfoldable pub time_at : List ℕ → ℕ → ℕ
time_at s r = (get_or s r 0 * 60 + get_or s (r + 1) 0) * 75 + get_or s (r + 2) 0

-- Missing where there is no header byte, NoFrame where f is 0, Missing where one of the three bytes is missing
unfoldable pub first_record : List ℕ → First
first_record s =
    cond (eqb (length s) 0) (Nothing Missing)
    (cond (eqb (frames (get_or s 0 0)) 0) (Nothing NoFrame)
    (cond (ltb (length s) (1 + 2 * packets (get_or s 0 0) + 3)) (Nothing Missing)
    (Number (record { number = time_at s (1 + 2 * packets (get_or s 0 0)); offset = 1 + 2 * packets (get_or s 0 0) }))))

-- f = 0, or bytes missing: none. Else bytes a, b, c at 1 + 2 × k give the number
unfoldable pub record_number : List ℕ → Option ℕ
record_number s =
    cond (eqb (length s) 0 || eqb (frames (get_or s 0 0)) 0 || ltb (length s) (1 + 2 * packets (get_or s 0 0) + 3)) None
    (Some (time_at s (1 + 2 * packets (get_or s 0 0))))
