-- Change request 4: what first_record tells is what the source tells, and where it tells it from.
use Rattle.std.specs.Prelude.{◌≡◌, ◌↔◌, List, ℕ, ◌+◌, ◌%◌, ◌≤◌, length, get_or, Option, None, Some}
use Rattle.field.specs.Records.{Bytes}
use Rattle.rules.specs.declared.Absence.TheVariants.{NoFrame}
use Rattle.rules.specs.declared.First.{First}
use Rattle.rules.specs.declared.First.TheVariants.{Number, Nothing}
use Rattle.rules.specs.declared.TimeBytes.{TimeBytes}
use Rattle.rules.specs.FirstRecord.{frames, time_at, first_record, record_number}

-- the number of a first record, if any
unfoldable pub number_told : First → Option ℕ
number_told (Number t) = Some t.number
number_told (Nothing a) = None

-- "The numbers still equal first_record"
abbrev pub FirstNumbers : Type 0
FirstNumbers = (s : List ℕ) → number_told (first_record s) ≡ record_number s

-- the three bytes lie inside the sector, from an odd offset on, and are the number
pub record Placed (s : List ℕ) (t : TimeBytes) : Type 0 where
  pub odd : t.offset % 2 ≡ 1
  pub most : t.offset ≤ 15
  pub inside : t.offset + 3 ≤ length s
  pub number : t.number ≡ time_at s t.offset

abbrev pub FirstPlaced : Type 0
FirstPlaced = (s : List ℕ) (t : TimeBytes) → Bytes s → first_record s ≡ Number t → Placed s t

-- NoFrame is told exactly where there is a header byte and its f is 0
abbrev pub FirstNone : Type 0
FirstNone = (s : List ℕ) → (first_record s ≡ Nothing NoFrame) ↔ ((1 ≤ length s) × (frames (get_or s 0 0) ≡ 0))
