-- keep_confirmation on an index in its tables.
use Rattle.std.specs.Prelude.{ℕ, Option, None, Some}
use Rattle.rules.specs.declared.AreaIndex.{AreaIndex}
use Rattle.rules.specs.declared.Confirmation.{Confirmation}
use Rattle.rules.specs.Tests.{Answer, Refused, Accepted}
use Rattle.rules.specs.Values.{Index}
use Rattle.rules.specs.Hints.{keep_confirmation}
use Rattle.tables.specs.Index.{Tables, room_of, index_in, kinds_in, kinded, numbers_from, tables_from}

abbrev pub given : ℕ → ℕ → ℕ → Confirmation
given lsn threshold digest = record { lsn = lsn; threshold = threshold; digest = digest }

-- the answer and the tables
pub record KeptOut : Type 0 where
  pub answer : Answer (Option AreaIndex)
  pub tables : Tables

abbrev pub kept_out : Answer (Option AreaIndex) → Tables → KeptOut
kept_out r t = record { answer = r; tables = t }

-- where nothing is kept, and with a refusal, no table changes; a list is put into them
unfoldable pub kept_out_of : Tables → Answer (Option Index) → KeptOut
kept_out_of t (Refused n) = kept_out (Refused n) t
kept_out_of t (Accepted None) = kept_out (Accepted None) t
kept_out_of t (Accepted (Some y)) = kept_out (Accepted (Some (numbers_from y))) (tables_from y t)

unfoldable pub keep_in : AreaIndex → Tables → Confirmation → KeptOut
keep_in x t c = kept_out_of t (kinded (kinds_in x t) (keep_confirmation (room_of t) (index_in x t) c))
