-- The sections whose records begin with an LSN: what a record is, and which stands for which.
use Rattle.std.specs.Prelude.{Bool, List, ℕ, eqb}
use Rattle.field.specs.Records.{records, record_at}
use Rattle.rules.specs.declared.Confirmation.{Confirmation}
use Rattle.rules.specs.declared.Hint.{Hint}
use Rattle.rules.specs.Sections.{own_lsn, hint_lsn, confirmed_lsn}
use Rattle.rules.specs.File.{decode_lsn, decode_confirmation}
use Rattle.tables.specs.Tables.{decode_kept}
use Rattle.rules_lacks.specs.Lacks.{same_hint, confirms_also}
use Rattle.lacks.specs.declared.Section.{Section}
use Rattle.lacks.specs.declared.Section.TheVariants.{Malformed, Hints, Confirmed}

abbrev pub Item : Section → Type 0
Item Malformed = ℕ
Item Hints = Hint
Item Confirmed = Confirmation

abbrev pub width_of : Section → ℕ
width_of Malformed = 4
width_of Hints = 8
width_of Confirmed = 16

abbrev pub decode_item : (s : Section) → List ℕ → Item s
decode_item Malformed = decode_lsn
decode_item Hints = decode_kept
decode_item Confirmed = decode_confirmation

abbrev pub item_key : (s : Section) → Item s → ℕ
item_key Malformed = own_lsn
item_key Hints = hint_lsn
item_key Confirmed = confirmed_lsn

abbrev pub stands_for : (s : Section) → Item s → Item s → Bool
stands_for Malformed = eqb
stands_for Hints = same_hint
stands_for Confirmed = confirms_also

-- the n records of a table
abbrev pub items_in : (s : Section) → ℕ → List ℕ → List (Item s)
items_in s n t = records (width_of s) (decode_item s) n t

abbrev pub item_at : (s : Section) → List ℕ → ℕ → Item s
item_at s t i = record_at (width_of s) (decode_item s) t i
