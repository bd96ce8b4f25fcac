-- When two first records are the same.
use Rattle.std.specs.Prelude.{ℕ, Bool, false, ◌&&◌, ◌==◌}
use Rattle.rules.specs.declared.Absence.{Absence}
use Rattle.rules.specs.declared.Absence.TheVariants.{NoFrame, Missing}
use Rattle.rules.specs.declared.First.{First}
use Rattle.rules.specs.declared.First.TheVariants.{Number, Nothing}

-- 1 no frame starts there, 2 bytes are missing
unfoldable pub absence_number : Absence → ℕ
absence_number NoFrame = 1
absence_number Missing = 2

-- are two first records the same?
abbrev pub same_first : First → First → Bool
same_first (Number m) (Number n) = m.number == n.number && m.offset == n.offset
same_first (Number m) (Nothing b) = false
same_first (Nothing a) (Number n) = false
same_first (Nothing a) (Nothing b) = absence_number a == absence_number b
