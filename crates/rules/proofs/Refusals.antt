-- Laws of refusal numbers. Assumes nothing.
use Rattle.std.proofs.Common.{◌≡◌, ◌<◌}
use native.Mathlib.Omega.{arith}
use Rattle.rules.specs.declared.Refusal.{Refusal}
use Rattle.rules.specs.declared.Refusal.TheVariants as no
use Rattle.rules.specs.Refusals.{refusal_number}

-- a refusal number is not 0
pub number_positive : (e : Refusal) → 0 < refusal_number e
unfolding refusal_number
number_positive no.Area = omega arith
number_positive no.Numbers = omega arith
number_positive no.Room = omega arith
number_positive no.Content = omega arith
number_positive no.RecordDue = omega arith
number_positive no.RecordFalls = omega arith
number_positive no.RecordFrame = omega arith
number_positive no.AbsorbImage = omega arith
number_positive no.AbsorbArea = omega arith
number_positive no.AbsorbJoins = omega arith
number_positive no.AbsorbAgrees = omega arith
number_positive no.AbsorbResult = omega arith
number_positive no.Hints = omega arith
number_positive no.Confirmation = omega arith
number_positive no.Fingerprint = omega arith
number_positive no.HintRange = omega arith
number_positive no.FileShort = omega arith
number_positive no.FileMagic = omega arith
number_positive no.FileSum = omega arith
number_positive no.FileVersion = omega arith
number_positive no.FileSlot = omega arith
number_positive no.FileFlags = omega arith
number_positive no.FileArea = omega arith
number_positive no.FileInterval = omega arith
number_positive no.FileReserved = omega arith
number_positive no.FileBudget = omega arith
number_positive no.FileCounts = omega arith
number_positive no.FileCheckpoints = omega arith
number_positive no.FileFrames = omega arith
number_positive no.FileKind = omega arith
number_positive no.FileEnd = omega arith
number_positive no.FileMalformed = omega arith
number_positive no.FileHints = omega arith
number_positive no.FileConfirmations = omega arith
number_positive no.FileLeftOver = omega arith
number_positive no.Output = omega arith
number_positive no.MergeArea = omega arith
number_positive no.MergeIds = omega arith
number_positive no.MergeCheckpoints = omega arith
number_positive no.Set = omega arith
number_positive no.SheetFile = omega arith
number_positive no.SheetLine = omega arith
number_positive no.CoarseInterval = omega arith
number_positive no.CoarseContent = omega arith
number_positive no.Fold = omega arith
number_positive no.ShelfList = omega arith
number_positive no.ShelfCount = omega arith
number_positive no.Role = omega arith
number_positive no.Keep = omega arith
number_positive no.Disc = omega arith

-- nor is it taken for one of no refusal
pub number_ne0 : (e : Refusal) → refusal_number e ≡ 0 → ⊥
number_ne0 e h = let p = number_positive e in omega arith
