-- The refusal numbers, and what an answer of the code says.
use Rattle.std.specs.Prelude.{ℕ, Result, Ok, Err}
use Rattle.rules.specs.declared.Refusal.{Refusal}
use Rattle.rules.specs.declared.Refusal.TheVariants as no
use Rattle.rules.specs.Tests.{Answer, Refused, Accepted}

-- the number of the question answered no
unfoldable pub refusal_number : Refusal → ℕ
refusal_number no.Area = 1
refusal_number no.Numbers = 2
refusal_number no.Room = 3
refusal_number no.Content = 4
refusal_number no.RecordDue = 5
refusal_number no.RecordFalls = 6
refusal_number no.RecordFrame = 7
refusal_number no.AbsorbImage = 8
refusal_number no.AbsorbArea = 9
refusal_number no.AbsorbJoins = 10
refusal_number no.AbsorbAgrees = 11
refusal_number no.AbsorbResult = 12
refusal_number no.Hints = 13
refusal_number no.Confirmation = 14
refusal_number no.Fingerprint = 15
refusal_number no.HintRange = 16
refusal_number no.FileShort = 20
refusal_number no.FileMagic = 21
refusal_number no.FileSum = 22
refusal_number no.FileVersion = 23
refusal_number no.FileSlot = 24
refusal_number no.FileFlags = 25
refusal_number no.FileArea = 26
refusal_number no.FileInterval = 27
refusal_number no.FileReserved = 28
refusal_number no.FileBudget = 29
refusal_number no.FileCounts = 30
refusal_number no.FileCheckpoints = 31
refusal_number no.FileFrames = 32
refusal_number no.FileKind = 33
refusal_number no.FileEnd = 34
refusal_number no.FileMalformed = 35
refusal_number no.FileHints = 36
refusal_number no.FileConfirmations = 37
refusal_number no.FileLeftOver = 38
refusal_number no.Output = 40
refusal_number no.MergeArea = 41
refusal_number no.MergeIds = 42
refusal_number no.MergeCheckpoints = 43
refusal_number no.Set = 44
refusal_number no.SheetFile = 45
refusal_number no.SheetLine = 46
refusal_number no.CoarseInterval = 47
refusal_number no.CoarseContent = 48
refusal_number no.Fold = 49
refusal_number no.ShelfList = 50
refusal_number no.ShelfCount = 51
refusal_number no.Role = 52
refusal_number no.Keep = 53
refusal_number no.Disc = 54

-- an answer of the rules
unfoldable pub answer_in : {A : Type 0} → Result A Refusal → Answer A
answer_in (Err e) = Refused (refusal_number e)
answer_in (Ok a) = Accepted a

-- its refusal number, 0 where it is accepted
unfoldable pub number_in : {A : Type 0} → Result A Refusal → ℕ
number_in (Err e) = refusal_number e
number_in (Ok a) = 0
