-- Document 01, "The questions".
use Rattle.std.specs.Prelude.{ℕ, ◌≡◌, true, ◌↔◌}
use Rattle.rules.specs.Tests.{Accepted}
use Rattle.rules.specs.Values.{Index, Lengths}
use Rattle.rules.specs.Sections.{marks_ok}
use Rattle.rules.specs.Questions.{question1, question2, question3, question4}
use Rattle.rules.specs.Sizes.{sized}
use Rattle.rules.specs.File.{saved}
use Rattle.rules.specs.Load.{load}
use Rattle.laws.specs.Statements.{stripped}
use Rattle.theorems.specs.Terms.{Ample}

-- "4 do they hold what loading would accept": a list whose kept marks are within the quarter passes 4 exactly when its saved bytes load as the same list
abbrev pub Question4IsLoading : Type 0
Question4IsLoading =
    (l : Lengths) (limit : ℕ) (x : Index) → question1 x ≡ true → question2 x ≡ true → question3 l x ≡ true → sized x
    ≡ true → Ample limit x
    → marks_ok x.hinting.most x.hinting.hints ≡ true
    → (question4 x ≡ true) ↔ (load l x.scan.area (saved x) limit ≡ Accepted (stripped x))
