-- Terms of the laws of saving and loading.
use Rattle.std.specs.Prelude.{◌≡◌, true, None}
use Rattle.rules.specs.Values.{Hinting, Index}
use Rattle.rules.specs.Questions.{question1, question2, question4}
use Rattle.rules.specs.Sizes.{sized}
use Rattle.rules.specs.Hints.{unkept}
use Rattle.rules.specs.Load.{unmarked}

-- a list as a file holds it: without image id, checked mark and kept marks
abbrev pub stripped_hinting : Hinting → Hinting
stripped_hinting r = record { spacing = r.spacing; most = r.most; hints = unkept r.hints; confirmed = r.confirmed }

abbrev pub stripped : Index → Index
stripped x = record { scan = x.scan; hinting = stripped_hinting x.hinting; fingerprint = unmarked x.fingerprint; image = None }

-- questions 1, 2 and 4, and the numbers fit their types
pub record Savable (x : Index) : Type 0 where
  pub one : question1 x ≡ true
  pub two : question2 x ≡ true
  pub four : question4 x ≡ true
  pub sizes : sized x ≡ true
