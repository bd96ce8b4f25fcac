-- What another list's confirmations would change, by one pass over both.
use Rattle.std.specs.Prelude.{ℕ, Bool, true, false, ◌&&◌, not, cond, List, [], ◌∷◌, eqb, ltb, length, get_or}
use Rattle.rules.specs.declared.Confirmation.{Confirmation}
use Rattle.rules.specs.Values.{no_confirmation}
use Rattle.rules.specs.Sections.{confirmed_lsn}
use Rattle.rules.specs.Hints.{held_confirmation, keeps_nothing}
use Rattle.merge.specs.Keys.{from_key}
use Rattle.adds.specs.Adds.{same_confirmation}

-- is each of ds held in cs, which stays as it is?
unfoldable pub absorbed : List Confirmation → List Confirmation → Bool
absorbed cs [] = true
absorbed [] (d ∷ ds) = false
absorbed (c ∷ cs) (d ∷ ds) =
    cond (ltb c.lsn d.lsn) (absorbed cs (d ∷ ds))
    (cond (ltb d.lsn c.lsn) false (same_confirmation c (held_confirmation c d) && absorbed cs ds))

-- has d a later LSN than c, or the same one and c stays?
unfoldable pub unmoved_by : Confirmation → Confirmation → Bool
unmoved_by c d =
    cond (ltb c.lsn d.lsn) true (cond (ltb d.lsn c.lsn) false (same_confirmation c (held_confirmation c d)))

-- what can change cs: where M are held, those below the lowest held one go again
unfoldable pub arriving : ℕ → List Confirmation → List Confirmation → List Confirmation
arriving most cs ds = cond (eqb (length cs) most) (from_key confirmed_lsn (get_or cs 0 no_confirmation).lsn ds) ds

-- would the held confirmations change?
unfoldable pub confirmed_change : Bool → ℕ → List Confirmation → List Confirmation → Bool
confirmed_change checked most cs ds = cond (keeps_nothing checked most) false (not (absorbed cs (arriving most cs ds)))
