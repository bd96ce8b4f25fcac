-- Saving a disc file, and its length: one list in its tables, or two, written into a lent output.
use Rattle.std.specs.Prelude.{ℕ, ◌&&◌, cond, List, [], ◌∷◌, length, eqb}
use Rattle.rules.specs.declared.AreaIndex.{AreaIndex}
use Rattle.rules_disc.specs.Disc.{save_one, save_both, contents_of, entries_ok, disc_length, by_slot}
use Rattle.rules.specs.Tests.{Answer, Refused, Accepted, after}
use Rattle.rules.specs.Values.{Index}
use Rattle.tables.specs.Index.{Tables, room_of, index_in, kinds_in, kinded, refusal, lowest}
use Rattle.save.specs.Save.{SaveOut, save_out}

-- 1 to 4, 54, 40: is the output long enough? What lies past the length stays.
unfoldable pub save_one_in : AreaIndex → Tables → List ℕ → SaveOut
save_one_in x t out = save_out (kinded (kinds_in x t) (save_one (room_of t) (index_in x t) (length out))) out

-- the same of both lists
unfoldable pub save_both_in : AreaIndex → Tables → AreaIndex → Tables → List ℕ → SaveOut
save_both_in x t y u out =
    save_out (kinded (kinds_in x t && kinds_in y u) (save_both (room_of t) (index_in x t) (room_of u) (index_in y u) (length out))) out

-- of lists in the order of their slots that pass 1 to 4
unfoldable pub length_of : List Index → ℕ
length_of xs = cond (entries_ok 0 (contents_of xs)) (disc_length xs) 54

-- n is the number of the first of questions 1 to 4 answered no, 0 for none
unfoldable pub length_after : ℕ → List Index → ℕ
length_after n xs = cond (eqb n 0) (length_of xs) n

unfoldable pub one_length : AreaIndex → Tables → ℕ
one_length x t = length_after (refusal x t) (index_in x t ∷ [])

unfoldable pub both_length : AreaIndex → Tables → AreaIndex → Tables → ℕ
both_length x t y u = length_after (lowest (refusal x t) (refusal y u)) (by_slot (index_in x t) (index_in y u))

-- ---- the same as answers
unfoldable pub length_answer : ℕ → List Index → Answer ℕ
length_answer n xs = after n (cond (entries_ok 0 (contents_of xs)) (Accepted (disc_length xs)) (Refused 54))

unfoldable pub one_length_in : AreaIndex → Tables → Answer ℕ
one_length_in x t = length_answer (refusal x t) (index_in x t ∷ [])

unfoldable pub both_length_in : AreaIndex → Tables → AreaIndex → Tables → Answer ℕ
both_length_in x t y u = length_answer (lowest (refusal x t) (refusal y u)) (by_slot (index_in x t) (index_in y u))
