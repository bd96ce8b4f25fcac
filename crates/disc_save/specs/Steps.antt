-- The steps of saving a disc file.
use Rattle.std.specs.Prelude.{ℕ, ◌+◌, List, [], ◌∷◌, ◌++◌, leb, ltb, length, cond}
use Rattle.field.specs.Number.{encode}
use Rattle.rules.specs.Tests.{Answer, Refused, Accepted, ask, first_no, after}
use Rattle.rules.specs.Values.{Index}
use Rattle.rules_disc.specs.Disc.{entry, encode_entry, contents_of, entries_ok, disc_length, disc_bytes}
use Rattle.save.specs.Save.{SaveOut, save_out}

-- the contents table of two lists whose files have m and n bytes
abbrev pub table_of_two : ℕ → ℕ → ℕ → ℕ → List ℕ
table_of_two s m t n = encode 4 2 ++ (encode_entry (entry s 28 m) ++ encode_entry (entry t (28 + m) n))

-- 54 and 40 of lists in the order of their slots that pass 1 to 4, and the file
unfoldable pub saved_as : List Index → List ℕ → SaveOut
saved_as xs out =
    save_out (after (first_no (ask (entries_ok 0 (contents_of xs)) 54 ∷ ask (leb (disc_length xs) (length out)) 40 ∷ [])) (Accepted (disc_bytes xs))) out

unfoldable pub length_of_two : ℕ → ℕ → ℕ → ℕ → Answer ℕ
length_of_two s m t n = cond (entries_ok 0 (entry s 28 m ∷ entry t (28 + m) n ∷ [])) (Accepted (28 + m + n)) (Refused 54)

unfoldable pub length_by_slot : ℕ → ℕ → ℕ → ℕ → Answer ℕ
length_by_slot s m t n = cond (ltb s t) (length_of_two s m t n) (length_of_two t n s m)
