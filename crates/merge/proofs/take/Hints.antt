-- Hints joined to those of a table. Assumes nothing.
use mathlib.Core.Path.{◌≡◌, sym, ◌∙◌}
use mathlib.Core.Bool.{true}
use mathlib.Core.List.{List, ◌++◌, append_assoc}
use Prim.Native.Nat.{ℕ, ◌+◌, ◌-◌, ◌*◌, ◌/◌, ◌≤◌}
use native.Mathlib.Nat.{add-mul}
use native.Mathlib.Omega.{arith}
use lib.Dec.{eqb}
use lib.ListN.{length, take, replicate, length-append, length-replicate}
use lib.Seq.{length-take-le}
use borrow.Author.Tests.{eqb-true}
use Rattle.field.specs.Records.{bytes_of}
use Rattle.field.proofs.Format.{bytes_of_length}
use Rattle.field.proofs.Records.{records_length, records_take}
use Rattle.rules.specs.declared.Area.{Area}
use Rattle.rules.specs.declared.Hint.{Hint}
use Rattle.rules.specs.Hints.{insert_all, joined_hints, unkept}
use Rattle.rules.specs.File.{over}
use Rattle.rules.proofs.Tests.{test}
use Rattle.laws.proofs.hint_lists.Hints.{joined_none, joined_cases, limited_to_keeps, insert_all_length}
use Rattle.laws.proofs.hint_lists.Thinning.{thin_length}
use Rattle.laws.proofs.Marks.{unkept_length}
use Rattle.tables.specs.Tables.{encode_kept, decode_kept, kept_in, decode_unkept}
use Rattle.tables.proofs.Kept.{kept_layout}
use Rattle.add_hints.proofs.Arriving.{unkept_in_lemma}
use Rattle.add_hints.specs.Steps.{joined_in, cleared_to}
use Rattle.add_hints.specs.AddHints.{touched}
use Rattle.merge.specs.Steps.{HintsReady, counted_table, written_to, hints_joined}

joined_most : (a : Area) (most : ℕ) (hs xs : List Hint) → length (joined_hints a most hs xs) ≤ written_to most (length hs) (length xs)
joined_most a most hs xs =
    test (eqb most 0) (λ e. rw e (none e))
    (λ e. rw e (joined_cases a (λ l. length l ≤ length hs + length xs) most hs xs (omega arith)
    (limited_to_keeps a (λ l. length l ≤ length hs + length xs) (λ n l h. let t = thin_length n l in omega arith) most (insert_all a hs xs) (insert_all_length a hs xs))))
  where
    none : eqb most 0 ≡ true → length (joined_hints a most hs xs) ≤ length hs
    none e = rw (eqb-true most 0 e) (rw (joined_none a hs xs) (omega arith))

-- zeros behind the hints, as one list over the table
cleared_over : (w : ℕ) (hs : List Hint) (t : List ℕ) → length hs ≤ w → cleared_to w hs t ≡ over (bytes_of encode_kept hs ++ replicate ((w - length hs) * 8) 0) t
cleared_over w hs t l =
    let b = bytes_of encode_kept hs in
    let z = replicate {A = ℕ} ((w - length hs) * 8) 0 in
    let n : length (b ++ z) ≡ w * 8 =
    length-append b z ∙ rw (bytes_of_length kept_layout hs, length-replicate {A = ℕ} ((w - length hs) * 8) 0)
    (let q : length hs + (w - length hs) ≡ w = omega arith in let p = add-mul (length hs) (w - length hs) 8 in sym p ∙ rw q) in
    rw (n, append_assoc)

pub hints_done : {a : Area} {n m r : ℕ} {t' : List ℕ} (most : ℕ) (t u : List ℕ) → HintsReady a n m t u
    → r ≡ length (joined_in a most n t (take (m * 8) u)) → t' ≡ cleared_to (touched most n (take (m * 8) u)) (joined_in a most n t (take (m * 8) u)) t
    → counted_table r t' ≡ hints_joined a most n m t u
unfolding hints_joined touched
hints_done {a} {n} {m} {r} {t'} most t u h c b =
    let l : length (take (m * 8) u) ≡ m * 8 = length-take-le (m * 8) u h.there in
    let k : length (take (m * 8) u) / 8 ≡ m = omega arith in
    let s = records_take 8 decode_unkept m (m * 8) u (omega arith) ∙ unkept_in_lemma m u in
    let hs = joined_hints a most (kept_in n t) (unkept (kept_in m u)) in
    let many : length (unkept (kept_in m u)) ≡ m = unkept_length (kept_in m u) ∙ records_length 8 decode_kept m u in
    let c' : r ≡ length hs = rw (k, s) at c in
    let b' : t' ≡ cleared_to (written_to most n m) hs t = rw (k, s) at b in
    let most-is : length hs ≤ written_to most n m = rw (records_length 8 decode_kept n t, many) at (joined_most a most (kept_in n t) (unkept (kept_in m u))) in
    rw (c', b', cleared_over (written_to most n m) hs t most-is)
