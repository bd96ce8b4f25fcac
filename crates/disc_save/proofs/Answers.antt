-- What saving a disc file answers. Assumes nothing.
use mathlib.Core.Path.{◌≡◌, refl, sym, ◌∙◌}
use mathlib.Core.Bool.{Bool, true, false, ◌&&◌}
use mathlib.Core.List.{List, [], ◌∷◌}
use Prim.Native.Nat.{ℕ, ◌+◌, ◌≤◌, ◌<◌}
use native.Mathlib.Omega.{arith}
use borrow.Author.Tests.{leb-true, le-leb, lt-leb, lt-ltb, le-ltb, ne_eqb, eq-eqb}
use lib.Dec.{leb}
use lib.ListN.{length}
use Rattle.rules.specs.declared.AreaIndex.{AreaIndex}
use Rattle.rules.specs.Tests.{each, Ask, ask, first_no, Accepted, after, Refused}
use Rattle.rules.specs.Questions.{both, four_of, ask_four}
use Rattle.rules.specs.Values.{Index, max32}
use Rattle.rules.specs.File.{saved_length}
use Rattle.rules.proofs.Tests.{all→}
use Rattle.rules_disc.specs.Disc.{entry, slot_of, contents_of, entries_from, entries_ok, bodies_length, disc_length, disc_bytes, save_lists, save_one, by_slot, save_both}
use Rattle.tables.specs.Index.{Tables, room_of, index_in, kinds_in, kinded_number, refusal, lowest}
use Rattle.index.proofs.Four.{Later, kinded_more, kinded_index, lowest_both}
use Rattle.merge.proofs.questions.Refusal.{lowest_zero}
use Rattle.save.specs.Save.{SaveOut, made, save_out}
use Rattle.disc_save.specs.DiscSave.{save_one_in, save_both_in}
use Rattle.disc_save.specs.Steps.{saved_as}
use Rattle.disc_save.proofs.Files.{Written}

-- ---- 54 and 40
abbrev rest : List Index → List ℕ → List Ask
rest xs o = ask (entries_ok 0 (contents_of xs)) 54 ∷ ask (leb (disc_length xs) (length o)) 40 ∷ []

rest_later : (xs : List Index) (o : List ℕ) → Later (rest xs o)
unfolding each
rest_later xs o = refl

module _ (xs : List Index) (o : List ℕ) where
  pub as_broken : {r : Bool} → r ≡ entries_ok 0 (contents_of xs) → r ≡ false → made (Refused 54) o ≡ saved_as xs o
  unfolding saved_as first_no after save_out
  as_broken e h = sym (rw (← e, h))

  module _ {r : Bool} (e : r ≡ entries_ok 0 (contents_of xs)) (h : r ≡ true) {k : ℕ} (l : k ≡ disc_length xs) where
    pub as_short : length o < k → made (Refused 40) o ≡ saved_as xs o
    unfolding saved_as first_no after save_out
    as_short s = sym (rw (← e, h, ← l, lt-leb k (length o) s))

    pub as_done : {o' : List ℕ} → k ≤ length o → Written (disc_bytes xs) k o o' → made (Accepted k) o' ≡ saved_as xs o
    unfolding saved_as first_no after save_out
    as_done s w = rw w.bytes (sym (rw (← e, h, ← l, le-leb k (length o) s, w.size)))

-- ---- the numbers of the files
pub one_length_lemma : (x : Index) {m : ℕ} → m ≡ saved_length x → 16 + m ≡ disc_length (x ∷ [])
unfolding disc_length bodies_length
one_length_lemma x l = rw (← l) (omega arith)

pub two_length : (x y : Index) {m n : ℕ} → m ≡ saved_length x → n ≡ saved_length y → 28 + m + n ≡ disc_length (x ∷ y ∷ [])
unfolding disc_length bodies_length
two_length x y l k = rw (← l, ← k) (omega arith)

pub one_contents : (x : Index) {s m : ℕ} {r : Bool} → s ≡ slot_of x → m ≡ saved_length x → r ≡ entries_ok 0 (entry s 16 m ∷ []) → r ≡ entries_ok 0 (contents_of (x ∷ []))
unfolding entries_from
one_contents x z l e = e ∙ rw (z, l)

pub two_contents : (x y : Index) {s t m n : ℕ} {r : Bool} → s ≡ slot_of x → t ≡ slot_of y → m ≡ saved_length x → n ≡ saved_length y
    → r ≡ entries_ok 0 (entry s 28 m ∷ entry t (28 + m) n ∷ []) → r ≡ entries_ok 0 (contents_of (x ∷ y ∷ []))
unfolding entries_from
two_contents x y z w l k e = e ∙ rw (z, w, l, k)

-- they fit four bytes
pub one_small : (x : Index) {m : ℕ} {r : Bool} → m ≡ saved_length x → r ≡ entries_ok 0 (contents_of (x ∷ [])) → r ≡ true → m ≤ max32
unfolding entries_ok entries_from
one_small x {m} l e h = let g = all→ _ (sym e ∙ h) in rw l (leb-true (saved_length x) max32 g.1.1.0)

pub two_small : (x y : Index) {m n : ℕ} {r : Bool} → m ≡ saved_length x → n ≡ saved_length y → r ≡ entries_ok 0 (contents_of (x ∷ y ∷ [])) → r ≡ true
    → (28 + m ≤ max32) × (n ≤ max32)
unfolding entries_ok entries_from
two_small x y l k e h =
    let g = all→ _ (sym e ∙ h) in
    let f = all→ _ g.1.1.1.0 in
    rw (l, k) (leb-true (28 + saved_length x) max32 f.1.0, leb-true (saved_length y) max32 f.1.1.0)

-- ---- one list
module _ (x : AreaIndex) (t : Tables) (o : List ℕ) {n : ℕ} (e : n ≡ refusal x t) where
  one_is : save_one_in x t o ≡ save_out (after n (after (first_no (rest (index_in x t ∷ []) o)) (Accepted (disc_bytes (index_in x t ∷ []))))) o
  unfolding save_one_in save_one save_lists
  one_is = rw (kinded_index x t (rest (index_in x t ∷ []) o) (rest_later (index_in x t ∷ []) o) e (disc_bytes (index_in x t ∷ [])))

  pub one_refused : (n ≡ 0 → ⊥) → made (Refused n) o ≡ save_one_in x t o
  unfolding save_out after
  one_refused h = sym (one_is ∙ simp (ne_eqb n 0 h))

  pub one_saved : {s : SaveOut} → n ≡ 0 → s ≡ saved_as (index_in x t ∷ []) o → s ≡ save_one_in x t o
  unfolding saved_as after
  one_saved z d = d ∙ sym (one_is ∙ simp (eq-eqb n 0 z))

-- ---- both lists
module _ (x : AreaIndex) (t : Tables) (y : AreaIndex) (u : Tables) (o : List ℕ) {n : ℕ} (l : n ≡ lowest (refusal x t) (refusal y u)) where
  abbrev lists : List Index
  lists = by_slot (index_in x t) (index_in y u)

  four_is : n ≡ kinded_number (kinds_in x t && kinds_in y u) (first_no (ask_four (both (four_of (room_of t) (index_in x t)) (four_of (room_of u) (index_in y u))) []))
  unfolding refusal
  four_is = l ∙ sym (lowest_both (kinds_in x t) (kinds_in y u) (four_of (room_of t) (index_in x t)) (four_of (room_of u) (index_in y u)))

  both_is : save_both_in x t y u o ≡ save_out (after n (after (first_no (rest lists o)) (Accepted (disc_bytes lists)))) o
  unfolding save_both_in save_both save_lists
  both_is = rw (kinded_more (kinds_in x t && kinds_in y u) _ (rest lists o) (rest_later lists o) four_is (disc_bytes lists))

  pub both_refused : (n ≡ 0 → ⊥) → made (Refused n) o ≡ save_both_in x t y u o
  unfolding save_out after
  both_refused h = sym (both_is ∙ simp (ne_eqb n 0 h))

  pub both_pass : n ≡ 0 → (refusal x t ≡ 0) × (refusal y u ≡ 0)
  both_pass z = lowest_zero (refusal x t) (refusal y u) (sym l ∙ z)

  pub both_saved : {s : SaveOut} → n ≡ 0 → s ≡ saved_as lists o → s ≡ save_both_in x t y u o
  unfolding saved_as after
  both_saved z d = d ∙ sym (both_is ∙ simp (eq-eqb n 0 z))

-- by slot
module _ (x y : Index) (o : List ℕ) {s : SaveOut} {a b : ℕ} (p : a ≡ slot_of x) (q : b ≡ slot_of y) where
  pub first_by_slot : a < b → s ≡ saved_as (x ∷ y ∷ []) o → s ≡ saved_as (by_slot x y) o
  unfolding by_slot
  first_by_slot h d = d ∙ rw (lt-ltb (slot_of x) (slot_of y) (rw (p, q) at h))

  pub second_by_slot : b ≤ a → s ≡ saved_as (y ∷ x ∷ []) o → s ≡ saved_as (by_slot x y) o
  unfolding by_slot
  second_by_slot h d = d ∙ rw (le-ltb (slot_of x) (slot_of y) (rw (p, q) at h))
