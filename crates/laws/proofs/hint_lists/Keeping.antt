-- Confirmations kept one by one from a list that rises are the last M of both lists merged. Assumes nothing.
use mathlib.Core.Path.{◌≡◌, refl, sym, ap, ◌∙◌}
use mathlib.Core.Bool.{Bool, true, false}
use mathlib.Core.List.{List, [], ◌∷◌, ◌++◌}
use Prim.Native.Nat.{ℕ, suc, ◌-◌, ◌≤◌}
use native.Mathlib.Omega.{arith}
use lib.ListN.{length, length-append}
use lib.Seq.{drop_at}
use Rattle.rules.specs.declared.Area.{Area}
use Rattle.rules.specs.declared.Confirmation.{Confirmation}
use Rattle.rules.specs.Sections.{confirmed_lsn, confirmation_ok, confirmations_ok}
use Rattle.rules.specs.Hints.{insert, last_ones, keeps_nothing, keep, keep_all, held_confirmation}
use Rattle.rules.proofs.Tests.{order}
use Rattle.laws.specs.Merging.{merged_with, inserted_with}
use Rattle.laws.specs.Order.{Rises}
use Rattle.laws.proofs.hint_lists.Lists.{insert_none, insert_here, insert_past, insert_met, insert_cases}
use Rattle.laws.proofs.hint_lists.Rising.{rises_from, rises_insert, rising→}
use Rattle.laws.proofs.hint_lists.Merging.{inserted_with_lemma}
use Rattle.laws.proofs.hint_lists.Confirmations.{met_lsn}

-- ---- the last ones
module _ {A : Type 0} where
  pub last_few : (n : ℕ) (xs : List A) → length xs ≤ n → last_ones n xs ≡ xs
  unfolding last_ones
  last_few n xs h = let z : length xs - n ≡ 0 = omega arith in rw z

  pub last_past : (n : ℕ) (x : A) (xs : List A) → n ≤ length xs → last_ones n (x ∷ xs) ≡ last_ones n xs
  unfolding last_ones
  last_past n x xs h = let z : suc (length xs) - n ≡ suc (length xs - n) = omega arith in rw z

  pub last_of : (n : ℕ) (xs ys : List A) → length ys ≡ n → last_ones n (xs ++ ys) ≡ ys
  unfolding last_ones
  last_of n xs ys h = drop_at xs ys (length (xs ++ ys) - n) (omega (arith, length-append xs ys))

module _ {A : Type 0} (key : A → ℕ) (meet : A → A → A) (x : A) where
  pub insert_least : (ys : List A) → length ys ≤ length (insert key meet x ys)
  insert_least [] = omega arith
  insert_least (y ∷ ys) =
      insert_cases key meet x y ys (λ l. length (y ∷ ys) ≤ length l) (λ e. omega arith) (λ e. omega (arith, insert_least ys)) (λ e. omega arith)

  -- x before all of a list that rises above it
  insert_first : (ys : List A) → Rises key (suc (key x)) ys → insert key meet x ys ≡ x ∷ ys
  insert_first [] r = insert_none key meet x
  insert_first (y ∷ ys) r = let l = r.0 in insert_here key meet x y ys (omega arith)

  -- the first of more than n has no part in the last n
  last_insert : (n : ℕ) (y : A) (ys : List A) → n ≤ length ys → Rises key (suc (key y)) ys → last_ones n (insert key meet x (y ∷ ys)) ≡ last_ones n (insert key meet x ys)
  last_insert n y ys h r =
      let first : key x ≤ key y → last_ones n (insert key meet x ys) ≡ last_ones n ys =
      λ l. ap (last_ones n) (insert_first ys (rises_from key (suc (key x)) (suc (key y)) ys (omega arith) r)) ∙ last_past n x ys h in
      order (key x) (key y) (λ l. rw (insert_here key meet x y ys l) (last_past n x (y ∷ ys) (omega arith) ∙ last_past n y ys h ∙ sym (first (omega arith))))
      (λ l. rw (insert_past key meet x y ys l) (last_past n y (insert key meet x ys) (omega (arith, insert_least ys))))
      (λ e. rw (insert_met key meet x y ys (sym e)) (last_past n (meet y x) ys h ∙ sym (first (omega arith))))

  -- insertion into the last n
  pub last_inserted : (n b : ℕ) (ys : List A) → Rises key b ys → last_ones n (insert key meet x (last_ones n ys)) ≡ last_ones n (insert key meet x ys)
  last_inserted n b [] r = ap (λ (l : List A). last_ones n (insert key meet x l)) (last_few n [] (omega arith))
  last_inserted n b (y ∷ ys) r =
      order n (suc (length ys))
      (λ l. ap (λ (l : List A). last_ones n (insert key meet x l)) (last_past n y ys (omega arith)) ∙ last_inserted n (suc (key y)) ys r.1 ∙ sym (last_insert n y ys (omega arith) r.1))
      (λ l. ap (λ (l : List A). last_ones n (insert key meet x l)) (last_few n (y ∷ ys) (omega arith)))
      (λ e. ap (λ (l : List A). last_ones n (insert key meet x l)) (last_few n (y ∷ ys) (omega arith)))

-- ---- one by one
module _ (checked : Bool) (most : ℕ) (keeps : keeps_nothing checked most ≡ false) where
  keep_is : (cs : List Confirmation) (c : Confirmation) → keep checked most cs c ≡ last_ones most (insert confirmed_lsn held_confirmation c cs)
  unfolding keep
  keep_is cs c = rw keeps

  keep_all_last : (cs xs : List Confirmation) → Rises confirmed_lsn 0 cs
      → keep_all checked most (last_ones most cs) xs ≡ last_ones most (inserted_with confirmed_lsn held_confirmation cs xs)
  unfolding keep_all inserted_with
  keep_all_last cs [] r = refl
  keep_all_last cs (x ∷ xs) r =
      rw (keep_is (last_ones most cs) x, last_inserted confirmed_lsn held_confirmation x most 0 cs r)
      (keep_all_last (insert confirmed_lsn held_confirmation x cs) xs (rises_insert confirmed_lsn held_confirmation x (λ y q. met_lsn y x q) 0 cs (omega arith) r))

  pub keep_all_merged : (cs xs : List Confirmation) → length cs ≤ most → Rises confirmed_lsn 0 cs → Rises confirmed_lsn 0 xs
      → keep_all checked most cs xs ≡ last_ones most (merged_with confirmed_lsn held_confirmation cs xs)
  keep_all_merged cs xs l r s =
      ap (λ (y : List Confirmation). keep_all checked most y xs) (sym (last_few most cs l)) ∙ keep_all_last cs xs r
      ∙ ap (last_ones most) (inserted_with_lemma confirmed_lsn held_confirmation met_lsn 0 cs xs s)

-- confirmations that pass question 4 are in the order of the LSN
pub confirmed_rises : (a : Area) (cs : List Confirmation) → confirmations_ok a cs ≡ true → Rises confirmed_lsn 0 cs
unfolding confirmations_ok
confirmed_rises a cs e = rises_from confirmed_lsn 0 a.start cs (omega arith) (rising→ confirmed_lsn confirmation_ok a.start a.end cs e).order
