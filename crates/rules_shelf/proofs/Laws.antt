-- Laws of the records of a shelf. Assumes nothing.
use mathlib.Core.Path.{◌≡◌, refl, ap, ap₂, ◌∙◌}
use mathlib.Core.Bool.{true, false, ◌&&◌, not, cond}
use mathlib.Core.List.{List, [], ◌∷◌, ◌++◌}
use Prim.Native.Nat.{ℕ, zero, suc, ◌+◌, ◌<◌, ◌≤◌}
use native.Mathlib.Omega.{arith}
use borrow.Author.Tests.{le-leb}
use lib.Dec.{leb, ltb}
use lib.ListN.{length, get_or, take, drop, length-append, length-take, length-drop, take-append-drop}
use lib.Seq.{drop-cons, take-suc, take_all, take-nil, get_or-take, drop-nil}
use Rattle.rules.specs.declared.Area.{Area}
use Rattle.rules.specs.Values.{same_area}
use Rattle.rules.proofs.Tests.{choose, →all}
use Rattle.rules_shelf.specs.declared.ShelfRecord.{ShelfRecord}
use Rattle.rules_shelf.specs.Shelf.{no_record, area_of, sum, area_place, among, no_two, drop_at, stamp_at, older, oldest_of, oldest, roomy, make_room}

-- ---- the place of an area
module _ (a : Area) (rs : List ShelfRecord) (i : ℕ) (l : i < length rs) where
  pub place_here : same_area (area_of (get_or rs i no_record)) a ≡ true → area_place a (drop i rs) ≡ 0
  unfolding area_place
  place_here e = rw (drop-cons rs i no_record l, e)

  pub place_later : same_area (area_of (get_or rs i no_record)) a ≡ false
      → area_place a (drop i rs) ≡ suc (area_place a (drop (suc i) rs))
  unfolding area_place
  place_later e = rw (drop-cons rs i no_record l, e)

-- ---- no area under two
module _ (rs : List ShelfRecord) (i : ℕ) (l : i < length rs) where
  pub no_two_step : no_two (drop i rs) ≡ (not (among (area_of (get_or rs i no_record)) (drop (suc i) rs)) && no_two
      (drop (suc i) rs))
  unfolding no_two
  no_two_step = rw (drop-cons rs i no_record l)

-- ---- sums
pub sum_append : (rs ss : List ShelfRecord) → sum (rs ++ ss) ≡ sum rs + sum ss
unfolding sum
sum_append [] ss = omega arith
sum_append (r ∷ rs) ss = let h = sum_append rs ss in omega arith

-- the lengths up to i, that of record i, and those behind
pub sum_at : (rs : List ShelfRecord) (i : ℕ) → i < length rs
    → sum rs ≡ sum (take i rs) + ((get_or rs i no_record).len + sum (drop (suc i) rs))
unfolding sum
sum_at rs i l =
    let e : sum (take i rs ++ drop i rs) ≡ sum (take i rs) + sum (drop i rs) = sum_append (take i rs) (drop i rs) in
    let d : sum (drop i rs) ≡ (get_or rs i no_record).len + sum (drop (suc i) rs) = rw (drop-cons rs i no_record l) in
    let w : sum (take i rs ++ drop i rs) ≡ sum rs = ap sum (take-append-drop i rs) in
    omega arith

pub sum_take_suc : (rs : List ShelfRecord) (i : ℕ) → i < length rs
    → sum (take (suc i) rs) ≡ sum (take i rs) + (get_or rs i no_record).len
unfolding sum
sum_take_suc rs i l =
    let e : sum (take i rs ++ (get_or rs i no_record ∷ [])) ≡ sum (take i rs) + sum (get_or rs i no_record ∷ []) = sum_append
    (take i rs) (get_or rs i no_record ∷ []) in
    let w : sum (take (suc i) rs) ≡ sum (take i rs ++ (get_or rs i no_record ∷ [])) = ap sum (take-suc rs i no_record l) in
    omega arith

-- ---- dropping
pub drop_length : (i : ℕ) (rs : List ShelfRecord) → i < length rs → length (drop_at i rs) + 1 ≡ length rs
unfolding drop_at
drop_length i rs l = simp (length-append, length-take, length-drop) (omega arith)

pub drop_none : (i : ℕ) (rs : List ShelfRecord) → length rs ≤ i → drop_at i rs ≡ rs
unfolding drop_at
drop_none i [] l = rw (drop-nil (suc i)) (ap (λ (t : List ShelfRecord). t ++ []) (take_all i [] l))
drop_none zero (r ∷ rs) l = let f : ⊥ = omega arith in absurd f
drop_none (suc i) (r ∷ rs) l = ap (λ (t : List ShelfRecord). r ∷ t) (drop_none i rs (omega arith))

-- ---- the oldest
pub oldest_le : (rs : List ShelfRecord) (n : ℕ) → oldest_of rs n ≤ n
unfolding older oldest_of
oldest_le rs zero = omega arith
oldest_le rs (suc n) =
    choose (λ (k : ℕ). k ≤ suc n) (ltb (stamp_at rs n) (stamp_at rs (oldest_of rs n))) n (oldest_of rs n) (λ _. omega arith)
    (λ _. let h = oldest_le rs n in omega arith)

pub oldest_lt : (rs : List ShelfRecord) (n : ℕ) → oldest_of rs (suc n) < suc n
unfolding older oldest_of
oldest_lt rs n =
    choose (λ (k : ℕ). k < suc n) (ltb (stamp_at rs n) (stamp_at rs (oldest_of rs n))) n (oldest_of rs n) (λ _. omega arith)
    (λ _. let h = oldest_le rs n in omega arith)

-- it is that of the first records alone
older_take : (rs : List ShelfRecord) (m best i : ℕ) → best < m → i < m → older (take m rs) best i ≡ older rs best i
unfolding older
older_take rs m best i b l =
    ap₂ (λ (x y : ShelfRecord). cond (ltb x.stamp y.stamp) i best) (get_or-take m rs i no_record l)
    (get_or-take m rs best no_record b)

pub oldest_take : (rs : List ShelfRecord) (m n : ℕ) → n ≤ m → oldest_of (take m rs) n ≡ oldest_of rs n
unfolding oldest_of
oldest_take rs m zero l = refl
oldest_take rs m (suc n) l =
    let o = oldest_le rs n in
    ap (λ (k : ℕ). older (take m rs) k n) (oldest_take rs m n (omega arith))
    ∙ older_take rs m (oldest_of rs n) n (omega arith) (omega arith)

-- ---- making room
pub made : (n room : ℕ) (rs : List ShelfRecord) → roomy room rs ≡ true → make_room n room rs ≡ rs
unfolding make_room
made zero room rs e = refl
made (suc n) room rs e = rw e

pub made_more : (n room : ℕ) (rs : List ShelfRecord) → roomy room rs ≡ false
    → make_room (suc n) room rs ≡ make_room n room (drop_at (oldest rs) rs)
unfolding make_room
made_more n room rs e = rw e

pub roomy_none : (room : ℕ) → roomy room [] ≡ true
unfolding roomy sum
roomy_none room = →all (ltb 0 64 ∷ leb 0 room ∷ []) (refl, (le-leb 0 room (omega arith), tt))

-- ---- dropping, among the first records
pub drop_at_suc : (i : ℕ) (r : ShelfRecord) (rs : List ShelfRecord) → drop_at (suc i) (r ∷ rs) ≡ r ∷ drop_at i rs
unfolding drop_at
drop_at_suc i r rs = refl

pub take_drop : (i m : ℕ) (rs : List ShelfRecord) → i ≤ m → take m (drop_at i rs) ≡ drop_at i (take (suc m) rs)
unfolding drop_at
take_drop zero m [] l = take-nil m
take_drop zero m (r ∷ rs) l = refl
take_drop (suc i) zero rs l = let f : ⊥ = omega arith in absurd f
take_drop (suc i) (suc m) [] l = refl
take_drop (suc i) (suc m) (r ∷ rs) l = ap (λ (t : List ShelfRecord). r ∷ t) (take_drop i m rs (omega arith))

-- before the place nothing moves
pub take_before : (i : ℕ) (rs : List ShelfRecord) → take i (drop_at i rs) ≡ take i rs
unfolding drop_at
take_before zero rs = refl
take_before (suc i) [] = refl
take_before (suc i) (r ∷ rs) = ap (λ (t : List ShelfRecord). r ∷ t) (take_before i rs)

-- from it on each record is the next one
pub drop_next : (i j : ℕ) (rs : List ShelfRecord) → i ≤ j → get_or (drop_at i rs) j no_record ≡ get_or rs (suc j) no_record
unfolding drop_at
drop_next zero j [] l = refl
drop_next zero j (r ∷ rs) l = refl
drop_next (suc i) zero rs l = let f : ⊥ = omega arith in absurd f
drop_next (suc i) (suc j) [] l = refl
drop_next (suc i) (suc j) (r ∷ rs) l = drop_next i j rs (omega arith)
