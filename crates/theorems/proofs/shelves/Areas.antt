-- Areas of the records of a shelf. Assumes nothing.
use mathlib.Core.Path.{◌≡◌, refl, sym, ap, ◌∙◌}
use mathlib.Core.Bool.{true, false, ◌||◌, not}
use mathlib.Core.List.Memᴰ
use mathlib.Core.List.{List, [], ◌∷◌, ◌++◌, Memᴰ}
use mathlib.Core.Logic.{◌⊎◌, inl, inr, ⊎_elim, ◌≢◌}
use Prim.Native.Nat.{ℕ, zero, suc, ◌<◌, ◌≤◌}
use native.Mathlib.Omega.{arith}
use borrow.Author.Tests.{ltb-true, ltb-false, lt-ltb, le-ltb, not-true}
use lib.Dec.{ltb}
use lib.ListN.{length, get_or, take, drop}
use lib.Seq.{split_at}
use Rattle.rules.specs.declared.Area.{Area}
use Rattle.rules.specs.Values.{same_area}
use Rattle.rules.proofs.Same.{same_area_eq, same_area_self}
use Rattle.rules.proofs.Tests.{test, never, and_left, and_right, or_left, or_right}
use Rattle.rules_shelf.specs.declared.ShelfRecord.{ShelfRecord}
use Rattle.rules_shelf.specs.Shelf.{no_record, area_of, area_place, among, no_two, drop_at, without}
use Rattle.rules_shelf.proofs.Laws.{drop_none, drop_at_suc}
use Rattle.theorems.specs.Shelf.{Parted, nothing, stays, goes, Older}
use Rattle.theorems.proofs.shelves.Parting.{one_more, older_more, stay_mem}

abbrev Mem : ShelfRecord → List ShelfRecord → Type 0
Mem r rs = Memᴰ r rs

-- ---- an area among records
among_cons : (b : Area) (r : ShelfRecord) (rs : List ShelfRecord) → among b (r ∷ rs)
    ≡ (same_area (area_of r) b || among b rs)
unfolding among area_place
among_cons b r rs =
    test (same_area (area_of r) b) (λ e. rw e (lt-ltb 0 (suc (length rs)) (omega arith)))
    (λ e.
    test (ltb (area_place b rs) (length rs)) (λ l. rw (e, l)
    (lt-ltb (suc (area_place b rs)) (suc (length rs))
    (let q = ltb-true (area_place b rs) (length rs) l in omega arith)))
    (λ l. rw (e, l) (le-ltb (suc (area_place b rs)) (suc (length rs))
    (let q = ltb-false (area_place b rs) (length rs) l in omega arith))))

pub among_mem : (rs : List ShelfRecord) (r : ShelfRecord) (b : Area) → Mem r rs → area_of r ≡ b → among b rs ≡ true
among_mem [] r b m e = absurd (Memᴰ.not-nil m)
among_mem (q ∷ rs) r b m e =
    ⊎_elim (λ z. among_cons b q rs ∙ or_left (among b rs)
    (ap (λ (x : Area). same_area (area_of q) x) (sym e ∙ ap area_of z) ∙ same_area_self (area_of q)))
    (λ n. among_cons b q rs ∙ or_right (same_area (area_of q) b) (among_mem rs r b n e)) (Memᴰ.cases_cons m)

pub among→ : (rs : List ShelfRecord) (b : Area) → among b rs ≡ true → (r : ShelfRecord) × Mem r rs × (area_of r ≡ b)
unfolding among
among→ [] b e = never {b = ltb (area_place b []) 0} e (le-ltb (area_place b []) 0 (omega arith))
among→ (q ∷ rs) b e =
    test (same_area (area_of q) b) (λ s. (q, Memᴰ.head refl, same_area_eq (area_of q) b s))
    (λ s. let f : among b rs ≡ true = sym (among_cons b q rs ∙ rw s)
    ∙ e in let h = among→ rs b f in (h.0, Memᴰ.tail h.1, h.2))

-- none of an area that is not among them
pub none_of : (rs : List ShelfRecord) (b : Area) → among b rs ≡ false → (r : ShelfRecord) → Mem r rs → area_of r ≢ b
none_of rs b e r m z = never (among_mem rs r b m z) e

-- ---- no area under two
no_two_cons : (r : ShelfRecord) (rs : List ShelfRecord) → no_two (r ∷ rs) ≡ true → (among (area_of r) rs ≡ false)
    × (no_two rs ≡ true)
unfolding no_two
no_two_cons r rs e = (
  not-true _ (and_left (not (among (area_of r) rs)) (no_two rs) e),
  and_right (not (among (area_of r) rs)) (no_two rs) e,
)

no_two→ : (r : ShelfRecord) (rs : List ShelfRecord) → among (area_of r) rs ≡ false → no_two rs ≡ true → no_two (r ∷ rs)
    ≡ true
unfolding no_two
no_two→ r rs e h = rw e h

-- where nothing of an area is among them, it is not
not_among : (rs : List ShelfRecord) (b : Area) → ((r : ShelfRecord) → Mem r rs → area_of r ≢ b) → among b rs ≡ false
not_among rs b f = test (among b rs) (λ e. let h = among→ rs b e in absurd (f h.0 h.1 h.2)) (λ e. e)

pub stay_no_two : {ks gs rs : List ShelfRecord} → Parted ks gs rs → no_two rs ≡ true → no_two ks ≡ true
stay_no_two nothing e = e
stay_no_two (stays {r} {ks} {gs} {rs} h) e =
    let n = no_two_cons r rs e in
    no_two→ r ks (not_among ks (area_of r) (λ q m. none_of rs (area_of r) n.0 q (stay_mem h m))) (stay_no_two h n.1)
stay_no_two (goes {r} {ks} {gs} {rs} h) e = stay_no_two h (no_two_cons r rs e).1

pub last_no_two : (ks : List ShelfRecord) (n : ShelfRecord) → no_two ks ≡ true
    → ((r : ShelfRecord) → Mem r ks → area_of r ≢ area_of n) → no_two (ks ++ n ∷ []) ≡ true
last_no_two [] n e f = no_two→ n [] (not_among [] (area_of n) (λ q m. absurd (Memᴰ.not-nil m))) e
last_no_two (r ∷ ks) n e f =
    let h = no_two_cons r ks e in
    no_two→ r (ks ++ n ∷ [])
    (not_among (ks ++ n ∷ []) (area_of r)
    (λ q m z.
    ⊎_elim (λ k. none_of ks (area_of r) h.0 q k z)
    (λ k. f r (Memᴰ.head refl) (sym z ∙ ap area_of (Memᴰ.eq_of_singleton k)))
    (Memᴰ.append_cases ks m))) (last_no_two ks n h.1 (λ q m. f q (Memᴰ.tail m)))

-- ---- the record of an area
pub place_at : (a : Area) (rs : List ShelfRecord) → area_place a rs < length rs
    → area_of (get_or rs (area_place a rs) no_record) ≡ a
unfolding area_place
place_at a [] l = let f : ⊥ = omega arith in absurd f
place_at a (r ∷ rs) l =
    test (same_area (area_of r) a) (λ e. rw e (same_area_eq (area_of r) a e))
    (λ e. let m : suc (area_place a rs) < suc (length rs) = rw e at l in rw e (place_at a rs (omega arith)))

drop_first : {r : ShelfRecord} (q : ShelfRecord) (rs : List ShelfRecord) → Mem r (drop_at 0 (q ∷ rs)) → Mem r rs
unfolding drop_at
drop_first q rs m = m

absent : (a : Area) (rs : List ShelfRecord) → length rs ≤ area_place a rs → among a rs ≡ false
unfolding among
absent a rs l = le-ltb (area_place a rs) (length rs) l

-- the others are of other areas
others_apart : (a : Area) (rs : List ShelfRecord) → no_two rs ≡ true → area_place a rs < length rs → (r : ShelfRecord)
    → Mem r (drop_at (area_place a rs) rs) → area_of r ≢ a
unfolding area_place
others_apart a [] h l r m = let f : ⊥ = omega arith in absurd f
others_apart a (q ∷ rs) h l r m =
    let n = no_two_cons q rs h in
    test (same_area (area_of q) a)
    (λ e.
    let z : area_of q ≡ a = same_area_eq (area_of q) a e in
    let k : Mem r (drop_at 0 (q ∷ rs)) = rw e at m in
    none_of rs a (rw z at n.0) r (drop_first q rs k))
    (λ e.
    let k : Mem r (drop_at (suc (area_place a rs)) (q ∷ rs)) = rw e at m in
    let j : suc (area_place a rs) < suc (length rs) = rw e at l in
    ⊎_elim (λ z w. never (ap (λ (x : ShelfRecord). same_area (area_of x) a) (sym z) ∙ rw w (same_area_self a)) e)
    (λ i. others_apart a rs n.1 (omega arith) r i)
    (Memᴰ.cases_cons (rw (drop_at_suc (area_place a rs) q rs) at k)))

-- ---- the records of other areas
pub record Others (a : Area) (rs os : List ShelfRecord) : Type 0 where
  pub apart : (r : ShelfRecord) → Mem r os → area_of r ≢ a
  pub within : (ks gs : List ShelfRecord) → Parted ks gs os → (gone : List ShelfRecord) × Parted ks gone rs
      × ((e : ShelfRecord) → Mem e gone → (area_of e ≡ a) ⊎ Mem e gs)
      × ((e : ShelfRecord) → Mem e gs → Mem e gone)
  pub older : (r s : ShelfRecord) → Older os r s → Older rs r s

pub others : (a : Area) (rs : List ShelfRecord) → no_two rs ≡ true → Others a rs (without a rs)
unfolding without drop_at
others a rs h =
    test (ltb (area_place a rs) (length rs))
    (λ e.
    let l = ltb-true (area_place a rs) (length rs) e in
    let i = area_place a rs in
    let d = get_or rs i no_record in
    let p = take i rs in
    let q = drop (suc i) rs in
    let z : p ++ d ∷ q ≡ rs = sym (split_at rs i no_record l) in
    record {
      apart = others_apart a rs h l;
      within =
          λ ks gs w.
          let m = one_more p d q w in (
            m.gone,
            rw z at m.parted,
            (λ x k. ⊎_elim (λ y. inl (rw y (place_at a rs l))) (λ y. inr y)
                (m.back x k)),
            m.forth,
          );
      older = λ r s k. rw z at (older_more p d q k);
    })
    (λ e.
    let l = ltb-false (area_place a rs) (length rs) e in
    let z : drop_at (area_place a rs) rs ≡ rs = drop_none (area_place a rs) rs l in
    record {
      apart = λ r m. none_of rs a (absent a rs l) r (rw z at m);
      within = λ ks gs w. (gs, rw z at w, (λ x k. inr k), (λ x k. k));
      older = λ r s k. rw z at k;
    })

-- a place has a member
pub mem_at : (rs : List ShelfRecord) (i : ℕ) → i < length rs → Mem (get_or rs i no_record) rs
mem_at [] i l = let f : ⊥ = omega arith in absurd f
mem_at (r ∷ rs) zero l = Memᴰ.head refl
mem_at (r ∷ rs) (suc i) l = Memᴰ.tail (mem_at rs i (omega arith))
