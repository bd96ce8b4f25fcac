-- Laws of records by value and of a table of them. Assumes nothing.
use Rattle.std.specs.Prelude.{Option, None, Some}
use mathlib.Core.Path.{◌≡◌, refl, sym, ap, ap₂, ◌∙◌}
use mathlib.Core.Bool.{Bool, true, false, ◌&&◌, not, and-true}
use mathlib.Core.List.{List, [], ◌∷◌, ◌++◌}
use Prim.Native.Nat.{ℕ, suc, ◌+◌, ◌-◌, ◌<◌, ◌≤◌}
use native.Mathlib.Omega.{arith}
use native.Mathlib.Numerals.{add-one}
use borrow.Author.Tests.{ltb-true, ltb-false, leb-true, eqb-true, eqb-false, ne_eqb, lt-ltb, le-ltb, le-leb, lt-leb}
use lib.Dec.{eqb, leb, ltb}
use lib.ListN.{length, get_or, take, drop, set, length-set, length-take, length-drop}
use lib.ListN.{drop_of_length-le}
use lib.Seq.{take-suc, take-suc-set, get_or-take, take_all, take-set-lt}
use Rattle.rules.specs.declared.Area.{Area}
use Rattle.rules.specs.Values.{max64, same_area}
use Rattle.rules.specs.Tests.{all, Ask, ask, first_no, Answer, Refused, Accepted, after}
use Rattle.rules.proofs.Tests.{test, never, all→, asked as asked-yes}
use Rattle.rules_shelf.specs.declared.ShelfRecord.{ShelfRecord}
use Rattle.rules_shelf.specs.Shelf.{no_record, area_of, record_of, sum, area_place, among, no_two, drop_at, without, older, oldest_of, oldest, roomy, make_room, staying, entered, restamped, jumped, questions, entering, jumped_in, jumping}
use Rattle.rules_shelf.proofs.Laws.{place_later, place_here, no_two_step, sum_at, sum_take_suc, drop_length, drop_none}
use Rattle.rules_shelf.proofs.Laws.{take_drop, take_before, drop_next, oldest_lt, oldest_take, made}
use Rattle.rules_shelf.proofs.Laws.{made_more, roomy_none}
use Rattle.sections.specs.Sections.{asked}
use Rattle.sections.proofs.Questions.{numbered as in_order, first_refuses, first_passes}
use Rattle.rules_shelf.specs.declared.Shelf.{Shelf}
use Rattle.shelf.specs.declared.Change.{Change}
use Rattle.shelf.specs.declared.Kept.{Kept}
use Rattle.shelf.specs.Shelf.{answer, some_of}
use Rattle.shelf.specs.Steps.{told, new_of, Changes, Sound, Stands, list_of}

-- ---- one record more
-- what `pushed` ensures
abbrev pub Pushed : Kept → ShelfRecord → Kept → Type 0
Pushed a r b = (b.all ≡ set a.all a.n r) × (b.n ≡ a.n + 1)

pub push_stands : (a : Kept) (rs : List ShelfRecord) (r : ShelfRecord) (b : Kept) → Stands a rs → a.n < 64
    → Pushed a r b → Stands b (rs ++ r ∷ [])
push_stands a rs r b h l p =
    let w : length a.all ≡ 64 = h.sound.wide in
    let w' : length b.all ≡ 64 = ap length p.0 ∙ length-set a.all a.n r ∙ w in
    let m : b.n ≡ suc a.n = p.1 ∙ add-one a.n in
    let e : take (suc a.n) (set a.all a.n r) ≡ take a.n a.all ++ (r ∷ []) = take-suc-set a.all a.n
    r (omega arith) in
    let s : take a.n a.all ≡ rs = h.same in
    record { sound = record { few = omega arith; wide = w' }; same = rw (m, p.0, e, s) refl }

-- ---- the records of a value
pub list_length : (k : Kept) → Sound k → length (list_of k) ≡ k.n
list_length k h = let f = h.few in let w = h.wide in simp length-take (omega arith)

list_at : (k : Kept) (i : ℕ) → i < k.n → get_or (list_of k) i no_record ≡ get_or k.all i no_record
list_at k i l = get_or-take k.n k.all i no_record l

-- ---- the place of an area, sought from a place on
pub record Seeking (k : Kept) (a : Area) (from i : ℕ) : Type 0 where
  pub sound : Sound k
  pub inside : i ≤ k.n
  pub same : i + area_place a (drop i (list_of k)) ≡ from + area_place a (drop from (list_of k))

module _ {k : Kept} {a : Area} {from i : ℕ} {r : ShelfRecord} {b : Bool} (s : Seeking k a from i) where
  seek_is : i < k.n → r ≡ get_or k.all i no_record → b ≡ same_area (area_of r) a
      → same_area (area_of (get_or (list_of k) i no_record)) a ≡ b
  seek_is l e t = ap (λ (x : ShelfRecord). same_area (area_of x) a) (list_at k i l ∙ sym e) ∙ sym t

  pub seek_on : i < k.n → r ≡ get_or k.all i no_record → b ≡ same_area (area_of r) a → b ≡ false
      → Seeking k a from (i + 1)
  seek_on l e t f =
      let w : i < length (list_of k) = rw (list_length k s.sound) l in
      let p : area_place a (drop i (list_of k)) ≡ suc (area_place a (drop (suc i) (list_of k))) = place_later a (list_of k) i w
      (seek_is l e t ∙ f) in
      let q = s.same in
      record { sound = s.sound; inside = omega arith; same = rw (add-one i) (omega arith) }

  pub seek_stop : i < k.n → r ≡ get_or k.all i no_record → b ≡ same_area (area_of r) a → b ≡ true
      → (i ≡ from + area_place a (drop from (list_of k))) × (i ≤ k.n)
  seek_stop l e t f =
      let w : i < length (list_of k) = rw (list_length k s.sound) l in
      let p : area_place a (drop i (list_of k)) ≡ 0 = place_here a (list_of k) i w (seek_is l e t ∙ f) in
      let q = s.same in
      (omega arith, s.inside)

pub seek_end : {k : Kept} {a : Area} {from i : ℕ} → Seeking k a from i → k.n ≤ i
    → (k.n ≡ from + area_place a (drop from (list_of k))) × (k.n ≤ k.n)
unfolding area_place
seek_end {k} {a} {from} {i} s l =
    let m : length (list_of k) ≤ i = rw (list_length k s.sound) l in
    let z : drop i (list_of k) ≡ [] = drop_of_length-le (list_of k) m in
    let p : area_place a (drop i (list_of k)) ≡ 0 = ap (area_place a) z in
    let q = s.same in
    let v = s.inside in
    (omega arith, omega arith)

-- ---- no area under two
pub record Pairing (k : Kept) (i : ℕ) : Type 0 where
  pub sound : Sound k
  pub inside : i ≤ k.n
  pub same : no_two (drop i (list_of k)) ≡ no_two (list_of k)

module _ {k : Kept} {i p : ℕ} {r : ShelfRecord} (s : Pairing k i) (l : i < k.n) (e : r ≡ get_or k.all i no_record)
    (t : p ≡ i + 1 + area_place (area_of r) (drop (i + 1) (list_of k))) where
  behind : Area → Bool
  behind a = among a (drop (suc i) (list_of k))

  pair_is : no_two (drop i (list_of k)) ≡ (not (behind (area_of r)) && no_two (drop (suc i) (list_of k)))
  unfolding behind
  pair_is =
      let w : i < length (list_of k) = rw (list_length k s.sound) l in
      let z : get_or (list_of k) i no_record ≡ r = list_at k i l ∙ sym e in
      no_two_step (list_of k) i w ∙ ap (λ (x : ShelfRecord). not (among (area_of x) (drop (suc i) (list_of k))) && no_two
      (drop (suc i) (list_of k))) z

  place_is : p ≡ suc i + area_place (area_of r) (drop (suc i) (list_of k))
  place_is = t ∙ ap (λ (j : ℕ). j + area_place (area_of r) (drop j (list_of k))) (add-one i)

  length_is : length (drop (suc i) (list_of k)) ≡ k.n - suc i
  length_is = length-drop (suc i) (list_of k) ∙ ap (λ (m : ℕ). m - suc i) (list_length k s.sound)

  pub pair_on : k.n ≤ p → Pairing k (i + 1)
  unfolding behind among
  pair_on h =
      let q = place_is in
      let v = length_is in
      let o : length (drop (suc i) (list_of k)) ≤ area_place (area_of r) (drop (suc i) (list_of k)) = omega arith in
      let f : behind (area_of r) ≡ false = le-ltb _ _ o in
      record { sound = s.sound; inside = omega arith; same = rw (add-one i) (sym (pair_is ∙ rw f) ∙ s.same) }

  pub pair_stop : p < k.n → false ≡ no_two (list_of k)
  unfolding behind among
  pair_stop h =
      let q = place_is in
      let v = length_is in
      let o : area_place (area_of r) (drop (suc i) (list_of k)) < length (drop (suc i) (list_of k)) = omega arith in
      let f : behind (area_of r) ≡ true = lt-ltb _ _ o in
      sym (pair_is ∙ rw f) ∙ s.same

pub pair_end : {k : Kept} {i : ℕ} → Pairing k i → k.n ≤ i → true ≡ no_two (list_of k)
unfolding no_two
pair_end {k} {i} s l =
    let m : length (list_of k) ≤ i = rw (list_length k s.sound) l in sym (ap no_two (drop_of_length-le (list_of k) m))
    ∙ s.same

-- ---- the sum of lengths, taken from room
module _ (rs : List ShelfRecord) (i left room : ℕ) (e : sum (take i rs) + left ≡ room) where
  pub sum_on : i < length rs → (get_or rs i no_record).len ≤ left
      → sum (take (i + 1) rs) + (left - (get_or rs i no_record).len) ≡ room
  sum_on l h = let q = sum_take_suc rs i l in rw (add-one i) (omega arith)

  pub sum_stop : i < length rs → left < (get_or rs i no_record).len → false ≡ leb (sum rs) room
  sum_stop l h = let q = sum_at rs i l in sym (lt-leb (sum rs) room (omega arith))

  pub sum_end : length rs ≤ i → true ≡ leb (sum rs) room
  sum_end l = let z = ap sum (take_all i rs l) in sym (le-leb (sum rs) room (omega arith))

-- ---- one record dropped: those behind it move up, one after the other
pub record Shifting (k : Kept) (i : ℕ) (b : Kept) (j : ℕ) : Type 0 where
  pub sound : Sound k
  pub low : i ≤ j
  pub count : b.n + 1 ≡ k.n
  pub wide : length b.all ≡ 64
  pub same : take j b.all ≡ take j (drop_at i k.all)

pub shift_start : (k : Kept) (i : ℕ) → Sound k → i < k.n → Shifting k i (record { all = k.all; n = k.n - 1 }) i
shift_start k i h l = record {
  sound = h;
  low = omega arith;
  count = omega arith;
  wide = h.wide;
  same = sym
      (take_before i k.all);
}

pub shift_on : {k b b' : Kept} {i j : ℕ} → Shifting k i b j → j < b.n
    → b'.all ≡ set b.all j (get_or k.all (j + 1) no_record) → b'.n ≡ b.n → Shifting k i b' (j + 1)
shift_on {k} {b} {b'} {i} {j} s l d m =
    let r : ShelfRecord = get_or k.all (j + 1) no_record in
    let w : length b.all ≡ 64 = s.wide in
    let w' : length k.all ≡ 64 = s.sound.wide in
    let f : k.n ≤ 64 = s.sound.few in
    let lo : i ≤ j = s.low in
    let z : b.n + 1 ≡ k.n = s.count in
    let x : r ≡ get_or (drop_at i k.all) j no_record = ap (λ (m : ℕ). get_or k.all m no_record) (add-one j)
    ∙ sym (drop_next i j k.all lo) in
    let y : length (drop_at i k.all) + 1 ≡ length k.all = drop_length i k.all (omega arith) in
    let p : take (suc j) (set b.all j r) ≡ take j b.all ++ (r ∷ []) = take-suc-set b.all j r (omega arith) in
    let q : take (suc j) (drop_at i k.all) ≡ take j (drop_at i k.all) ++ (get_or (drop_at i k.all) j no_record
    ∷ []) = take-suc (drop_at i k.all) j no_record (omega arith) in
    record {
      sound = s.sound;
      low = omega arith;
      count = omega arith;
      wide = ap length d ∙ length-set b.all j r ∙ w;
      same = rw (add-one j) (ap (take (suc j)) d ∙ p ∙ ap₂ (λ (t : List ShelfRecord) (y : ShelfRecord). t ++ (y ∷ []))
          s.same x ∙ sym q);
    }

pub shift_end : {k b : Kept} {i j : ℕ} → Shifting k i b j → j ≡ b.n
    → (Stands b (drop_at i (list_of k))) × (b.n + 1 ≡ k.n)
shift_end {k} {b} {i} {j} s m =
    let f : k.n ≤ 64 = s.sound.few in
    let z : b.n + 1 ≡ k.n = s.count in
    let n : suc j ≡ k.n = omega arith in (
      record {
        sound = record { few = omega arith; wide = s.wide };
        same = ap (λ (x : ℕ). take x b.all) (sym m) ∙ s.same ∙ take_drop i j k.all s.low
            ∙ ap (λ (x : ℕ). drop_at i (take x k.all)) n;
      },
      z,
    )

-- ---- making room
pub record Making (k : Kept) (room : ℕ) (b : Kept) : Type 0 where
  pub sound : Sound b
  pub same : make_room b.n room (list_of b) ≡ make_room k.n room (list_of k)

pub make_start : (k : Kept) (room : ℕ) → Sound k → Making k room k
make_start k room h = record { sound = h; same = refl }

-- where there is no room there is a record
make_some : {k b : Kept} {room : ℕ} {t : Bool} → Making k room b → t ≡ roomy room (list_of b) → t ≡ false → 0 < b.n
make_some {k} {b} {room} s e f =
    test (ltb 0 b.n) (λ y. ltb-true 0 b.n y)
    (λ y.
    let z : b.n ≡ 0 = let g = ltb-false 0 b.n y in omega arith in
    never {b = false} (sym f ∙ e ∙ ap (λ (n : ℕ). roomy room (take n b.all)) z ∙ roomy_none room) refl)

pub make_oldest : {k b : Kept} {room i : ℕ} {t : Bool} → Making k room b → t ≡ roomy room (list_of b) → t ≡ false
    → i ≡ oldest_of b.all b.n → i < b.n
make_oldest {k} {b} {room} s e f o =
    let p : 0 < b.n = make_some s e f in
    let z : suc (b.n - 1) ≡ b.n = omega arith in
    let l : oldest_of b.all (suc (b.n - 1)) < suc (b.n - 1) = oldest_lt b.all (b.n - 1) in
    rw o (rw z at l)

pub make_on : {k b b' : Kept} {room i : ℕ} {t : Bool} → Making k room b → t ≡ roomy room (list_of b) → t ≡ false
    → i ≡ oldest_of b.all b.n
    → (Stands b' (drop_at i (list_of b))) × (b'.n + 1 ≡ b.n) → Making k room b'
make_on {k} {b} {b'} {room} {i} s e f o d =
    let q : oldest (list_of b) ≡ i = ap (oldest_of (list_of b)) (list_length b s.sound)
    ∙ oldest_take b.all b.n b.n (omega arith) ∙ sym o in
    let n : b.n ≡ suc b'.n = let m = d.1 in omega arith in
    let p : make_room (suc b'.n) room (list_of b) ≡ make_room b'.n room
    (drop_at (oldest (list_of b)) (list_of b)) = made_more b'.n room (list_of b) (sym e ∙ f) in
    record {
      sound = d.0.sound;
      same =
          ap (make_room b'.n room) d.0.same ∙ ap (λ (x : ℕ). make_room b'.n room (drop_at x (list_of b))) (sym q)
          ∙ sym p
          ∙ ap (λ (x : ℕ). make_room x room (list_of b)) (sym n) ∙ s.same;
    }

pub make_end : {k b : Kept} {room : ℕ} {t : Bool} → Making k room b → t ≡ roomy room (list_of b) → t ≡ true
    → (Stands b (make_room k.n room (list_of k))) × (b.n < 64)
unfolding roomy
make_end {k} {b} {room} s e f =
    let r : roomy room (list_of b) ≡ true = sym e ∙ f in
    let h = all→ (ltb (length (list_of b)) 64 ∷ leb (sum (list_of b)) room ∷ []) r in
    let l : length (list_of b) < 64 = ltb-true _ _ h.0 in
    let m = list_length b s.sound in
    (record { sound = s.sound; same = sym (made b.n room (list_of b) r) ∙ s.same }, omega arith)

-- ---- the oldest
module _ (rs : List ShelfRecord) (i : ℕ) where
  oldest_more : oldest_of rs (i + 1) ≡ older rs (oldest_of rs i) i
  unfolding oldest_of
  oldest_more = rw (add-one i)

  pub oldest_later : (get_or rs i no_record).stamp < (get_or rs (oldest_of rs i) no_record).stamp
      → oldest_of rs (i + 1) ≡ i
  unfolding older
  oldest_later l = oldest_more ∙ rw lt-ltb

  pub oldest_kept : (get_or rs (oldest_of rs i) no_record).stamp ≤ (get_or rs i no_record).stamp
      → oldest_of rs (i + 1) ≡ oldest_of rs i
  unfolding older
  oldest_kept l = oldest_more ∙ rw le-ltb

-- ---- without the record of an area
module _ (k : Kept) (a : Area) {i : ℕ} (e : i ≡ area_place a (list_of k)) where
  pub without_some : {b : Kept} → Stands b (drop_at i (list_of k)) → Stands b (without a (list_of k))
  unfolding without
  without_some h = rw (← e) h

  pub without_none : Sound k → k.n ≤ i → Stands k (without a (list_of k))
  unfolding without
  without_none h l =
      let m : length (list_of k) ≤ area_place a (list_of k) = let n = list_length k h in omega arith in
      record { sound = h; same = sym (drop_none (area_place a (list_of k)) (list_of k) m) }

pub roomy_is : (k : Kept) (room : ℕ) {t : Bool} → Sound k → t ≡ leb (sum (list_of k)) room
    → (ltb k.n 64 && t) ≡ roomy room (list_of k)
unfolding roomy all
roomy_is k room h e = rw (list_length k h, e) (ap (λ (b : Bool). ltb k.n 64 && b)
    (sym (and-true (leb (sum (list_of k)) room))))

-- ---- entering, and another stamp
pub entered_stands : (k : Kept) {o s b : Kept} {r : ShelfRecord} (x : Shelf) (a : Area) (len : ℕ)
    → Stands o (without a (list_of k))
    → (Stands s (make_room o.n (x.limit - len) (list_of o))) × (s.n < 64) → r ≡ record_of a len (x.count + 1)
    → Pushed s r b
    → Stands b (entered x (list_of k) a len)
unfolding entered staying
entered_stands k {o} {s} {b} {r} x a len ho hs e p =
    let n : o.n ≡ length (without a (list_of k)) = sym (list_length o ho.sound) ∙ ap length ho.same in
    let z : make_room o.n (x.limit - len) (list_of o) ≡ make_room (length (without a (list_of k))) (x.limit - len)
    (without a (list_of k)) =
    ap₂ (λ (m : ℕ) (t : List ShelfRecord). make_room m (x.limit - len) t) n ho.same in
    let h : Stands s (make_room (length (without a (list_of k))) (x.limit - len) (without a (list_of k))) = record
    { sound = hs.0.sound; same = hs.0.same ∙ z } in
    rw e at (push_stands s (make_room (length (without a (list_of k))) (x.limit - len) (without a (list_of k))) r b h
    hs.1 p)

pub restamped_stands : {k b : Kept} {r q : ShelfRecord} (i stamp : ℕ) → Sound k → i < k.n
    → q ≡ get_or k.all i no_record → r ≡ record_of (area_of q) q.len stamp
    → b.all ≡ set k.all i r → b.n ≡ k.n → Stands b (restamped (list_of k) i stamp)
unfolding restamped
restamped_stands {k} {b} {r} {q} i stamp h l e d w m =
    let f : k.n ≤ 64 = h.few in
    let z : r ≡ record_of (area_of (get_or (list_of k) i no_record)) (get_or (list_of k) i no_record).len stamp =
    d ∙ ap (λ (y : ShelfRecord). record_of (area_of y) y.len stamp) (e ∙ sym (list_at k i l)) in
    record {
      sound = record { few = omega arith; wide = ap length w ∙ length-set k.all i r ∙ h.wide };
      same = ap₂ take m w ∙ take-set-lt k.n k.all i r l ∙ ap (set (list_of k) i) z;
    }

-- ---- questions
pub asked_last : {n : ℕ} (qs : List Ask) (b : Bool) (m : ℕ) → in_order qs ≡ true → n ≡ asked (first_no qs) b m
    → n ≡ first_no (qs ++ ask b m ∷ [])
unfolding asked first_no
asked_last qs b m h e =
    test (eqb (first_no qs) 0) (λ z. e ∙ rw z (sym (first_passes qs (ask b m ∷ []) h (eqb-true _ _ z))))
    (λ z. e ∙ rw z (sym (first_refuses qs (ask b m ∷ []) (eqb-false _ _ z))))

-- ---- what a call changes
module _ {c : Change} {k : Kept} (x : Shelf) (r : Answer (Option (List ShelfRecord))) where
  pub changes_refused : (number : ℕ) → Sound k → (c.all ≡ k.all) × (c.n ≡ 0) × (c.answer ≡ answer number 0
      x.present x.count) → r ≡ Refused number → Changes c x r
  unfolding told new_of
  changes_refused number h e d =
      let n : c.n ≡ 0 = e.1 in
      record { answers = rw d e.2; few = omega arith; wide = ap length e.0 ∙ h.wide; new = rw (d, n) }

  pub changes_absent : Sound k → (c.all ≡ k.all) × (c.n ≡ 0) × (c.answer ≡ answer 0 1 x.present x.count)
      → r ≡ Accepted None → Changes c x r
  unfolding told new_of
  changes_absent h e d =
      let n : c.n ≡ 0 = e.1 in
      record { answers = rw d e.2; few = omega arith; wide = ap length e.0 ∙ h.wide; new = rw (d, n) }

  pub changes_done : (new : List ShelfRecord) → Stands k new
      → (c.all ≡ k.all) × (c.n ≡ k.n) × (c.answer ≡ answer 0 0 k.n (x.count + 1)) → r ≡ Accepted (Some new)
      → Changes c x r
  unfolding told new_of
  changes_done new h e d =
      let n : c.n ≡ k.n = e.1 in
      let m : k.n ≡ length new = sym (list_length k h.sound) ∙ ap length h.same in
      let f : k.n ≤ 64 = h.sound.few in
      record {
        answers = rw d (e.2 ∙ ap (λ (z : ℕ). answer 0 0 z (x.count + 1)) m);
        few = omega arith;
        wide = ap length e.0 ∙ h.sound.wide;
        new = rw d (ap₂ take n e.0 ∙ h.same);
      }

-- ---- the answers
module _ {A : Type 0} (qs : List Ask) (y : Answer A) {n : ℕ} (e : n ≡ first_no qs) where
  after_refused : (n ≡ 0 → ⊥) → after (first_no qs) y ≡ Refused n
  unfolding after
  after_refused h = rw (← e) (rw (ne_eqb n 0 h))

  after_done : n ≡ 0 → after (first_no qs) y ≡ y
  unfolding after
  after_done h = rw (← e) (rw h)

module _ (x : Shelf) (room : ℕ) (rs : List ShelfRecord) (a : Area) (len : ℕ) {n : ℕ}
    (e : n ≡ first_no (questions x room rs a (ask (leb len x.limit) 50 ∷ []))) where
  pub enter_refused : (n ≡ 0 → ⊥) → some_of (entering x room rs a len) ≡ Refused n
  unfolding entering some_of
  enter_refused h = ap some_of (after_refused (questions x room rs a (ask (leb len x.limit) 50 ∷ []))
      (Accepted (entered x rs a len)) e h)

  -- what 51 and 50 say
  pub enter_fits : n ≡ 0 → (x.count < max64) × (len ≤ x.limit)
  enter_fits h =
      let y = asked-yes (questions x room rs a (ask (leb len x.limit) 50 ∷ [])) refl (sym e ∙ h) in
      (ltb-true x.count max64 y.1.1.1.0, leb-true len x.limit y.1.1.1.1.0)

  pub enter_done : n ≡ 0 → some_of (entering x room rs a len) ≡ Accepted (Some (entered x rs a len))
  unfolding entering some_of
  enter_done h = ap some_of (after_done (questions x room rs a (ask (leb len x.limit) 50 ∷ []))
      (Accepted (entered x rs a len)) e h)

module _ (x : Shelf) (room : ℕ) (k : Kept) (a : Area) {n : ℕ} (e : n ≡ first_no (questions x room (list_of k) a [])) where
  pub jump_refused : (n ≡ 0 → ⊥) → jumping x room (list_of k) a ≡ Refused n
  unfolding jumping
  jump_refused h = after_refused (questions x room (list_of k) a []) (Accepted (jumped_in x (list_of k) a)) e h

  jump_is : n ≡ 0 → jumping x room (list_of k) a ≡ Accepted (jumped_in x (list_of k) a)
  unfolding jumping
  jump_is h = after_done (questions x room (list_of k) a []) (Accepted (jumped_in x (list_of k) a)) e h

  pub jump_fits : n ≡ 0 → x.count < max64
  jump_fits h = ltb-true x.count max64 (asked-yes (questions x room (list_of k) a []) refl (sym e ∙ h)).1.1.1.0

  pub jump_absent : n ≡ 0 → Sound k → {i : ℕ} → i ≡ area_place a (list_of k) → i ≡ k.n
      → jumping x room (list_of k) a ≡ Accepted None
  unfolding jumped_in among
  jump_absent h s {i} d m =
      let z = list_length k s in
      let o : length (list_of k) ≤ area_place a (list_of k) = omega arith in
      jump_is h ∙ rw (le-ltb (area_place a (list_of k)) (length (list_of k)) o)

  pub jump_done : n ≡ 0 → Sound k → {i : ℕ} → i ≡ area_place a (list_of k) → i < k.n
      → jumping x room (list_of k) a ≡ Accepted (Some (restamped (list_of k) i (x.count + 1)))
  unfolding jumped_in among jumped
  jump_done h s {i} d m =
      let z = list_length k s in
      let o : area_place a (list_of k) < length (list_of k) = omega arith in
      jump_is h ∙ rw (lt-ltb (area_place a (list_of k)) (length (list_of k)) o, ← d)
