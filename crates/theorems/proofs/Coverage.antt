-- The row of a file is what loading it gives. Assumes nothing.
use Prim.Native.Nat.{ℕ, ◌*◌, ◌≤◌, ◌<◌}
use mathlib.Core.Path.{◌≡◌, refl, sym}
use mathlib.Core.Bool.{Bool, true, false}
use mathlib.Core.List.{List, [], ◌∷◌}
use native.Mathlib.Omega.{arith}
use lib.Dec.{eqb, leb}
use borrow.Author.Tests.{eqb-true, eqb-false}
use lib.ListN.{length, drop}
use Rattle.rules.specs.declared.Area.{Area}
use Rattle.rules.specs.Tests.{all, Ask, ask, Answer, Refused, Accepted, first_no, after, bind}
use Rattle.rules.specs.Values.{Index, Lengths}
use Rattle.rules.specs.Questions.{area_ok, question3, question4}
use Rattle.rules.specs.File.{read_header}
use Rattle.rules.specs.Load.{body_in, header_number, file_number, from_bytes, limited, load}
use Rattle.rules.proofs.Tests.{test, never, asked, asked→, after→, accepted→, and_right, →after, refused_after}
use Rattle.laws.proofs.Limit.{large_limit}
use Rattle.rules_coverage.specs.declared.Row.{Row}
use Rattle.rules_coverage.specs.Coverage.{key_in, area_in, range_ok, row_from, row_of}
use Rattle.theorems.specs.Demand1.{among}
use Rattle.theorems.specs.Coverage.{OwnKey, OwnSlot, RowIsLoading}
use Rattle.theorems.proofs.Files.{other_number}
use Rattle.rules.proofs.Same.{same_key_self}

refused_below : (q : Answer Index) (n : ℕ) → bind q (λ x. Accepted (row_from x)) ≡ Refused n → q ≡ Refused n
unfolding bind
refused_below (Refused m) n e = cc
refused_below (Accepted x) n e = let z : ◌≡◌ {A = ℕ} 0 1 = cc in let f : ⊥ = omega arith in absurd f

accepted_below : (q : Answer Index) (r : Row) → bind q (λ x. Accepted (row_from x)) ≡ Accepted r → (x : Index)
    × ((q ≡ Accepted x) × (r ≡ row_from x))
unfolding bind
accepted_below (Refused m) r e = let z : ◌≡◌ {A = ℕ} 0 1 = cc in let f : ⊥ = omega arith in absurd f
accepted_below (Accepted x) r e = (x, (refl, cc))

loaded_below : (q : Answer Index) (f : Index → Answer Index) (y : Index) → bind q f ≡ Accepted y → (x : Index)
    × ((q ≡ Accepted x) × (f x ≡ Accepted y))
unfolding bind
loaded_below (Refused m) f y e = let z : ◌≡◌ {A = ℕ} 0 1 = cc in let g : ⊥ = omega arith in absurd g
loaded_below (Accepted x) f y e = (x, (refl, e))

own_26 : (b : List ℕ) (s e : ℕ) → row_of b s e ≡ Refused 26 → from_bytes (area_in b s e) b ≡ Refused 26
unfolding row_of first_no after
own_26 b s e h =
    test (range_ok s e) (λ o. refused_below (from_bytes (area_in b s e) b) 26 (rw o at h))
    (λ o. let q : ◌≡◌ {A = Answer Row} (Refused 1) (Refused 26) = rw o at h in let z : ◌≡◌ {A = ℕ} 1 26 = cc
    in let f : ⊥ = omega arith in absurd f)

pub own_key : OwnKey
unfolding among
own_key b s e h = never ((other_number (area_in b s e) b (same_key_self (key_in b))).number 26 (own_26 b s e h)) refl

-- ---- a slot above 1
file_low : (a b c : Bool) → first_no (ask a 20 ∷ ask b 21 ∷ ask c 22 ∷ []) < 25
unfolding first_no
file_low false b c = omega arith
file_low true false c = omega arith
file_low true true false = omega arith
file_low true true true = omega arith

slot_low : (v c : Bool) (qs : List Ask) → c ≡ false → let n = first_no (ask v 23 ∷ ask c 24 ∷ qs) in (n < 25)
    × (n ≡ 0 → ⊥)
unfolding first_no
slot_low false c qs e = (omega arith, λ z. omega arith)
slot_low true c qs e = rw e (omega arith, λ z. omega arith)

slot_refused : (a : Area) (b : List ℕ) → leb (read_header (body_in b)).slot 1 ≡ false → (n : ℕ)
    × ((from_bytes a b ≡ Refused n) × (n < 25))
unfolding from_bytes header_number file_number
slot_refused a b h =
    let h' = slot_low _ _ _ h in
    test (eqb (file_number b) 0)
    (λ z. (_, (→after (eqb-true (file_number b) 0 z) (refused_after _ _ h'.1), h'.0)))
    (λ z. (file_number b, (refused_after _ _ (eqb-false (file_number b) 0 z), file_low _ _ _)))

pub own_slot_refused : OwnSlot
unfolding row_of first_no after bind
own_slot_refused b s e o h = let r = slot_refused (area_in b s e) b h in (r.0, (rw (o, r.1.0) refl, r.1.1))

own_slot : (a : Area) (b : List ℕ) (x : Index) → from_bytes a b ≡ Accepted x → leb (read_header (body_in b)).slot 1 ≡ true
unfolding from_bytes header_number
own_slot a b x e =
    let f = after→ (file_number b) _ x e in
    let h = after→ (header_number a (read_header (body_in b)) (length (drop 80 (body_in b)))) _ x f.1 in
    (asked _ refl h.0).1.0

area_ok_lemma : (b : List ℕ) (s e : ℕ) → leb (read_header (body_in b)).slot 1 ≡ true → range_ok s e ≡ true
    → area_ok (area_in b s e) ≡ true
unfolding area_ok range_ok all
area_ok_lemma b s e p o = rw p o

range_ok_lemma : (b : List ℕ) (s e : ℕ) → area_ok (area_in b s e) ≡ true → range_ok s e ≡ true
unfolding area_ok range_ok all
range_ok_lemma b s e o = and_right (leb (key_in b).slot 1) _ o

row_read : (b : List ℕ) (s e : ℕ) (r : Row) → row_of b s e ≡ Accepted r → (range_ok s e ≡ true)
    × ((x : Index) × ((from_bytes (area_in b s e) b ≡ Accepted x) × (r ≡ row_from x)))
unfolding row_of first_no after
row_read b s e r h =
    test (range_ok s e) (λ o. (o, accepted_below (from_bytes (area_in b s e) b) r (rw o at h)))
    (λ o. let q : ◌≡◌ {A = Answer Row} (Refused 1) (Accepted r) = rw o at h in let z : ◌≡◌ {A = ℕ} 0 1 = cc
    in let f : ⊥ = omega arith in absurd f)

load_of : (l : Lengths) (b : List ℕ) (s e limit : ℕ) (x : Index) → range_ok s e ≡ true → from_bytes (area_in b s e) b
    ≡ Accepted x → question3 l (limited limit x) ≡ true
    → load l (area_in b s e) b limit ≡ Accepted (limited limit x)
unfolding load first_no after bind
load_of l b s e limit x o p q = rw (area_ok_lemma b s e (own_slot (area_in b s e) b x p) o, p, q)

-- the two questions that a load asks around the file
load_read : (l : Lengths) (b : List ℕ) (s e limit : ℕ) (y : Index) → load l (area_in b s e) b limit ≡ Accepted y
    → (area_ok (area_in b s e) ≡ true) × ((x : Index)
    × ((from_bytes (area_in b s e) b ≡ Accepted x) × (limited limit x ≡ y)))
unfolding load
load_read l b s e limit y h =
    let f = asked→ _ _ y refl h in
    let g = loaded_below (from_bytes (area_in b s e) b) _ y f.1 in
    (f.0.0, (g.0, (g.1.0, (accepted→ _ (limited limit g.0) y g.1.1).1)))

pub row_of_lemma : (b : List ℕ) (s e : ℕ) (x : Index) → range_ok s e ≡ true → from_bytes (area_in b s e) b ≡ Accepted x
    → row_of b s e ≡ Accepted (row_from x)
unfolding row_of first_no after bind
row_of_lemma b s e x o p = rw (o, p)

loaded_row : (l : Lengths) (b : List ℕ) (s e limit : ℕ) (y : Index) → load l (area_in b s e) b limit ≡ Accepted y
    → (x : Index) × ((y ≡ limited limit x) × (row_of b s e ≡ Accepted (row_from x)))
loaded_row l b s e limit y h =
    let w = load_read l b s e limit y h in
    (w.1.0, (sym w.1.1.1, row_of_lemma b s e w.1.0 (range_ok_lemma b s e w.0) w.1.1.0))

same_numbers : (limit : ℕ) (x : Index) → question4 x ≡ true → x.scan.budget ≤ limit → 16 * x.hinting.most ≤ limit
    → row_from (limited limit x) ≡ row_from x
unfolding row_from
same_numbers limit x q b m = rw (large_limit limit x q b m)

pub row_is_loading : RowIsLoading
row_is_loading =
    record {
      loads = λ b s e r h. let w = row_read b s e r h
          in (w.1.0, (w.1.1.1, λ l limit q. load_of l b s e limit w.1.0 w.0 w.1.1.0 q));
      accepted = loaded_row;
      numbers = same_numbers;
    }
