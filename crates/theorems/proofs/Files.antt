-- The area that a file is of is loading's. Assumes nothing.
use Prim.Native.Nat.{ℕ}
use mathlib.Core.Path.{◌≡◌, refl, ap, subst}
use mathlib.Core.Bool.{Bool, true, false}
use mathlib.Core.List.{List, [], ◌∷◌}
use native.Mathlib.Omega.{arith}
use lib.Dec.{eqb}
use lib.ListN.{length, drop}
use Rattle.rules.specs.declared.Area.{Area}
use Rattle.rules.specs.Tests.{ask, first_no, Answer, Refused, Accepted, after}
use Rattle.rules.specs.Values.{Index, same_key}
use Rattle.rules.specs.File.{read_header}
use Rattle.rules.specs.Load.{key_of, body_in, file_number, header_number, from_bytes}
use Rattle.rules.proofs.Same.{same_key_self}
use Rattle.rules.proofs.Tests.{test, never, asked, after→, accepted→}
use Rattle.sizes.specs.Sizes.{range_of, before_sum, file_area}
use Rattle.theorems.specs.Demand1.{among}
use Rattle.theorems.specs.Player.{FileAreaIsLoadings}
use Rattle.theorems.proofs.Demand1.{Only, only_after, only_wider, of_sections, only_sections}

-- a number that refuses
refused→ : {A : Type 0} (m : ℕ) (x : A) (n : ℕ) → after m (Accepted x) ≡ Refused n → (eqb m 0 ≡ false) × (m ≡ n)
unfolding after
refused→ {A} m x n h =
    test (eqb m 0)
    (λ e. let q : ◌≡◌ {A = Answer A} (Accepted x) (Refused n) = rw e at h in let z : ◌≡◌ {A = ℕ} 0 1 = cc
    in let f : ⊥ = omega arith in absurd f)
    (λ e. let q : ◌≡◌ {A = Answer A} (Refused m) (Refused n) = rw e at h in (e, cc))

before→ : (m n : ℕ) → eqb (before_sum m) 0 ≡ false → before_sum m ≡ n → (eqb m 0 ≡ false) × (m ≡ n)
unfolding before_sum
before→ m n e q = test (eqb m 22) (λ h. never (rw h refl) e) (λ h. (rw h at e, rw h at q))

refused_too : (b : List ℕ) (n : ℕ) → file_area b ≡ Refused n → (a : Area) → from_bytes a b ≡ Refused n
unfolding file_area from_bytes after
refused_too b n e a =
    let r = refused→ (before_sum (file_number b)) (range_of (key_of (read_header (body_in b)))) n e in
    let m = before→ (file_number b) n r.0 r.1 in
    rw m.0 (ap (λ (k : ℕ). Refused k) m.1)

-- ---- 26
abbrev except26 : List ℕ
except26 = 20 ∷ 21 ∷ 22 ∷ 23 ∷ 24 ∷ 25 ∷ 27 ∷ 28 ∷ 29 ∷ 30 ∷ of_sections

-- 26 is answered yes
passed_26 : (p q r s t u v w : Bool) (x : Answer Index) → Only except26 x
    → Only except26 (after (first_no (ask p 23 ∷ ask q 24 ∷ ask r 25 ∷ ask true 26 ∷ ask s 27 ∷ ask t 28 ∷ ask u 29
    ∷ ask v 28 ∷ ask w 30 ∷ [])) x)
unfolding first_no among
passed_26 p q r s t u v w x o =
    only_after except26 (ask p 23 ∷ ask q 24 ∷ ask r 25 ∷ ask s 27 ∷ ask t 28 ∷ ask u 29 ∷ ask v 28 ∷ ask w 30 ∷ [])
    x refl o

pub other_number : (a : Area) (b : List ℕ) → same_key (key_of (read_header (body_in b))) a.key ≡ true
    → Only except26 (from_bytes a b)
unfolding from_bytes file_number header_number among
other_number a b e =
    only_after except26 _ _ refl (rw e (passed_26 _ _ _ _ _ _ _ _ _
    (only_wider of_sections except26 _ refl (only_sections a _ _))))

-- the key of the area that is given
given_key : (b : List ℕ) (a : Area) → file_area b ≡ Accepted a → same_key (key_of (read_header (body_in b))) a.key ≡ true
unfolding file_area range_of
given_key b a e =
    let q : range_of (key_of (read_header (body_in b)))
    ≡ a = (accepted→ (before_sum (file_number b)) (range_of (key_of (read_header (body_in b)))) a e).1 in
    subst (λ (c : Area). same_key (key_of (read_header (body_in b))) c.key ≡ true) q
    (same_key_self (key_of (read_header (body_in b))))

area_there : (b : List ℕ) → file_number b ≡ 0 → file_area b ≡ Accepted (range_of (key_of (read_header (body_in b))))
unfolding file_area before_sum after
area_there b e = rw e refl

loads_under : (a : Area) (b : List ℕ) (x : Index) → from_bytes a b ≡ Accepted x → (c : Area)
    × (file_area b ≡ Accepted c) × (same_key c.key a.key ≡ true)
unfolding from_bytes header_number range_of
loads_under a b x e =
    let f = after→ (file_number b) _ x e in
    let h = after→ (header_number a (read_header (body_in b)) (length (drop 80 (body_in b)))) _ x f.1 in
    (range_of (key_of (read_header (body_in b))), area_there b f.0, (asked _ refl h.0).1.1.1.0)

pub file_area_is_loadings : FileAreaIsLoadings
unfolding among
file_area_is_loadings =
    record {
      refused = refused_too;
      accepted = λ b a e z. never ((other_number a b (given_key b a e)).number 26 z) refl;
      loads = loads_under;
    }
