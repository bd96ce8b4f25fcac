-- Laws of what stands for what. Assumes nothing.
use mathlib.Core.Path.{◌≡◌, refl, sym, ap, ◌∙◌}
use mathlib.Core.Bool.{Bool, true, false}
use mathlib.Core.Logic.{⊎_elim}
use mathlib.Core.List.{List, [], ◌∷◌}
use Prim.Native.Nat.{ℕ, zero, suc, ◌+◌, ◌<◌, ◌≤◌}
use native.Mathlib.Nat.{zero-add}
use native.Mathlib.Omega.{arith}
use lib.Dec.{eqb}
use lib.IntN.{ℤ, pos, negsuc}
use lib.ListN.{length, get_or}
use borrow.Author.Tests.{eqb-true, ne_eqb, leb-true, le-leb}
use Rattle.field.proofs.Bytes.{same_refl, same_true}
use Rattle.rules.specs.declared.Confirmation.{Confirmation}
use Rattle.rules.specs.declared.Held.{Held}
use Rattle.rules.specs.declared.Hint.{Hint}
use Rattle.rules.specs.Tests.{each}
use Rattle.rules.specs.Values.{Frame, part_bytes}
use Rattle.rules.specs.Run.{content_of}
use Rattle.rules.specs.Hints.{unkept_hint}
use Rattle.rules.proofs.Tests.{test, never, all→, →all, or_cases, or_left, or_right, each_at, each_of}
use Rattle.rules.proofs.Same.{eqb_self, same_kind_self, same_kind_eq}
use Rattle.rules_lacks.specs.Lacks.{any_of, covers, missing, same_signed, same_part, same_hint, equal_hint, confirms_also}

-- ---- one of xs
-- the place of one that p holds of
pub record Found {A : Type 0} (d : A) (p : A → Bool) (xs : List A) : Type 0 where
  pub place : ℕ
  pub inside : place < length xs
  pub holds : p (get_or xs place d) ≡ true

module _ {A : Type 0} (d : A) (p : A → Bool) where
  pub any→ : (xs : List A) → any_of p xs ≡ true → Found d p xs
  unfolding any_of
  any→ [] e = never {b = false} e refl
  any→ (x ∷ xs) e =
      ⊎_elim (λ h. record { place = 0; inside = omega arith; holds = h })
      (λ h. let f = any→ xs h in let l = f.inside in
      record { place = suc f.place; inside = omega arith; holds = f.holds })
      (or_cases (p x) (any_of p xs) e)

  pub →any : (xs : List A) (i : ℕ) → i < length xs → p (get_or xs i d) ≡ true → any_of p xs ≡ true
  unfolding any_of
  →any [] i l h = let z : ⊥ = omega arith in absurd z
  →any (x ∷ xs) zero l h = or_left (any_of p xs) h
  →any (x ∷ xs) (suc i) l h = or_right (p x) (→any xs i (omega arith) h)

-- ---- covering
module _ {A : Type 0} (d : A) where
  pub covers→ : (stands : A → A → Bool) (xs ys : List A) → covers stands xs ys ≡ true → (i : ℕ) → i < length ys
      → Found d (λ x. stands x (get_or ys i d)) xs
  unfolding covers
  covers→ stands xs ys e i l =
      any→ d (λ x. stands x (get_or ys i d)) xs (each_at (λ y. any_of (λ x. stands x y) xs) d ys i e l)

  pub →covers : (stands : A → A → Bool) (xs ys : List A)
      → ((i : ℕ) → i < length ys → Found d (λ x. stands x (get_or ys i d)) xs)
      → covers stands xs ys ≡ true
  unfolding covers
  →covers stands xs ys f =
      each_of (λ y. any_of (λ x. stands x y) xs) d ys
      (λ i l. let h = f i l in →any d (λ x. stands x (get_or ys i d)) xs h.place h.inside h.holds)

  -- each list covers itself, and covering goes on
  pub covers_self : (stands : A → A → Bool) → ((x : A) → stands x x ≡ true) → (xs : List A) → covers stands xs xs ≡ true
  covers_self stands self xs =
      →covers stands xs xs (λ i l. record { place = i; inside = l; holds = self (get_or xs i d) })

  pub covers_on : (f g h : A → A → Bool) → ((x y z : A) → f x y ≡ true → g y z ≡ true → h x z ≡ true)
      → (xs ys zs : List A)
      → covers f xs ys ≡ true → covers g ys zs ≡ true → covers h xs zs ≡ true
  covers_on f g h on xs ys zs a b =
      →covers h xs zs
      (λ i l. let q = covers→ g ys zs b i l in let p = covers→ f xs ys a q.place q.inside in
      record {
        place = p.place;
        inside = p.inside;
        holds = on (get_or xs p.place d) (get_or ys q.place d)
            (get_or zs i d) p.holds q.holds;
      })

-- ---- remaining
pub same_signed_self : (a : ℤ) → same_signed a a ≡ true
unfolding same_signed
same_signed_self (pos a) = eqb_self a
same_signed_self (negsuc a) = eqb_self a

pub same_signed_eq : (a b : ℤ) → same_signed a b ≡ true → a ≡ b
unfolding same_signed
same_signed_eq (pos a) (pos b) e = ap pos (eqb-true a b e)
same_signed_eq (pos a) (negsuc b) e = never {b = false} e refl
same_signed_eq (negsuc a) (pos b) e = never {b = false} e refl
same_signed_eq (negsuc a) (negsuc b) e = ap negsuc (eqb-true a b e)

-- ---- parts: the same checkpoint and content
pub same_part→ : (fs gs : List Frame) (p q : Held) → same_part fs gs p q ≡ true
    → (p.at ≡ q.at) × (content_of fs p ≡ content_of gs q)
unfolding same_part
same_part→ fs gs p q e =
    let t = all→ _ e in
    let e0 : p.at ≡ q.at = eqb-true _ _ t.0 in
    let e1 : p.number ≡ q.number = eqb-true _ _ t.1.0 in
    let e2 : p.kind ≡ q.kind = same_kind_eq _ _ t.1.1.0 in
    let e3 : p.remaining ≡ q.remaining = same_signed_eq _ _ t.1.1.1.0 in
    let e4 : part_bytes fs p ≡ part_bytes gs q = same_true _ _ t.1.1.1.1.0 in
    (e0, λ i. record { bytes = e4 i; number = e1 i; kind = e2 i; remaining = e3 i })

pub →same_part : (fs gs : List Frame) (p q : Held) → p.at ≡ q.at → content_of fs p ≡ content_of gs q
    → same_part fs gs p q ≡ true
unfolding same_part
→same_part fs gs p q a c =
    let e1 : p.number ≡ q.number = λ i. (c i).number in
    let e2 : p.kind ≡ q.kind = λ i. (c i).kind in
    let e3 : p.remaining ≡ q.remaining = λ i. (c i).remaining in
    let e4 : part_bytes fs p ≡ part_bytes gs q = λ i. (c i).bytes in
    →all _ (
      rw a (eqb_self q.at),
      (
        rw e1 (eqb_self q.number),
        (
          rw e2 (same_kind_self q.kind),
          (rw e3 (same_signed_self q.remaining), (rw e4 (same_refl (part_bytes gs q)), tt)),
        ),
      ),
    )

pub same_part_on : (fs gs hs : List Frame) (p q r : Held) → same_part fs gs p q ≡ true → same_part gs hs q r ≡ true
    → same_part fs hs p r ≡ true
same_part_on fs gs hs p q r a b =
    let x = same_part→ fs gs p q a in let y = same_part→ gs hs q r b in →same_part fs hs p r (x.0 ∙ y.0) (x.1 ∙ y.1)

-- ---- malformed LSNs
pub eqb_on : (a b c : ℕ) → eqb a b ≡ true → eqb b c ≡ true → eqb a c ≡ true
eqb_on a b c p q = rw (eqb-true a b p) q

-- ---- hints: equal but for the mark
pub same_hint_eq : (h k : Hint) → same_hint h k ≡ true → unkept_hint h ≡ unkept_hint k
unfolding same_hint
same_hint_eq h k e =
    let t = all→ _ e in
    let e0 : h.lsn ≡ k.lsn = eqb-true _ _ t.0 in
    let e1 : h.number ≡ k.number = eqb-true _ _ t.1.0 in
    λ i. record { lsn = e0 i; number = e1 i; mark = 0 }

pub same_hint_self : (h : Hint) → same_hint h h ≡ true
unfolding same_hint
same_hint_self h = →all _ (eqb_self h.lsn, (eqb_self h.number, tt))

pub same_hint_on : (h k m : Hint) → same_hint h k ≡ true → same_hint k m ≡ true → same_hint h m ≡ true
unfolding same_hint
same_hint_on h k m a b =
    let t = all→ _ a in let u = all→ _ b in
    →all _ (
      eqb_on h.lsn k.lsn m.lsn t.0 u.0,
      (eqb_on h.number k.number m.number t.1.0 u.1.0, tt),
    )

-- equal with the mark
pub equal_hint_eq : (h k : Hint) → equal_hint h k ≡ true → h ≡ k
unfolding equal_hint
equal_hint_eq h k e =
    let t = all→ _ e in
    let e0 : h.lsn ≡ k.lsn = eqb-true _ _ t.0 in
    let e1 : h.number ≡ k.number = eqb-true _ _ t.1.0 in
    let e2 : h.mark ≡ k.mark = eqb-true _ _ t.1.1.0 in
    λ i. record { lsn = e0 i; number = e1 i; mark = e2 i }

pub equal_hint_self : (h : Hint) → equal_hint h h ≡ true
unfolding equal_hint
equal_hint_self h = →all _ (eqb_self h.lsn, (eqb_self h.number, (eqb_self h.mark, tt)))

-- ---- confirmations
pub record ConfirmsAlso (c d : Confirmation) : Type 0 where
  pub lsn : c.lsn ≡ d.lsn
  pub digest : c.digest ≡ d.digest
  pub threshold : c.threshold ≤ d.threshold

pub confirms→ : (c d : Confirmation) → confirms_also c d ≡ true → ConfirmsAlso c d
unfolding confirms_also
confirms→ c d e =
    let t = all→ _ e in
    record { lsn = eqb-true _ _ t.0; digest = eqb-true _ _ t.1.0; threshold = leb-true _ _ t.1.1.0 }

pub →confirms : (c d : Confirmation) → ConfirmsAlso c d → confirms_also c d ≡ true
unfolding confirms_also
→confirms c d h =
    →all _ (rw h.lsn (eqb_self d.lsn), (rw h.digest (eqb_self d.digest), (le-leb _ _ h.threshold, tt)))

pub confirms_on : (c d e : Confirmation) → confirms_also c d ≡ true → confirms_also d e ≡ true → confirms_also c e ≡ true
confirms_on c d e a b =
    let x = confirms→ c d a in let y = confirms→ d e b in let l = x.threshold in let m = y.threshold in
    →confirms c e (record { lsn = x.lsn ∙ y.lsn; digest = x.digest ∙ y.digest; threshold = omega arith })

-- ---- counts
pub covers_count : {A : Type 0} (stands : A → A → Bool) (xs ys : List A)
    → covers stands xs ys ≡ eqb (missing stands xs ys) 0
unfolding covers missing each
covers_count stands xs [] = refl
covers_count stands xs (y ∷ ys) =
    test (any_of (λ x. stands x y) xs) (λ e. rw (e, zero-add (missing stands xs ys)) (covers_count stands xs ys))
    (λ e. rw (e, ne_eqb (1 + missing stands xs ys) 0 (λ z. omega arith)))

pub none_missing : {A : Type 0} (stands : A → A → Bool) (xs ys : List A) → covers stands xs ys ≡ true
    → missing stands xs ys ≡ 0
none_missing stands xs ys e = eqb-true (missing stands xs ys) 0 (sym (covers_count stands xs ys) ∙ e)
