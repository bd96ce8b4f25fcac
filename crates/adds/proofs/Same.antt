-- Things that are the same are equal, and each is the same as itself. Assumes nothing.
use Rattle.std.specs.Prelude.{Option, None, Some}
use mathlib.Core.Path.{◌≡◌, refl, ap}
use mathlib.Core.Bool.{Bool, true, false}
use borrow.Author.Tests.{eqb-true}
use Rattle.field.proofs.Bytes.{same_refl, same_true}
use Rattle.rules.specs.declared.Fingerprint.{Fingerprint}
use Rattle.rules.specs.declared.Fingerprint.TheVariants.{Unknown, Checked}
use Rattle.rules.specs.declared.Fingerprint.TheVariants as fingerprint
use Rattle.rules.specs.declared.Held.{Held}
use Rattle.rules.specs.Values.{Frame}
use Rattle.rules.proofs.Tests.{never, all→, →all}
use Rattle.rules.proofs.Same.{eqb_self, same_kind_self, same_kind_eq}
use Rattle.rules_lacks.proofs.Laws.{same_signed_self, same_signed_eq}
use Rattle.adds.specs.Adds.{same_known, same_frame, same_held, same_fingerprint}

module _ {A : Type 0} (same : A → A → Bool) where
  pub same_known_self : ((a : A) → same a a ≡ true) → (o : Option A) → same_known same o o ≡ true
  unfolding same_known
  same_known_self self None = refl
  same_known_self self (Some a) = self a

  pub same_known_eq : ((a b : A) → same a b ≡ true → a ≡ b) → (o p : Option A) → same_known same o p ≡ true → o ≡ p
  unfolding same_known
  same_known_eq eq None None e = refl
  same_known_eq eq None (Some b) e = never {b = false} e refl
  same_known_eq eq (Some a) None e = never {b = false} e refl
  same_known_eq eq (Some a) (Some b) e = ap Some (eq a b e)

pub same_frame_self : (f : Frame) → same_frame f f ≡ true
unfolding same_frame
same_frame_self f = →all _ (eqb_self f.start, (same_refl f.bytes, tt))

pub same_frame_eq : (f g : Frame) → same_frame f g ≡ true → f ≡ g
unfolding same_frame
same_frame_eq f g e =
    let t = all→ _ e in
    let e0 : f.start ≡ g.start = eqb-true _ _ t.0 in
    let e1 : f.bytes ≡ g.bytes = same_true _ _ t.1.0 in
    λ i. record { start = e0 i; bytes = e1 i }

pub same_held_self : (p : Held) → same_held p p ≡ true
unfolding same_held
same_held_self p =
    →all _ (
      eqb_self p.at,
      (
        eqb_self p.frame,
        (
          eqb_self p.len,
          (eqb_self p.number, (same_kind_self p.kind, (same_signed_self p.remaining, tt))),
        ),
      ),
    )

pub same_held_eq : (p q : Held) → same_held p q ≡ true → p ≡ q
unfolding same_held
same_held_eq p q e =
    let t = all→ _ e in
    let e0 : p.at ≡ q.at = eqb-true _ _ t.0 in
    let e1 : p.frame ≡ q.frame = eqb-true _ _ t.1.0 in
    let e2 : p.len ≡ q.len = eqb-true _ _ t.1.1.0 in
    let e3 : p.number ≡ q.number = eqb-true _ _ t.1.1.1.0 in
    let e4 : p.kind ≡ q.kind = same_kind_eq _ _ t.1.1.1.1.0 in
    let e5 : p.remaining ≡ q.remaining = same_signed_eq _ _ t.1.1.1.1.1.0 in
    λ i. record { at = e0 i; frame = e1 i; len = e2 i; number = e3 i; kind = e4 i; remaining = e5 i }

pub same_fingerprint_self : (f : Fingerprint) → same_fingerprint f f ≡ true
unfolding same_fingerprint
same_fingerprint_self Unknown = refl
same_fingerprint_self (fingerprint.Held v) = eqb_self v
same_fingerprint_self (Checked v) = eqb_self v

pub same_fingerprint_eq : (f g : Fingerprint) → same_fingerprint f g ≡ true → f ≡ g
unfolding same_fingerprint
same_fingerprint_eq Unknown Unknown e = refl
same_fingerprint_eq Unknown (fingerprint.Held w) e = never {b = false} e refl
same_fingerprint_eq Unknown (Checked w) e = never {b = false} e refl
same_fingerprint_eq (fingerprint.Held v) Unknown e = never {b = false} e refl
same_fingerprint_eq (fingerprint.Held v) (fingerprint.Held w) e = ap fingerprint.Held (eqb-true v w e)
same_fingerprint_eq (fingerprint.Held v) (Checked w) e = never {b = false} e refl
same_fingerprint_eq (Checked v) Unknown e = never {b = false} e refl
same_fingerprint_eq (Checked v) (fingerprint.Held w) e = never {b = false} e refl
same_fingerprint_eq (Checked v) (Checked w) e = ap Checked (eqb-true v w e)
