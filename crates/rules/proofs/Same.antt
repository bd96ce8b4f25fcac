-- Things that are the same are equal, and each is the same as itself. Assumes nothing.
use mathlib.Core.Path.{◌≡◌, refl}
use mathlib.Core.Bool.{true, false}
use Prim.Native.Nat.{ℕ}
use lib.Dec.{eqb}
use borrow.Author.Tests.{eqb-true, eq-eqb}
use Rattle.rules.specs.declared.AreaKey.{AreaKey}
use Rattle.rules.specs.declared.Area.{Area}
use Rattle.rules.specs.declared.Checkpoint.{Checkpoint}
use Rattle.rules.specs.declared.EndState.{EndState}
use Rattle.rules.specs.declared.FrameKind.{FrameKind}
use Rattle.rules.specs.declared.FrameKind.TheVariants.{Dst, Dsd}
use Rattle.rules.specs.Values.{same_kind, same_key, same_area, same_checkpoint, same_end}
use Rattle.rules.proofs.Tests.{never, all→, →all}

pub eqb_self : (n : ℕ) → eqb n n ≡ true
eqb_self n = eq-eqb n n refl

pub same_kind_self : (a : FrameKind) → same_kind a a ≡ true
unfolding same_kind
same_kind_self Dst = refl
same_kind_self Dsd = refl

pub same_kind_eq : (a b : FrameKind) → same_kind a b ≡ true → a ≡ b
unfolding same_kind
same_kind_eq Dst Dst e = refl
same_kind_eq Dst Dsd e = never {b = false} e refl
same_kind_eq Dsd Dst e = never {b = false} e refl
same_kind_eq Dsd Dsd e = refl

pub same_key_self : (a : AreaKey) → same_key a a ≡ true
unfolding same_key
same_key_self a = →all _ (eqb_self a.slot, (eqb_self a.start, (eqb_self a.end, (eqb_self a.channels, (eqb_self a.sectors, tt)))))

pub same_key_eq : (a b : AreaKey) → same_key a b ≡ true → a ≡ b
unfolding same_key
same_key_eq a b e =
    let h = all→ _ e in
    let e0 : a.slot ≡ b.slot = eqb-true _ _ h.0 in
    let e1 : a.start ≡ b.start = eqb-true _ _ h.1.0 in
    let e2 : a.end ≡ b.end = eqb-true _ _ h.1.1.0 in
    let e3 : a.channels ≡ b.channels = eqb-true _ _ h.1.1.1.0 in
    let e4 : a.sectors ≡ b.sectors = eqb-true _ _ h.1.1.1.1.0 in
    λ i. record { slot = e0 i; start = e1 i; end = e2 i; channels = e3 i; sectors = e4 i }

pub same_area_self : (a : Area) → same_area a a ≡ true
unfolding same_area
same_area_self a = →all _ (same_key_self a.key, (eqb_self a.start, (eqb_self a.end, tt)))

pub same_area_eq : (a b : Area) → same_area a b ≡ true → a ≡ b
unfolding same_area
same_area_eq a b e =
    let h = all→ _ e in
    let e0 : a.key ≡ b.key = same_key_eq _ _ h.0 in
    let e1 : a.start ≡ b.start = eqb-true _ _ h.1.0 in
    let e2 : a.end ≡ b.end = eqb-true _ _ h.1.1.0 in
    λ i. record { key = e0 i; start = e1 i; end = e2 i }

pub same_checkpoint_self : (c : Checkpoint) → same_checkpoint c c ≡ true
unfolding same_checkpoint
same_checkpoint_self c = →all _ (eqb_self c.threshold, (eqb_self c.back, (eqb_self c.malformed, (eqb_self c.digest, tt))))

pub same_checkpoint_eq : (c d : Checkpoint) → same_checkpoint c d ≡ true → c ≡ d
unfolding same_checkpoint
same_checkpoint_eq c d e =
    let h = all→ _ e in
    let e0 : c.threshold ≡ d.threshold = eqb-true _ _ h.0 in
    let e1 : c.back ≡ d.back = eqb-true _ _ h.1.0 in
    let e2 : c.malformed ≡ d.malformed = eqb-true _ _ h.1.1.0 in
    let e3 : c.digest ≡ d.digest = eqb-true _ _ h.1.1.1.0 in
    λ i. record { threshold = e0 i; back = e1 i; malformed = e2 i; digest = e3 i }

pub same_end_self : (c : EndState) → same_end c c ≡ true
unfolding same_end
same_end_self c = →all _ (eqb_self c.threshold, (eqb_self c.malformed, tt))

pub same_end_eq : (c d : EndState) → same_end c d ≡ true → c ≡ d
unfolding same_end
same_end_eq c d e =
    let h = all→ _ e in
    let e0 : c.threshold ≡ d.threshold = eqb-true _ _ h.0 in
    let e1 : c.malformed ≡ d.malformed = eqb-true _ _ h.1.0 in
    λ i. record { threshold = e0 i; malformed = e1 i }
