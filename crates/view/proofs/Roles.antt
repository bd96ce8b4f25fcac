-- A role that is not the workshop's, and one that is; q is what is_workshop answers. Assumes nothing.
use mathlib.Core.Path.{◌≡◌, refl, sym}
use mathlib.Core.Bool.{Bool, true, false, not}
use Prim.Native.Nat.{ℕ}
use Rattle.rules.proofs.Tests.{never}
use Rattle.rules_view.specs.View.{is_workshop}
use Rattle.rules_view.specs.Roles.{in_workshop}
use Rattle.blocks.proofs.calls.Blocks.{known}

pub no_workshop : {A : Type 0} (role : ℕ) (refused r : A) {q : Bool} → q ≡ is_workshop role → not q ≡ true
    → refused ≡ in_workshop role refused r
unfolding in_workshop
no_workshop role refused r {q = false} e f = rw (sym e)
no_workshop role refused r {q = true} e f = never {b = false} f refl

pub is_workshop_lemma : {A : Type 0} (role : ℕ) (refused r : A) {p : A} {q : Bool} → q ≡ is_workshop role → not q ≡ false
    → p ≡ r → p ≡ in_workshop role refused r
unfolding in_workshop
is_workshop_lemma role refused r e f g = rw (known e f) g
