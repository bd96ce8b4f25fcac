-- A block that is too short or no head, and one that is not. Assumes nothing.
use mathlib.Core.Path.{◌≡◌, refl, sym}
use mathlib.Core.Bool.{Bool, true, false, not}
use mathlib.Core.List.{List}
use Prim.Native.Nat.{ℕ, ◌≤◌, ◌<◌}
use borrow.Author.Tests.{le-leb, lt-leb}
use lib.ListN.{length}
use Rattle.rules.proofs.Tests.{never}
use Rattle.blocks.specs.Blocks.{is_head}
use Rattle.blocks.proofs.Words.{head_long}
use Rattle.blocks.specs.Calls.{in_block, in_head}

pub too_short : {A : Type 0} (b : List ℕ) (short r : A) → length b < 192 → short ≡ in_block b short r
unfolding in_block in_head
too_short b short r h = rw (lt-leb 192 (length b) h)

pub long_enough : {A : Type 0} (b : List ℕ) (short r : A) {q : A} → 192 ≤ length b → q ≡ r → q ≡ in_block b short r
unfolding in_block in_head
long_enough b short r h e = rw (le-leb 192 (length b) h) e

-- no head; q is what is_index and its like answer
pub no_head : {A : Type 0} (ok : Bool) (none r : A) {q : Bool} → q ≡ ok → not q ≡ true → none ≡ in_head ok none r
unfolding in_head
no_head ok none r {q = false} e f = rw (sym e)
no_head ok none r {q = true} e f = never {b = false} f refl

-- a head
pub is_head_lemma : {A : Type 0} (ok : Bool) (none r : A) {p : A} → ok ≡ true → p ≡ r → p ≡ in_head ok none r
unfolding in_head
is_head_lemma ok none r h e = rw h e

pub known : {ok q : Bool} → q ≡ ok → not q ≡ false → ok ≡ true
known {q = true} e f = sym e
known {q = false} e f = never {b = true} refl f

-- it has 192 bytes
pub known_long : (again : List ℕ → List ℕ) (b : List ℕ) {q : Bool} → q ≡ is_head again b → not q ≡ false → 192 ≤ length b
known_long again b e f = head_long again b (known e f)
