-- What a cursor's reads tell. Assumes nothing.
use mathlib.Core.Path.{◌≡◌, refl, sym, ◌∙◌}
use mathlib.Core.Bool.{Bool, true, false, cond}
use mathlib.Core.List.{List}
use Prim.Native.Nat.{ℕ, ◌+◌, ◌<◌, ◌≤◌}
use native.Mathlib.Nat.{add-zero}
use native.Mathlib.Omega.{arith}
use borrow.Author.Tests.{leb-true, leb-false, le-leb, lt-leb}
use lib.Dec.{leb}
use lib.IntN.{ℤ}
use lib.ListN.{length, take, drop}
use Rattle.field.specs.Number.{number_at}
use Rattle.field.proofs.Number.{number_drop}
use Rattle.rules.specs.declared.FrameKind.{FrameKind}
use Rattle.rules.specs.declared.Held.{Held}
use Rattle.rules.specs.declared.HintHeader.{HintHeader}
use Rattle.rules.specs.File.{decode_held, kind_of, signed32}
use Rattle.rules.specs.Load.{decode_hint_header}
use Rattle.tables.proofs.Records.{held_made}
use Rattle.inspect.specs.declared.cursor.Cursor.{Cursor}
use Rattle.inspect.specs.declared.cursor.Word.{Word}
use Rattle.inspect.specs.declared.cursor.Word.TheVariants as word
use Rattle.inspect.specs.declared.cursor.Long.{Long}
use Rattle.inspect.specs.declared.cursor.Long.TheVariants as long
use Rattle.inspect.specs.declared.cursor.Pair.{Pair}
use Rattle.inspect.specs.declared.cursor.Pair.TheVariants as pair
use Rattle.inspect.specs.declared.cursor.OneHeld.{OneHeld}
use Rattle.inspect.specs.declared.cursor.OneHeld.TheVariants as held
use Rattle.inspect.specs.declared.cursor.Headed.{Headed}
use Rattle.inspect.specs.declared.cursor.Headed.TheVariants as headed
use Rattle.inspect.specs.Cursors.{to, word_at, long_at, pair_at, held_at, headed_at}

chosen : {B : Type 0} (p : Bool) {x y z : B} → cond p x y ≡ z → (y ≡ z → ⊥) → (p ≡ true) × (x ≡ z)
chosen true e n = (refl, e)
chosen false e n = absurd (n e)

missed : {B : Type 0} (p : Bool) {x z : B} (y : B) → cond p x y ≡ z → (x ≡ z → ⊥) → p ≡ false
missed true y e n = absurd (n e)
missed false y e n = refl

-- ---- a number of w bytes at n, and the cursor behind it
pub record Got (s : List ℕ) (w n v : ℕ) (c : Cursor) : Type 0 where
  pub value : v ≡ number_at w s n
  pub moved : c ≡ to (n + w)
  pub inside : n + w ≤ length s

-- two numbers of 4 bytes
pub record GotPair (s : List ℕ) (n v u : ℕ) (c : Cursor) : Type 0 where
  pub first : v ≡ number_at 4 s n
  pub second : u ≡ number_at 4 s (n + 4)
  pub moved : c ≡ to (n + 8)
  pub inside : n + 8 ≤ length s

-- by the answer r of a read at n
module _ (s : List ℕ) (n : ℕ) where
  pub word_got : {r : Word} {v : ℕ} {c : Cursor} → r ≡ word_at s n → r ≡ word.Number v c → Got s 4 n v c
  unfolding word_at
  word_got {r} {v} {c} o e =
      let p = chosen (leb (n + 4) (length s)) (sym o ∙ e) (λ q. let z : ◌≡◌ {A = ℕ} 0 1 = cc in omega arith) in
      let q : word.Number (number_at 4 s n) (to (n + 4)) ≡ word.Number v c = p.1 in
      record { value = cc; moved = cc; inside = leb-true (n + 4) (length s) p.0 }

  pub word_short : {r : Word} {k : ℕ} → r ≡ word_at s n → r ≡ word.Refused k → length s < n + 4
  unfolding word_at
  word_short o e = leb-false (n + 4) (length s) (missed (leb (n + 4) (length s)) _ (sym o ∙ e) (λ q. let z : ◌≡◌ {A = ℕ} 0 1 = cc in omega arith))

  pub long_got : {r : Long} {v : ℕ} {c : Cursor} → r ≡ long_at s n → r ≡ long.Number v c → Got s 8 n v c
  unfolding long_at
  long_got {r} {v} {c} o e =
      let p = chosen (leb (n + 8) (length s)) (sym o ∙ e) (λ q. let z : ◌≡◌ {A = ℕ} 0 1 = cc in omega arith) in
      let q : long.Number (number_at 8 s n) (to (n + 8)) ≡ long.Number v c = p.1 in
      record { value = cc; moved = cc; inside = leb-true (n + 8) (length s) p.0 }

  pub long_short : {r : Long} {k : ℕ} → r ≡ long_at s n → r ≡ long.Refused k → length s < n + 8
  unfolding long_at
  long_short o e = leb-false (n + 8) (length s) (missed (leb (n + 8) (length s)) _ (sym o ∙ e) (λ q. let z : ◌≡◌ {A = ℕ} 0 1 = cc in omega arith))

  pub pair_got : {r : Pair} {v u : ℕ} {c : Cursor} → r ≡ pair_at s n → r ≡ pair.Numbers v u c → GotPair s n v u c
  unfolding pair_at
  pair_got {r} {v} {u} {c} o e =
      let p = chosen (leb (n + 8) (length s)) (sym o ∙ e) (λ q. let z : ◌≡◌ {A = ℕ} 0 1 = cc in omega arith) in
      let q : pair.Numbers (number_at 4 s n) (number_at 4 s (n + 4)) (to (n + 8)) ≡ pair.Numbers v u c = p.1 in
      record { first = cc; second = cc; moved = cc; inside = leb-true (n + 8) (length s) p.0 }

  pub pair_short : {r : Pair} {k : ℕ} → r ≡ pair_at s n → r ≡ pair.Refused k → length s < n + 8
  unfolding pair_at
  pair_short o e = leb-false (n + 8) (length s) (missed (leb (n + 8) (length s)) _ (sym o ∙ e) (λ q. let z : ◌≡◌ {A = ℕ} 0 1 = cc in omega arith))

-- ---- two numbers
module _ (s : List ℕ) (at : ℕ) where
  pub pair_none : length s < at + 8 → pair.Refused 20 ≡ pair_at s at
  unfolding pair_at
  pair_none h = rw (lt-leb (at + 8) (length s) h)

  pub pair_made : {v u : ℕ} {c d : Cursor} → Got s 4 at v c → Got s 4 (at + 4) u d → pair.Numbers v u d ≡ pair_at s at
  unfolding pair_at
  pair_made g1 g2 =
      let l : at + 8 ≤ length s = omega (arith, g2.inside) in
      let m : at + 4 + 4 ≡ at + 8 = omega arith in
      rw (le-leb (at + 8) (length s) l, g1.value, g2.value, g2.moved, m)

  -- ---- a held part
  pub held_none : length s < at + 24 → held.Refused 20 ≡ held_at s at
  unfolding held_at
  held_none h = rw (lt-leb (at + 24) (length s) h)

  module _ {v u : ℕ} {e : Cursor} (g : GotPair s (at + 8 + 8) v u e) where
    reaches : at + 24 ≤ length s
    reaches = omega (arith, g.inside)

    kind_at : u ≡ number_at 4 s (at + 20)
    kind_at = let m : at + 8 + 8 + 4 ≡ at + 20 = omega arith in rw (← m) g.second

    pub held_kind : 1 < u → held.Refused 33 ≡ held_at s at
    unfolding held_at
    held_kind h = rw (le-leb (at + 24) (length s) reaches, ← kind_at, lt-leb u 1 h)

    pub held_read : {v1 v2 v3 v4 : ℕ} {c d : Cursor} {kind : FrameKind} {remaining : ℤ} → GotPair s at v1 v2 c → GotPair s (at + 8) v3 v4 d → u ≤ 1 → kind ≡ kind_of u
        → remaining ≡ signed32 v → held.Part (record { at = v1; frame = v2; len = v3; number = v4; kind = kind; remaining = remaining }) e ≡ held_at s at
    unfolding held_at
    held_read {v1} {v2} {v3} {v4} g1 g2 h i j =
        let m : at + 8 + 8 + 8 ≡ at + 24 = omega arith in
        let m12 : at + 8 + 4 ≡ at + 12 = omega arith in
        let m16 : at + 8 + 8 ≡ at + 16 = omega arith in
        let n12 : v4 ≡ number_at 4 s (at + 12) = rw (← m12) g2.second in
        let n16 : v ≡ number_at 4 s (at + 16) = rw (← m16) g.first in
        let p = held_made s at g1.first g1.second g2.first n12 kind_at i n16 j in
        rw (le-leb (at + 24) (length s) reaches, ← kind_at, le-leb u 1 h, g.moved, m, ← p)

  -- one that was read
  pub record HeldGot (p : Held) (c : Cursor) : Type 0 where
    pub value : p ≡ decode_held (take 24 (drop at s))
    pub kind : leb (number_at 4 s (at + 20)) 1 ≡ true
    pub moved : c ≡ to (at + 24)
    pub inside : at + 24 ≤ length s

  pub held_got : {r : OneHeld} {p : Held} {c : Cursor} → r ≡ held_at s at → r ≡ held.Part p c → HeldGot p c
  unfolding held_at
  held_got {r} {p} {c} o e =
      let y = chosen (leb (at + 24) (length s)) (sym o ∙ e) (λ q. let z : ◌≡◌ {A = ℕ} 0 1 = cc in omega arith) in
      let w = chosen (leb (number_at 4 s (at + 20)) 1) y.1 (λ q. let z : ◌≡◌ {A = ℕ} 0 1 = cc in omega arith) in
      let q : held.Part (decode_held (take 24 (drop at s))) (to (at + 24)) ≡ held.Part p c = w.1 in
      record { value = cc; kind = w.0; moved = cc; inside = leb-true (at + 24) (length s) y.0 }

  -- ---- the hint section's header
  pub headed_none : length s < at + 24 → headed.Refused 20 ≡ headed_at s at
  unfolding headed_at
  headed_none h = rw (lt-leb (at + 24) (length s) h)

  pub headed_made : {v1 v2 v3 v4 v5 : ℕ} {c d e : Cursor} → Got s 8 at v1 c → GotPair s (at + 8) v2 v3 d → GotPair s (at + 8 + 8) v4 v5 e
      → headed.Header (record { fingerprint = v1; spacing = v2; most = v3; count = v4; zero20 = v5 }) e ≡ headed_at s at
  unfolding headed_at decode_hint_header
  headed_made g1 g2 g3 =
      let l : at + 24 ≤ length s = omega (arith, g3.inside) in
      let m : at + 8 + 8 + 8 ≡ at + 24 = omega arith in
      let m12 : at + 8 + 4 ≡ at + 12 = omega arith in
      let m16 : at + 8 + 8 ≡ at + 16 = omega arith in
      let m20 : at + 8 + 8 + 4 ≡ at + 20 = omega arith in
      rw (le-leb (at + 24) (length s) l, number_drop 8 at s 0, number_drop 4 at s 8, number_drop 4 at s 12, number_drop 4 at s 16, number_drop 4 at s 20, add-zero at)
      (rw (g1.value, g2.first, g2.second, g3.first, g3.second, g3.moved, m12, m, m20, m16))

  -- one that was read
  pub record HeaderGot (g : HintHeader) (c : Cursor) : Type 0 where
    pub value : g ≡ decode_hint_header (drop at s)
    pub moved : c ≡ to (at + 24)
    pub inside : at + 24 ≤ length s

  pub headed_got : {r : Headed} {g : HintHeader} {c : Cursor} → r ≡ headed_at s at → r ≡ headed.Header g c → HeaderGot g c
  unfolding headed_at
  headed_got {r} {g} {c} o e =
      let p = chosen (leb (at + 24) (length s)) (sym o ∙ e) (λ q. let z : ◌≡◌ {A = ℕ} 0 1 = cc in omega arith) in
      let q : headed.Header (decode_hint_header (drop at s)) (to (at + 24)) ≡ headed.Header g c = p.1 in
      record { value = cc; moved = cc; inside = leb-true (at + 24) (length s) p.0 }

  pub headed_short : {r : Headed} {k : ℕ} → r ≡ headed_at s at → r ≡ headed.Refused k → length s < at + 24
  unfolding headed_at
  headed_short o e = leb-false (at + 24) (length s) (missed (leb (at + 24) (length s)) _ (sym o ∙ e) (λ q. let z : ◌≡◌ {A = ℕ} 0 1 = cc in omega arith))
