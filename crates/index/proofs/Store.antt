-- Frames end to end in one store. Assumes nothing.
use mathlib.Core.Path.{◌≡◌, refl, sym, ap, ◌∙◌}
use mathlib.Core.List.{List, [], ◌∷◌, ◌++◌, append_assoc, append-nil}
use Prim.Native.Nat.{ℕ, zero, suc, ◌+◌, ◌<◌, ◌≤◌}
use native.Mathlib.Omega.{arith}
use lib.ListN.{length, take, drop, length-append}
use lib.Seq.{take-append-le, drop-append-add}
use borrow.Author.Tests.{le-leb}
use Rattle.field.specs.Records.{bytes_of}
use Rattle.rules.specs.declared.Held.{Held}
use Rattle.rules.specs.Values.{Frame, frame_at, part_bytes, used}
use Rattle.rules.specs.Plan.{offset_of, bytes_at}
use Rattle.tables.specs.Index.{store_of}

pub store_length : (fs : List Frame) → length (store_of fs) ≡ used fs
unfolding store_of bytes_of used
store_length [] = refl
store_length (f ∷ fs) = length-append f.bytes (store_of fs) ∙ ap (λ (n : ℕ). length f.bytes + n) (store_length fs)

pub store_snoc : (fs : List Frame) (f : Frame) → store_of (fs ++ (f ∷ [])) ≡ store_of fs ++ f.bytes
unfolding store_of bytes_of
store_snoc [] f = append-nil f.bytes
store_snoc (x ∷ fs) f = ap (λ (b : List ℕ). x.bytes ++ b) (store_snoc fs f) ∙ sym (append_assoc x.bytes (store_of fs) f.bytes)

-- the bytes of frame i begin where plan says
store_at : (fs : List Frame) (rest : List ℕ) (i n : ℕ) → i < length fs → n ≤ length (frame_at fs i).bytes
    → (used (take i fs) + n ≤ length (store_of fs ++ rest)) × (take n (drop (used (take i fs)) (store_of fs ++ rest)) ≡ take n (frame_at fs i).bytes)
unfolding store_of bytes_of used
store_at [] rest i n l b = let z : ⊥ = omega arith in absurd z
store_at (f ∷ fs) rest zero n l b =
    rw (append_assoc f.bytes (store_of fs) rest) (omega (arith, length-append f.bytes (store_of fs ++ rest)), take-append-le n f.bytes (store_of fs ++ rest) b)
store_at (f ∷ fs) rest (suc i) n l b =
    let r = store_at fs rest i n (omega arith) b in let x = r.0 in
    rw (append_assoc f.bytes (store_of fs) rest)
    (omega (arith, length-append f.bytes (store_of fs ++ rest)), rw (drop-append-add f.bytes (store_of fs ++ rest) (used (take i fs))) r.1)

-- a part's bytes lie in the store where plan says
pub store_part : (fs : List Frame) (rest : List ℕ) (p : Held) → p.frame < length fs → p.len ≤ length (frame_at fs p.frame).bytes
    → bytes_at (store_of fs ++ rest) (offset_of fs p.frame) p.len ≡ part_bytes fs p
unfolding bytes_at
store_part fs rest p l b =
    let r = store_at fs rest p.frame p.len l b in
    rw (le-leb (offset_of fs p.frame + p.len) (length (store_of fs ++ rest)) r.0) r.1
