-- std's words for the bytes of a number, and for equality of bytes. Assumes nothing.
use mathlib.Core.Path.{◌≡◌, refl, sym, ap, ◌∙◌}
use mathlib.Core.Bool.{false}
use mathlib.Core.List.{List, [], ◌∷◌, append_assoc}
use Prim.Native.Nat.{ℕ, zero, suc, ◌+◌, ◌*◌, ◌/◌, ◌%◌, ◌^◌, ◌≤◌}
use native.Mathlib.Nat.{mul_comm, zero-add, add-zero, div-div-eq-div-mul}
use native.Mathlib.Omega.{arith, pow_step}
use lib.Dec.{eqb}
use lib.ListN.{length, take, drop, get_or}
use lib.Pointwise.{pointwise}
use lib.Seq.{drop-drop}
use borrow.Rule.Slice.PartMut.{put_mid}
use borrow.Author.Tests.{le-leb}
use Rattle.std.specs.Int.{byte_worth, sum_through, bytes_low_first}
use Rattle.field.specs.Number.{encode, number_at, put, same_bytes}
use Rattle.field.proofs.Bytes.{same_false}
use Rattle.field.proofs.Number.{number_more, number_none, number_join, number_part, put_split}

-- a byte is a number
pub number_one : (t : List ℕ) (i : ℕ) → number_at 1 t i ≡ get_or t i 0
number_one t i = rw (number_more, number_none) (omega arith)

-- a number of four bytes
pub number_four : (t : List ℕ) (at : ℕ) → number_at 4 t at ≡ get_or t at 0 + get_or t (at + 1) 0 * 256 + get_or t (at + 2) 0 * 65536 + get_or t (at + 3) 0 * 16777216
number_four t at = rw (number_more 3 t at, number_more 2 t (at + 1), number_more 1 t (at + 1 + 1), number_more 0 t (at + 1 + 1 + 1), number_none) (grind arith)

-- the sum of what bytes are worth is their number
worth_sum : (n : ℕ) (bs : List ℕ) → sum_through (λ (i : ℕ). byte_worth i (get_or bs i 0)) n ≡ number_at (suc n) bs 0
worth_sum zero bs = rw number_one
worth_sum (suc n) bs =
    let q : suc n + 1 ≡ suc (suc n) = omega arith in
    let e : number_at (suc n + 1) bs 0 ≡ number_at (suc n) bs 0 + get_or bs (suc n) 0 * 256 ^ suc n =
    number_join (suc n) 1 bs 0 ∙ rw (zero-add, number_one, mul_comm) in
    rw (worth_sum n bs) (sym (rw q at e))

-- a part of t read by std is the number there
pub part_number : (n : ℕ) (t bs : List ℕ) (at : ℕ) → bs ≡ take (suc n) (drop at t)
    → sum_through (λ (i : ℕ). byte_worth i (get_or bs i 0)) n ≡ number_at (suc n) t at
part_number n t bs at e =
    worth_sum n bs ∙ rw e (number_part (suc n) (suc n) at 0 t (le-leb _ _ (omega arith)) ∙ rw add-zero)

-- the bytes that std makes of a number are those that stand for it
low_first : (i k n : ℕ) → bytes_low_first i k n ≡ encode k (n / 256 ^ i)
unfolding encode
low_first i zero n = refl
low_first zero (suc k) n = let e : n / 1 ≡ n = omega arith in rw (e, low_first 1 k n)
low_first (suc i) (suc k) n =
    let p : 256 ^ suc (suc i) ≡ 256 ^ suc i * 256 = rw pow_step (mul_comm 256 (256 ^ suc i)) in
    let e : n / 256 ^ suc i / 256 ≡ n / 256 ^ suc (suc i) = rw p (div-div-eq-div-mul n (256 ^ suc i) 256) in
    rw (e, low_first (suc (suc i)) k n)

pub low_bytes : (w v : ℕ) → bytes_low_first 0 w v ≡ encode w v
low_bytes w v = let e : v / 1 ≡ v = omega arith in low_first 0 w v ∙ rw e

-- what std makes of a number, put over a part of t
pub part_put : (w : ℕ) (t bs : List ℕ) (a k at v : ℕ) → at + w ≤ length t → bs ≡ bytes_low_first 0 w v → a ≡ at → k ≡ w
    → put_mid a k t bs ≡ put w t at v
part_put w t bs a k at v h e p q =
    rw (p, q, e, low_bytes w v, put_split w t at v h, drop-drop, append_assoc)

-- four bytes over a part of t
pub put_four : (t : List ℕ) (at k v : ℕ) → at + 4 ≤ length t → k ≡ 4
    → put_mid at k t (v % 256 ∷ v / 256 % 256 ∷ v / 65536 % 256 ∷ v / 16777216 % 256 ∷ []) ≡ put 4 t at v
put_four t at k v h q = part_put 4 t _ at k at v h refl refl q

-- equality as std has it
pub pointwise_same : (a b : List ℕ) → pointwise eqb a b ≡ same_bytes a b
unfolding same_bytes
pointwise_same [] [] = refl
pointwise_same [] (y ∷ b) = refl
pointwise_same (x ∷ a) [] = refl
pointwise_same (x ∷ a) (y ∷ b) = rw (pointwise_same a b)

-- lists of two lengths are not the same
pub lengths_apart : (a b : List ℕ) → (length a ≡ length b → ⊥) → same_bytes a b ≡ false
lengths_apart a b h = same_false a b (λ e. h (ap length e))
