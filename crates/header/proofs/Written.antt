-- The header written and hashed field by field, by the loop of write_header. Assumes nothing.
use mathlib.Core.Path.{◌≡◌, refl, sym, ap, ◌∙◌}
use mathlib.Core.List.{List, ◌++◌}
use Prim.Native.Nat.{ℕ, ◌+◌, ◌<◌, ◌≤◌}
use native.Mathlib.Numerals.{add-one}
use native.Mathlib.Omega.{arith}
use lib.ListN.{length, get_or, take, drop}
use Rattle.field.specs.Number.{encode, put}
use Rattle.field.proofs.Number.{length_put}
use Rattle.fnv.specs.Fnv.{fnv_from, fnv64, basis64, prime64}
use Rattle.fnv.proofs.Hash.{joined}
use Rattle.rules.specs.File.{field, header_fields, write_fields, header_values, header_bytes}
use Rattle.rules.specs.declared.Header.{Header}
use Rattle.header.specs.Place.{entry, total}
use Rattle.header.proofs.Table.{made, placed}
use Rattle.header.proofs.Places.{so_far, write_next, written_more}

-- t with the first i of the nineteen values, and the hash x of their bytes
pub record Written (t vs out : List ℕ) (x i : ℕ) : Type 0 where
  pub below : i ≤ 19
  pub many : length vs ≡ 19
  pub same : length out ≡ length t
  pub filled : out ≡ so_far header_fields vs t i
  pub hashed : x ≡ fnv64 (write_fields (take i header_fields) vs)

module _ (h : Header) (t vs : List ℕ) (e : vs ≡ header_values h) where
  pub start : Written t vs t basis64 0
  unfolding write_fields fnv_from
  start = record { below = omega arith; many = ap length e; same = refl; filled = refl; hashed = refl }

  pub whole : {out : List ℕ} (x i : ℕ) → Written t vs out x i → 19 ≤ i → (out ≡ header_bytes h ++ drop 80 t) × (x ≡ fnv64 (header_bytes h))
  unfolding header_fields
  whole x i w g = let q : i ≡ 19 = omega (arith, w.below) in (w.filled ∙ rw (q, e), w.hashed ∙ rw (q, e))

nineteen : length header_fields ≡ 19
unfolding header_fields
nineteen = refl

-- every field ends within the 80 bytes
within : (i : ℕ) → i < 19 → total (take i header_fields) + (entry header_fields i).width ≤ 80
unfolding header_fields
within i h = let p = placed 0 header_fields refl i h (made (field 0 0)) in omega (arith, p.sum, p.size, p.within)

pub step : {t vs out out' : List ℕ} {x i y : ℕ} → Written t vs out x i → 80 ≤ length t → i < 19
    → out' ≡ put (entry header_fields i).width out (total (take i header_fields)) (get_or vs i 0)
    → y ≡ fnv_from 64 prime64 x (encode (entry header_fields i).width (get_or vs i 0)) → Written t vs out' y (i + 1)
step {t = t} {vs = vs} {out = out} {x = x} {i = i} w l h e f =
    record {
      below = omega arith;
      many = w.many;
      same = ap length e ∙ length_put (entry header_fields i).width out (total (take i header_fields)) (get_or vs i 0) ∙ w.same;
      filled =
          e
          ∙ rw (w.filled, add-one)
          (write_next header_fields vs t i (omega (arith, nineteen)) (omega (arith, nineteen)) (omega (arith, within i h)));
      hashed =
          f ∙ ap (λ (z : ℕ). fnv_from 64 prime64 z (encode (entry header_fields i).width (get_or vs i 0))) w.hashed
          ∙ sym (joined 64 prime64 basis64 (write_fields (take i header_fields) vs) (encode (entry header_fields i).width (get_or vs i 0)))
          ∙ ap fnv64 (sym (rw (← add-one) at (written_more header_fields vs i (omega (arith, nineteen)) (omega (arith, nineteen, w.many)))));
    }
