-- The disc file as stretches of an output. Assumes nothing.
use mathlib.Core.Path.{◌≡◌, sym, ◌∙◌}
use mathlib.Core.List.{List, [], ◌∷◌, ◌++◌, append_assoc, append-nil}
use Prim.Native.Nat.{ℕ, ◌+◌, ◌-◌, ◌≤◌}
use native.Mathlib.Omega.{arith}
use lib.ListN.{length, take, drop}
use Rattle.field.specs.Number.{encode}
use Rattle.field.specs.Records.{bytes_of}
use Rattle.rules.specs.declared.AreaIndex.{AreaIndex}
use Rattle.rules.specs.Values.{Index}
use Rattle.rules.specs.File.{saved, saved_length, over}
use Rattle.laws.proofs.Length.{saved_length_is}
use Rattle.rules_disc.specs.Disc.{entry, encode_entry, slot_of, entries_from, disc_bytes}
use Rattle.std.specs.Prelude.{ℕ}
use Rattle.tables.specs.Index.{Tables, index_in}
use Rattle.save.specs.Output.{Put}
use Rattle.save.proofs.output.Stretches.{lent, put_both, put_over}
use Rattle.disc_save.specs.Steps.{table_of_two}

-- ---- a list in its stretch
module _ (x : AreaIndex) (t : Tables) (o : List ℕ) (at to len : ℕ) where
  pub put_list_is : {y : List ℕ} → len ≡ saved_length (index_in x t) → to ≡ at + len → to ≤ length o
      → y ≡ over (saved (index_in x t)) (take (to - at) (drop at o))
      → Put (saved (index_in x t)) len o at to (take at o ++ (y ++ drop (to - at) (drop at o)))
  put_list_is l e h v = lent (saved (index_in x t)) len o at to (sym (saved_length_is (index_in x t)).0 ∙ sym l) e h v

-- ---- the file
one_shape : (x : Index) {s m : ℕ} → s ≡ slot_of x → m ≡ saved_length x → (encode 4 1 ++ encode_entry (entry s 16 m)) ++ saved x ≡ disc_bytes (x ∷ [])
unfolding disc_bytes entries_from bytes_of
one_shape x z l = rw (z, l) (simp (append-nil, append_assoc))

two_shape : (x y : Index) {s t m n : ℕ} → s ≡ slot_of x → t ≡ slot_of y → m ≡ saved_length x → n ≡ saved_length y
    → table_of_two s m t n ++ (saved x ++ saved y) ≡ disc_bytes (x ∷ y ∷ [])
unfolding disc_bytes entries_from bytes_of
two_shape x y z w l k = rw (z, w, l, k) (simp (append-nil, append_assoc))

-- the file stands at the start of the output, and has k bytes
pub record Written (b : List ℕ) (k : ℕ) (old new : List ℕ) : Type 0 where
  pub size : length b ≡ k
  pub bytes : new ≡ over b old

written : {s b : List ℕ} {k n : ℕ} {o o' : List ℕ} → s ≡ b → Put s k o 0 n o' → k ≤ length o → Written b k o o'
written e p h = rw (← e) (record { size = p.size; bytes = put_over p h })

pub file_of_one : (x : Index) {o o1 o2 : List ℕ} {s m a b : ℕ} → s ≡ slot_of x → m ≡ saved_length x → 16 + m ≤ length o
    → Put (encode 4 1 ++ encode_entry (entry s 16 m)) 16 o 0 a o1 → Put (saved x) m o1 a b o2 → Written (disc_bytes (x ∷ [])) (16 + m) o o2
file_of_one x z l h p q = written (one_shape x z l) (put_both p q) h

pub file_of_two : (x y : Index) {o o1 o2 o3 : List ℕ} {s t m n a b c : ℕ} → s ≡ slot_of x → t ≡ slot_of y → m ≡ saved_length x → n ≡ saved_length y → 28 + m + n ≤ length o
    → Put (table_of_two s m t n) 28 o 0 a o1 → Put (saved x) m o1 a b o2 → Put (saved y) n o2 b c o3
    → Written (disc_bytes (x ∷ y ∷ [])) (28 + m + n) o o3
file_of_two x y {m = m} {n = n} z w l k h p q r =
    let g : 28 + (m + n) ≡ 28 + m + n = omega arith in
    rw g at (written (two_shape x y z w l k) (put_both p (put_both q r)) (rw g h))
