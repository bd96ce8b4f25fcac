-- Every r-th checkpoint, copied one after another. Assumes nothing.
use mathlib.Core.Path.{◌≡◌, refl, sym, ap, ◌∙◌}
use mathlib.Core.List.{List, [], ◌∷◌, ◌++◌, append_assoc}
use Prim.Native.Nat.{ℕ, suc, ◌+◌, ◌*◌, ◌<◌, ◌≤◌}
use native.Mathlib.Nat.{mul_assoc}
use native.Mathlib.Omega.{arith}
use lib.ListN.{length, get_or, take, drop, length-append, length-drop}
use lib.Seq.{take_at, take-suc, take_all, drop-append-add, drop-drop, length-take-le}
use Rattle.field.specs.Records.{Bytes, bytes_of, record_at}
use Rattle.field.proofs.Bytes.{bytes_part}
use Rattle.field.proofs.Records.{records_length, records_at}
use Rattle.field.proofs.Format.{bytes_of_append, bytes_of_one, bytes_of_length}
use Rattle.rules.specs.declared.Checkpoint.{Checkpoint}
use Rattle.rules.specs.Values.{no_checkpoint}
use Rattle.rules.specs.File.{encode_checkpoint, decode_checkpoint, over}
use Rattle.rules_coarsen.specs.Coarse.{every_nth}
use Rattle.laws.proofs.Layouts.{checkpoint_layout}
use Rattle.tables.specs.Tables.{checkpoints_in}
use Rattle.coarsen.specs.Steps.{Keeps}
use Rattle.coarsen.proofs.Every.{up→, kept_at, every_length}

module _ (n m r : ℕ) (t : List ℕ) (k : Keeps n m r t) where
  pub inside : {j : ℕ} → j < m → j * r < n
  inside {j} l = up→ n r j k.ratio (let q = k.kept in omega arith)

  pub place : (j : ℕ) → j * (r * 24) ≡ j * r * 24
  place j = sym (mul_assoc j r 24)

  -- the bytes of the next one lie in t
  pub reach : {j : ℕ} → j < m → j * (r * 24) + 24 ≤ n * 24
  reach {j} l = let i = inside l in rw (place j) (omega arith)

module _ (n m r : ℕ) (t u0 : List ℕ) where
  abbrev pub kept_ones : List Checkpoint
  kept_ones = every_nth r (checkpoints_in n t)

  -- j of them are copied
  pub record Copying (j : ℕ) (u : List ℕ) : Type 0 where
    pub within : j ≤ m
    pub bytes : u ≡ over (bytes_of encode_checkpoint (take j kept_ones)) u0

  pub copying_start : Copying 0 u0
  unfolding bytes_of
  copying_start = record { within = omega arith; bytes = refl }

  module _ (k : Keeps n m r t) where
    kept_length : length kept_ones ≡ m
    kept_length = every_length r k.ratio (checkpoints_in n t) ∙ rw (records_length 24 decode_checkpoint n t, ← k.kept)

    front_length : {j : ℕ} → j ≤ m → length (bytes_of encode_checkpoint (take j kept_ones)) ≡ j * 24
    front_length {j} l = bytes_of_length checkpoint_layout (take j kept_ones) ∙ rw (length-take-le j kept_ones (let e = kept_length in omega arith))

    module _ (b : Bytes t) {j : ℕ} {u : List ℕ} (c : Copying j u) (l : j < m) where
      one : take 24 (drop (j * (r * 24)) t) ≡ encode_checkpoint (get_or kept_ones j no_checkpoint)
      one =
          let i = inside n m r t k l in let p = k.there in
          let e : get_or kept_ones j no_checkpoint ≡ record_at 24 decode_checkpoint t (j * r) =
          kept_at r k.ratio (checkpoints_in n t) no_checkpoint j ∙ records_at 24 decode_checkpoint n t (j * r) no_checkpoint i in
          let long : length (take 24 (drop (j * r * 24) t)) ≡ 24 = length-take-le 24 (drop (j * r * 24) t) (simp length-drop (omega arith)) in
          rw (place n m r t k j, e) (sym (checkpoint_layout.forth (take 24 (drop (j * r * 24) t)) long (bytes_part t (j * r * 24) 24 b)))

      pub copying_on : {u' : List ℕ} → u' ≡ take (j * 24) u ++ (take 24 (drop (j * (r * 24)) t) ++ drop (j * 24 + 24) u) → Copying (j + 1) u'
      copying_on {u'} h =
          let f = front_length c.within in
          let xs = bytes_of encode_checkpoint (take j kept_ones) in
          let x = get_or kept_ones j no_checkpoint in
          let more : bytes_of encode_checkpoint (take (j + 1) kept_ones) ≡ xs ++ encode_checkpoint x =
          ap (λ (i : ℕ). bytes_of encode_checkpoint (take i kept_ones)) (let e : j + 1 ≡ suc j = omega arith in e)
          ∙ rw (take-suc kept_ones j no_checkpoint (let e = kept_length in omega arith), bytes_of_append encode_checkpoint (take j kept_ones) (x ∷ []), bytes_of_one encode_checkpoint x) in
          let first : take (j * 24) u ≡ xs = ap (take (j * 24)) c.bytes ∙ take_at xs (drop (length xs) u0) (j * 24) f in
          let rest : drop (j * 24 + 24) u ≡ drop (j * 24 + 24) u0 =
          ap (drop (j * 24 + 24)) c.bytes ∙ rw (← f) (drop-append-add xs (drop (length xs) u0) 24 ∙ drop-drop 24 (length xs) u0) in
          let size : length (xs ++ encode_checkpoint x) ≡ j * 24 + 24 = rw (length-append, f, checkpoint_layout.size x) in
          record {
            within = omega arith;
            bytes = h ∙ rw (first, one, rest, more, size) (sym (append_assoc xs (encode_checkpoint x) (drop (j * 24 + 24) u0)));
          }

    pub copying_end : {j : ℕ} {u : List ℕ} → Copying j u → m ≤ j → u ≡ over (bytes_of encode_checkpoint kept_ones) u0
    copying_end {j} {u} c l = c.bytes ∙ rw (take_all j kept_ones (let e = kept_length in omega arith))
