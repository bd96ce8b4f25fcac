-- The hints of a table, written one after another without their marks. Assumes nothing.
use mathlib.Core.Path.{◌≡◌, refl, sym, ap, ◌∙◌}
use mathlib.Core.List.{List, ◌++◌}
use Prim.Native.Nat.{ℕ, ◌+◌, ◌*◌, ◌≤◌, ◌<◌}
use native.Mathlib.Omega.{arith}
use lib.ListN.{length, drop, drop_of_length-le}
use lib.Seq.{sets, length-sets}
use Rattle.field.specs.Number.{encode}
use Rattle.field.specs.Records.{bytes_of, record_at}
use Rattle.field.proofs.Bytes.{sets_more}
use Rattle.field.proofs.Records.{records_length}
use Rattle.fnv.specs.Fnv.{fnv_from, prime64}
use Rattle.fnv.proofs.Hash.{joined}
use Rattle.rules.specs.declared.Hint.{Hint}
use Rattle.rules.specs.File.{encode_hint}
use Rattle.laws.proofs.Layouts.{hint_layout}
use Rattle.tables.specs.Tables.{decode_kept, kept_in}
use Rattle.tables.proofs.Walk.{records_turn}
use Rattle.save.specs.Output.{Filled}
use Rattle.save.proofs.output.Stretches.{put_over}
use Rattle.save.proofs.output.Sums.{sum_both}
use Rattle.save.proofs.write.Sections.{records_size}

-- the hash of its two numbers is the hash of the hint
pub hint_hash : (sum x r : ℕ) (h : Hint) → x ≡ fnv_from 64 prime64 sum (encode 4 h.lsn) → r ≡ fnv_from 64 prime64 x (encode 4 h.number)
    → r ≡ fnv_from 64 prime64 sum (encode_hint h)
unfolding encode_hint
hint_hash sum x r h e f = sum_both sum (encode 4 h.lsn) (encode 4 h.number) e f

-- the bytes of the hints from number j on
abbrev left : ℕ → List ℕ → ℕ → List ℕ
left n t j = bytes_of encode_hint (drop j (kept_in n t))

-- j hints are written over old, with the hash x; what is left of them gives the whole, and its hash from u
pub record Hinting (n : ℕ) (t old : List ℕ) (u j x : ℕ) (new : List ℕ) : Type 0 where
  pub within : j ≤ n
  pub bytes : sets new (j * 8) (left n t j) ≡ sets old 0 (bytes_of encode_hint (kept_in n t))
  pub same : length new ≡ length old
  pub hashed : fnv_from 64 prime64 x (left n t j) ≡ fnv_from 64 prime64 u (bytes_of encode_hint (kept_in n t))

module _ (n : ℕ) (t old : List ℕ) (u : ℕ) where
  module _ {j x : ℕ} {new : List ℕ} (i : Hinting n t old u j x new) where
    left_turn : j < n → left n t j ≡ encode_hint (record_at 8 decode_kept t j) ++ left n t (j + 1)
    unfolding bytes_of
    left_turn h = rw (records_turn 8 decode_kept n t j h)

    pub hints_on : {h : Hint} {y : ℕ} {new' : List ℕ} → j < n → h ≡ record_at 8 decode_kept t j
        → new' ≡ sets new (j * 8) (encode_hint h) → y ≡ fnv_from 64 prime64 x (encode_hint h) → Hinting n t old u (j + 1) y new'
    hints_on {h} l e b s =
        let z = encode_hint h in
        let r = left n t (j + 1) in
        let k : (j + 1) * 8 ≡ j * 8 + length z = rw (hint_layout.size h) (omega arith) in
        let turn : left n t j ≡ z ++ r = rw e (left_turn l) in
        record {
          within = omega arith;
          bytes = rw (b, k) (sets_more z r new (j * 8) ∙ ap (sets new (j * 8)) (sym turn) ∙ i.bytes);
          same = ap length b ∙ rw length-sets i.same;
          hashed = ap (λ (v : ℕ). fnv_from 64 prime64 v r) s ∙ sym (joined 64 prime64 x z r) ∙ ap (fnv_from 64 prime64 x) (sym turn) ∙ i.hashed;
        }

    pub hints_end : n ≤ j → n * 8 ≤ length old → Filled (bytes_of encode_hint (kept_in n t)) old u x new
    unfolding bytes_of fnv_from
    hints_end h g =
        let l : length (kept_in n t) ≤ j = rw records_length h in
        let q = drop_of_length-le (kept_in n t) l in
        let e : new ≡ sets old 0 (bytes_of encode_hint (kept_in n t)) = sym (ap (λ (hs : List Hint). sets new (j * 8) (bytes_of encode_hint hs)) q) ∙ i.bytes in
        record {
          bytes = put_over {s = bytes_of encode_hint (kept_in n t)} {o = old} (record { size = records_size 8 decode_kept encode_hint hint_layout.size n t; ends = refl; bytes = e }) g;
          sum = sym (ap (λ (hs : List Hint). fnv_from 64 prime64 x (bytes_of encode_hint hs)) q) ∙ i.hashed;
        }
