-- Words read and written one by one. Assumes nothing.
use mathlib.Core.Path.{◌≡◌, refl, sym, ap, ◌∙◌}
use mathlib.Core.List.{List, [], ◌∷◌, ◌++◌, append-nil}
use Prim.Native.Nat.{ℕ, ◌+◌, ◌*◌, ◌≤◌, ◌<◌}
use native.Mathlib.Nat.{zero-add}
use native.Mathlib.Numerals.{add-one}
use native.Mathlib.Omega.{arith}
use lib.ListN.{length, get_or, take, drop, set}
use lib.Seq.{sets, sets-eq, take-suc, take-length, length-take-le, drop-length}
use mathlib.Core.Bool.{true}
use lib.Dec.{leb}
use borrow.Author.Tests.{leb-true}
use Rattle.field.specs.Number.{encode, decode, number_at, put}
use Rattle.field.specs.Records.{bytes_of}
use Rattle.field.proofs.Bytes.{copied_more, sets_more}
use Rattle.field.proofs.Number.{put_sets, length_put}
use Rattle.field.proofs.Format.{numbers, bytes_of_append, bytes_of_one, bytes_of_length}
use Rattle.field.proofs.Records.{records_at, records_length}
use Rattle.rules.specs.File.{over}
use Rattle.rules.proofs.Tests.{and_left}
use Rattle.blocks.specs.Blocks.{is_head, words_in, block_of}

-- the first i of n words of b read, over the words z
pub record Got (b z ws : List ℕ) (n i : ℕ) : Type 0 where
  pub below : i ≤ n
  pub room : length z ≡ n
  pub words : ws ≡ take i (words_in n b) ++ drop i z

pub got_none : (b z : List ℕ) (n : ℕ) → length z ≡ n → Got b z z n 0
got_none b z n l = record { below = omega arith; room = l; words = refl }

pub got_more : {b z ws : List ℕ} {n i v : ℕ} → Got b z ws n i → i < n → v ≡ number_at 8 b (i * 8) → Got b z (set ws i v) n (i + 1)
unfolding number_at
got_more {b} {z} {ws} {n} {i} {v} g h e =
    let r : v ≡ get_or (words_in n b) i 0 = e ∙ sym (records_at 8 decode n b i 0 h) in
    record {
      below = omega arith;
      room = g.room;
      words = rw (g.words, r) (copied_more z (words_in n b) i (omega (arith, g.room)) (omega (arith, records_length 8 decode n b)));
    }

pub got_all : {b z ws : List ℕ} {n i : ℕ} → Got b z ws n i → n ≤ i → ws ≡ words_in n b
got_all {b} {z} {ws} {n} {i} g h =
    let q : i ≡ n = omega (arith, g.below) in
    let t : take n (words_in n b) ≡ words_in n b = ap (λ (k : ℕ). take k (words_in n b)) (sym (records_length 8 decode n b)) ∙ take-length (words_in n b) in
    let d : drop n z ≡ [] = ap (λ (k : ℕ). drop k z) (sym g.room) ∙ drop-length z in
    g.words ∙ rw (q, t, d) (append-nil (words_in n b))

-- the first i words written over b
pub record Put (b ws out : List ℕ) (i : ℕ) : Type 0 where
  pub below : i ≤ length ws
  pub room : length ws * 8 ≤ length b
  pub same : length out ≡ length b
  pub bytes : out ≡ sets b 0 (block_of (take i ws))

pub put_none : (b ws : List ℕ) → length ws * 8 ≤ length b → Put b ws b 0
unfolding bytes_of
put_none b ws h = record { below = omega arith; room = h; same = refl; bytes = refl }

pub put_more : {b ws out out' : List ℕ} {i : ℕ} → Put b ws out i → i < length ws → out' ≡ put 8 out (i * 8) (get_or ws i 0) → Put b ws out' (i + 1)
put_more {b} {ws} {out} {out'} {i} p h e =
    let l : length (block_of (take i ws)) ≡ i * 8 = bytes_of_length (numbers 8) (take i ws) ∙ ap (λ (k : ℕ). k * 8) (length-take-le i ws (omega arith)) in
    let k : i * 8 ≡ 0 + length (block_of (take i ws)) = omega (arith, l) in
    let t : block_of (take (i + 1) ws) ≡ block_of (take i ws) ++ encode 8 (get_or ws i 0) =
    ap block_of (rw add-one (take-suc ws i 0 h)) ∙ bytes_of_append (encode 8) (take i ws) (get_or ws i 0 ∷ []) ∙ ap (λ (x : List ℕ). block_of (take i ws) ++ x) (bytes_of_one (encode 8) (get_or ws i 0)) in
    record {
      below = omega arith;
      room = p.room;
      same = rw e (length_put 8 out (i * 8) (get_or ws i 0)) ∙ p.same;
      bytes =
          e ∙ put_sets 8 out (i * 8) (get_or ws i 0) ∙ ap (λ (x : List ℕ). sets x (i * 8) (encode 8 (get_or ws i 0))) p.bytes
          ∙ ap (λ (j : ℕ). sets (sets b 0 (block_of (take i ws))) j (encode 8 (get_or ws i 0))) k
          ∙ sets_more (block_of (take i ws)) (encode 8 (get_or ws i 0)) b 0 ∙ ap (sets b 0) (sym t);
    }

pub put_all : {b ws out : List ℕ} {i : ℕ} → Put b ws out i → length ws ≤ i → out ≡ over (block_of ws) b
put_all {b} {ws} {out} {i} p h =
    let q : i ≡ length ws = omega (arith, p.below) in
    let l : length (block_of ws) ≡ length ws * 8 = bytes_of_length (numbers 8) ws in
    p.bytes ∙ ap (λ (k : ℕ). sets b 0 (block_of (take k ws))) q ∙ ap (λ (x : List ℕ). sets b 0 (block_of x)) (take-length ws)
    ∙ sets-eq (block_of ws) b 0 (omega (arith, l, p.room)) ∙ ap (λ (k : ℕ). block_of ws ++ drop k b) (zero-add (length (block_of ws)))

-- ---- is a block a head?
module _ (again : List ℕ → List ℕ) (b : List ℕ) where
  -- a head has 192 bytes
  pub head_long : is_head again b ≡ true → 192 ≤ length b
  unfolding is_head
  head_long e = leb-true 192 (length b) (and_left (leb 192 (length b)) _ e)
