-- What the block of the call for C tells. Assumes nothing.
use mathlib.Core.Path.{◌≡◌, refl, sym, ap, subst, ◌∙◌}
use mathlib.Core.Bool.{Bool, true, false, not, ◌&&◌}
use mathlib.Core.List.{List, [], ◌∷◌}
use Prim.Native.Nat.{ℕ, ◌-◌, ◌≤◌}
use native.Mathlib.Omega.{arith}
use lib.Dec.{eqb, leb, ltb}
use lib.ListN.{length}
use borrow.Author.Tests.{eqb-false, ltb-true}
use Rattle.field.proofs.Format.{Each, none, one, numbers, records_bytes}
use Rattle.field.proofs.Records.{records_length}
use Rattle.rules.specs.declared.AreaIndex.{AreaIndex}
use Rattle.rules.specs.File.{bit, over, decode_checkpoint, decode_held, decode_lsn, decode_confirmation}
use Rattle.tables.specs.Tables.{decode_kept}
use Rattle.rules.specs.Tests.{Answer, Refused, Accepted, number_of, after}
use Rattle.rules.specs.Merge.{merge_number}
use Rattle.rules.proofs.Tests.{test, and_left, all→, →all, accepted→}
use Rattle.rules_lacks.specs.declared.Lacks.{Lacks}
use Rattle.rules_lacks.specs.Lacks.{any_of, missing, lacking, holds_all, lacks}
use Rattle.tables.specs.Index.{Tables, room_of, index_in, kinds_in, or_four, kinded}
use Rattle.lacks.specs.Lacks.{lacks_in}
use Rattle.blocks.specs.Blocks.{index_read, words_in, block_of, is_block, is_index}
use Rattle.blocks.specs.RoundTrip.{Fits32, Fits64}
use Rattle.blocks.specs.Calls.{Called, called, into, in_block, in_head, head_index}
use Rattle.player.specs.Player.{lacks_words, lacks_call}
use Rattle.theorems.specs.LacksPlayer.{LacksTold, lacks_nothing, NothingLackingInC}
use Rattle.theorems.proofs.MergeInTables.{kinded→}
use Rattle.theorems.proofs.lacking.InTables.{nothing_lacking_in_tables}

-- ---- 0 is no refusal
refused_eq : {A : Type 0} {n k : ℕ} → ◌≡◌ {A = Answer A} (Refused n) (Refused k) → n ≡ k
refused_eq e = cc

after_not : {A : Type 0} (n : ℕ) (x : A) (k : ℕ) → after n (Accepted x) ≡ Refused k → k ≡ 0 → ⊥
unfolding after
after_not n x k e z =
    test (eqb n 0) (λ w. let q : Accepted x ≡ Refused k = rw w at e in let f : ◌≡◌ {A = ℕ} 0 1 = cc in omega arith)
    (λ w. let q : n ≡ k = refused_eq (rw w at e) in eqb-false n 0 w (q ∙ z))

four_not : (n : ℕ) → or_four n ≡ 0 → ⊥
unfolding or_four
four_not n e =
    test (ltb 0 n && leb n 3) (λ w. let q : n ≡ 0 = rw w at e in let l = ltb-true 0 n
    (and_left (ltb 0 n) (leb n 3) w) in omega arith)
    (λ w. let q : ◌≡◌ {A = ℕ} 4 0 = rw w at e in omega arith)

kinded_not : {A : Type 0} (ok : Bool) (r : Answer A) (k : ℕ) → kinded ok r ≡ Refused k → (r ≡ Refused k → k ≡ 0 → ⊥)
    → k ≡ 0 → ⊥
unfolding kinded
kinded_not true r k e f z = f e z
kinded_not false r k e f z = four_not (number_of r) (refused_eq e ∙ z)

lacks_not : (x : AreaIndex) (t : Tables) (y : AreaIndex) (u : Tables) (k : ℕ) → lacks_in x t y u ≡ Refused k → k ≡ 0 → ⊥
unfolding lacks
lacks_not x t y u k e = kinded_not (kinds_in x t && kinds_in y u)
    (lacks (room_of t) (index_in x t) (room_of u) (index_in y u)) k e
    (λ d. after_not (merge_number (room_of t) (index_in x t) (room_of u) (index_in y u))
    (lacking (index_in x t) (index_in y u)) k d)

-- ---- blocks
in→ : (ok : Bool) (a b : List ℕ) (r : Called) → in_head ok (called 3 a) r ≡ called 0 b → r ≡ called 0 b
unfolding in_head
in→ ok a b r e =
    test ok (λ w. rw w at e)
    (λ w. let q : called 3 a ≡ called 0 b = rw w at e in let z : ◌≡◌ {A = ℕ} 3 0 = ap (λ (v : Called). v.number) q
    in let f : ⊥ = omega arith in absurd f)

into→ : {A : Type 0} (words : A → List ℕ) (a b : List ℕ) (r : Answer A) → ((k : ℕ) → r ≡ Refused k → k ≡ 0 → ⊥)
    → into words a r ≡ called 0 b
    → (x : A) × (r ≡ Accepted x) × (b ≡ over (block_of (words x)) a)
unfolding into
into→ words a b (Refused n) f e = absurd (f n refl (ap (λ (v : Called). v.number) e))
into→ words a b (Accepted x) f e = (x, refl, sym (ap (λ (v : Called). v.block) e))

-- ---- the counts fit their words
few : {A : Type 0} (stands : A → A → Bool) (xs ys : List A) → missing stands xs ys ≤ length ys
unfolding missing
few stands xs [] = omega arith
few stands xs (y ∷ ys) =
    let h = few stands xs ys in test (any_of (λ x. stands x y) xs) (λ e. rw e (omega arith)) (λ e. rw e (omega arith))

wide : (n m v : ℕ) → v ≤ n → n ≡ m → Fits32 m → Fits64 v
wide n m v l e f = omega arith

bit_fits : (b : Bool) → Fits64 (bit b)
unfolding bit
bit_fits true = omega arith
bit_fits false = omega arith

head_fits : (b : List ℕ) → Fits32 (head_index b).checkpoints
    × (Fits32 (head_index b).parts × (Fits32 (head_index b).malformed
    × (Fits32 (head_index b).hints × Fits32 (head_index b).confirmed)))
unfolding head_index index_read
head_fits b = (omega arith, (omega arith, (omega arith, (omega arith, omega arith))))

module _ (x : AreaIndex) (t : Tables) (y : AreaIndex) (u : Tables) where
  abbrev l : Lacks
  l = lacking (index_in x t) (index_in y u)

  words_fit : Fits32 y.checkpoints → Fits32 y.parts → Fits32 y.malformed → Fits32 y.hints
      → Fits32 y.confirmed → Each Fits64 (lacks_words l)
  unfolding lacks_words lacking
  words_fit c p m h k =
      let z : Fits64 0 = omega arith in
      one (wide _ _ _ (let w : length (index_in y u).scan.checkpoints - length (index_in x t).scan.checkpoints ≤
      length (index_in y u).scan.checkpoints = omega arith in w)
      (records_length 24 decode_checkpoint y.checkpoints u.checkpoints) c)
      (one (bit_fits l.ending)
      (one (wide _ _ _ (few _ _ _) (records_length 24 decode_held y.parts u.parts) p)
      (one (wide _ _ _ (few _ _ _) (records_length 4 decode_lsn y.malformed u.malformed) m)
      (one (wide _ _ _ (few _ _ _) (records_length 8 decode_kept y.hints u.hints) h)
      (one (wide _ _ _ (few _ _ _) (records_length 16 decode_confirmation y.confirmed u.confirmed) k)
      (one (bit_fits l.fingerprint) (one (bit_fits l.image) (one (bit_fits l.budget) (one (bit_fits l.most)
      (one z (one z (one z (one z (one z (one z (one z
      (one z (one z (one z (one z (one z (one z (one z none)))))))))))))))))))))))

-- ---- what is told
words_back : (z : Lacks) (a : List ℕ) → Each Fits64 (lacks_words z) → words_in 24 (over (block_of (lacks_words z)) a)
    ≡ lacks_words z
unfolding lacks_words
words_back z a g = records_bytes (numbers 8) _ g

pub lacks_told : LacksTold
unfolding lacks_call in_block lacks
lacks_told head other answer b t u e =
    let x = head_index head in let y = head_index other in
    let d = in→ (is_block answer) answer b _ (in→ (is_index other) answer b _ (in→ (is_index head) answer b _ e)) in
    let r = into→ lacks_words answer b (lacks_in x t y u) (lacks_not x t y u) d in
    let k = kinded→ (kinds_in x t && kinds_in y u) (lacks (room_of t) (index_in x t) (room_of u) (index_in y u)) r.0
    r.1 in
    let q : lacking (index_in x t) (index_in y u) ≡ r.0 = (accepted→
    (merge_number (room_of t) (index_in x t) (room_of u) (index_in y u)) (lacking (index_in x t) (index_in y u)) r.0
    k.1).1 in
    let f = head_fits other in
    let w : Each Fits64 (lacks_words r.0) = subst (λ (z : Lacks). Each Fits64 (lacks_words z)) q
    (words_fit x t y u f.0 f.1.0 f.1.1.0 f.1.1.1.0 f.1.1.1.1) in
    record { lacks = r.0; is = r.1; words = ap (words_in 24) r.2 ∙ words_back r.0 answer w }

-- ---- nothing is lacking
bit_none : (b : Bool) → eqb (bit b) 0 ≡ true → not b ≡ true
unfolding bit
bit_none true e = e
bit_none false e = refl

holds_by : (l : Lacks) → lacks_nothing (lacks_words l) ≡ true → holds_all l ≡ true
unfolding lacks_nothing lacks_words holds_all
holds_by l e =
    let t = all→ _ e in
    →all _ (
      t.0,
      (
        bit_none _ t.1.0,
        (
          t.1.1.0,
          (t.1.1.1.0, (t.1.1.1.1.0, (t.1.1.1.1.1.0, (bit_none _ t.1.1.1.1.1.1.0, tt)))),
        ),
      ),
    )

pub nothing_lacking_in_c : NothingLackingInC
nothing_lacking_in_c head other answer b t u e n =
    let r = lacks_told head other answer b t u e in
    nothing_lacking_in_tables (head_index head) t (head_index other) u r.lacks r.is
    (holds_by r.lacks (subst (λ (ws : List ℕ). lacks_nothing ws ≡ true) r.words n))
