-- Lists of records compared, counted and joined. Assumes nothing.
use mathlib.Core.Path.{◌≡◌, refl, sym, ap, ◌∙◌}
use mathlib.Core.Bool.{Bool, true, false, ◌&&◌, cond}
use mathlib.Core.Logic.{⊎_elim}
use mathlib.Core.List.{List, [], ◌∷◌, ◌++◌, append-nil, append_assoc}
use Prim.Native.Nat.{ℕ, ◌+◌, ◌-◌, ◌*◌, ◌≤◌, ◌<◌, min}
use native.Mathlib.Nat.{add-zero}
use native.Mathlib.Omega.{arith}
use lib.Dec.{eqb, leb, ltb}
use lib.ListN.{length, take, drop, length-drop, length-take, take-append-drop, drop_of_length-le}
use borrow.Author.Tests.{le-leb, lt-leb, le-ltb, lt-ltb, eqb-true}
use Rattle.field.specs.Number.{same_bytes}
use Rattle.field.specs.Records.{records, record_at, Bytes}
use Rattle.field.proofs.Records.{records_length, take_records}
use Rattle.rules.specs.declared.Checkpoint.{Checkpoint}
use Rattle.rules.specs.Tests.{agrees, last_or}
use Rattle.rules.specs.Values.{no_checkpoint, last_checkpoint, checkpoint_at}
use Rattle.rules.specs.File.{decode_lsn}
use Rattle.rules.specs.Record.{below}
use Rattle.rules.proofs.Tests.{test}
use Rattle.rules.proofs.Walk.{Snoc, ends, last_or_snoc}
use Rattle.rules.proofs.Same.{eqb_self}
use Rattle.tables.proofs.Walk.{records_turn}
use Rattle.laws.proofs.Layouts.{lsn_layout}
use Rattle.merge.proofs.common.Common.{common_is}
use Rattle.laws.specs.Twelve.{not_below, continues}

none_left : {A : Type 0} (same : A → A → Bool) (xs ys : List A) → min (length xs) (length ys) ≡ 0 → agrees same xs ys ≡ true
unfolding agrees
none_left same [] ys h = refl
none_left same (x ∷ xs) [] h = refl
none_left same (x ∷ xs) (y ∷ ys) h = let f : ⊥ = omega arith in absurd f

and_false : (b : Bool) → (b && false) ≡ false
and_false true = refl
and_false false = refl

-- ---- two tables compared over the records that both have: i are passed, and the answer is to be x
pub record Compared {A : Type 0} (w : ℕ) (d : List ℕ → A) (same : A → A → Bool) (n first m : ℕ) (s t : List ℕ) (x : Bool) (i : ℕ) : Type 0 where
  pub within : (first + i ≤ n) × (i ≤ m)
  pub rest : agrees same (drop (first + i) (records w d n s)) (drop i (records w d m t)) ≡ x

module _ {A : Type 0} {w : ℕ} {d : List ℕ → A} {same : A → A → Bool} {n first m : ℕ} {s t : List ℕ} where
  pub compare_start : first ≤ n → Compared w d same n first m s t (agrees same (drop first (records w d n s)) (records w d m t)) 0
  compare_start h =
      let z : first + 0 ≡ first = omega arith in
      record { within = (omega arith, omega arith); rest = ap (λ (i : ℕ). agrees same (drop i (records w d n s)) (records w d m t)) z }

  module _ {x : Bool} {i : ℕ} (k : Compared w d same n first m s t x i) where
    here : {a b : A} → first + i < n → i < m → a ≡ record_at w d s (first + i) → b ≡ record_at w d t i
        → (same a b && agrees same (drop (first + i + 1) (records w d n s)) (drop (i + 1) (records w d m t))) ≡ x
    unfolding agrees
    here h g p q = rw (p, q) (sym (λ j. agrees same (records_turn w d n s (first + i) h j) (records_turn w d m t i g j)) ∙ k.rest)

    pub compare_on : {a b : A} → first + i < n → i < m → a ≡ record_at w d s (first + i) → b ≡ record_at w d t i → same a b ≡ true → Compared w d same n first m s t x (i + 1)
    compare_on h g p q e =
        let z : first + i + 1 ≡ first + (i + 1) = omega arith in
        record { within = (omega arith, omega arith); rest = rw z at (rw e at (here h g p q)) }

    pub compare_stop : {a b : A} → first + i < n → i < m → a ≡ record_at w d s (first + i) → b ≡ record_at w d t i → same a b ≡ false → false ≡ x
    compare_stop h g p q e = rw e at (here h g p q)

    pub compare_end : min (n - first) m ≤ i → true ≡ x
    compare_end h =
        let a = k.within in
        let few : min (length (drop (first + i) (records w d n s))) (length (drop i (records w d m t))) ≡ 0 =
        omega (arith, length-drop (first + i) (records w d n s), length-drop i (records w d m t), records_length w d n s, records_length w d m t) in
        sym (none_left same (drop (first + i) (records w d n s)) (drop i (records w d m t)) few) ∙ k.rest

-- ---- LSNs below a bound: j are passed, and c of them lie below it
pub record Counted (b k : ℕ) (t : List ℕ) (c j : ℕ) : Type 0 where
  pub within : (j ≤ k) × (c ≤ j)
  pub total : length (below b (records 4 decode_lsn k t)) ≡ c + length (below b (drop j (records 4 decode_lsn k t)))

length_below : (b l : ℕ) (ls : List ℕ) (c c' : ℕ) → c' ≡ cond (ltb l b) (c + 1) c → c + length (below b (l ∷ ls)) ≡ c' + length (below b ls)
unfolding below
length_below b l ls c c' e = test (ltb l b) (λ t. rw (e, t) (omega arith)) (λ t. rw (e, t) refl)

one_more : (g : Bool) (c c' j : ℕ) → c' ≡ cond g (c + 1) c → c ≤ j → c' ≤ j + 1
one_more true c c' j e h = omega arith
one_more false c c' j e h = omega arith

module _ {b k : ℕ} {t : List ℕ} where
  pub count_start : Counted b k t 0 0
  count_start = record { within = (omega arith, omega arith); total = omega arith }

  module _ {c j : ℕ} (h : Counted b k t c j) where
    count_on : {l c' : ℕ} → j < k → l ≡ record_at 4 decode_lsn t j → c' ≡ cond (ltb l b) (c + 1) c → Counted b k t c' (j + 1)
    count_on {l} {c'} g p q =
        let a = h.within in
        let e : drop j (records 4 decode_lsn k t) ≡ l ∷ drop (j + 1) (records 4 decode_lsn k t) = records_turn 4 decode_lsn k t j g ∙ rw p refl in
        record {
          within = (omega arith, one_more (ltb l b) c c' j q a.1);
          total = h.total ∙ ap (λ (ls : List ℕ). c + length (below b ls)) e ∙ length_below b l (drop (j + 1) (records 4 decode_lsn k t)) c c' q;
        }

    pub count_more : {l : ℕ} → j < k → l ≡ record_at 4 decode_lsn t j → l < b → Counted b k t (c + 1) (j + 1)
    count_more {l} g p h = count_on g p (rw (lt-ltb l b h))

    pub count_same : {l : ℕ} → j < k → l ≡ record_at 4 decode_lsn t j → b ≤ l → Counted b k t c (j + 1)
    count_same {l} g p h = count_on g p (rw (le-ltb l b h))

    pub count_end : k ≤ j → c ≡ length (below b (records 4 decode_lsn k t))
    unfolding below
    count_end g =
        let l : length (records 4 decode_lsn k t) ≤ j = rw records_length g in
        let e = ap (λ (ls : List ℕ). c + length (below b ls)) (drop_of_length-le (records 4 decode_lsn k t) l) in
        sym (h.total ∙ e ∙ add-zero c)

-- ---- the last of a joined list
last_append : {A : Type 0} (z : A) (xs ys : List A) → 1 ≤ length ys → last_or z (xs ++ ys) ≡ last_or z ys
last_append z xs ys h =
    ⊎_elim (λ (e : ys ≡ []). let l : length ys ≡ 0 = ap length e in let f : ⊥ = omega arith in absurd f)
    (λ (s : Snoc ys). rw (s.is, ← append_assoc xs s.init (s.last ∷ []), last_or_snoc z (xs ++ s.init) s.last, last_or_snoc z s.init s.last) refl)
    (ends ys)

module _ (cs ds : List Checkpoint) (i m : ℕ) (n : length ds ≡ m) where
  pub last_own : m ≤ i → last_checkpoint cs ≡ last_checkpoint (cs ++ drop i ds)
  last_own h =
      let l : length ds ≤ i = omega arith in
      sym (ap last_checkpoint (ap (λ (es : List Checkpoint). cs ++ es) (drop_of_length-le ds l) ∙ append-nil cs))

  pub last_other : i < m → last_checkpoint ds ≡ last_checkpoint (cs ++ drop i ds)
  last_other h =
      let l : 1 ≤ length (drop i ds) = omega (arith, length-drop i ds) in
      ap last_checkpoint (sym (take-append-drop i ds)) ∙ last_append no_checkpoint (take i ds) (drop i ds) l ∙ sym (last_append no_checkpoint cs (drop i ds) l)

  -- and the first that is further
  pub no_further : m ≤ i → leb m i ≡ continues cs i ds
  unfolding continues
  no_further h = rw (le-leb m i h) (sym (rw (le-leb (length ds) i (omega arith))))

  pub a_further : {r : Bool} {c d : Checkpoint} → i < m → c ≡ last_checkpoint cs → d ≡ checkpoint_at ds i → r ≡ not_below c d → r ≡ continues cs i ds
  unfolding continues
  a_further h p q e = e ∙ rw (p, q) (sym (rw (lt-leb (length ds) i (omega arith)) refl))

-- ---- LSNs that open with others
same_agrees : (xs ys : List ℕ) → length xs ≡ length ys → agrees eqb xs ys ≡ same_bytes xs ys
unfolding agrees same_bytes
same_agrees [] [] h = refl
same_agrees [] (y ∷ ys) h = let f : ⊥ = omega arith in absurd f
same_agrees (x ∷ xs) [] h = let f : ⊥ = omega arith in absurd f
same_agrees (x ∷ xs) (y ∷ ys) h = ap (λ (b : Bool). eqb x y && b) (same_agrees xs ys (omega arith))

shorter : (xs ys : List ℕ) → length xs < length ys → same_bytes xs ys ≡ false
unfolding same_bytes
shorter [] [] h = let f : ⊥ = omega arith in absurd f
shorter [] (y ∷ ys) h = refl
shorter (x ∷ xs) [] h = let f : ⊥ = omega arith in absurd f
shorter (x ∷ xs) (y ∷ ys) h = rw (shorter xs ys (omega arith)) (and_false (eqb x y))

module _ (k m : ℕ) (s t : List ℕ) where
  pub opens_no : k < m → leb m k ≡ same_bytes (take m (records 4 decode_lsn k s)) (records 4 decode_lsn m t)
  opens_no h =
      rw (lt-leb m k h)
      (sym (shorter _ _ (omega (arith, length-take m (records 4 decode_lsn k s), records_length 4 decode_lsn k s, records_length 4 decode_lsn m t))))

  pub opens_yes : m ≤ k → Bytes s → Bytes t → k * 4 ≤ length s → m * 4 ≤ length t
      → same_bytes (take (m * 4) s) (take (m * 4) t) ≡ same_bytes (take m (records 4 decode_lsn k s)) (records 4 decode_lsn m t)
  opens_yes h a b g l =
      common_is lsn_layout eqb eqb-true eqb_self m m m s t a b (omega arith) l (omega arith)
      ∙ same_agrees (records 4 decode_lsn m s) (records 4 decode_lsn m t) (records_length 4 decode_lsn m s ∙ sym (records_length 4 decode_lsn m t))
      ∙ ap (λ (ls : List ℕ). same_bytes ls (records 4 decode_lsn m t)) (sym (take_records 4 decode_lsn m k s h))
