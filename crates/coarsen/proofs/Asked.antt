-- What is asked before a coarser list is made, in the finer list's tables. Assumes nothing.
use mathlib.Core.Path.{◌≡◌, refl, sym, ◌∙◌}
use mathlib.Core.Bool.{Bool, true, false, cond, not}
use mathlib.Core.List.{List, [], ◌∷◌}
use Prim.Native.Nat.{ℕ, ◌-◌, ◌*◌, ◌/◌, ◌<◌, ◌≤◌}
use native.Mathlib.Nat.{zero-mul}
use native.Mathlib.Omega.{arith}
use borrow.Author.Tests.{eq-eqb, ne_eqb, eqb-true, eqb-false, leb-true}
use lib.Dec.{eqb}
use lib.ListN.{length}
use Rattle.field.proofs.Records.{records_length}
use Rattle.rules.specs.declared.AreaIndex.{AreaIndex}
use Rattle.rules.specs.declared.Checkpoint.{Checkpoint}
use Rattle.rules.specs.Tests.{last_or, ask, first_no}
use Rattle.rules.specs.Values.{Index, no_checkpoint, checkpoint_at, last_checkpoint}
use Rattle.rules.specs.Questions.{area_ok, numbers_ok, question1, question2, question3, question4}
use Rattle.rules.specs.File.{decode_checkpoint}
use Rattle.rules.proofs.Tests.{test, all→, and_left}
use Rattle.rules_coarsen.specs.Coarse.{every_nth, question47, question48, coarser_scan, coarser, coarse_fits, coarse_number}
use Rattle.tables.specs.Tables.{checkpoints_in}
use Rattle.tables.specs.Index.{Tables, room_of, index_in, kinds_in, refusal, room_in}
use Rattle.index.specs.Steps.{Passes, held_question4}
use Rattle.index.proofs.Questions.{passes, passes_long, range}
use Rattle.coarsen.specs.Coarsen.{coarse_refusal}
use Rattle.coarsen.specs.Steps.{is_multiple, kept_of, Keeps, Widens, last_below, fits_in, numbers_at, Coarsens}
use Rattle.parts.specs.declared.Counts.{Counts}
use Rattle.parts.proofs.Adding.{not_true, not_false}
use Rattle.coarsen.proofs.Every.{up→, kept_at, every_length}
use Rattle.coarsen.proofs.FortyEight.{wider→, forty_eight}

-- ---- how many are kept
module _ (n r : ℕ) (pos : 1 ≤ r) where
  pub last_within : 1 ≤ kept_of n r → (kept_of n r - 1) * r < n
  last_within l = up→ n r (kept_of n r - 1) pos (omega arith)

-- the place of the last one kept
pub last_reach : {n m r : ℕ} {t : List ℕ} → Keeps n m r t → (m - 1) * r ≤ n
last_reach {n} {m} {r} k =
    test (eqb m 0) (λ e. let z = eqb-true m 0 e in rw z (omega (arith, zero-mul r)))
    (λ e. let z = eqb-false m 0 e in let q = k.kept in let x = last_within n r k.ratio (omega arith) in rw q (omega arith))

last_at : (r : ℕ) → 1 ≤ r → (cs : List Checkpoint) → last_checkpoint (every_nth r cs) ≡ checkpoint_at cs ((length (every_nth r cs) - 1) * r)
unfolding last_or
last_at r pos cs = kept_at r pos cs no_checkpoint (length (every_nth r cs) - 1)

pub last_kept_is : {n m r : ℕ} {t : List ℕ} {c : Checkpoint} (i : ℕ) → Keeps n m r t → i ≡ (m - 1) * r → c ≡ checkpoint_at (checkpoints_in n t) i
    → c ≡ last_checkpoint (every_nth r (checkpoints_in n t))
last_kept_is {n} {m} {r} {t} i k e h =
    let l : length (every_nth r (checkpoints_in n t)) ≡ m =
    every_length r k.ratio (checkpoints_in n t) ∙ rw (records_length 24 decode_checkpoint n t, ← k.kept) in
    h ∙ rw e (sym (last_at r k.ratio (checkpoints_in n t) ∙ rw l))

first_zero : (a b : ℕ) → cond (eqb a 0) b a ≡ 0 → (a ≡ 0) × (b ≡ 0)
first_zero a b e = test (eqb a 0) (λ z. (eqb-true a 0 z, rw z at e)) (λ z. let y : a ≡ 0 = rw z at e in absurd (eqb-false a 0 z y))

three_zero : (a b c : Bool) → first_no (ask a 47 ∷ ask b 48 ∷ ask c 3 ∷ []) ≡ 0 → (a ≡ true) × (b ≡ true) × (c ≡ true)
unfolding first_no
three_zero false b c e = let z : ⊥ = omega arith in absurd z
three_zero true false c e = let z : ⊥ = omega arith in absurd z
three_zero true true false e = let z : ⊥ = omega arith in absurd z
three_zero true true true e = (refl, refl, refl)

-- ---- 48 by the tables
module _ (x : AreaIndex) (t : Tables) (k : ℕ) (pos : 1 ≤ k / x.interval) where
  pub fits_is : fits_in x k t.checkpoints t.malformed ≡ coarse_fits k (index_in x t).scan
  unfolding fits_in last_below coarse_fits
  fits_is =
      rw (every_length (k / x.interval) pos (checkpoints_in x.checkpoints t.checkpoints), records_length 24 decode_checkpoint x.checkpoints t.checkpoints)

-- ---- the questions in their order
module _ (x : AreaIndex) (t : Tables) {n : ℕ} (e : n ≡ refusal x t) (z : n ≡ 0) where
  pub passed_four : Passes x t
  passed_four = passes x t (sym e ∙ z)

  pub interval_there : 1 ≤ x.interval
  unfolding numbers_ok
  interval_there = leb-true 1 x.interval (all→ _ passed_four.roomy.numbers).0

module _ (x : AreaIndex) (t : Tables) where
  pub four_holds : Passes x t → question4 (index_in x t) ≡ true
  unfolding held_question4
  four_holds p = and_left (question4 (index_in x t)) (kinds_in x t) p.held

  pub one_holds : Passes x t → question1 (index_in x t) ≡ true
  unfolding question1
  one_holds p = p.roomy.area

  pub two_holds : Passes x t → question2 (index_in x t) ≡ true
  unfolding question2
  two_holds p = p.roomy.numbers

module _ (x : AreaIndex) (t : Tables) (k : ℕ) where
  multiple_is : is_multiple k x.interval ≡ question47 k (index_in x t)
  unfolding is_multiple question47
  multiple_is = refl

  module _ {a : Bool} (q : a ≡ is_multiple k x.interval) where
    pub is_multiple_lemma : not a ≡ false → question47 k (index_in x t) ≡ true
    is_multiple_lemma h = sym (q ∙ multiple_is) ∙ not_false a h

    pub widens : Passes x t → not a ≡ false → Widens x k t.checkpoints t.malformed
    widens p h =
        let w = wider→ k (index_in x t) (two_holds x t p) (is_multiple_lemma h) in
        let l = passes_long p in let r = range x.area p.roomy.area in let ro = r.order in let re = r.end in
        record { interval = w.old; ratio = w.ratio; start = omega arith; checkpoints = l.checkpoints; malformed = l.malformed }

module _ (x : AreaIndex) (t : Tables) (k : ℕ) (u : Tables) where
  abbrev fine : Index
  fine = index_in x t

  number_is : Passes x t
      → coarse_number (room_of t) fine k (room_of u)
      ≡ first_no (ask (question47 k fine) 47 ∷ ask (question48 k fine) 48 ∷ ask (question3 (room_of u) (coarser k fine)) 3 ∷ [])
  unfolding coarse_number room_in first_no
  number_is p = rw (one_holds x t p, two_holds x t p, p.roomy.room, four_holds x t p)

  refusal_is : refusal x t ≡ 0 → coarse_refusal x t k u ≡ coarse_number (room_of t) fine k (room_of u)
  unfolding coarse_refusal
  refusal_is e = rw (eq-eqb (refusal x t) 0 e)

  module _ {n : ℕ} (e : n ≡ refusal x t) where
    pub refused_first : (n ≡ 0 → ⊥) → n ≡ coarse_refusal x t k u
    unfolding coarse_refusal
    refused_first h = e ∙ sym (rw (ne_eqb (refusal x t) 0 (λ z. h (e ∙ z))))

    module _ (z : n ≡ 0) where
      abbrev passed : Passes x t
      passed = passed_four x t e z

      here : coarse_refusal x t k u ≡ first_no (ask (question47 k fine) 47 ∷ ask (question48 k fine) 48 ∷ ask (question3 (room_of u) (coarser k fine)) 3 ∷ [])
      here = refusal_is (sym e ∙ z) ∙ number_is passed

      module _ {a : Bool} (q : a ≡ is_multiple k x.interval) where
        pub refused_47 : not a ≡ true → 47 ≡ coarse_refusal x t k u
        unfolding first_no
        refused_47 h = sym (here ∙ rw (← multiple_is x t k, ← q, not_true a h))

        module _ (m : not a ≡ false) {b : Bool} (f : b ≡ fits_in x k t.checkpoints t.malformed) where
          fits_here : b ≡ question48 k fine
          fits_here =
              f ∙ fits_is x t k (widens x t k q passed m).ratio
              ∙ sym (forty_eight k fine (one_holds x t passed) (two_holds x t passed) (four_holds x t passed) (is_multiple_lemma x t k q m))

          pub refused_48 : not b ≡ true → 48 ≡ coarse_refusal x t k u
          unfolding first_no
          refused_48 h = sym (here ∙ rw (is_multiple_lemma x t k q m, ← fits_here, not_true b h))

          module _ (g : not b ≡ false) {d : Bool} {y : AreaIndex} (is : y ≡ numbers_at x k x.checkpoints (record { frames = x.frames; parts = x.parts; used = 0 }) x.malformed) (s : d ≡ room_in y u) where
            room_here : d ≡ question3 (room_of u) (coarser k fine)
            unfolding room_in question3 numbers_at coarser coarser_scan
            room_here = s ∙ rw is

            pub refused_3 : not d ≡ true → 3 ≡ coarse_refusal x t k u
            unfolding first_no
            refused_3 h = sym (here ∙ rw (is_multiple_lemma x t k q m, ← fits_here, not_false b g, ← room_here, not_true d h))

            pub none_refused : not d ≡ false → 0 ≡ coarse_refusal x t k u
            unfolding first_no
            none_refused h = sym (here ∙ rw (is_multiple_lemma x t k q m, ← fits_here, not_false b g, ← room_here, not_false d h))

pub area_there : (x : AreaIndex) (t : Tables) {y : AreaIndex} (k n : ℕ) (c : Counts) (m : ℕ) → Passes x t → y ≡ numbers_at x k n c m → area_ok y.area ≡ true
unfolding numbers_at
area_there x t k n c m p is = rw is p.roomy.area

-- nothing refuses
pub coarsens : (x : AreaIndex) (t : Tables) (k : ℕ) (u : Tables) {n : ℕ} → n ≡ coarse_refusal x t k u → n ≡ 0 → Coarsens x t k u
unfolding coarse_refusal
coarsens x t k u {n} e z =
    let f : cond (eqb (refusal x t) 0) (coarse_number (room_of t) (index_in x t) k (room_of u)) (refusal x t) ≡ 0 = sym e ∙ z in
    let p = first_zero (refusal x t) (coarse_number (room_of t) (index_in x t) k (room_of u)) f in
    let pass = passes x t p.0 in
    let q = three_zero (question47 k (index_in x t)) (question48 k (index_in x t)) (question3 (room_of u) (coarser k (index_in x t))) (sym (number_is x t k u pass) ∙ p.1) in
    record {
      passes = pass;
      multiple = q.0;
      fits = sym (forty_eight k (index_in x t) (one_holds x t pass) (two_holds x t pass) (four_holds x t pass) q.0) ∙ q.1;
      room = q.2;
    }
