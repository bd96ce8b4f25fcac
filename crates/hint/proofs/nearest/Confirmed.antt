-- The confirmation at an LSN, by halves. Assumes nothing.
use Rattle.std.proofs.Common.{◌≡◌, ℕ, zero, suc, ◌+◌, ◌<◌, ◌≤◌, Bool, true, false, ◌||◌, ltb, leb, List, [], ◌∷◌, length, get_or, sym, refl, ap, ◌∙◌, arith, ltb-false, ltb-true, eq-eqb, ne_eqb}
use Rattle.field.specs.Records.{record_at}
use Rattle.field.proofs.Records.{records_length, records_at}
use Rattle.rules.specs.declared.Confirmation.{Confirmation}
use Rattle.rules.specs.Sections.{confirmed_lsn}
use Rattle.rules.specs.Values.{no_confirmation}
use Rattle.rules.specs.File.{decode_confirmation}
use Rattle.rules.specs.Hints.{confirmed_at}
use Rattle.rules.proofs.Tests.{test}
use Rattle.laws.specs.Order.{Rises}
use Rattle.tables.specs.Tables.{confirmations_in}
use Rattle.plan.proofs.Halves.{Halves, halves_up, halves_down}
use Rattle.hint.specs.Steps.{Ordered}

or_false : (b : Bool) → (b || false) ≡ b
or_false true = refl
or_false false = refl

-- ---- LSNs that rise
abbrev at : List Confirmation → ℕ → ℕ
at cs i = (get_or cs i no_confirmation).lsn

low : (b : ℕ) (cs : List Confirmation) → Rises confirmed_lsn b cs → (k : ℕ) → k < length cs → b ≤ at cs k
low b [] r k h = let z : ⊥ = omega arith in absurd z
low b (c ∷ cs) r zero h = r.0
low b (c ∷ cs) r (suc k) h =
    let l : suc c.lsn ≤ at cs k = low (suc c.lsn) cs r.1 k (omega arith) in let u : b ≤ c.lsn = r.0 in
    omega arith

order : (b : ℕ) (cs : List Confirmation) → Rises confirmed_lsn b cs → (i k : ℕ) → i < k → k < length cs
    → at cs i < at cs k
order b [] r i k h l = let z : ⊥ = omega arith in absurd z
order b (c ∷ cs) r i zero h l = let z : ⊥ = omega arith in absurd z
order b (c ∷ cs) r zero (suc k) h l = low (suc c.lsn) cs r.1 k (omega arith)
order b (c ∷ cs) r (suc i) (suc k) h l = order (suc c.lsn) cs r.1 i k (omega arith) (omega arith)

-- ---- one confirmation at an LSN, or none
absent : (lsn first : ℕ) (cs : List Confirmation) → ((i : ℕ) → i < length cs → at cs i ≡ lsn → ⊥)
    → confirmed_at cs lsn first ≡ false
unfolding confirmed_at
absent lsn first [] h = refl
absent lsn first (c ∷ cs) h =
    rw (ne_eqb c.lsn lsn (h zero (omega arith))) (absent lsn first cs (λ i l. h (suc i) (omega arith)))

only : (lsn first : ℕ) (cs : List Confirmation) (i : ℕ) → i < length cs → at cs i ≡ lsn
    → ((k : ℕ) → k < length cs → at cs k ≡ lsn → k ≡ i)
    → confirmed_at cs lsn first ≡ leb (get_or cs i no_confirmation).threshold first
unfolding confirmed_at
only lsn first [] i h e u = let z : ⊥ = omega arith in absurd z
only lsn first (c ∷ cs) zero h e u =
    rw (
      eq-eqb c.lsn lsn e,
      absent lsn first cs
          (λ i l q. let w = u (suc i) (omega arith) q in let z : ⊥ = omega arith in z),
    ) (or_false _)
only lsn first (c ∷ cs) (suc i) h e u =
    rw (ne_eqb c.lsn lsn (λ q. let w = u zero (omega arith) q in let z : ⊥ = omega arith in z))
    (only lsn first cs i (omega arith) e (λ k l q. let w = u (suc k) (omega arith) q in omega arith))

-- ---- the search: each LSN before lo is below the one sought, and each from hi on above it
abbrev key : List ℕ → ℕ → ℕ
key t i = (record_at 16 decode_confirmation t i).lsn

is_at : (n : ℕ) (t : List ℕ) (i : ℕ) → i < n → at (confirmations_in n t) i ≡ key t i
is_at n t i l = ap (λ (c : Confirmation). c.lsn) (records_at 16 decode_confirmation n t i no_confirmation l)

rises_at : {n : ℕ} {t : List ℕ} → Ordered n t → (i k : ℕ) → i < k → k < n → key t i < key t k
rises_at {n} {t} o i k h l =
    let l' : k < length (confirmations_in n t) = rw records_length l in
    let w = order 0 (confirmations_in n t) o.rises i k h l' in
    let a = is_at n t i (omega arith) in
    let b = is_at n t k l in
    omega arith

abbrev pub Search : ℕ → List ℕ → ℕ → ℕ → ℕ → Type 0
Search n t lsn = Halves n (λ i. key t i < lsn) (λ i. lsn < key t i)

-- not above, where not behind
up_to : {n : ℕ} {t : List ℕ} → Ordered n t → (i k : ℕ) → i ≤ k → k < n → key t i ≤ key t k
up_to {n} {t} o i k h l =
    test (ltb i k) (λ q. let w : key t i < key t k = rises_at o i k (ltb-true i k q) l in omega arith)
    (λ q. let z : i ≡ k = let g = ltb-false i k q in omega arith in rw z (omega arith))

-- one place for an LSN
one_place : {n : ℕ} {t : List ℕ} → Ordered n t → (i k : ℕ) → i < n → k < n → key t i ≡ key t k → i ≡ k
one_place {n} {t} o i k h l e =
    test (ltb i k) (λ q. let w : key t i < key t k = rises_at o i k (ltb-true i k q) l in let z : ⊥ = omega arith in
    absurd z)
    (λ q.
    let g = ltb-false i k q in
    test (ltb k i) (λ y. let w : key t k < key t i = rises_at o k i (ltb-true k i y) h in let z : ⊥ = omega arith in
    absurd z)
    (λ y. let f = ltb-false k i y in omega arith))

module _ {n : ℕ} {t : List ℕ} {lsn lo hi : ℕ} (s : Search n t lsn lo hi) (o : Ordered n t) where
  module _ {mid : ℕ} {c : Confirmation} (e : c ≡ record_at 16 decode_confirmation t mid) (g : lo ≤ mid) (h : mid < hi)
    where
      inside : mid < n
      inside = let w = s.within in omega arith

      pub search_up : c.lsn < lsn → Search n t lsn (mid + 1) hi
      search_up l =
          let l' : key t mid < lsn = rw e at l in
          halves_up s h (λ i q. let w : key t i ≤ key t mid = up_to o i mid q inside in omega arith)

      pub search_down : lsn < c.lsn → Search n t lsn lo mid
      search_down l =
          let l' : lsn < key t mid = rw e at l in
          halves_down s h g (λ i q r. let w : key t mid ≤ key t i = up_to o mid i q r in omega arith)

      pub search_found : {r : Bool} (first : ℕ) → c.lsn ≡ lsn → r ≡ leb c.threshold first
          → r ≡ confirmed_at (confirmations_in n t) lsn first
      search_found first q d =
          let m = inside in
          let k : key t mid ≡ lsn = rw e at q in
          let f = records_at 16 decode_confirmation n t mid no_confirmation m in
          d
          ∙ sym (only lsn first (confirmations_in n t) mid (rw records_length m) (is_at n t mid m ∙ k)
          (λ i l y.
          let l' : i < n = rw records_length at l in one_place o i mid l' m (sym (is_at n t i l') ∙ y ∙ sym k))
          ∙ rw (f, e))

  pub search_end : (first : ℕ) → hi ≤ lo → false ≡ confirmed_at (confirmations_in n t) lsn first
  search_end first h =
      sym (absent lsn first (confirmations_in n t)
      (λ i l q.
      let l' : i < n = rw records_length at l in
      let k : key t i ≡ lsn = sym (is_at n t i l') ∙ q in
      test (ltb i lo) (λ y. let w = s.below i (ltb-true i lo y) in let z : ⊥ = omega arith in z)
      (λ y. let f = ltb-false i lo y in let w = s.above i (omega arith) l' in let z : ⊥ = omega arith in z)))
