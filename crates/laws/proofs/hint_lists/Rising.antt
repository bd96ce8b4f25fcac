-- Laws of sections in the order of an LSN, over any key, test and meeting. Assumes nothing.
use mathlib.Core.Path.{◌≡◌}
use mathlib.Core.Bool.{Bool, true}
use mathlib.Core.List.{List, [], ◌∷◌, ◌++◌}
use Prim.Native.Nat.{ℕ, zero, suc, ◌<◌, ◌≤◌}
use native.Mathlib.Omega.{arith}
use lib.ListN.{length, get_or}
use Rattle.rules.specs.Sections.{rising_ok, risen, rising}
use Rattle.rules.specs.Hints.{insert}
use Rattle.laws.specs.Order.{Rises}
use Rattle.rules.proofs.Walk.{walk_none, walk_cons, walk_head, walk_tail, risen→, →risen}
use Rattle.laws.proofs.hint_lists.Lists.{Sub, empty, same, skip, All, all_sub, all_map, all_insert, insert_none, insert_cases}

-- ---- keys that rise from b on
module _ {A : Type 0} (key : A → ℕ) where
  pub rises_from : (b c : ℕ) (xs : List A) → b ≤ c → Rises key c xs → Rises key b xs
  rises_from b c [] l h = tt
  rises_from b c (x ∷ xs) l h = let w = h.0 in (omega arith, h.1)

  -- each is b or more
  pub rises_all : (b : ℕ) (xs : List A) → Rises key b xs → All (λ x. b ≤ key x) xs
  rises_all b [] r = tt
  rises_all b (x ∷ xs) r = let l = r.0 in (l, all_map (λ z. suc (key x) ≤ key z) (λ z. b ≤ key z) (λ z h. omega arith) xs (rises_all (suc (key x)) xs r.1))

  pub rises_sub : (b : ℕ) {xs ys : List A} → Sub xs ys → Rises key b ys → Rises key b xs
  rises_sub b empty h = tt
  rises_sub b (same {x} s) h = (h.0, rises_sub (suc (key x)) s h.1)
  rises_sub b (skip {x} {xs} {ys} s) h = let w = h.0 in rises_sub b s (rises_from b (suc (key x)) ys (omega arith) h.1)

  pub rises_append : (b c : ℕ) (xs ys : List A) → b ≤ c → Rises key b xs → All (λ x. key x < c) xs → Rises key c ys → Rises key b (xs ++ ys)
  rises_append b c [] ys l h u k = rises_from b c ys l k
  rises_append b c (x ∷ xs) ys l h u k = (h.0, rises_append (suc (key x)) c xs ys u.0 h.1 u.1 k)

  -- the keys before y are below it
  pub rises_split : (b : ℕ) (xs : List A) (y : A) (ys : List A) → Rises key b (xs ++ y ∷ ys)
      → (b ≤ key y) × Rises key b xs × All (λ x. key x < key y) xs × Rises key (suc (key y)) ys
  rises_split b [] y ys h = (h.0, tt, tt, h.1)
  rises_split b (x ∷ xs) y ys h =
      let r = rises_split (suc (key x)) xs y ys h.1 in let u = h.0 in let v = r.0 in (omega arith, (h.0, r.1), (v, r.2), r.3)

  pub rises_insert : (meet : A → A → A) (x : A) → ((y : A) → key y ≡ key x → key (meet y x) ≡ key x) → (b : ℕ) (ys : List A) → b ≤ key x
      → Rises key b ys → Rises key b (insert key meet x ys)
  rises_insert meet x m b [] l h = rw (insert_none key meet x) (l, tt)
  rises_insert meet x m b (y ∷ ys) l h =
      insert_cases key meet x y ys (Rises key b) (λ e. (l, (e, h.1))) (λ e. (h.0, rises_insert meet x m (suc (key y)) ys e h.1))
      (λ e. rw (m y e) (l, rw e at h.1))

  -- where the last key is below top, each is
  pub rises_below : (b : ℕ) (xs : List A) (k top : ℕ) (d : A) → length xs ≡ suc k → key (get_or xs k d) < top → Rises key b xs → All (λ x. key x < top) xs
  rises_below b [] k top d l h r = tt
  rises_below b (x ∷ []) zero top d l h r = (h, tt)
  rises_below b (x ∷ []) (suc k) top d l h r = let z : ⊥ = omega arith in absurd z
  rises_below b (x ∷ y ∷ ys) zero top d l h r = let z : ⊥ = omega arith in absurd z
  rises_below b (x ∷ y ∷ ys) (suc k) top d l h r =
      let t = rises_below (suc (key x)) (y ∷ ys) k top d (omega arith) h r.1 in let u = t.0 in let v = r.1.0 in (omega arith, t)

-- ---- and what is asked of each
abbrev pub Inside : {A : Type 0} → (A → ℕ) → (A → Bool) → ℕ → A → Type 0
Inside key ok end x = (key x < end) × (ok x ≡ true)

pub record Rising {A : Type 0} (key : A → ℕ) (ok : A → Bool) (start end : ℕ) (xs : List A) : Type 0 where
  pub order : Rises key start xs
  pub each : All (Inside key ok end) xs

module _ {A : Type 0} (key : A → ℕ) (ok : A → Bool) where
  pub rising→ : (start end : ℕ) (xs : List A) → rising key ok start end xs ≡ true → Rising key ok start end xs
  unfolding rising
  rising→ start end [] e = record { order = tt; each = tt }
  rising→ start end (x ∷ xs) e =
      let t = risen→ key ok end start x (walk_head (rising_ok key ok end) (risen key) start x xs e) in
      let r = rising→ (suc (key x)) end xs (walk_tail (rising_ok key ok end) (risen key) start x xs e) in
      record { order = (t.0, r.order); each = ((t.1, t.2), r.each) }

  pub →rising : (start end : ℕ) (xs : List A) → Rising key ok start end xs → rising key ok start end xs ≡ true
  unfolding rising
  →rising start end [] h = walk_none (rising_ok key ok end) (risen key) start
  →rising start end (x ∷ xs) h =
      let o = h.order in let u = h.each in
      walk_cons (rising_ok key ok end) (risen key) start x xs (→risen key ok end start x o.0 u.0.0 u.0.1)
      (→rising (suc (key x)) end xs (record { order = o.1; each = u.1 }))

  pub rising_none : (start end : ℕ) → rising key ok start end [] ≡ true
  rising_none start end = →rising start end [] (record { order = tt; each = tt })

  pub rising_sub : (start end : ℕ) {xs ys : List A} → Sub xs ys → rising key ok start end ys ≡ true → rising key ok start end xs ≡ true
  rising_sub start end {xs} {ys} s e =
      let r = rising→ start end ys e in →rising start end xs (record { order = rises_sub key start s r.order; each = all_sub (Inside key ok end) s r.each })

  pub rising_insert : (meet : A → A → A) (x : A) → ((y : A) → key y ≡ key x → key (meet y x) ≡ key x) → ((y : A) → key y ≡ key x → ok y ≡ true → ok (meet y x) ≡ true)
      → (start end : ℕ) (ys : List A) → start ≤ key x → key x < end → ok x ≡ true → rising key ok start end ys ≡ true → rising key ok start end (insert key meet x ys) ≡ true
  rising_insert meet x m n start end ys l u p e =
      let r = rising→ start end ys e in
      →rising start end (insert key meet x ys)
      (record {
        order = rises_insert key meet x m start ys l r.order;
        each = all_insert key meet x (Inside key ok end) (u, p) (λ y q h. (rw (m y q) u, n y q h.1)) ys r.each;
      })

  -- of each
  pub rising_each : (start end : ℕ) (xs : List A) → rising key ok start end xs ≡ true → All (λ x. (start ≤ key x) × Inside key ok end x) xs
  rising_each start end xs e = let r = rising→ start end xs e in go start xs (omega arith) r.order r.each
    where
      go : (b : ℕ) (xs : List A) → start ≤ b → Rises key b xs → All (Inside key ok end) xs → All (λ x. (start ≤ key x) × Inside key ok end x) xs
      go b [] l o u = tt
      go b (x ∷ xs) l o u = let w = o.0 in ((omega arith, u.0), go (suc (key x)) xs (omega arith) o.1 u.1)
