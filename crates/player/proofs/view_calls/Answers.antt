-- What the calls for views answer where the role is one and the block is a head. Assumes nothing.
use mathlib.Core.Path.{◌≡◌, refl, ap, ◌∙◌}
use mathlib.Core.Bool.{Bool, true, false}
use mathlib.Core.List.{List, [], ◌∷◌}
use Prim.Native.Nat.{ℕ}
use native.Mathlib.Omega.{arith}
use Rattle.rules.specs.declared.AreaIndex.{AreaIndex}
use Rattle.rules.specs.Tests.{ask, first_no, Answer}
use Rattle.rules_view.specs.View.{is_role}
use Rattle.blocks.specs.Blocks.{is_index}
use Rattle.tables.specs.Index.{Tables}
use Rattle.view.specs.View.{viewed, view_in, view_size_in, block_refusal}
use Rattle.blocks.specs.Calls.{called, head_index, in_head}
use Rattle.player.specs.Player.{length_number, view_length_call, view_call}
use Rattle.blocks.proofs.calls.Blocks.{is_head_lemma}

-- 52, then 3: the number of a call that is refused by them, and what holds where none refuses
module _ (role : ℕ) (h : List ℕ) {n : ℕ} (e : n ≡ block_refusal role h) where
  block_refused : {A : Type 0} (told : ℕ → A) (r : A) → (n ≡ 0 → ⊥) → told n ≡ in_head (is_role role) (told 52) (in_head (is_index h) (told 3) r)
  unfolding block_refusal first_no in_head
  block_refused told r f = by (is_role role) (is_index h) e
    where
      by : (a b : Bool) → n ≡ first_no (ask a 52 ∷ ask b 3 ∷ []) → told n ≡ in_head a (told 52) (in_head b (told 3) r)
      by false b d = ap told d
      by true false d = ap told d
      by true true d = absurd (f d)

  pub view_length_refused : (t : Tables) → (n ≡ 0 → ⊥) → n ≡ view_length_call role h t
  unfolding view_length_call
  view_length_refused t f = block_refused (λ m. m) _ f

  pub view_refused : (t : Tables) (o : List ℕ) → (n ≡ 0 → ⊥) → called n o ≡ view_call role h t o
  unfolding view_call
  view_refused t o f = block_refused (λ m. called m o) _ f

  pub block_passed : n ≡ 0 → (is_role role ≡ true) × (is_index h ≡ true)
  unfolding block_refusal first_no
  block_passed z = by (is_role role) (is_index h) e
    where
      by : (a b : Bool) → n ≡ first_no (ask a 52 ∷ ask b 3 ∷ []) → (a ≡ true) × (b ≡ true)
      by false b d = let f : ⊥ = omega (arith, d, z) in absurd f
      by true false d = let f : ⊥ = omega (arith, d, z) in absurd f
      by true true d = (refl, refl)

module _ (role : ℕ) (q : is_role role ≡ true) (h : List ℕ) (l : is_index h ≡ true) (x : AreaIndex) (z : x ≡ head_index h) (t : Tables) where
  pub view_length_done : (n : ℕ) (r : Answer ℕ) → r ≡ view_size_in role x t → n ≡ length_number r → n ≡ view_length_call role h t
  unfolding view_length_call
  view_length_done n r e p = is_head_lemma _ _ _ q (is_head_lemma _ _ _ l (p ∙ rw (e, z)))

  pub view_done : (n : ℕ) (o o' : List ℕ) (r : Answer ℕ) → viewed r o' ≡ view_in role x t o → n ≡ length_number r → called n o' ≡ view_call role h t o
  unfolding view_call
  view_done n o o' r e p = is_head_lemma _ _ _ q (is_head_lemma _ _ _ l (rw (← z, ← e, p)))
