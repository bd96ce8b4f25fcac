-- The malformed LSNs that are taken. Assumes nothing.
use mathlib.Core.Path.{◌≡◌, refl, sym, ◌∙◌}
use mathlib.Core.Bool.{Bool, true, false, ◌&&◌, ◌||◌, and-true}
use mathlib.Core.List.{List, [], ◌∷◌}
use Prim.Native.Nat.{ℕ, suc, ◌+◌, ◌≤◌, min}
use native.Mathlib.Omega.{arith}
use lib.Dec.{eqb, leb, ltb}
use lib.ListN.{length, take, get_or, length-take}
use borrow.Author.Tests.{ltb-true, ltb-false, le-leb, ne_eqb}
use Rattle.field.specs.Number.{same_bytes}
use Rattle.rules.specs.Tests.{all, walk}
use Rattle.rules.specs.Values.{max_malformed, max32}
use Rattle.rules.specs.Sections.{rising_ok, risen, rising, own_lsn, any_lsn}
use Rattle.rules.specs.Record.{below}
use Rattle.rules.proofs.Tests.{test}
use Rattle.rules.proofs.Walk.{walk_head, walk_tail, risen→}
use Rattle.absorb.specs.Steps.{list_in}

-- none of a list that rises from the bound on lies below it
pub below_past : (b end s : ℕ) (ls : List ℕ) → walk (rising_ok own_lsn any_lsn end) (risen own_lsn) s ls ≡ true → b ≤ s → below b ls ≡ []
unfolding below
below_past b end s [] w h = refl
below_past b end s (l ∷ ls) w h =
    let a = (risen→ own_lsn any_lsn end s l (walk_head _ _ s l ls w)).0 in
    test (ltb l b) (λ e. let y = ltb-true l b e in let f : ⊥ = omega arith in absurd f)
    (λ e. rw e (below_past b end (suc l) ls (walk_tail _ _ s l ls w) (omega arith)))

-- the first that is taken is the first given
first_taken : (b end n start : ℕ) (ls : List ℕ) → rising own_lsn any_lsn 0 end ls ≡ true
    → (eqb (length (below b ls)) 0 || leb start (get_or ls 0 start)) ≡ leb start (get_or (take (suc n) (below b ls)) 0 start)
unfolding below rising
first_taken b end n start [] w = sym (le-leb start start (omega arith))
first_taken b end n start (l ∷ ls) w =
    test (ltb l b) (λ e. rw (e, ne_eqb (suc (length (below b ls))) 0 (λ z. omega arith)) refl)
    (λ e. let y = ltb-false l b e in rw (e, below_past b end (suc l) ls (walk_tail _ _ 0 l ls w) (omega arith)) (sym (le-leb start start (omega arith))))

-- a test that matters only where another holds
under : (a b c d e : Bool) → (a ≡ true → d ≡ e) → (a && (b && (c && d))) ≡ (a && (b && (c && e)))
under true b c d e h = rw (h refl) refl
under false b c d e h = refl

pub list_is : (start front n : ℕ) (ms held : List ℕ) {rises opens starts : Bool} {c t u m : ℕ} → length held ≡ m → rises ≡ rising own_lsn any_lsn 0 (max32 + 1) ms
    → opens ≡ same_bytes (take m ms) held → c ≡ length (below front ms) → t ≡ min c max_malformed → u ≡ min n max_malformed
    → starts ≡ (eqb c 0 || leb start (get_or ms 0 start)) → (rises && (opens && (eqb t u && starts))) ≡ list_in start front n ms held
unfolding list_in all
list_is start front n ms held {rises} {opens} {starts} {c} {t} {u} {m} h p o q v w s =
    let z : t ≡ length (take max_malformed (below front ms)) = omega (arith, length-take max_malformed (below front ms)) in
    let k = under rises opens (eqb t u) starts (leb start (get_or (take max_malformed (below front ms)) 0 start)) (λ g. s ∙ rw q (first_taken front (max32 + 1) 4095 start ms (sym p ∙ g))) in
    k ∙ rw (p, o, z, w, h) (simp and-true)

-- whether any is taken, and the first given
pub some_taken : (c start : ℕ) (ms : List ℕ) {l : ℕ} {q : Bool} → (c ≡ 0 → ⊥) → l ≡ get_or ms 0 start → q ≡ leb start l → q ≡ (eqb c 0 || leb start (get_or ms 0 start))
some_taken c start ms h e q = q ∙ rw e (sym (rw (ne_eqb c 0 h) refl))

pub below_few : (b : ℕ) (ls : List ℕ) → length (below b ls) ≤ length ls
unfolding below
below_few b [] = omega arith
below_few b (l ∷ ls) = let h = below_few b ls in test (ltb l b) (λ e. rw e (omega arith)) (λ e. rw e (omega arith))
