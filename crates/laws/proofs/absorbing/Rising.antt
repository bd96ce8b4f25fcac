-- The LSNs of a rising list that lie below a bound. Assumes nothing.
use mathlib.Core.Path.{◌≡◌, refl}
use mathlib.Core.Bool.{true, false}
use mathlib.Core.List.{List, [], ◌∷◌}
use Prim.Native.Nat.{ℕ, zero, suc, ◌≤◌}
use native.Mathlib.Omega.{arith}
use lib.Dec.{ltb}
use lib.ListN.{length, take, get_or}
use borrow.Author.Tests.{ltb-true}
use Rattle.rules.specs.Tests.{walk}
use Rattle.rules.specs.Sections.{rising_ok, risen, rising, own_lsn, any_lsn}
use Rattle.rules.specs.Record.{below}
use Rattle.rules.proofs.Tests.{test}
use Rattle.rules.proofs.Walk.{walk_none, walk_cons, walk_head, walk_tail, risen→, →risen}

abbrev Rises : ℕ → ℕ → List ℕ → Type 0
Rises s end ls = walk (rising_ok own_lsn any_lsn end) (risen own_lsn) s ls ≡ true

-- a rising list rises from any number that its first LSN, if it has one, is not below
restart : (s t end : ℕ) (ls : List ℕ) → Rises s end ls → t ≤ get_or ls 0 t → Rises t end ls
restart s t end [] w h = walk_none _ _ t
restart s t end (l ∷ ls) w h =
    let a = risen→ own_lsn any_lsn end s l (walk_head _ _ s l ls w) in
    walk_cons _ _ t l ls (→risen own_lsn any_lsn end t l h a.1 refl) (walk_tail _ _ s l ls w)

-- from a lower number on
lower : (s t end : ℕ) (ls : List ℕ) → s ≤ t → Rises t end ls → Rises s end ls
lower s t end [] h w = walk_none _ _ s
lower s t end (l ∷ ls) h w =
    let a = risen→ own_lsn any_lsn end t l (walk_head _ _ t l ls w) in let b = a.0 in
    walk_cons _ _ s l ls (→risen own_lsn any_lsn end s l (omega arith) a.1 refl) (walk_tail _ _ t l ls w)

pub below_yes : (b l : ℕ) (ls : List ℕ) → ltb l b ≡ true → below b (l ∷ ls) ≡ l ∷ below b ls
unfolding below
below_yes b l ls e = rw e

pub below_no : (b l : ℕ) (ls : List ℕ) → ltb l b ≡ false → below b (l ∷ ls) ≡ below b ls
unfolding below
below_no b l ls e = rw e

pub below_none : (b : ℕ) → below b [] ≡ []
unfolding below
below_none b = refl

pub below_few : (b : ℕ) (ls : List ℕ) → length (below b ls) ≤ length ls
below_few b [] = rw (below_none b) (omega arith)
below_few b (l ∷ ls) =
    test (ltb l b) (λ e. rw (below_yes b l ls e) (omega (arith, below_few b ls))) (λ e. rw (below_no b l ls e) (omega (arith, below_few b ls)))

-- the first n below a bound rise up to it
pub below_rises : (b end n s : ℕ) (ls : List ℕ) → Rises s end ls → Rises s b (take n (below b ls))
below_rises b end zero s ls w = walk_none _ _ s
below_rises b end (suc n) s [] w = rw (below_none b) (walk_none _ _ s)
below_rises b end (suc n) s (l ∷ ls) w =
    let a = risen→ own_lsn any_lsn end s l (walk_head _ _ s l ls w) in let h = a.0 in
    test (ltb l b)
    (λ e. rw (below_yes b l ls e) (walk_cons _ _ s l _ (→risen own_lsn any_lsn b s l h (ltb-true l b e) refl) (below_rises b end n (suc l) ls (walk_tail _ _ s l ls w))))
    (λ e. rw (below_no b l ls e) (lower s (suc l) b _ (omega arith) (below_rises b end (suc n) (suc l) ls (walk_tail _ _ s l ls w))))

-- and from a start that the first is not below
pub taken_rises : (b end n start : ℕ) (ls : List ℕ) → rising own_lsn any_lsn 0 end ls ≡ true → start ≤ get_or (take n (below b ls)) 0 start
    → rising own_lsn any_lsn start b (take n (below b ls)) ≡ true
unfolding rising
taken_rises b end n start ls w h = restart 0 start b _ (below_rises b end n 0 ls w) h

-- the first of a rising list is not below its start
pub rising_first : (start end : ℕ) (ls : List ℕ) → rising own_lsn any_lsn start end ls ≡ true → start ≤ get_or ls 0 start
unfolding rising
rising_first start end [] w = omega arith
rising_first start end (l ∷ ls) w = (risen→ own_lsn any_lsn end start l (walk_head _ _ start l ls w)).0
