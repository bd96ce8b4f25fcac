-- The given malformed LSNs that are taken are the first ones. Assumes nothing.
use Rattle.std.specs.Prelude.{Option}
use mathlib.Core.Path.{◌≡◌, refl, sym, ap, ◌∙◌}
use mathlib.Core.Bool.{Bool, true, false}
use mathlib.Core.List.{List, [], ◌∷◌}
use Prim.Native.Nat.{ℕ, suc, ◌+◌, ◌*◌, ◌/◌, ◌≤◌, min}
use native.Mathlib.Omega.{arith}
use lib.Dec.{ltb, leb}
use lib.ListN.{length, take, length-take}
use lib.Seq.{take-take, take_all}
use borrow.Author.Tests.{ltb-false, leb-true, leb-false}
use Rattle.field.proofs.Records.{records_length, take_records}
use Rattle.rules.specs.declared.AreaIndex.{AreaIndex}
use Rattle.rules.specs.declared.EndState.{EndState}
use Rattle.rules.specs.Tests.{walk}
use Rattle.rules.specs.Values.{max_malformed, max32}
use Rattle.rules.specs.Sections.{rising_ok, risen, rising, own_lsn, any_lsn}
use Rattle.rules.specs.Record.{below}
use Rattle.rules.specs.File.{decode_lsn}
use Rattle.rules.proofs.Tests.{test}
use Rattle.rules.proofs.Walk.{walk_tail}
use Rattle.tables.specs.Tables.{lsns_in, given_in}
use Rattle.merge.specs.Steps.{Takes, LsnsTaken}
use Rattle.absorb.proofs.questions.Lists.{below_past, below_few}
use Rattle.absorb.specs.Steps.{front_of, front_at, TakesBelow, TakenBelow}

-- the first m of the first n
take_min : (m n : ℕ) (ls : List ℕ) → take m (take n ls) ≡ take (min m n) ls
take_min m n ls =
    test (leb m n) (λ e. let h = leb-true m n e in let q : min m n ≡ m = omega arith in rw q (take-take m n ls h))
    (λ e. let h = leb-false m n e in let q : min m n ≡ n = omega arith in rw q (take_all m (take n ls) (rw (length-take n ls) (omega arith))))

-- of a rising list those below a bound are the first ones
below_first : (b end s : ℕ) (ls : List ℕ) → walk (rising_ok own_lsn any_lsn end) (risen own_lsn) s ls ≡ true → below b ls ≡ take (length (below b ls)) ls
unfolding below
below_first b end s [] w = refl
below_first b end s (l ∷ ls) w =
    let t = walk_tail _ _ s l ls w in
    test (ltb l b) (λ e. rw e (ap (λ (ks : List ℕ). l ∷ ks) (below_first b end (suc l) ls t)))
    (λ e. let h = ltb-false l b e in rw (e, below_past b end (suc l) ls t (omega arith)) refl)

-- how many are taken
module _ (b : ℕ) (ms : List ℕ) where
  abbrev taken : List ℕ
  taken = take max_malformed (below b (given_in ms))

  taken_few : (length taken ≤ max_malformed) × (length taken * 4 ≤ length ms)
  taken_few =
      let l = length-take max_malformed (below b (given_in ms)) in
      let n = below_few b (given_in ms) in let k = records_length 4 decode_lsn (length ms / 4) ms in
      (omega arith, omega arith)

  pub taken_count : {c r : ℕ} → c ≡ length (below b (given_in ms)) → r ≡ min c max_malformed → r ≡ length taken
  taken_count p q = let l = length-take max_malformed (below b (given_in ms)) in omega arith

  taken_first : rising own_lsn any_lsn 0 (max32 + 1) (given_in ms) ≡ true → lsns_in (length taken) ms ≡ taken
  unfolding rising
  taken_first w =
      let n = length (below b (given_in ms)) in
      let l : length taken ≡ min max_malformed n = length-take max_malformed (below b (given_in ms)) in
      let f = below_few b (given_in ms) in let k = records_length 4 decode_lsn (length ms / 4) ms in
      let g = below_first b (max32 + 1) 0 (given_in ms) w in
      sym (ap (take max_malformed) g ∙ take_min max_malformed n (given_in ms) ∙ rw (← l) (take_records 4 decode_lsn (length taken) (length ms / 4) ms (omega arith)))

module _ {x : AreaIndex} {n m : ℕ} {e : Option EndState} {t ms : List ℕ} (h : TakesBelow x n e t ms) where
  pub below_takes : m ≡ length (take max_malformed (below (front_at x n e) (given_in ms))) → Takes x.malformed m t ms
  below_takes p =
      let f = taken_few (front_at x n e) ms in let f0 = f.0 in let f1 = f.1 in let r = h.room in
      record { own = h.own; other = omega arith; room = omega arith }

  pub below_taken : {go : Bool} {r : ℕ} {t' : List ℕ} → m ≡ length (take max_malformed (below (front_at x n e) (given_in ms))) → go ≡ ltb (front_of x) (front_at x n e)
      → LsnsTaken go x.malformed m t ms r t' → TakenBelow x n e t ms r t'
  below_taken {go} p g k =
      test go
      (λ y. let z : ltb (front_of x) (front_at x n e) ≡ true = sym g ∙ y in
      rw (z, ← taken_first (front_at x n e) ms (h.rises z), ← p) (rw y at k))
      (λ y. let z : ltb (front_of x) (front_at x n e) ≡ false = sym g ∙ y in rw z (rw y at k))
