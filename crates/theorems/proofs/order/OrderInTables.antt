-- Change request 13 about tables: the statement of specs/OrderInTables.antt. Assumes nothing.
use mathlib.Core.Path.{◌≡◌, refl, sym, ap, subst, ◌∙◌}
use mathlib.Core.Bool.{true}
use mathlib.Core.List.{List, [], ◌∷◌}
use Prim.Native.Nat.{ℕ}
use lib.Dec.{eqb}
use Rattle.rules.specs.declared.Area.{Area}
use Rattle.rules.specs.Tests.{after}
use Rattle.rules.specs.Sizes.{sized}
use Rattle.rules.specs.Merge.{merge}
use Rattle.rules.specs.Run.{Place, merge_call, State, begin, answered, step, run}
use Rattle.rules.proofs.Tests.{test}
use Rattle.laws.specs.Statements.{Savable}
use Rattle.index.proofs.Lent.{sized_in}
use Rattle.theorems.specs.TableRun.{merge_tables, TableState, begin_tables, table_step, table_run, place_in, state_in}
use Rattle.theorems.specs.Order.{Together, Merge, merge_calls, Gathered}
use Rattle.theorems.specs.OrderInTables.{merge_table_calls, after_table_merges, HintsGatheredInTables}
use Rattle.theorems.proofs.CutLaws.{merged_fits}
use Rattle.theorems.proofs.TableRun.{AllKinds, merge_same}
use Rattle.theorems.proofs.order.Order.{Inv, joins, Good, start, step_good, hints_gathered}

module _ (p : ℕ → Place) (a : Area) (k most : ℕ) (t : Together p a k most) where
  -- the lists of a state fit their types
  abbrev Fit : State → Type 0
  Fit s = (i : ℕ) → sized (s.now i).list ≡ true

  savable : (i : ℕ) (q : Place) (ws : List ℕ) → Inv p a k most t i q ws → sized q.list ≡ true → Savable q.list
  savable i q ws v z = record { one = v.valid.one; two = v.valid.two; four = v.valid.four; sizes = z }

  step_fit : (i j : ℕ) (s : State) → Good p a k most t s → Fit s → Fit (step a (merge_call i j) s)
  unfolding step merge after answered
  step_fit i j s g z n =
      let e = joins p a k most t i j (s.now i) (s.now j) (s.went i) (s.went j) (g i) (g j) in
      test (eqb n i) (λ q. rw (q, e) (merged_fits (s.now i).list (s.now j).list (z i) (z j))) (λ q. rw q (z n))

  run_same : (ms : List Merge) (s : TableState) → Good p a k most t (state_in s) → AllKinds s → Fit (state_in s)
      → state_in (table_run a (merge_table_calls ms) s) ≡ run a (merge_calls ms) (state_in s)
  unfolding table_run run merge_table_calls merge_calls
  run_same [] s g kinds z = refl
  run_same (m ∷ ms) s g kinds z =
      let i = m.into in let j = m.from in
      let n = merge_same a i j s (savable i _ _ (g i) (z i)) (savable j _ _ (g j) (z j)) kinds in
      let s' = table_step a (merge_tables i j) s in
      let g' : Good p a k most t (state_in s') = subst (λ (σ : State). Good p a k most t σ) (sym n.is)
      (step_good p a k most t i j (state_in s) g) in
      let z' : Fit (state_in s') = subst (λ (σ : State). Fit σ) (sym n.is) (step_fit i j (state_in s) g z) in
      run_same ms s' g' n.kinds z' ∙ ap (run a (merge_calls ms)) n.is

pub hints_gathered_in_tables : HintsGatheredInTables
hints_gathered_in_tables p a k most l t ms i =
    let q : ℕ → Place = λ n. place_in (p n) in
    let e : state_in (after_table_merges a p ms) ≡ run a (merge_calls ms) (begin q) =
    run_same q a k most t ms (begin_tables p) (start q a k most t) (λ n. (l n).kinds)
    (λ n. sized_in (p n).numbers (p n).tables (l n).lent.typed (l n).lent.bytes) in
    subst (λ (σ : State). Gathered q σ i) (sym e) (hints_gathered q a k most t ms i)
