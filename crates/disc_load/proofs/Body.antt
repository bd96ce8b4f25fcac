-- The list of a body, put into its slot's tables. Assumes nothing.
use mathlib.Core.Path.{◌≡◌, refl}
use mathlib.Core.List.{List}
use Prim.Native.Nat.{ℕ, ◌+◌, ◌-◌, ◌≤◌}
use native.Mathlib.Omega.{arith}
use lib.ListN.{length, take, drop}
use Rattle.rules.specs.declared.Area.{Area}
use Rattle.rules.specs.declared.AreaIndex.{AreaIndex}
use Rattle.rules_disc.specs.declared.Entry.{Entry}
use Rattle.tables.specs.Index.{Tables, tables_from}
use Rattle.inspect.specs.declared.Found.{Found}
use Rattle.load.specs.Limit.{limited_in}
use Rattle.load.specs.Steps.{Loadable}
use Rattle.disc_load.specs.declared.ask.Body.{Body}
use Rattle.disc_load.specs.declared.ask.Body.TheVariants as body
use Rattle.disc_load.specs.Steps.{BodyLoads, held_in}
use Rattle.rules_disc.specs.declared.Listed.TheVariants as listed
use Rattle.disc_load.specs.DiscLoad.{listed_from, tables_with}

module _ (a : Area) (b : List ℕ) (limit : ℕ) (t : Tables) {x : Body} where
  pub absent : x ≡ body.Absent → (listed.Absent ≡ listed_from (held_in a b limit x)) × (t ≡ tables_with (held_in a b limit x) t)
  unfolding listed_from tables_with held_in
  absent h = rw h (refl, refl)

  module _ {e : Entry} {found : Found} {y : AreaIndex} (h : x ≡ body.At e found y) (k : BodyLoads a b limit t x) where
    holds : (e.offset + e.len ≤ length b) × Loadable a (take e.len (drop e.offset b)) limit found y t
    holds = rw h at k

    pub inside : e.offset + e.len ≤ length b
    inside = holds.0

    module _ {to : ℕ} (q : to ≡ e.offset + e.len) where
      pub ready : Loadable a (take (to - e.offset) (drop e.offset b)) limit found y t
      ready = let s : to - e.offset ≡ e.len = omega arith in rw s holds.1

      pub present : {t' : Tables} → t' ≡ tables_from (limited_in a (take (to - e.offset) (drop e.offset b)) limit) t
          → (listed.Index y ≡ listed_from (held_in a b limit x)) × (t' ≡ tables_with (held_in a b limit x) t)
      unfolding listed_from tables_with held_in
      present m = let s : to - e.offset ≡ e.len = omega arith in rw h (rw holds.1.numbers, rw (m, s))
