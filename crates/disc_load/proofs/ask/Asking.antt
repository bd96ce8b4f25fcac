-- The questions of a body. Assumes nothing.
use mathlib.Core.Path.{◌≡◌, refl}
use mathlib.Core.List.{List}
use Prim.Native.Nat.{ℕ, ◌+◌, ◌-◌, ◌≤◌}
use native.Mathlib.Omega.{arith}
use lib.ListN.{length, take, drop}
use Rattle.rules.specs.declared.Area.{Area}
use Rattle.rules.specs.declared.AreaIndex.{AreaIndex}
use Rattle.rules_disc.specs.declared.Entry.{Entry}
use Rattle.rules.specs.Tests.{Accepted, bind}
use Rattle.rules_disc.specs.Disc.{body_at, load_body}
use Rattle.rules.proofs.Tests.{→bind}
use Rattle.rules_disc.specs.declared.SlotEntry.{SlotEntry}
use Rattle.rules_disc.specs.declared.SlotEntry.TheVariants as place
use Rattle.disc_load.specs.Steps.{entry_in, Inside, place_of, BodyLoads, held_in, BodyDecision}
use Rattle.tables.specs.Index.{Tables, room_of}
use Rattle.inspect.specs.declared.Found.{Found}
use Rattle.load.specs.declared.Decided.{Decided}
use Rattle.load.specs.declared.Decided.TheVariants as decided
use Rattle.load.specs.Steps.{Decision}
use Rattle.load.proofs.Answers.{ready_loads}
use Rattle.disc_load.specs.declared.ask.Body.{Body}
use Rattle.disc_load.specs.declared.ask.Body.TheVariants as body
use Rattle.disc_load.specs.declared.ask.Asked.TheVariants as asked

pub inside_at : (b : List ℕ) {p : SlotEntry} {e : Entry} → p ≡ place.At e → Inside b p → e.offset + e.len ≤ length b
inside_at b h i = rw h at i

module _ (a : Area) (b : List ℕ) (limit : ℕ) (t : Tables) where
  pub held_loads : {p : SlotEntry} (x : Body) → p ≡ place_of x → BodyLoads a b limit t x → load_body (room_of t) a limit (body_at b (entry_in p)) ≡ Accepted (held_in a b limit x)
  unfolding load_body body_at entry_in place_of held_in
  held_loads body.Absent e h = rw e
  held_loads (body.At d found y) e h = rw e (→bind _ (ready_loads limit t h.1) refl)

  -- ---- what is answered
  module _ {p : SlotEntry} where
    passes : {x : Body} → p ≡ place_of x → BodyLoads a b limit t x → BodyDecision a b limit t p (asked.Passed x)
    passes {x} e h =
        record {
          refused = λ n q. let z : ◌≡◌ {A = ℕ} 0 1 = cc in let f : ⊥ = omega arith in absurd f;
          passed = λ x' q. let i : x ≡ x' = cc in rw (← i) (e, h);
        }

    pub absent : p ≡ place.Absent → BodyDecision a b limit t p (asked.Passed body.Absent)
    unfolding place_of
    absent e = passes e tt

    module _ {e : Entry} {to : ℕ} {r : Decided} (h : p ≡ place.At e) (q : to ≡ e.offset + e.len)
        (d : Decision a (take (to - e.offset) (drop e.offset b)) limit t r) where
      said : Decision a (take e.len (drop e.offset b)) limit t r
      said = let s : e.len ≡ to - e.offset = omega arith in rw s d

      pub present_refused : {n : ℕ} → r ≡ decided.Refused n → BodyDecision a b limit t p (asked.Refused n)
      unfolding load_body body_at entry_in bind
      present_refused {n} k =
          record {
            refused = λ m z. let i : n ≡ m = cc in rw (h, ← i, said.refused n k);
            passed = λ x z. let z : ◌≡◌ {A = ℕ} 0 1 = cc in let f : ⊥ = omega arith in absurd f;
          }

      pub present_ready : {found : Found} {y : AreaIndex} → r ≡ decided.Ready found y → Inside b p → BodyDecision a b limit t p (asked.Passed (body.At e found y))
      unfolding place_of
      present_ready {found} {y} k i = passes h (inside_at b h i, said.ready found y k)
