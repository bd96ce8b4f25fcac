-- What loading answers, by what was asked. Assumes nothing.
use mathlib.Core.Path.{◌≡◌, refl, sym, ◌∙◌}
use mathlib.Core.Bool.{Bool, true, false}
use mathlib.Core.List.{List}
use Prim.Native.Nat.{ℕ}
use native.Mathlib.Omega.{arith}
use Rattle.field.specs.Records.{Bytes}
use Rattle.rules.specs.declared.Area.{Area}
use Rattle.rules.specs.declared.AreaIndex.{AreaIndex}
use Rattle.rules.specs.Tests.{Answer, Refused, Accepted, first_no, after, bind}
use Rattle.rules.specs.Values.{Index}
use Rattle.rules.specs.Questions.{area_ok, question1, question3}
use Rattle.rules.specs.Load.{from_bytes, limited, load}
use Rattle.rules.proofs.Tests.{→bind}
use Rattle.laws.proofs.Loaded.{loaded_valid}
use Rattle.rules.specs.declared.Made.TheVariants as made
use Rattle.tables.specs.Index.{Tables, room_of, room_in, numbers_from, tables_from, made_out, made_out_of}
use Rattle.inspect.specs.declared.Found.{Found}
use Rattle.inspect.specs.declared.Inspected.TheVariants as inspected
use Rattle.inspect.specs.Inspect.{found_in, inspection_of, inspection}
use Rattle.load.specs.Limit.{list_of, list_in, limited_in, Accepts}
use Rattle.load.specs.declared.Decided.{Decided}
use Rattle.load.specs.declared.Decided.TheVariants as decided
use Rattle.load.specs.Load.{load_in}
use Rattle.load.specs.Steps.{Loadable, Decision}

-- ---- what inspecting says of the file
refused_is : (b : List ℕ) (n : ℕ) (r : Answer Index) → inspected.Refused n ≡ inspection_of b r → r ≡ Refused n
unfolding inspection_of
refused_is b n (Refused m) e = cc
refused_is b n (Accepted x) e = let z : ◌≡◌ {A = ℕ} 0 1 = cc in let f : ⊥ = omega arith in absurd f

passed_is : (a : Area) (b : List ℕ) (found : Found) (r : Answer Index) → inspected.Passed found ≡ inspection_of b r
    → (r ≡ Accepted (list_of a r)) × (found ≡ found_in b (list_of a r))
unfolding inspection_of list_of
passed_is a b found (Refused m) e = let z : ◌≡◌ {A = ℕ} 0 1 = cc in let f : ⊥ = omega arith in absurd f
passed_is a b found (Accepted x) e = (refl, cc)

pub accepts : (a : Area) (b : List ℕ) {found : Found} → area_ok a ≡ true → inspected.Passed found ≡ inspection a b → Accepts a b found
accepts a b {found} o e = let h = passed_is a b found (from_bytes a b) e in record { area = o; file = h.0; is = h.1 }

-- ---- the limited list
module _ {a : Area} {b : List ℕ} {found : Found} {y : AreaIndex} (limit : ℕ) (k : Accepts a b found) (e : y ≡ numbers_from (limited_in a b limit)) where
  pub area_kept : Bytes b → area_ok y.area ≡ true
  unfolding question1 limited
  area_kept g = rw e (loaded_valid a b (list_in a b) g k.area k.file).one

  room_kept : (t : Tables) → room_in y t ≡ question3 (room_of t) (limited_in a b limit)
  unfolding room_in question3
  room_kept t = rw e

-- ---- what is decided
module _ {a : Area} {b : List ℕ} (limit : ℕ) (t : Tables) where
  refuses : {n : ℕ} → load (room_of t) a b limit ≡ Refused n → Decision a b limit t (decided.Refused n)
  refuses {n} e =
      record {
        refused = λ m q. let p : n ≡ m = cc in rw (← p) e;
        ready = λ found y q. let z : ◌≡◌ {A = ℕ} 0 1 = cc in let f : ⊥ = omega arith in absurd f;
      }

  pub no_area : area_ok a ≡ false → Decision a b limit t (decided.Refused 1)
  unfolding load first_no after
  no_area e = refuses (rw e)

  pub no_file : {n : ℕ} → area_ok a ≡ true → inspected.Refused n ≡ inspection a b → Decision a b limit t (decided.Refused n)
  unfolding load first_no after bind
  no_file {n} o e = refuses (rw (o, refused_is b n (from_bytes a b) e))

  module _ {found : Found} {y : AreaIndex} (k : Accepts a b found) (e : y ≡ numbers_from (limited_in a b limit)) where
    pub no_room : {r : Bool} → r ≡ room_in y t → r ≡ false → Decision a b limit t (decided.Refused 3)
    unfolding load first_no after bind
    no_room q z = refuses (rw (k.area, k.file, ← room_kept limit k e t, ← q, z))

    pub room : {r : Bool} → r ≡ room_in y t → r ≡ true → Decision a b limit t (decided.Ready found y)
    room q z =
        record {
          refused = λ n h. let z : ◌≡◌ {A = ℕ} 0 1 = cc in let f : ⊥ = omega arith in absurd f;
          ready = λ found' y' h.
              let p : found ≡ found' = cc in
              let s : y ≡ y' = cc in
              rw (← p, ← s) (record { accepts = k; numbers = e; room = sym (room_kept limit k e t) ∙ sym q ∙ z });
        }

  -- ---- what is answered
  pub answer_refused : {r : Decided} {n : ℕ} → Decision a b limit t r → r ≡ decided.Refused n → made_out (made.Refused n) t ≡ load_in a b limit t
  unfolding made_out_of
  answer_refused {r} {n} d e = rw (d.refused n e)

  pub ready_loads : {found : Found} {y : AreaIndex} → Loadable a b limit found y t → load (room_of t) a b limit ≡ Accepted (limited_in a b limit)
  unfolding load first_no after
  ready_loads w = rw w.accepts.area (→bind _ w.accepts.file (rw w.room))

  pub answer_ready : {found : Found} {y : AreaIndex} {t' : Tables} → Loadable a b limit found y t → t' ≡ tables_from (limited_in a b limit) t
      → made_out (made.Index y) t' ≡ load_in a b limit t
  unfolding made_out_of
  answer_ready w h = rw (ready_loads w, h, w.numbers)
