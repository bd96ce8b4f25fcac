-- The sizes of a file, the length of a list's file, and the area that a file is of. Assumes nothing.
use Prim.Native.Nat.{ℕ, ◌-◌, ◌<◌, ◌≤◌}
use mathlib.Core.Path.{◌≡◌, refl, ap, ◌∙◌}
use mathlib.Core.Bool.{Bool, true, false, cond}
use mathlib.Core.List.{List}
use native.Mathlib.Omega.{arith}
use borrow.Author.Tests.{le-leb, lt-leb, eq-eqb, ne_eqb}
use lib.Dec.{eqb}
use lib.ListN.{length, take, length-take}
use Rattle.field.specs.Number.{decode}
use Rattle.field.specs.Records.{Bytes}
use Rattle.rules.specs.declared.Area.{Area}
use Rattle.rules.specs.Tests.{Answer, Refused, Accepted, first_no, after, bind}
use Rattle.rules.specs.Values.{Index}
use Rattle.rules.specs.Questions.{area_ok, question1}
use Rattle.rules.specs.declared.AreaIndex.{AreaIndex}
use Rattle.rules.specs.declared.Header.{Header}
use Rattle.rules.specs.File.{read_header, saved_length}
use Rattle.fnv.specs.Fnv.{fnv64}
use Rattle.rules.specs.Load.{body_in, sum_in, key_of, file_number, from_bytes, limited}
use Rattle.laws.proofs.Loaded.{loaded_valid}
use Rattle.tables.specs.Index.{Tables, index_in, refusal, numbers_from}
use Rattle.inspect.specs.declared.Found.{Found}
use Rattle.inspect.specs.declared.Inspected.TheVariants as inspected
use Rattle.inspect.specs.Inspect.{found_in, inspection_of, inspection}
use Rattle.rules.specs.declared.TableSizes.{TableSizes}
use Rattle.sizes.specs.Steps.{limited_sizes}
use Rattle.sizes.specs.Sizes.{range_of, sized_of, file_sizes, length_in, file_length, before_sum, file_area}
use Rattle.rules.specs.declared.Sized.TheVariants as sized

-- ---- what inspecting says of the file
passed_is : (b : List ℕ) (found : Found) (r : Answer Index) → inspected.Passed found ≡ inspection_of b r
    → (x : Index) × ((r ≡ Accepted x) × (found ≡ found_in b x))
unfolding inspection_of
passed_is b found (Refused m) e = let z : ◌≡◌ {A = ℕ} 0 1 = cc in let f : ⊥ = omega arith in absurd f
passed_is b found (Accepted x) e = (x, (refl, cc))

refused_is : (b : List ℕ) (n : ℕ) (r : Answer Index) → inspected.Refused n ≡ inspection_of b r → r ≡ Refused n
unfolding inspection_of
refused_is b n (Refused m) e = cc
refused_is b n (Accepted x) e = let z : ◌≡◌ {A = ℕ} 0 1 = cc in let f : ⊥ = omega arith in absurd f

list_sizes : (a : Area) (b : List ℕ) (limit : ℕ) → area_ok a ≡ true → (x : Index) → from_bytes a b ≡ Accepted x → {s : TableSizes}
    → s ≡ limited_sizes (numbers_from x) limit → sized_of (sized.Sizes s) ≡ file_sizes a b limit
unfolding sized_of file_sizes first_no after bind limited_sizes limited
list_sizes a b limit o x e q = rw (q, o, e)

module _ (a : Area) (b : List ℕ) (limit : ℕ) where
  pub no_area : area_ok a ≡ false → sized_of (sized.Refused 1) ≡ file_sizes a b limit
  unfolding sized_of file_sizes first_no after
  no_area e = rw e

  module _ (o : area_ok a ≡ true) where
    pub no_file : {n : ℕ} → inspected.Refused n ≡ inspection a b → sized_of (sized.Refused n) ≡ file_sizes a b limit
    unfolding sized_of file_sizes first_no after bind
    no_file {n} e = rw (o, refused_is b n (from_bytes a b) e)

    module _ {found : Found} (e : inspected.Passed found ≡ inspection a b) where
      pub area_found : Bytes b → area_ok found.index.area ≡ true
      unfolding question1
      area_found y = let p = passed_is b found (from_bytes a b) e in rw p.1.1 (loaded_valid a b p.0 y o p.1.0).one

      pub found_sizes : {s : TableSizes} → s ≡ limited_sizes found.index limit → sized_of (sized.Sizes s) ≡ file_sizes a b limit
      found_sizes q =
          let p = passed_is b found (from_bytes a b) e in
          list_sizes a b limit o p.0 p.1.0 (q ∙ ap (λ f. limited_sizes f.index limit) p.1.1)

-- ---- the length of a list's file
module _ (x : AreaIndex) (t : Tables) {n : ℕ} (e : n ≡ refusal x t) where
  pub length_refused : (n ≡ 0 → ⊥) → Refused n ≡ length_in x t
  unfolding length_in after
  length_refused h = rw (← e, ne_eqb n 0 h)

  pub length_told : n ≡ 0 → {k : ℕ} → k ≡ saved_length (index_in x t) → Accepted k ≡ length_in x t
  unfolding length_in after
  length_told z q = rw (← e, z, q)

  -- as one number
  pub number_refused : (n ≡ 0 → ⊥) → n ≡ file_length x t
  unfolding file_length
  number_refused h = rw (← e, ne_eqb n 0 h)

  pub number_told : n ≡ 0 → {k : ℕ} → k ≡ saved_length (index_in x t) → k ≡ file_length x t
  unfolding file_length
  number_told z q = rw (← e, z, q)

-- ---- the area that a file is of
-- 22 is not asked
unasked : (s : Bool) → ◌≡◌ {A = ℕ} (cond (eqb (cond s 0 22) 22) 0 (cond s 0 22)) 0
unasked true = refl
unasked false = refl

module _ (b : List ℕ) where
  pub no_length : length b < 8 → Refused 20 ≡ file_area b
  unfolding file_area file_number before_sum first_no after
  no_length h = rw (lt-leb 8 (length b) h)

  body_length : 8 ≤ length b → length (body_in b) ≡ length b - 8
  body_length h = length-take (length b - 8) b ∙ omega arith

  module _ (h : 8 ≤ length b) where
    pub no_body : length b - 8 < 80 → Refused 21 ≡ file_area b
    unfolding file_area file_number before_sum first_no after
    no_body g = rw (le-leb 8 (length b) h, body_length h, lt-leb 80 (length b - 8) g)

    module _ (g : 80 ≤ length b - 8) {r : Header} (i : r ≡ read_header (take (length b - 8 - 0) b)) where
      e : r ≡ read_header (body_in b)
      e = i ∙ ap (λ n. read_header (take n b)) (let z : length b - 8 - 0 ≡ length b - 8 = omega arith in z)

      pub no_magic : (r.magic ≡ 6361698709525447251 → ⊥) → Refused 21 ≡ file_area b
      unfolding file_area file_number before_sum first_no after decode
      no_magic n = rw (le-leb 8 (length b) h, body_length h, le-leb 80 (length b - 8) g, ← e, ne_eqb r.magic 6361698709525447251 n)

      pub area_there : {a : Area} → r.magic ≡ 6361698709525447251 → a ≡ range_of (key_of r) → Accepted a ≡ file_area b
      unfolding file_area file_number before_sum first_no after decode
      area_there m q = rw (le-leb 8 (length b) h, body_length h, le-leb 80 (length b - 8) g, ← e, eq-eqb r.magic 6361698709525447251 m, unasked (eqb (fnv64 (body_in b)) (sum_in b)), q)
