-- The sections of an index, and the room that they need. Assumes nothing.
use mathlib.Core.Path.{◌≡◌, refl}
use mathlib.Core.Bool.{cond}
use mathlib.Core.List.{List, [], ◌++◌, append_assoc}
use Prim.Native.Nat.{ℕ, ◌+◌, ◌*◌, ◌≤◌, ◌<◌}
use native.Mathlib.Omega.{arith}
use borrow.Author.Tests.{le-leb, lt-leb}
use lib.Dec.{leb}
use Rattle.field.proofs.Records.{records_length}
use Rattle.rules.specs.declared.AreaIndex.{AreaIndex}
use Rattle.rules.specs.Values.{used}
use Rattle.rules.specs.File.{decode_confirmation, has_hinting, version_of, header_bytes, header_of, hint_section, confirmed_section, body_of, saved_length}
use Rattle.tables.specs.Tables.{frames_in, decode_kept}
use Rattle.tables.specs.Index.{Tables, index_in, tables}
use Rattle.fnv.specs.Fnv.{fnv_from}
use Rattle.save.specs.Output.{Summed}
use Rattle.save.specs.declared.output.Written.{Written}
use Rattle.save.proofs.output.Sums.{summed_both}
use Rattle.save.specs.Layout.{hint_header_of}
use Rattle.save.proofs.layout.Numbers.{length_is, version_any}
use Rattle.save.specs.Steps.{hint_bytes, confirmed_bytes, hint_index, hinting_size, scan_bytes, scan_size}

-- nothing written
nothing : (o : List ℕ) (w : Written) → Summed [] 0 o w w o
unfolding fnv_from
nothing o w = record { put = record { size = refl; ends = omega arith; bytes = refl }; sum = refl }

-- the length by its parts
module _ (x : AreaIndex) (t : Tables) where
  pub sizes_are : 80 + (scan_size x (used (frames_in x.frames t.frames t.store)) + hinting_size x) + 8 ≡ saved_length (index_in x t)
  sizes_are =
      let e = length_is x t refl (version_any x (tables [] [] [] [] [] [] []) t) refl refl refl in
      omega arith

module _ (x : AreaIndex) (hints confirmed : List ℕ) where
  hints_are : cond (leb 2 (version_of (hint_index x hints confirmed))) (hint_bytes (hint_header_of x) hints) [] ≡ hint_section (hint_index x hints confirmed)
  unfolding hint_section
  hints_are = rw (records_length 8 decode_kept x.hints hints) (simp append_assoc)

  confirmed_are : cond (leb 3 (version_of (hint_index x hints confirmed))) (confirmed_bytes x.confirmed confirmed) [] ≡ confirmed_section (hint_index x hints confirmed)
  unfolding confirmed_section
  confirmed_are = rw (records_length 16 decode_confirmation x.confirmed confirmed)

  module _ {v : ℕ} (e : (t : Tables) → v ≡ version_of (index_in x t)) where
    sections_are : cond (leb 2 v) (hint_bytes (hint_header_of x) hints) [] ++ cond (leb 3 v) (confirmed_bytes x.confirmed confirmed) []
        ≡ hint_section (hint_index x hints confirmed) ++ confirmed_section (hint_index x hints confirmed)
    sections_are = rw (e (tables [] [] [] [] [] hints confirmed), hints_are, confirmed_are)

    size_is : cond (leb 2 v) (24 + 8 * x.hints) 0 + cond (leb 3 v) (8 + 16 * x.confirmed) 0 ≡ hinting_size x
    size_is = rw (e (tables [] [] [] [] [] [] []))

    -- version 1 has neither section
    pub hinting_none : (o : List ℕ) (w : Written) → v < 2
        → Summed (hint_section (hint_index x hints confirmed) ++ confirmed_section (hint_index x hints confirmed)) (hinting_size x) o w w o
    hinting_none o w h =
        let l : v < 3 = omega arith in
        rw (← sections_are, ← size_is, lt-leb 2 v h, lt-leb 3 v l) (nothing o w)

    -- version 2 has the first
    pub hinting_first : {o : List ℕ} {w n : Written} {o' : List ℕ} → 2 ≤ v → v < 3 → Summed (hint_bytes (hint_header_of x) hints) (24 + 8 * x.hints) o w n o'
        → Summed (hint_section (hint_index x hints confirmed) ++ confirmed_section (hint_index x hints confirmed)) (hinting_size x) o w n o'
    hinting_first {n = n} {o' = o'} h l p =
        rw (← sections_are, ← size_is, le-leb 2 v h, lt-leb 3 v l) (summed_both {r = []} {m = 0} p (nothing o' n))

    -- versions 3 and 4 have both
    pub hinting_both : {o : List ℕ} {w k n : Written} {o' o2 : List ℕ} → 3 ≤ v → Summed (hint_bytes (hint_header_of x) hints) (24 + 8 * x.hints) o w k o'
        → Summed (confirmed_bytes x.confirmed confirmed) (8 + 16 * x.confirmed) o' k n o2
        → Summed (hint_section (hint_index x hints confirmed) ++ confirmed_section (hint_index x hints confirmed)) (hinting_size x) o w n o2
    hinting_both h p q =
        let l : 2 ≤ v = omega arith in
        rw (← sections_are, ← size_is, le-leb 2 v l, le-leb 3 v h) (summed_both p q)

    -- their room
    pub hint_room : 2 ≤ v → 24 + 8 * x.hints ≤ hinting_size x
    hint_room h = rw (← size_is, le-leb 2 v h) (omega arith)

    pub both_room : 3 ≤ v → 24 + 8 * x.hints + (8 + 16 * x.confirmed) ≤ hinting_size x
    both_room h =
        let l : 2 ≤ v = omega arith in
        rw (← size_is, le-leb 2 v l, le-leb 3 v h) (omega arith)

-- the sections end to end
pub body_is : (x : AreaIndex) (t : Tables) → header_bytes (header_of (index_in x t))
    ++ (scan_bytes x t
    ++ (hint_section (hint_index x t.hints t.confirmed) ++ confirmed_section (hint_index x t.hints t.confirmed))) ≡ body_of (index_in x t)
unfolding body_of hint_section confirmed_section version_of has_hinting
body_is x t = simp append_assoc
