-- Disc files in tables: one file for equal content, and what is right is accepted. Assumes nothing.
use Rattle.std.specs.Prelude.{Option, None, Some}
use mathlib.Core.Path.{◌≡◌, refl, subst}
use mathlib.Core.Bool.{◌&&◌}
use mathlib.Core.List.{List}
use Prim.Native.Nat.{ℕ}
use native.Mathlib.Omega.{arith}
use lib.ListN.{length, take, drop}
use Rattle.field.specs.Records.{Bytes}
use Rattle.field.proofs.Bytes.{bytes_part}
use Rattle.rules.specs.declared.Area.{Area}
use Rattle.rules.specs.Tests.{Accepted}
use Rattle.rules.specs.Values.{Index, Lengths}
use Rattle.rules.specs.Load.{limited, load}
use Rattle.rules_disc.specs.declared.Entry.{Entry}
use Rattle.rules_disc.specs.Disc.{entries_in, entry_of, body_at, save_both}
use Rattle.laws.specs.Statements.{Savable}
use Rattle.laws.proofs.Loaded.{loaded_valid}
use Rattle.rules.specs.Questions.{question1}
use Rattle.tables.specs.Index.{room_of, index_in, kinds_in, kinded}
use Rattle.index.proofs.Lent.{sized_in}
use Rattle.save.specs.Save.{save_out}
use Rattle.disc_save.specs.DiscSave.{save_one_in, save_both_in}
use Rattle.theorems.specs.DiscInTables.{OneDiscFileIn, DiscSaveAcceptsIn, DiscLoadAcceptsIn}
use Rattle.theorems.proofs.Closure.{load→}
use Rattle.theorems.proofs.CutLaws.{limited_two, limited_four, limited_fits}
use Rattle.theorems.proofs.TableRun.{kinds_pass}
use Rattle.theorems.proofs.disc.Accepts.{disc_save_accepts, disc_load_accepts}
use Rattle.theorems.proofs.disc.DiscFile.{one_disc_file}
use Rattle.theorems.proofs.disc.InTables.{swap_in, holds_both, holds_first, holds_second}
use Rattle.rules.proofs.Tests.{both}

pub one_disc_file_in : OneDiscFileIn
unfolding save_both_in
one_disc_file_in =
    record {
      same = λ x y x' y' t u t' u' old v w v' w' a b a' b' e f.
          let s = one_disc_file.same (room_of t) (room_of u) (room_of t') (room_of u') (index_in x t) (index_in y u)
          (index_in x' t') (index_in y' u') (length old)
          v.valid w.valid v'.valid w'.valid (sized_in x t a.typed a.bytes)
          (sized_in y u b.typed b.bytes) (sized_in x' t' a'.typed a'.bytes)
          (sized_in y' u' b'.typed b'.bytes) e f in
          rw (
            kinds_pass (kinds_in x t && kinds_in y u)
                (save_both (room_of t) (index_in x t) (room_of u) (index_in y u) (length old)) (both v.kinds w.kinds),
            kinds_pass (kinds_in x' t' && kinds_in y' u')
                (save_both (room_of t') (index_in x' t') (room_of u') (index_in y' u') (length old))
                (both v'.kinds w'.kinds),
            s,
          );
      swapped = swap_in;
    }

pub disc_save_accepts_in : DiscSaveAcceptsIn
unfolding save_both_in save_one_in save_out kinded
disc_save_accepts_in =
    record {
      both = λ x y t u old v w s r f g h.
          let e = disc_save_accepts.both (room_of t) (room_of u) (index_in x t) (index_in y u) (length old) v.valid
          w.valid s r f g h in
          (rw (v.kinds, w.kinds, e.0) refl, rw (w.kinds, v.kinds, e.1) refl);
      one = λ x t old v f h. rw (
        v.kinds,
        disc_save_accepts.one (room_of t) (index_in x t) (length old) v.valid f
            h,
      ) refl;
    }

-- ---- loading
-- a body is bytes
pub body_bytes : (b : List ℕ) (o : Option Entry) (c : List ℕ) → Bytes b → body_at b o ≡ Some c → Bytes c
unfolding body_at
body_bytes b None c g e = let z : ◌≡◌ {A = ℕ} 0 1 = cc in let f : ⊥ = omega arith in absurd f
body_bytes b (Some n) c g e =
    let q : take n.len (drop n.offset b) ≡ c = cc in subst (λ (d : List ℕ). Bytes d) q
    (bytes_part b n.offset n.len g)

-- what loads, under any limit, can be saved
pub load_savable : (l : Lengths) (a : Area) (c : List ℕ) (limit : ℕ) (x : Index) → Bytes c → load l a c limit
    ≡ Accepted x → Savable x
unfolding question1 limited
load_savable l a c limit x g e =
    let w = load→ l a c limit x e in
    let v = loaded_valid a c w.whole g w.area w.read in
    subst (λ (i : Index). Savable i) w.is
    (record {
      one = v.one;
      two = limited_two limit w.whole v.two;
      four = limited_four limit w.whole v.four;
      sizes = limited_fits limit w.whole v.sizes;
    })

pub disc_load_accepts_in : DiscLoadAcceptsIn
disc_load_accepts_in =
    record {
      both = λ a0 a1 b limit t u c d x y g s r k e f h i.
          holds_both a0 a1 b limit t u x y (load_savable (room_of t) a0 c limit x
          (body_bytes b (entry_of 0 (entries_in b)) c g e) f)
          (load_savable (room_of u) a1 d limit y (body_bytes b (entry_of 1 (entries_in b)) d g h) i)
          (disc_load_accepts.both (room_of t) (room_of u) a0 a1 b limit c d x y s r k e f h i);
      first = λ a0 a1 b limit t u c x g s r k e f h.
          holds_first a0 a1 b limit t u x (load_savable (room_of t) a0 c limit x
          (body_bytes b (entry_of 0 (entries_in b)) c g e) f)
          (disc_load_accepts.first (room_of t) (room_of u) a0 a1 b limit c x s r k e f h);
      second = λ a0 a1 b limit t u d y g s r k e h i.
          holds_second a0 a1 b limit t u y (load_savable (room_of u) a1 d limit y
          (body_bytes b (entry_of 1 (entries_in b)) d g h) i)
          (disc_load_accepts.second (room_of t) (room_of u) a0 a1 b limit d y s r k e h i);
    }
