-- The bodies of a disc file are ordinary list files, about the calls over tables and in C. Assumes nothing.
use Rattle.std.specs.Prelude.{Option}
use mathlib.Core.Path.{◌≡◌, refl, sym, ap, ◌∙◌}
use mathlib.Core.Bool.{true, ◌&&◌}
use mathlib.Core.List.{List}
use Prim.Native.Nat.{ℕ}
use native.Mathlib.Omega.{arith}
use lib.ListN.{length}
use Rattle.rules.specs.declared.Area.{Area}
use Rattle.rules.specs.declared.AreaIndex.{AreaIndex}
use Rattle.rules.specs.Values.{Index}
use Rattle.rules.specs.File.{save, over}
use Rattle.rules.proofs.Tests.{and_left, and_right}
use Rattle.rules_disc.specs.Disc.{save_one, save_both, load_disc}
use Rattle.blocks.specs.Blocks.{block_of, index_words, is_block, is_index}
use Rattle.rules.specs.declared.Made.TheVariants as made
use Rattle.tables.specs.Index.{Tables, room_of, index_in, kinds_in, numbers_from, made_out, made_out_of}
use Rattle.index.specs.Index.{made_of}
use Rattle.save.specs.Save.{save_out, save_in}
use Rattle.rules_disc.specs.declared.Listed.{Listed}
use Rattle.disc_load.specs.DiscLoad.{listed_from, tables_with, load_disc_in}
use Rattle.disc_save.specs.DiscSave.{save_one_in, save_both_in}
use Rattle.blocks.specs.Calls.{Called, called, into, head_index, in_block, saved_number}
use Rattle.player.specs.Player.{called_over, save_call, load_call}
use Rattle.player_disc.specs.Block.{listed_into}
use Rattle.player_disc.specs.PlayerDisc.{disc_save_call, disc_save_both_call}
use Rattle.theorems.specs.DiscFile.{ListFile, Loads}
use Rattle.theorems.specs.DiscBodies.{ListFileIn, SavedBodiesIn, ListFileInC, SavedBodiesInC, LoadsAlone, BodiesLoadIn, BodiesLoadInC}
use Rattle.theorems.proofs.MergeInTables.{kinded→}
use Rattle.theorems.proofs.RoundTripInTables.{wrote}
use Rattle.theorems.proofs.TableRun.{kinds_pass}
use Rattle.theorems.proofs.disc.DiscFile.{saved_bodies, bodies_load}
use Rattle.theorems.proofs.disc.InTables.{placed}
use Rattle.theorems.proofs.disc.RoundTripInC.{in_head→, →in_head, saved_one→, saved_both→, loaded→}

-- ---- saved
list_file_in : (x : AreaIndex) (t : Tables) (o : Option (List ℕ)) → kinds_in x t ≡ true
    → ListFile (room_of t) (index_in x t) o → ListFileIn x t o
unfolding save_in save_out
list_file_in x t o k f =
    record {
      file = f.file;
      saves = λ old l. rw
          (kinds_pass (kinds_in x t) (save (room_of t) (index_in x t) (length old)) k, f.saves (length old) l) refl;
    }

pub saved_bodies_in : SavedBodiesIn
unfolding save_both_in save_one_in
saved_bodies_in =
    record {
      both = λ x y t u old k new e.
          let w = wrote _ old k new e in
          let d = kinded→ (kinds_in x t && kinds_in y u)
          (save_both (room_of t) (index_in x t) (room_of u) (index_in y u) (length old)) w.file w.accepted in
          let s = saved_bodies.both (room_of t) (room_of u) (index_in x t) (index_in y u) (length old) w.file d.1 in
          rw w.bytes (
            list_file_in x t _ (and_left (kinds_in x t) (kinds_in y u) d.0) s.0,
            list_file_in y u _ (and_right (kinds_in x t) (kinds_in y u) d.0) s.1,
          );
      one = λ x t old k new e.
          let w = wrote _ old k new e in
          let d = kinded→ (kinds_in x t) (save_one (room_of t) (index_in x t) (length old)) w.file w.accepted in
          rw w.bytes (list_file_in x t _ d.0
          (saved_bodies.one (room_of t) (index_in x t) (length old) w.file d.1));
      other = λ x t old k new s e h.
          let w = wrote _ old k new e in
          let d = kinded→ (kinds_in x t) (save_one (room_of t) (index_in x t) (length old)) w.file w.accepted in
          rw w.bytes (saved_bodies.other (room_of t) (index_in x t) (length old) w.file s d.1 h);
    }

-- in C
list_file_c : (head : List ℕ) (t : Tables) (o : Option (List ℕ)) → is_index head ≡ true
    → ListFileIn (head_index head) t o → ListFileInC head t o
unfolding save_call saved_number
list_file_c head t o z f = record {
  file = f.file;
  saves = λ old l. →in_head (is_index head) (called 3 old) _ _ z (rw (f.saves old l) refl);
}

pub saved_bodies_in_c : SavedBodiesInC
unfolding disc_save_both_call disc_save_call
saved_bodies_in_c =
    record {
      both = λ head other t u old k new e l.
          let p = in_head→ (λ (c : Called). c.number) (is_index head) (called 3 old) _ (called k new) refl
          (λ z. omega (arith, z, l)) e in
          let q = in_head→ (λ (c : Called). c.number) (is_index other) (called 3 old) _ (called k new) refl
          (λ z. omega (arith, z, l)) p.1 in
          let s = saved_bodies_in.both (head_index head) (head_index other) t u old k new
          (saved_both→ head other t u old k new l e) in
          (list_file_c head t _ p.0 s.0, list_file_c other u _ q.0 s.1);
      one = λ head t old k new e l.
          let p = in_head→ (λ (c : Called). c.number) (is_index head) (called 3 old) _ (called k new) refl
          (λ z. omega (arith, z, l)) e in
          list_file_c head t _ p.0 (saved_bodies_in.one (head_index head) t old k new
          (saved_one→ head t old k new l e));
      other = λ head t old k new s e l h. saved_bodies_in.other (head_index head) t old k new s
          (saved_one→ head t old k new l e) h;
    }

-- ---- loaded
-- a body that loads as the list o of its slot
alone : (a : Area) (c : List ℕ) (limit : ℕ) (t : Tables) (o : Option Index) (p : Listed) (t' : Tables)
    → Loads (room_of t) a c limit o → listed_from o ≡ p → tables_with o t ≡ t'
    → LoadsAlone a c limit t p t'
unfolding listed_from tables_with made_out_of
alone a c limit t o p t' s e f =
    let v = sym (ap (λ (q : Option Index). tables_with q t) s.is) ∙ f in
    record {
      numbers = numbers_from s.list;
      is = sym e ∙ ap listed_from s.is;
      loads = rw s.loads (λ i. made_out (made.Index (numbers_from s.list)) (v i));
    }

pub bodies_load_in : BodiesLoadIn
unfolding load_disc_in listed_from tables_with
bodies_load_in =
    record {
      first = λ a0 a1 b limit t u p q t' u' c e h.
          let r = placed t u (load_disc (room_of t) (room_of u) a0 a1 b limit) p q t' u' e in
          alone a0 c limit t r.lists.slot0 p t'
          (bodies_load.first (room_of t) (room_of u) a0 a1 b limit r.lists c r.accepted h) r.answer0
          r.tables0;
      second = λ a0 a1 b limit t u p q t' u' d e h.
          let r = placed t u (load_disc (room_of t) (room_of u) a0 a1 b limit) p q t' u' e in
          alone a1 d limit u r.lists.slot1 q u'
          (bodies_load.second (room_of t) (room_of u) a0 a1 b limit r.lists d r.accepted h) r.answer1
          r.tables1;
      no_first = λ a0 a1 b limit t u p q t' u' e h.
          let r = placed t u (load_disc (room_of t) (room_of u) a0 a1 b limit) p q t' u' e in
          let n = bodies_load.no_first (room_of t) (room_of u) a0 a1 b limit r.lists r.accepted h in
          (sym r.answer0 ∙ ap listed_from n, sym r.tables0 ∙ ap (λ (o : Option Index). tables_with o t) n);
      no_second = λ a0 a1 b limit t u p q t' u' e h.
          let r = placed t u (load_disc (room_of t) (room_of u) a0 a1 b limit) p q t' u' e in
          let n = bodies_load.no_second (room_of t) (room_of u) a0 a1 b limit r.lists r.accepted h in
          (sym r.answer1 ∙ ap listed_from n, sym r.tables1 ∙ ap (λ (o : Option Index). tables_with o u) n);
    }

-- in C
pub bodies_load_in_c : BodiesLoadInC
unfolding load_call in_block into made_of listed_into
bodies_load_in_c =
    record {
      first = λ head other answer a0 a1 b limit t u head' other' answer' t' u' c e h.
          let r = loaded→ head other answer a0 a1 b limit t u head' other' answer' t' u' e in
          let s = bodies_load_in.first a0 a1 b limit t u r.first r.second t' u' c r.below h in
          let w : over (block_of (index_words s.numbers)) head
          ≡ head' = sym (ap (λ (p : Listed). (listed_into head p).block) s.is) ∙ r.block0 in
          →in_head (is_block head) (called_over 3 head t) _ _ r.long0 (rw s.loads (λ i. called_over 0 (w i) t'));
      second = λ head other answer a0 a1 b limit t u head' other' answer' t' u' d e h.
          let r = loaded→ head other answer a0 a1 b limit t u head' other' answer' t' u' e in
          let s = bodies_load_in.second a0 a1 b limit t u r.first r.second t' u' d r.below h in
          let w : over (block_of (index_words s.numbers)) other
          ≡ other' = sym (ap (λ (p : Listed). (listed_into other p).block) s.is) ∙ r.block1 in
          →in_head (is_block other) (called_over 3 other u) _ _ r.long1 (rw s.loads (λ i. called_over 0 (w i) u'));
      no_first = λ head other answer a0 a1 b limit t u head' other' answer' t' u' e h.
          let r = loaded→ head other answer a0 a1 b limit t u head' other' answer' t' u' e in
          let n = bodies_load_in.no_first a0 a1 b limit t u r.first r.second t' u' r.below h in
          (sym r.block0 ∙ ap (λ (p : Listed). (listed_into head p).block) n.0, n.1);
      no_second = λ head other answer a0 a1 b limit t u head' other' answer' t' u' e h.
          let r = loaded→ head other answer a0 a1 b limit t u head' other' answer' t' u' e in
          let n = bodies_load_in.no_second a0 a1 b limit t u r.first r.second t' u' r.below h in
          (sym r.block1 ∙ ap (λ (p : Listed). (listed_into other p).block) n.0, n.1);
    }
