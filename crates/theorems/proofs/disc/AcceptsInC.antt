-- Disc files by the calls in C: what is right is accepted. Assumes nothing.
use Rattle.std.specs.Prelude.{None}
use mathlib.Core.Path.{◌≡◌, refl, sym, ap, ◌∙◌}
use mathlib.Core.Bool.{true}
use mathlib.Core.List.{List, [], ◌∷◌}
use Prim.Native.Nat.{ℕ}
use Rattle.field.specs.Records.{Bytes}
use Rattle.rules.specs.declared.Area.{Area}
use Rattle.rules.specs.declared.AreaIndex.{AreaIndex}
use Rattle.rules.specs.Tests.{Accepted}
use Rattle.rules.specs.Values.{Index, Lengths}
use Rattle.rules.specs.File.{over}
use Rattle.rules.specs.Load.{limited, load}
use Rattle.rules.specs.Sizes.{known_sized}
use Rattle.rules.proofs.Tests.{and_left, and_right}
use Rattle.rules_disc.specs.Disc.{entries_in, entry_of}
use Rattle.blocks.specs.Blocks.{block_of, index_words, is_block}
use Rattle.blocks.specs.RoundTrip.{IndexFits}
use Rattle.blocks.proofs.RoundTrip.{index_back}
use Rattle.tables.specs.Index.{Tables, room_of, index_in, numbers_from, tables_from}
use Rattle.index.proofs.Standing.{stands}
use Rattle.blocks.specs.Calls.{head_index, in_block, in_head, saved_number}
use Rattle.disc_load.specs.DiscLoad.{listed_from, tables_with, disc_out_of, load_disc_in}
use Rattle.player_disc.specs.Block.{listed_into, loaded_into}
use Rattle.player_disc.specs.PlayerDisc.{disc_save_call, disc_save_both_call, disc_load_call}
use Rattle.theorems.specs.Demand1InC.{long}
use Rattle.theorems.specs.DiscInC.{DiscSaveAcceptsInC, DiscLoadAcceptsInC}
use Rattle.theorems.proofs.BlockRun.{list_fits}
use Rattle.theorems.proofs.Closure.{load→}
use Rattle.theorems.proofs.disc.Accepts.{disc_load_accepts}
use Rattle.theorems.proofs.disc.AcceptsInTables.{body_bytes, load_savable, disc_save_accepts_in}

-- each of two and of three blocks is long enough
pub one_long : (b : List ℕ) → long (b ∷ []) ≡ true → is_block b ≡ true
one_long b e = and_left (is_block b) true e

pub two_long : (b c : List ℕ) → long (b ∷ c ∷ []) ≡ true → (is_block b ≡ true) × (is_block c ≡ true)
two_long b c e = (and_left (is_block b) _ e, one_long c (and_right (is_block b) _ e))

pub disc_save_accepts_in_c : DiscSaveAcceptsInC
unfolding disc_save_both_call disc_save_call in_head saved_number
disc_save_accepts_in_c =
    record {
      both = λ head other t u old l m v w s r f g h.
          let e = disc_save_accepts_in.both (head_index head) (head_index other) t u old v w s r f g h in
          (rw (l, m, e.0) refl, rw (m, l, e.1) refl);
      one = λ head t old l v f h. rw (l, disc_save_accepts_in.one (head_index head) t old v f h) refl;
    }

-- the numbers of a list that loads fit their words
pub load_fits : (l : Lengths) (a : Area) (c : List ℕ) (limit : ℕ) (x : Index) → Bytes c → load l a c limit
    ≡ Accepted x → IndexFits (numbers_from x)
unfolding limited known_sized
load_fits l a c limit x g e =
    let w = load→ l a c limit x e in
    let i : x.image ≡ None = ap (λ (y : Index). y.image) (sym w.is) in
    let k : known_sized x.image ≡ true = rw i refl in
    list_fits x (load_savable l a c limit x g e) k

-- the head that a load writes is read as the list's numbers
pub head_back : (l : Lengths) (a : Area) (c : List ℕ) (limit : ℕ) (x : Index) (head : List ℕ) → Bytes c
    → load l a c limit ≡ Accepted x
    → head_index (over (block_of (index_words (numbers_from x))) head) ≡ numbers_from x
unfolding head_index
head_back l a c limit x head g e = index_back (numbers_from x) head (load_fits l a c limit x g e)

list_back : (l : Lengths) (a : Area) (c : List ℕ) (limit : ℕ) (x : Index) (head : List ℕ) (t : Tables) → Bytes c
    → load l a c limit ≡ Accepted x
    → index_in (head_index (over (block_of (index_words (numbers_from x))) head)) (tables_from x t) ≡ x
list_back l a c limit x head t g e =
    ap (λ (n : AreaIndex). index_in n (tables_from x t)) (head_back l a c limit x head g e)
    ∙ stands x t (load_savable l a c limit x g e)

pub disc_load_accepts_in_c : DiscLoadAcceptsInC
unfolding disc_load_call in_block in_head load_disc_in disc_out_of listed_from tables_with loaded_into listed_into
disc_load_accepts_in_c =
    record {
      both = λ head other answer a0 a1 b limit t u c d x y l g s r k e f h i.
          let n = and_left (is_block head) _ l in
          let m = two_long other answer (and_right (is_block head) _ l) in
          rw (n, m.0, m.1, disc_load_accepts.both (room_of t) (room_of u) a0 a1 b limit c d x y s r k e f h i)
          record {
            accepted = refl;
            present = refl;
            list0 = list_back (room_of t) a0 c limit x head t (body_bytes b (entry_of 0 (entries_in b)) c g e) f;
            list1 = list_back (room_of u) a1 d limit y other u (body_bytes b (entry_of 1 (entries_in b)) d g h) i;
          };
      first = λ head other answer a0 a1 b limit t u c x l g s r k e f h.
          let n = and_left (is_block head) _ l in
          let m = two_long other answer (and_right (is_block head) _ l) in
          rw (n, m.0, m.1, disc_load_accepts.first (room_of t) (room_of u) a0 a1 b limit c x s r k e f h)
          record {
            accepted = refl;
            present = refl;
            list0 = list_back (room_of t) a0 c limit x head t (body_bytes b (entry_of 0 (entries_in b)) c g e) f;
            head1 = refl;
            slot1 = refl;
          };
      second = λ head other answer a0 a1 b limit t u d y l g s r k e h i.
          let n = and_left (is_block head) _ l in
          let m = two_long other answer (and_right (is_block head) _ l) in
          rw (n, m.0, m.1, disc_load_accepts.second (room_of t) (room_of u) a0 a1 b limit d y s r k e h i)
          record {
            accepted = refl;
            present = refl;
            head0 = refl;
            slot0 = refl;
            list1 = list_back (room_of u) a1 d limit y other u (body_bytes b (entry_of 1 (entries_in b)) d g h) i;
          };
    }
