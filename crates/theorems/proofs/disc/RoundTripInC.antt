-- Disc files by the calls in C: saving, then loading what was written, and the other way round. Assumes nothing.
use Rattle.std.specs.Prelude.{Option}
use mathlib.Core.Path.{◌≡◌, refl, sym, ap, subst, ◌∙◌}
use mathlib.Core.Bool.{Bool, true}
use mathlib.Core.List.{List, [], ◌∷◌}
use Prim.Native.Nat.{ℕ, ◌%◌, ◌≤◌}
use native.Mathlib.Omega.{arith}
use borrow.Author.Tests.{leb-true}
use lib.ListN.{length, take, get_or}
use Rattle.field.specs.Number.{encode}
use Rattle.field.specs.Records.{Bytes, bytes_of}
use Rattle.field.proofs.Bytes.{bytes_part}
use Rattle.rules.specs.declared.Area.{Area}
use Rattle.rules.specs.declared.AreaIndex.{AreaIndex}
use Rattle.rules.specs.Tests.{Accepted, Refused, Answer}
use Rattle.rules.specs.Values.{Index}
use Rattle.rules.specs.Sizes.{known_sized}
use Rattle.rules.specs.File.{over}
use Rattle.rules.proofs.Tests.{test, never, and_left, and_right}
use Rattle.rules_disc.specs.declared.Entry.{Entry}
use Rattle.rules_disc.specs.Disc.{entries_in, entry_of, body_at, load_body, load_disc}
use Rattle.laws.specs.Statements.{Savable, stripped}
use Rattle.blocks.specs.Blocks.{block_of, index_words, is_block, is_index}
use Rattle.blocks.proofs.RoundTrip.{index_back, index_is_head}
use Rattle.tables.specs.Index.{Tables, room_of, index_in, numbers_from}
use Rattle.save.specs.Save.{SaveOut}
use Rattle.save.specs.Save as saving
use Rattle.blocks.specs.Calls.{Called, called, head_index, in_head, in_block, saved_number, saved_into, two}
use Rattle.rules_disc.specs.declared.Listed.{Listed}
use Rattle.rules_disc.specs.declared.Listed.TheVariants as listed
use Rattle.rules_disc.specs.declared.Loaded.{Loaded}
use Rattle.rules_disc.specs.declared.Loaded.TheVariants as loaded
use Rattle.disc_load.specs.DiscLoad.{DiscOut, disc_out, listed_from, tables_with, load_disc_in}
use Rattle.disc_save.specs.DiscSave.{save_one_in, save_both_in}
use Rattle.player_disc.specs.Block.{called_lists, listed_into, loaded_into}
use Rattle.player_disc.specs.PlayerDisc.{CalledDisc, called_disc, disc_into, disc_save_call, disc_save_both_call, disc_load_call}
use Rattle.theorems.specs.Demand1.{among, of_files}
use Rattle.theorems.specs.Demand1InC.{long}
use Rattle.theorems.specs.DiscPlayer.{DiscTold}
use Rattle.theorems.specs.DiscInTables.{HoldsBoth, HoldsFirst, HoldsSecond}
use Rattle.theorems.specs.DiscInC.{HoldsBothInC, HoldsFirstInC, HoldsSecondInC}
use Rattle.theorems.specs.DiscRoundTripInC.{SavedDiscLoadsInC, LoadedDiscSavesInC, OneDiscFileInC}
use Rattle.theorems.proofs.BlockRun.{place_fits, head_typed}
use Rattle.theorems.proofs.Demand1.{demand1}
use Rattle.theorems.proofs.disc.Rebuilt.{named}
use Rattle.theorems.proofs.disc.DiscFile.{opened}
use Rattle.theorems.proofs.disc.Player.{disc_save_number}
use Rattle.theorems.proofs.disc.InTables.{swap_in, both_savable, one_savable, saved_disc_loads_in, Placed, placed, in_slot, loaded_disc_saves_in}
use Rattle.theorems.proofs.disc.AcceptsInTables.{one_disc_file_in}
use Rattle.theorems.proofs.disc.AcceptsInC.{two_long, load_fits, head_back}

-- ---- blocks that are long enough
pub three_long : (b c d : List ℕ) → long (b ∷ c ∷ d ∷ []) ≡ true → (is_block b ≡ true) × (is_block c ≡ true)
    × (is_block d ≡ true)
three_long b c d e = let r = two_long c d (and_right (is_block b) _ e) in (and_left (is_block b) _ e, r.0, r.1)

-- a call whose number is not 3 was lent a block that passes
pub in_head→ : {S : Type 0} (number : S → ℕ) (ok : Bool) (none r o : S) → number none ≡ 3 → (3 ≡ number o → ⊥)
    → in_head ok none r ≡ o → (ok ≡ true) × (r ≡ o)
unfolding in_head
in_head→ number ok none r o s h e =
    test ok (λ z. (z, rw z at e)) (λ z. let q : none ≡ o = rw z at e in let f : ⊥ = h (sym s ∙ ap number q) in absurd f)

pub →in_head : {S : Type 0} (ok : Bool) (none r o : S) → ok ≡ true → r ≡ o → in_head ok none r ≡ o
unfolding in_head
→in_head ok none r o z e = rw z e

-- ---- saving
-- a length that is told was answered below
told→ : (s : SaveOut) (k : ℕ) (new : List ℕ) → ((n : ℕ) → DiscTold s.answer n) → 88 ≤ k
    → saved_into s.answer s.out ≡ called k new → s ≡ saving.made (Accepted k) new
unfolding saved_number
told→ s k new h l e = answer s.answer s.out h e
  where
    answer : (m : Answer ℕ) (o : List ℕ) → ((n : ℕ) → DiscTold m n) → called (saved_number m) o ≡ called k new
        → saving.made m o ≡ saving.made (Accepted k) new
    answer (Refused n) o h q = let w : n ≡ k = ap (λ (c : Called). c.number) q in let f : ⊥ = omega
        (arith, w, ((h n).0 refl).1) in absurd f
    answer (Accepted n) o h q =
        let w : n ≡ k = ap (λ (c : Called). c.number) q in let v : o
        ≡ new = ap (λ (c : Called). c.block) q in λ i. saving.made (Accepted (w i)) (v i)

pub saved_one→ : (head : List ℕ) (t : Tables) (old : List ℕ) (k : ℕ) (new : List ℕ) → 88 ≤ k
    → disc_save_call head t old ≡ called k new
    → save_one_in (head_index head) t old ≡ saving.made (Accepted k) new
unfolding disc_save_call
saved_one→ head t old k new l e =
    told→ (save_one_in (head_index head) t old) k new (λ n. disc_save_number.one (head_index head) t old n) l
    (in_head→ (λ (c : Called). c.number) (is_index head) (called 3 old) _ (called k new) refl
    (λ z. omega (arith, z, l)) e).1

pub saved_both→ : (head other : List ℕ) (t u : Tables) (old : List ℕ) (k : ℕ) (new : List ℕ) → 88 ≤ k
    → disc_save_both_call head other t u old ≡ called k new
    → save_both_in (head_index head) t (head_index other) u old ≡ saving.made (Accepted k) new
unfolding disc_save_both_call
saved_both→ head other t u old k new l e =
    let c = (in_head→ (λ (c : Called). c.number) (is_index head) (called 3 old) _ (called k new) refl
    (λ z. omega (arith, z, l)) e).1 in
    told→ (save_both_in (head_index head) t (head_index other) u old) k new
    (λ n. disc_save_number.both (head_index head) t (head_index other) u old n) l
    (in_head→ (λ (c : Called). c.number) (is_index other) (called 3 old) _ (called k new) refl
    (λ z. omega (arith, z, l)) c).1

→saved_one : (head : List ℕ) (t : Tables) (old : List ℕ) (k : ℕ) (new : List ℕ) → is_index head ≡ true
    → save_one_in (head_index head) t old ≡ saving.made (Accepted k) new → disc_save_call head t old ≡ called k new
unfolding disc_save_call saved_number
→saved_one head t old k new z e = →in_head (is_index head) (called 3 old) _ (called k new) z (rw e refl)

→saved_both : (head other : List ℕ) (t u : Tables) (old : List ℕ) (k : ℕ) (new : List ℕ) → is_index head ≡ true
    → is_index other ≡ true
    → save_both_in (head_index head) t (head_index other) u old ≡ saving.made (Accepted k) new
    → disc_save_both_call head other t u old ≡ called k new
unfolding disc_save_both_call saved_number
→saved_both head other t u old k new z w e =
    →in_head (is_index head) (called 3 old) _ (called k new) z
    (→in_head (is_index other) (called 3 old) _ (called k new) w (rw e refl))

-- ---- saving, then loading
-- the head of a list as a file holds it is read as its numbers
list_read : (n : AreaIndex) (t : Tables) (x : Index) (head : List ℕ) → Savable (stripped x) → index_in n t ≡ stripped x
    → index_in (head_index (over (block_of (index_words n)) head)) t ≡ stripped x
unfolding head_index known_sized
list_read n t x head s e =
    let k : known_sized (stripped x).image ≡ true = refl in
    let f = place_fits n t (subst (λ (y : Index). Savable y) (sym e) s)
    (subst (λ (y : Index). known_sized y.image ≡ true) (sym e) k) in
    ap (λ (m : AreaIndex). index_in m t) (index_back n head f) ∙ e

module _ (head other answer : List ℕ) (a0 a1 : Area) (b : List ℕ) (limit : ℕ) (t u : Tables)
    (d : long (head ∷ other ∷ answer ∷ []) ≡ true) where
  abbrev left : DiscOut
  left = load_disc_in a0 a1 b limit t u

  pub loads_c : disc_load_call head other a0 a1 b limit answer t u ≡ disc_into head other answer left
  unfolding disc_load_call in_block in_head
  loads_c = let n = three_long head other answer d in rw (n.0, n.1, n.2) refl

  both_c : (x y : Index) → Savable (stripped x) → Savable (stripped y) → HoldsBoth left (stripped x) (stripped y)
      → HoldsBothInC answer (disc_load_call head other a0 a1 b limit answer t u) (stripped x) (stripped y)
  unfolding loaded_into listed_into
  both_c x y v w h =
      rw (loads_c, h.answer)
      (record {
        accepted = refl;
        present = refl;
        list0 = list_read h.first left.slot0 x head v h.list0;
        list1 = list_read h.second left.slot1 y other w h.list1;
      })

  first_c : (x : Index) → Savable (stripped x) → HoldsFirst left (stripped x) u
      → HoldsFirstInC answer other u (disc_load_call head other a0 a1 b limit answer t u) (stripped x)
  unfolding loaded_into listed_into
  first_c x v h =
      rw (loads_c, h.answer)
      (record {
        accepted = refl;
        present = refl;
        list0 = list_read h.first left.slot0 x head v h.list0;
        head1 = refl;
        slot1 = h.slot1;
      })

  second_c : (y : Index) → Savable (stripped y) → HoldsSecond left t (stripped y)
      → HoldsSecondInC answer head t (disc_load_call head other a0 a1 b limit answer t u) (stripped y)
  unfolding loaded_into listed_into
  second_c y w h =
      rw (loads_c, h.answer)
      (record {
        accepted = refl;
        present = refl;
        head0 = refl;
        slot0 = h.slot0;
        list1 = list_read h.second left.slot1 y other w h.list1;
      })

pub saved_disc_loads_in_c : SavedDiscLoadsInC
saved_disc_loads_in_c =
    record {
      both = λ head other t u old k new limit head' other' answer t' u' a b p q e l g h m n d.
          let x = head_index head in
          let y = head_index other in
          let s = saved_both→ head other t u old k new l e in
          let tx = head_typed head a.bytes in
          let ty = head_typed other b.bytes in
          let v = both_savable x y t u old k new tx ty a.tables b.tables s in
          both_c head' other' answer x.area y.area (take k new) limit t' u' d (index_in x t) (index_in y u)
          v.0 v.1
          (saved_disc_loads_in.both x y t u old k new limit t' u' tx ty a.tables b.tables p q s g h m n);
      first = λ head t o old k new limit head' other' answer t' u' a p q e l g m d.
          let x = head_index head in
          let s = saved_one→ head t old k new l e in
          let tx = head_typed head a.bytes in
          first_c head' other' answer x.area o (take k new) limit t' u' d (index_in x t)
          (one_savable x t old k new tx a.tables s)
          (saved_disc_loads_in.first x t o old k new limit t' u' tx a.tables p q s g m);
      second = λ other u o old k new limit head' other' answer t' u' b p q e l g m d.
          let y = head_index other in
          let s = saved_one→ other u old k new l e in
          let ty = head_typed other b.bytes in
          second_c head' other' answer o y.area (take k new) limit t' u' d (index_in y u)
          (one_savable y u old k new ty b.tables s)
          (saved_disc_loads_in.second y u o old k new limit t' u' ty b.tables p q s g m);
    }

-- ---- loading, then saving
-- a load that answers 0
pub record LoadedInC (head other answer : List ℕ) (o : DiscOut) (head' other' answer' : List ℕ)
    (t' u' : Tables) : Type 0 where
  pub first : Listed
  pub second : Listed
  pub below : o ≡ disc_out (loaded.Lists first second) t' u'
  pub block0 : (listed_into head first).block ≡ head'
  pub block1 : (listed_into other second).block ≡ other'
  pub words : over (block_of (two (listed_into head first).number (listed_into other second).number)) answer ≡ answer'
  pub long0 : is_block head ≡ true
  pub long1 : is_block other ≡ true

pub loaded→ : (head other answer : List ℕ) (a0 a1 : Area) (b : List ℕ) (limit : ℕ) (t u : Tables)
    (head' other' answer' : List ℕ) (t' u' : Tables)
    → disc_load_call head other a0 a1 b limit answer t u ≡ called_disc (called_lists 0 head' other' answer') t' u'
    → LoadedInC head other answer (load_disc_in a0 a1 b limit t u) head' other' answer' t' u'
unfolding disc_load_call in_block loaded_into among
loaded→ head other answer a0 a1 b limit t u head' other' answer' t' u' e =
    let o = load_disc_in a0 a1 b limit t u in
    let short = called_disc (called_lists 3 head other answer) t u in
    let number : CalledDisc → ℕ = λ c. c.call.number in
    let end = called_disc (called_lists 0 head' other' answer') t' u' in
    let x = in_head→ number (is_block head) short _ end refl (λ z. omega (arith, z)) e in
    let y = in_head→ number (is_block other) short _ end refl (λ z. omega (arith, z)) x.1 in
    let z = in_head→ number (is_block answer) short (disc_into head other answer o) end refl (λ z. omega (arith, z))
    y.1 in
    by o.answer refl (λ n q. (demand1.load_disc a0 a1 b limit t u).number n q) x.0 y.0 z.1
  where
    by : (m : Loaded) → (load_disc_in a0 a1 b limit t u).answer ≡ m
        → ((n : ℕ) → m ≡ loaded.Refused n → among (1 ∷ 3 ∷ 54 ∷ of_files) n ≡ true) → is_block head ≡ true
        → is_block other ≡ true
        → called_disc (loaded_into head other answer m) (load_disc_in a0 a1 b limit t u).slot0
        (load_disc_in a0 a1 b limit t u).slot1 ≡ called_disc (called_lists 0 head' other' answer') t' u'
        → LoadedInC head other answer (load_disc_in a0 a1 b limit t u) head' other' answer' t' u'
    by (loaded.Refused n) a h p q c = let w : n ≡ 0 = ap (λ (d : CalledDisc). d.call.number) c in never
        (rw w at (h n refl)) refl
    by (loaded.Lists x y) a h p q c =
        record {
          first = x;
          second = y;
          below = λ i. disc_out (a i) (ap (λ (d : CalledDisc). d.slot0) c i) (ap (λ (d : CalledDisc). d.slot1) c i);
          block0 = ap (λ (d : CalledDisc). d.call.head) c;
          block1 = ap (λ (d : CalledDisc). d.call.other) c;
          words = ap (λ (d : CalledDisc). d.call.answer) c;
          long0 = p;
          long1 = q;
        }

-- the words of the answer say which lists are there
record There (p : Listed) : Type 0 where
  numbers : AreaIndex
  is : p ≡ listed.Index numbers

there : (head : List ℕ) (p : Listed) → (listed_into head p).number ≡ 1 → There p
unfolding listed_into
there head listed.Absent e = let z : ⊥ = omega (arith, e) in absurd z
there head (listed.Index x) e = record { numbers = x; is = refl }

absent : (head : List ℕ) (p : Listed) → (listed_into head p).number ≡ 0 → p ≡ listed.Absent
unfolding listed_into
absent head listed.Absent e = refl
absent head (listed.Index x) e = let z : ⊥ = omega (arith, e) in absurd z

number_small : (head : List ℕ) (p : Listed) → (listed_into head p).number ≤ 1
unfolding listed_into
number_small head listed.Absent = omega arith
number_small head (listed.Index x) = omega arith

-- bytes 0 and 8 of a block are the lowest of words 0 and 1
first_words : (a b c d : ℕ) (answer : List ℕ) → a ≤ 1 → b ≤ 1 → c ≤ 1 → d ≤ 1 → over (block_of (two a b)) answer
    ≡ over (block_of (two c d)) answer → (a ≡ c) × (b ≡ d)
unfolding bytes_of encode
first_words a b c d answer h i j k e =
    let p : a % 256 ≡ c % 256 = ap (λ (l : List ℕ). get_or l 0 0) e in
    let q : b % 256 ≡ d % 256 = ap (λ (l : List ℕ). get_or l 8 0) e in
    (omega (arith, p, h, j), omega (arith, q, i, k))

-- the head that the list of a slot was written into is read as its numbers, and is a head
slot_read : (a : Area) (b : List ℕ) (limit : ℕ) (t t' : Tables) (e : Option Entry) (o : Option Index) (x : AreaIndex)
    (head head' : List ℕ) → Bytes b
    → load_body (room_of t) a limit (body_at b e) ≡ Accepted o → listed_from o ≡ listed.Index x → tables_with o t ≡ t'
    → over (block_of (index_words x)) head ≡ head'
    → is_block head ≡ true → (head_index head' ≡ x) × (is_index head' ≡ true)
slot_read a b limit t t' e o x head head' g d i f w z =
    let s = in_slot t o x t' i f in
    let l = named (room_of t) a b limit e s.list (d ∙ ap (λ (q : Option Index). Accepted q) s.is) in
    let c = bytes_part b l.entry.offset l.entry.len g in
    let q = head_back (room_of t) a _ limit s.list head c l.loads in
    let h = index_is_head (numbers_from s.list) head (load_fits (room_of t) a _ limit s.list c l.loads)
    (leb-true 192 (length head) z) in
    (rw (← w, ← s.numbers) q, rw (← w, ← s.numbers) h)

module _ (head other answer : List ℕ) (a0 a1 : Area) (b : List ℕ) (limit : ℕ) (t u : Tables) (head' other' : List ℕ)
    (t' u' : Tables) (g : Bytes b) (m n : ℕ) (i : m ≤ 1) (j : n ≤ 1)
    (r : LoadedInC head other answer (load_disc_in a0 a1 b limit t u) head' other' (over (block_of (two m n)) answer) t'
    u') where
  are : ((listed_into head r.first).number ≡ m) × ((listed_into other r.second).number ≡ n)
  are = first_words (listed_into head r.first).number (listed_into other r.second).number m n answer
      (number_small head r.first) (number_small other r.second) i j r.words

  put : Placed t u (load_disc (room_of t) (room_of u) a0 a1 b limit) r.first r.second t' u'
  unfolding load_disc_in
  put = placed t u (load_disc (room_of t) (room_of u) a0 a1 b limit) r.first r.second t' u' r.below

  first_read : (x : AreaIndex) → r.first ≡ listed.Index x → (head_index head' ≡ x) × (is_index head' ≡ true)
  unfolding listed_into
  first_read x e =
      let o = opened (room_of t) (room_of u) a0 a1 b limit put.lists put.accepted in
      slot_read a0 b limit t t' (entry_of 0 (entries_in b)) put.lists.slot0 x head head' g o.body0
      (put.answer0 ∙ e) put.tables0 (rw e at r.block0) r.long0

  second_read : (y : AreaIndex) → r.second ≡ listed.Index y → (head_index other' ≡ y) × (is_index other' ≡ true)
  unfolding listed_into
  second_read y e =
      let o = opened (room_of t) (room_of u) a0 a1 b limit put.lists put.accepted in
      slot_read a1 b limit u u' (entry_of 1 (entries_in b)) put.lists.slot1 y other other' g o.body1
      (put.answer1 ∙ e) put.tables1 (rw e at r.block1) r.long1

pub loaded_disc_saves_in_c : LoadedDiscSavesInC
loaded_disc_saves_in_c =
    record {
      both = λ head other answer a0 a1 b limit t u head' other' t' u' old g w e n.
          let r = loaded→ head other answer a0 a1 b limit t u head' other' _ t' u' e in
          let k = are head other answer a0 a1 b limit t u head' other' t' u' g 1 1 (omega arith) (omega arith) r in
          let x = there head r.first k.0 in
          let y = there other r.second k.1 in
          let p = first_read head other answer a0 a1 b limit t u head' other' t' u' g 1 1 (omega arith) (omega arith)
          r x.numbers x.is in
          let q = second_read head other answer a0 a1 b limit t u head' other' t' u' g 1 1 (omega arith)
          (omega arith) r y.numbers y.is in
          →saved_both head' other' t' u' old (length b) (over b old) p.1 q.1
          (rw (p.0, q.0)
          (loaded_disc_saves_in.both a0 a1 b limit t u x.numbers y.numbers t' u' old g w
          (r.below ∙ (λ z. disc_out (loaded.Lists (x.is z) (y.is z)) t' u')) n));
      first = λ head other answer a0 a1 b limit t u head' other' t' u' old g w e n.
          let r = loaded→ head other answer a0 a1 b limit t u head' other' _ t' u' e in
          let k = are head other answer a0 a1 b limit t u head' other' t' u' g 1 0 (omega arith) (omega arith) r in
          let x = there head r.first k.0 in
          let y = absent other r.second k.1 in
          let p = first_read head other answer a0 a1 b limit t u head' other' t' u' g 1 0 (omega arith) (omega arith)
          r x.numbers x.is in
          →saved_one head' t' old (length b) (over b old) p.1
          (rw p.0
          (loaded_disc_saves_in.first a0 a1 b limit t u x.numbers t' u' old g w
          (r.below ∙ (λ z. disc_out (loaded.Lists (x.is z) (y z)) t' u')) n));
      second = λ head other answer a0 a1 b limit t u head' other' t' u' old g w e n.
          let r = loaded→ head other answer a0 a1 b limit t u head' other' _ t' u' e in
          let k = are head other answer a0 a1 b limit t u head' other' t' u' g 0 1 (omega arith) (omega arith) r in
          let x = absent head r.first k.0 in
          let y = there other r.second k.1 in
          let q = second_read head other answer a0 a1 b limit t u head' other' t' u' g 0 1 (omega arith)
          (omega arith) r y.numbers y.is in
          →saved_one other' u' old (length b) (over b old) q.1
          (rw q.0
          (loaded_disc_saves_in.second a0 a1 b limit t u y.numbers t' u' old g w
          (r.below ∙ (λ z. disc_out (loaded.Lists (x z) (y.is z)) t' u')) n));
    }

-- ---- one disc file for equal content
in_head_swap : {S : Type 0} (p q : Bool) (none r : S) → in_head p none (in_head q none r)
    ≡ in_head q none (in_head p none r)
unfolding in_head
in_head_swap p q none r = test p (λ z. rw z refl) (λ z. rw z (test q (λ w. rw w refl) (λ w. rw w refl)))

pub one_disc_file_in_c : OneDiscFileInC
unfolding disc_save_both_call
one_disc_file_in_c =
    record {
      same = λ head other head' other' t u t' u' old m n m' n' a b a' b' v w v' w' e f.
          let s = one_disc_file_in.same (head_index head) (head_index other) (head_index head') (head_index other') t u
          t' u' old v w v' w'
          (record { typed = head_typed head a.bytes; bytes = a.tables })
          (record { typed = head_typed other b.bytes; bytes = b.tables })
          (record { typed = head_typed head' a'.bytes; bytes = a'.tables })
          (record { typed = head_typed other' b'.bytes; bytes = b'.tables }) e f in
          →in_head (is_index head) (called 3 old) _ _ m
          (→in_head (is_index other) (called 3 old) _ _ n (ap (λ (o : SaveOut). saved_into o.answer o.out) s))
          ∙ sym (→in_head (is_index head') (called 3 old) _ _ m' (→in_head (is_index other') (called 3 old) _ _ n' refl));
      swapped = λ head other t u old.
          ap (λ (o : SaveOut). in_head (is_index head) (called 3 old)
          (in_head (is_index other) (called 3 old) (saved_into o.answer o.out)))
          (swap_in (head_index head) (head_index other) t u old)
          ∙ in_head_swap (is_index head) (is_index other) (called 3 old) _;
    }
