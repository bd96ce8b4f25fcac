-- An accepted disc file is saved as its own bytes. Assumes nothing.
use Rattle.std.specs.Prelude.{Option, None, Some}
use mathlib.Core.Path.{◌≡◌, sym, ap, ◌∙◌}
use mathlib.Core.Bool.{true}
use mathlib.Core.List.{List, [], ◌∷◌}
use Prim.Native.Nat.{ℕ, ◌≤◌, ◌<◌}
use native.Mathlib.Omega.{arith}
use borrow.Author.Tests.{eqb-true, leb-true, le-leb, lt-ltb}
use lib.Dec.{eqb, leb}
use lib.ListN.{length, take, drop}
use Rattle.field.specs.Records.{Bytes}
use Rattle.field.proofs.Bytes.{bytes_drop, bytes_part}
use Rattle.field.proofs.Format.{Each, none as nothing, one, records_fit}
use Rattle.field.proofs.Records.{records_length}
use Rattle.rules.specs.declared.Area.{Area}
use Rattle.rules.specs.Tests.{Accepted, ask}
use Rattle.rules.specs.Values.{Index, Lengths}
use Rattle.rules.specs.Questions.{area_ok, Four, both, ask_four, four_of}
use Rattle.rules.proofs.Tests.{all→, →asked, and_right, both as each_of}
use Rattle.rules_disc.specs.declared.Entry.{Entry}
use Rattle.rules_disc.specs.Disc.{decode_entry, table_size, count_in, entries_in, laid, contents_ok, entry_of, body_at, slot_area, slot_of, contents_of, disc_bytes, disc_length, entries_ok, save_lists, save_one, by_slot, save_both}
use Rattle.theorems.specs.DiscFile.{disc, Whole, DiscSaves}
use Rattle.theorems.proofs.disc.Tables.{Fit, entry_layout, disc_length_lemma}
use Rattle.theorems.proofs.disc.Rebuilt.{Bodies, no_more, body, rebuilt, own_file, pair, single0, single1, no_slot, listed_of, Kept, kept, Named, named, unnamed}
use Rattle.theorems.proofs.disc.DiscFile.{opened}

-- the slot that an area has
area_slot : (k : ℕ) (a : Area) → slot_area k a ≡ true → a.key.slot ≡ k
unfolding slot_area
area_slot k a h = eqb-true a.key.slot k (and_right (area_ok a) (eqb a.key.slot k) h)

-- what a right table says
module _ (b : List ℕ) (ok : contents_ok b ≡ true) where
  many : (1 ≤ count_in b) × (count_in b ≤ 2)
  unfolding contents_ok
  many = let a = all→ _ ok in (leb-true 1 (count_in b) a.0, leb-true (count_in b) 2 a.1.0)

  few : length (entries_in b) ≤ 2
  few = rw (records_length 12 decode_entry (count_in b) (drop 4 b)) many.1

  right : laid (length b) 0 (table_size (count_in b)) (entries_in b) ≡ true
  unfolding contents_ok
  right = (all→ _ ok).1.1.1.0

  -- the file of lists whose bodies it has, and 54 of them
  module _ (g : Bytes b) (xs : List Index) (slots : Each (λ x. slot_of x ≤ 1) xs)
      (c : length (entries_in b) ≡ length xs) (k : Bodies b (entries_in b) xs) where
    count : count_in b ≡ length xs
    count = sym (records_length 12 decode_entry (count_in b) (drop 4 b)) ∙ c

    file : disc_bytes xs ≡ b
    file = own_file b xs g ok count k

    fit : Fit xs
    fit =
        let e : entries_in b ≡ contents_of xs = (rebuilt b 0 (table_size (count_in b)) k right).entries ∙ rw count in
        let n = many in
        record {
          few = omega (arith, n.1, count);
          some' = omega (arith, n.0, count);
          slots = slots;
          rising = rw (← e) (listed_of (length b) 0 (table_size (count_in b))
              (records_fit entry_layout (count_in b) (drop 4 b) (bytes_drop b 4 g)) right);
        }

    saves_own : (p : Four) (out : ℕ) → p.one ≡ true → p.two ≡ true → p.three ≡ true → p.four ≡ true
        → length b ≤ out → save_lists p xs out ≡ Accepted b
    unfolding save_lists
    saves_own p out q1 q2 q3 q4 l =
        let d : disc_length xs ≡ length b = sym (disc_length_lemma xs) ∙ ap length file in
        →asked (ask_four p (ask (entries_ok 0 (contents_of xs)) 54 ∷ ask (leb (disc_length xs) out) 40 ∷ []))
        (q1, (q2, (q3, (q4, (fit.rising, (le-leb (disc_length xs) out (omega arith), tt))))))
        (ap (λ (z : List ℕ). Accepted z) file)

-- one slot of an accepted disc file
module _ (l : Lengths) (a : Area) (b : List ℕ) (limit : ℕ) (x : Index) (g : Bytes b) (o : Option Entry)
    (m : Whole limit a (body_at b o)) (n : Named l a b limit o x) where
  abbrev part : List ℕ
  part = take n.entry.len (drop n.entry.offset b)

  pub list_kept : Kept l a part x
  unfolding body_at
  list_kept = kept l a part limit x (bytes_part b n.entry.offset n.entry.len g)
      (λ w e. m part w (ap (body_at b) n.is) e) n.loads

pub disc_saves : DiscSaves
unfolding by_slot save_both save_one
disc_saves =
    record {
      both = λ l m a0 a1 b limit out x y g w e h.
          let o = opened l m a0 a1 b limit (disc (Some x) (Some y)) e in
          let p = named l a0 b limit (entry_of 0 (entries_in b)) x o.body0 in
          let q = named m a1 b limit (entry_of 1 (entries_in b)) y o.body1 in
          let u = list_kept l a0 b limit x g (entry_of 0 (entries_in b)) w.0 p in
          let v = list_kept m a1 b limit y g (entry_of 1 (entries_in b)) w.1 q in
          let z = pair (length b) (table_size (count_in b)) (entries_in b) p.entry q.entry (few b o.contents)
          (right b o.contents) p.is q.is in
          let sx : slot_of x ≡ 0 = u.slot ∙ area_slot 0 a0 o.area0 in
          let sy : slot_of y ≡ 1 = v.slot ∙ area_slot 1 a1 o.area1 in
          let lt : slot_of x < slot_of y = omega arith in
          let k : Bodies b (entries_in b) (x ∷ y ∷ []) =
          rw z.is (body {e = p.entry} {x = x} (z.slot0 ∙ sym sx) (sym u.file)
          (body {e = q.entry} {x = y} (z.slot1 ∙ sym sy) (sym v.file) no_more)) in
          rw (lt-ltb (slot_of x) (slot_of y) lt)
          (saves_own b o.contents g (x ∷ y ∷ []) (one {x = x} (omega arith) (one {x = y} (omega arith) nothing))
          (ap length z.is) k (both (four_of l x) (four_of m y)) out
          (each_of u.savable.one v.savable.one) (each_of u.savable.two v.savable.two)
          (each_of u.three v.three) (each_of u.savable.four v.savable.four) h);
      first = λ l m a0 a1 b limit out x g w e h.
          let o = opened l m a0 a1 b limit (disc (Some x) None) e in
          let p = named l a0 b limit (entry_of 0 (entries_in b)) x o.body0 in
          let q = unnamed m a1 b limit (entry_of 1 (entries_in b)) o.body1 in
          let u = list_kept l a0 b limit x g (entry_of 0 (entries_in b)) w.0 p in
          let z = single0 (length b) (table_size (count_in b)) (entries_in b) p.entry (few b o.contents)
          (right b o.contents) p.is q in
          let sx : slot_of x ≡ 0 = u.slot ∙ area_slot 0 a0 o.area0 in
          let k : Bodies b (entries_in b) (x ∷ []) = rw z.is
          (body {e = p.entry} {x = x} (z.slot ∙ sym sx) (sym u.file) no_more) in
          saves_own b o.contents g (x ∷ []) (one {x = x} (omega arith) nothing) (ap length z.is) k (four_of l x)
          out u.savable.one u.savable.two u.three u.savable.four h;
      second = λ l m a0 a1 b limit out y g w e h.
          let o = opened l m a0 a1 b limit (disc None (Some y)) e in
          let p = unnamed l a0 b limit (entry_of 0 (entries_in b)) o.body0 in
          let q = named m a1 b limit (entry_of 1 (entries_in b)) y o.body1 in
          let v = list_kept m a1 b limit y g (entry_of 1 (entries_in b)) w.1 q in
          let z = single1 (length b) (table_size (count_in b)) (entries_in b) q.entry (few b o.contents)
          (right b o.contents) p q.is in
          let sy : slot_of y ≡ 1 = v.slot ∙ area_slot 1 a1 o.area1 in
          let k : Bodies b (entries_in b) (y ∷ []) = rw z.is
          (body {e = q.entry} {x = y} (z.slot ∙ sym sy) (sym v.file) no_more) in
          saves_own b o.contents g (y ∷ []) (one {x = y} (omega arith) nothing) (ap length z.is) k (four_of m y)
          out v.savable.one v.savable.two v.three v.savable.four h;
      some' = λ l m a0 a1 b limit e.
          let o = opened l m a0 a1 b limit (disc None None) e in
          no_slot (length b) (table_size (count_in b)) (entries_in b)
          (rw (records_length 12 decode_entry (count_in b) (drop 4 b)) (many b o.contents).0)
          (right b o.contents)
          (unnamed l a0 b limit (entry_of 0 (entries_in b)) o.body0)
          (unnamed m a1 b limit (entry_of 1 (entries_in b)) o.body1);
    }
