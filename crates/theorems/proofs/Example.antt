-- Lists cut from a reading exist, on values and in tables: one of 1000..1250 by 100, a list with one checkpoint and a complete one. So do three lists whose hints
-- and confirmations do not depend on the order of merging (change request 13).
use Rattle.std.specs.Prelude.{Option, None, Some}
use mathlib.Core.Path.{◌≡◌, refl, sym, ap, subst, ◌∙◌}
use mathlib.Core.Bool.{true, false, cond}
use mathlib.Core.Logic.{inl, inr}
use mathlib.Core.List.{List, [], ◌∷◌, ◌++◌, Memᴰ}
use Prim.Native.Nat.{ℕ, zero, suc, ◌-◌, ◌/◌, ◌<◌, ◌≤◌}
use native.Mathlib.Omega.{arith}
use lib.Dec.{eqb}
use lib.IntN.{pos, negsuc}
use lib.ListN.{length, get_or, drop, replicate, length-replicate}
use Rattle.field.specs.Number.{encode}
use Rattle.field.specs.Records.{bytes_of, Bytes}
use Rattle.field.proofs.Bytes.{bytes_append, bytes_drop}
use Rattle.field.proofs.Format.{bytes_of_bytes}
use Rattle.rules.specs.declared.Area.{Area}
use Rattle.rules.specs.declared.Confirmation.{Confirmation}
use Rattle.rules.specs.declared.Fingerprint.TheVariants.{Unknown, Checked}
use Rattle.rules.specs.declared.FrameKind.TheVariants.{Dst, Dsd}
use Rattle.rules.specs.declared.Hint.{Hint}
use Rattle.rules.specs.Tests.{all, each, walk, last_or, is_some, agree, agrees}
use Rattle.rules.specs.Values.{Scan, Index, Lengths, boundaries, used, frontier_of, counted, stated, same_kind, same_checkpoint, same_end, no_held}
use Rattle.rules.specs.Sections.{counts_ok, checkpoint_ok, checkpoints_ok, frame_ok, frames_ok, follows, belongs, part_ok, reached, parts_ok, end_ok, ending_ok, rising_ok, rising, malformed_ok, hints_ok, is_kept, kept_count, marks_ok, confirmations_ok}
use Rattle.rules.specs.Questions.{area_ok, numbers_ok, held_ok, scan_ok, hinting_ok, question1, question2, question3, question4, scan_room, hinting_room}
use Rattle.rules.specs.Plan.{assembly_of}
use Rattle.rules.specs.Merge.{question42, question43}
use Rattle.rules.specs.Record.{below}
use Rattle.rules.specs.Sizes.{key_sized, frame_sized, scan_sized, known_sized, hinting_sized, sized}
use Rattle.rules.specs.File.{encode_checkpoint, encode_frame_header, encode_held, encode_lsn, encode_confirmation, over}
use Rattle.tables.specs.Tables.{encode_kept}
use Rattle.tables.proofs.Kept.{kept_layout}
use Rattle.rules.specs.Run.{Reading, Cut, content_of, Place, counted_from, Call, merge_refusal}
use Rattle.rules.proofs.Tests.{test, choose}
use Rattle.laws.specs.Statements.{Savable}
use Rattle.laws.proofs.Facts.{SizeFacts, sized→, facts}
use Rattle.laws.proofs.hint_lists.Lists.{All}
use Rattle.laws.proofs.Layouts.{checkpoint_layout, lsn_layout, confirmation_layout, held_bytes}
use Rattle.laws.proofs.Readers.{each_bytes}
use Rattle.tables.specs.Index.{Tables, tables, room_of, numbers_from, tables_from, store_of}
use Rattle.index.proofs.Standing.{stands, kinds_from, within, room_from}
use Rattle.theorems.specs.Terms.{Valid, AllCut, after_calls}
use Rattle.theorems.specs.TableRun.{TablePlace, TableCall, is_accepted, merging, place_in, state_in, LentIn, AllCutIn, after_table_calls}
use Rattle.theorems.specs.Demand3InTables.{HoldsPart}
use Rattle.theorems.specs.Order.{hints_at, confirmed_at, Together, Merge, after_merges, Gathered}
use Rattle.theorems.specs.OrderInTables.{after_table_merges, LentPlace}
use Rattle.theorems.proofs.Demand3.{none_refused}
use Rattle.theorems.proofs.TableRun.{cut_savable}
use Rattle.theorems.proofs.Demand3InTables.{none_refused_in_tables}
use Rattle.theorems.proofs.order.Gather.{all_member}
use Rattle.theorems.proofs.order.Order.{hints_gathered}
use Rattle.theorems.proofs.order.OrderInTables.{hints_gathered_in_tables}

abbrev area : Area
area = record { key = record { slot = 0; start = 1; end = 2; channels = 2; sectors = 9 }; start = 1000; end = 1250 }

abbrev reading : Reading
reading =
    record {
      area = area;
      interval = 100;
      marks =
          record { threshold = 0; back = 0; digest = 11 } ∷ record { threshold = 0; back = 50; digest = 12 }
          ∷ record { threshold = 75; back = 60; digest = 13 } ∷ [];
      part = λ j.
          cond (eqb j 1) (record { bytes = 1 ∷ 2 ∷ 3 ∷ []; number = 7; kind = Dst; remaining = pos 5 })
          (record { bytes = 4 ∷ 5 ∷ []; number = 8; kind = Dsd; remaining = negsuc 4 });
      malformed = 1160 ∷ [];
      threshold = 80;
    }

abbrev list : Scan → Option ℕ → Index
list x image = record {
  scan = x;
  hinting = record { spacing = 8; most = 2048; hints = []; confirmed = [] };
  fingerprint = Unknown;
  image = image;
}

abbrev short : Index
short =
    list
    (record {
      area = area;
      interval = 100;
      budget = 4;
      checkpoints = record { threshold = 0; back = 0; malformed = 0; digest = 11 } ∷ [];
      frames = [];
      parts = [];
      ending = None;
      malformed = [];
    })
    None

abbrev whole : Index
whole =
    list
    (record {
      area = area;
      interval = 100;
      budget = 5;
      checkpoints =
          record { threshold = 0; back = 0; malformed = 0; digest = 11 }
          ∷ record { threshold = 0; back = 50; malformed = 0; digest = 12 }
          ∷ record { threshold = 75; back = 60; malformed = 1; digest = 13 } ∷ [];
      frames = record { start = 1050; bytes = 1 ∷ 2 ∷ 3 ∷ [] } ∷ record { start = 1140; bytes = 4 ∷ 5 ∷ [] } ∷ [];
      parts =
          record { at = 1; frame = 0; len = 3; number = 7; kind = Dst; remaining = pos 5 }
          ∷ record { at = 2; frame = 1; len = 2; number = 8; kind = Dsd; remaining = negsuc 4 } ∷ [];
      ending = Some (record { threshold = 80; malformed = 1 });
      malformed = 1160 ∷ [];
    })
    (Some 1)

short_cut : Cut reading short
unfolding all each walk last_or is_some boundaries frontier_of counted stated counts_ok checkpoint_ok checkpoints_ok frames_ok reached parts_ok ending_ok rising malformed_ok hints_ok is_kept kept_count marks_ok confirmations_ok area_ok numbers_ok held_ok scan_ok hinting_ok question1 question2 question4 below key_sized scan_sized known_sized hinting_sized sized counted_from
short_cut =
    record {
      one = refl;
      two = refl;
      four = refl;
      fits = refl;
      area = refl;
      interval = refl;
      checkpoints = refl;
      ending = inl refl;
      malformed = refl;
      parts = λ i l. let z : ⊥ = omega arith in absurd z;
    }

whole_parts : (i : ℕ) → i < length whole.scan.parts
    → content_of whole.scan.frames (get_or whole.scan.parts i no_held) ≡ reading.part (get_or whole.scan.parts i no_held).at
whole_parts zero l = refl
whole_parts (suc zero) l = refl
whole_parts (suc (suc i)) l = let z : ⊥ = omega arith in absurd z

whole_cut : Cut reading whole
unfolding all each walk last_or is_some boundaries frontier_of counted stated same_kind counts_ok checkpoint_ok checkpoints_ok frame_ok frames_ok follows belongs part_ok reached parts_ok end_ok ending_ok rising_ok rising malformed_ok hints_ok is_kept kept_count marks_ok confirmations_ok area_ok numbers_ok held_ok scan_ok hinting_ok question1 question2 question4 below key_sized frame_sized scan_sized known_sized hinting_sized sized counted_from
whole_cut =
    record {
      one = refl;
      two = refl;
      four = refl;
      fits = refl;
      area = refl;
      interval = refl;
      checkpoints = refl;
      ending = inr (refl, refl);
      malformed = refl;
      parts = whole_parts;
    }

-- place 0 has the short list, every other place the whole one
abbrev places : ℕ → Place
places i =
    record {
      list = cond (eqb i 0) short whole;
      room = record {
        checkpoints = 3;
        frames = 3;
        store = 5;
        parts = 3;
        malformed = 4096;
        hints = 264192;
        confirmed = 2049;
      };
    }

pub all_cut : AllCut reading places
all_cut i = test (eqb i 0) (λ e. rw e short_cut) (λ e. rw e whole_cut)

-- their tables are long enough, and no image ids or fingerprints differ: no merge among them is ever refused
rooms : (i : ℕ) → question3 (places i).room (places i).list ≡ true
unfolding all boundaries scan_room hinting_room question3
rooms i = test (eqb i 0) (λ e. rw e refl) (λ e. rw e refl)

ids : (i j : ℕ) → question42 (places i).list (places j).list ≡ true
unfolding all agree stated question42
ids i j =
    test (eqb i 0) (λ e. rw e refl) (λ e. test (eqb j 0) (λ f. rw (e, f) refl) (λ f. rw (e, f) refl))

pub merges : (calls : List Call) (i j : ℕ) → merge_refusal ((after_calls reading places calls).now i)
    ((after_calls reading places calls).now j) ≡ 0
merges = none_refused reading places all_cut rooms ids

-- ---- in tables: those of zeros, with the lists put into them
unfoldable pub zeros_of : ℕ → ℕ → ℕ → ℕ → ℕ → ℕ → ℕ → Tables
zeros_of a b c d e f g = tables (replicate a 0) (replicate b 0) (replicate c 0) (replicate d 0) (replicate e 0)
    (replicate f 0) (replicate g 0)

zeros_length : (n : ℕ) → length (replicate {A = ℕ} n 0) ≡ n
zeros_length n = length-replicate {A = ℕ} n 0

zeros_room : (a b c d e f g : ℕ)
    → room_of (zeros_of a b c d e f g) ≡ record {
      checkpoints = a / 24;
      frames = b / 8;
      store = c;
      parts = d / 24;
      malformed = e / 4;
      hints = f / 8;
      confirmed = g / 16;
    }
unfolding zeros_of
zeros_room a b c d e f g =
    rw (zeros_length a, zeros_length b, zeros_length c, zeros_length d, zeros_length e, zeros_length f, zeros_length g)

-- as long as question 3 asks
abbrev zeros : Tables
zeros = zeros_of 72 24 5 72 16384 2113536 32784

room_zeros : (i : ℕ) → room_of zeros ≡ (places i).room
room_zeros i = zeros_room 72 24 5 72 16384 2113536 32784

abbrev table_places : ℕ → TablePlace
table_places i = record { numbers = numbers_from (places i).list; tables = tables_from (places i).list zeros }

savable : (i : ℕ) → Savable (places i).list
savable i = cut_savable (places i).list (all_cut i)

-- a list stands in tables that are long enough, and they keep their lengths
stood : (p : Place) (t : Tables) → Savable p.list → room_of t ≡ p.room → question3 p.room p.list ≡ true
    → place_in (record { numbers = numbers_from p.list; tables = tables_from p.list t }) ≡ p
stood p t s e three =
    let q : question3 (room_of t) p.list ≡ true = ap (λ (l : Lengths). question3 l p.list) e ∙ three in
    let b = within p.list t (facts p.list s) q in
    let r : room_of (tables_from p.list t) ≡ p.room = room_from p.list t b ∙ e in
    λ k. record { list = stands p.list t s k; room = r k }

table_place : (i : ℕ) → place_in (table_places i) ≡ places i
table_place i = stood (places i) zeros (savable i) (room_zeros i) (rooms i)

-- they are numbers of their types, and bytes
bytes_zeros : (n : ℕ) → Bytes (replicate n 0)
bytes_zeros zero i = omega arith
bytes_zeros (suc n) zero = omega arith
bytes_zeros (suc n) (suc i) = bytes_zeros n i

bytes_over : (new : List ℕ) (n : ℕ) → Bytes new → Bytes (over new (replicate n 0))
bytes_over new n h = bytes_append new (drop (length new) (replicate n 0)) h
    (bytes_drop (replicate n 0) (length new) (bytes_zeros n))

-- frames, their bytes and parts
record HeldBytes (x : Scan) : Type 0 where
  frames : Bytes (bytes_of encode_frame_header x.frames)
  store : Bytes (store_of x.frames)
  parts : Bytes (bytes_of encode_held x.parts)

lent_zeros : (x : Index) → SizeFacts x → HeldBytes x.scan → (a b c d e f g : ℕ)
    → LentIn (numbers_from x) (tables_from x (zeros_of a b c d e f g))
unfolding zeros_of
lent_zeros x s h a b c d e f g =
    record {
      typed =
          record {
            start = s.key.start;
            end = s.key.end;
            channels = s.key.channels;
            sectors = s.key.sectors;
            spacing = s.spacing;
            fingerprint = s.known;
          };
      bytes =
          record {
            checkpoints = bytes_over (bytes_of encode_checkpoint x.scan.checkpoints) a
                (bytes_of_bytes checkpoint_layout x.scan.checkpoints);
            frames = bytes_over (bytes_of encode_frame_header x.scan.frames) b h.frames;
            store = bytes_over (store_of x.scan.frames) c h.store;
            parts = bytes_over (bytes_of encode_held x.scan.parts) d h.parts;
            malformed = bytes_over (bytes_of encode_lsn x.scan.malformed) e
                (bytes_of_bytes lsn_layout x.scan.malformed);
            hints = bytes_over (bytes_of encode_kept x.hinting.hints) f
                (bytes_of_bytes kept_layout x.hinting.hints);
            confirmed = bytes_over (bytes_of encode_confirmation x.hinting.confirmed) g
                (bytes_of_bytes confirmation_layout x.hinting.confirmed);
          };
    }

short_bytes : HeldBytes short.scan
unfolding bytes_of store_of
short_bytes = record { frames = λ i. omega arith; store = λ i. omega arith; parts = λ i. omega arith }

whole_bytes : HeldBytes whole.scan
unfolding bytes_of store_of each encode encode_frame_header
whole_bytes =
    record {
      frames = each_bytes (bytes_of encode_frame_header whole.scan.frames) refl;
      store = each_bytes (store_of whole.scan.frames) refl;
      parts =
          bytes_append (encode_held (get_or whole.scan.parts 0 no_held))
          (encode_held (get_or whole.scan.parts 1 no_held) ++ []) (held_bytes (get_or whole.scan.parts 0 no_held))
          (bytes_append (encode_held (get_or whole.scan.parts 1 no_held)) []
          (held_bytes (get_or whole.scan.parts 1 no_held)) (λ i. omega arith));
    }

pub lent : (i : ℕ) → LentIn (table_places i).numbers (table_places i).tables
lent i =
    lent_zeros (places i).list (sized→ (places i).list (all_cut i).fits)
    (test (eqb i 0) (λ e. rw e short_bytes) (λ e. rw e whole_bytes)) 72 24 5 72 16384 2113536 32784

pub all_cut_in : AllCutIn reading table_places
all_cut_in i =
    record {
      lent = lent i;
      cut = λ s. subst (λ (q : Place). Cut reading q.list) (sym (table_place i)) (all_cut i);
      kinds = kinds_from (places i).list zeros (savable i);
    }

-- no merge among them is ever refused
pub merges_in_tables : (calls : List TableCall) (i j : ℕ)
    → is_accepted (merging ((after_table_calls reading table_places calls).now i)
    ((after_table_calls reading table_places calls).now j)).answer ≡ true
merges_in_tables =
    none_refused_in_tables reading table_places all_cut_in
    (λ i. subst (λ (q : Place). question3 q.room q.list ≡ true) (sym (table_place i)) (rooms i))
    (λ i j. subst (λ (q : Place). question42 q.list (place_in (table_places j)).list ≡ true) (sym (table_place i))
    (subst (λ (q : Place). question42 (places i).list q.list ≡ true) (sym (table_place j)) (ids i j)))

-- place 1 holds a part for checkpoint 1
pub holds_part : HoldsPart (table_places 1) 1 (record { kind = Dst; number = 7; remaining = pos 5; offset = 0; len = 3 })
unfolding assembly_of used
holds_part =
    record {
      inside = subst (λ (q : Place). 3 ≤ q.room.store) (sym (table_place 1)) (omega arith);
      part =
          subst (λ (q : Place). assembly_of q.list.scan.frames q.list.scan.parts 1
          ≡ Some (record { kind = Dst; number = 7; remaining = pos 5; offset = 0; len = 3 }))
          (sym (table_place 1)) refl;
    }

-- ---- lists that agree (change request 13): four hints and four confirmed LSNs together, under an M of 4
abbrev agreeing : Scan → List Hint → List Confirmation → Option ℕ → Place
agreeing x hs cs image =
    record {
      list = record {
        scan = x;
        hinting = record { spacing = 8; most = 4; hints = hs; confirmed = cs };
        fingerprint = Checked 9;
        image = image;
      };
      room = record {
        checkpoints = 3;
        frames = 3;
        store = 5;
        parts = 3;
        malformed = 4096;
        hints = 262148;
        confirmed = 5;
      };
    }

abbrev at : ℕ → Hint
at n = record { lsn = n; number = n - 1000; mark = 0 }

abbrev from : ℕ → ℕ → Confirmation
from n t = record { lsn = n; threshold = t; digest = n }

abbrev one : Place
one = agreeing short.scan (at 1010 ∷ at 1020 ∷ []) (from 1010 5 ∷ from 1020 7 ∷ []) (Some 1)

abbrev two : Place
two = agreeing whole.scan (at 1020 ∷ at 1130 ∷ []) (from 1010 4 ∷ from 1130 6 ∷ []) None

abbrev other : Place
other = agreeing short.scan (at 1130 ∷ at 1240 ∷ []) (from 1010 6 ∷ from 1240 2 ∷ []) (Some 1)

-- places 0 and 1 have the first two, every other place the third
abbrev agreed : ℕ → Place
agreed i = cond (eqb i 0) one (cond (eqb i 1) two other)

-- what holds of the three holds of each place
module _ (P : Place → Type 0) (x : P one) (y : P two) (z : P other) where
  each_agreed : (i : ℕ) → P (agreed i)
  each_agreed i = choose P (eqb i 0) one (cond (eqb i 1) two other) (λ e. x)
      (λ e. choose P (eqb i 1) two other (λ f. y) (λ f. z))

valid_agreed : (i : ℕ) → Valid (agreed i).room (agreed i).list
unfolding all each walk last_or is_some boundaries frontier_of counted stated same_kind counts_ok checkpoint_ok checkpoints_ok frame_ok frames_ok follows belongs part_ok reached parts_ok end_ok ending_ok rising_ok rising malformed_ok hints_ok is_kept kept_count marks_ok confirmations_ok area_ok numbers_ok held_ok scan_ok hinting_ok scan_room hinting_room question1 question2 question3 question4
valid_agreed =
    each_agreed (λ p. Valid p.room p.list) (record { one = refl; two = refl; three = refl; four = refl })
    (record { one = refl; two = refl; three = refl; four = refl })
    (record { one = refl; two = refl; three = refl; four = refl })

scans_agree : (i j : ℕ) → question43 (agreed i).list (agreed j).list ≡ true
unfolding all agree agrees same_checkpoint same_end question43
scans_agree i j =
    each_agreed (λ p. question43 p.list (agreed j).list ≡ true)
    (each_agreed (λ q. question43 one.list q.list ≡ true) refl refl refl j)
    (each_agreed (λ q. question43 two.list q.list ≡ true) refl refl refl j)
    (each_agreed (λ q. question43 other.list q.list ≡ true) refl refl refl j) i

images_agree : (i j : ℕ) → agree eqb (agreed i).list.image (agreed j).list.image ≡ true
unfolding agree
images_agree i j =
    each_agreed (λ p. agree eqb p.list.image (agreed j).list.image ≡ true)
    (each_agreed (λ q. agree eqb one.list.image q.list.image ≡ true) refl refl refl j)
    (each_agreed (λ q. agree eqb two.list.image q.list.image ≡ true) refl refl refl j)
    (each_agreed (λ q. agree eqb other.list.image q.list.image ≡ true) refl refl refl j) i

abbrev lsns : List ℕ
lsns = 1010 ∷ 1020 ∷ 1130 ∷ 1240 ∷ []

abbrev member0 : Memᴰ 1010 lsns
member0 = Memᴰ.head refl

abbrev member1 : Memᴰ 1020 lsns
member1 = Memᴰ.tail (Memᴰ.head refl)

abbrev member2 : Memᴰ 1130 lsns
member2 = Memᴰ.tail (Memᴰ.tail (Memᴰ.head refl))

abbrev member3 : Memᴰ 1240 lsns
member3 = Memᴰ.tail (Memᴰ.tail (Memᴰ.tail (Memᴰ.head refl)))

number_agreed : (i : ℕ) (h : Hint) → Memᴰ h (hints_at (agreed i)) → h.number ≡ h.lsn - 1000
number_agreed i h m =
    all_member (λ g. g.number ≡ g.lsn - 1000) (hints_at (agreed i)) h
    (each_agreed (λ p. All (λ g. g.number ≡ g.lsn - 1000) (hints_at p)) (refl, (refl, tt)) (refl, (refl, tt))
    (refl, (refl, tt)) i) m

digest_agreed : (i : ℕ) (c : Confirmation) → Memᴰ c (confirmed_at (agreed i)) → c.digest ≡ c.lsn
digest_agreed i c m =
    all_member (λ d. d.digest ≡ d.lsn) (confirmed_at (agreed i)) c
    (each_agreed (λ p. All (λ d. d.digest ≡ d.lsn) (confirmed_at p)) (refl, (refl, tt)) (refl, (refl, tt))
    (refl, (refl, tt)) i) m

kept_agreed : (i : ℕ) (h : Hint) → Memᴰ h (hints_at (agreed i)) → is_kept h ≡ false
unfolding is_kept
kept_agreed i h m =
    all_member (λ g. is_kept g ≡ false) (hints_at (agreed i)) h
    (each_agreed (λ p. All (λ g. is_kept g ≡ false) (hints_at p)) (refl, (refl, tt)) (refl, (refl, tt))
    (refl, (refl, tt)) i) m

pub together : Together agreed area 100 4
together =
    record {
      valid = valid_agreed;
      area = each_agreed (λ p. p.list.scan.area ≡ area) refl refl refl;
      interval = each_agreed (λ p. p.list.scan.interval ≡ 100) refl refl refl;
      limit = each_agreed (λ p. p.list.hinting.most ≡ 4) refl refl refl;
      above = omega arith;
      unmarked = kept_agreed;
      agreeing = scans_agree;
      fingerprint = inr (9, each_agreed (λ p. p.list.fingerprint ≡ Checked 9) refl refl refl);
      images = images_agree;
      numbers = λ i j h g m n e. number_agreed i h m ∙ ap (λ (l : ℕ). l - 1000) e ∙ sym (number_agreed j g n);
      digests = λ i j c d m n e. digest_agreed i c m ∙ e ∙ sym (digest_agreed j d n);
      hint_lsns = lsns;
      hints_fit = omega arith;
      hints_in = λ i h m.
          all_member (λ g. Memᴰ g.lsn lsns) (hints_at (agreed i)) h
          (each_agreed (λ p. All (λ g. Memᴰ g.lsn lsns) (hints_at p)) (member0, (member1, tt))
          (member1, (member2, tt)) (member2, (member3, tt)) i) m;
      confirmed_lsns = lsns;
      confirmed_fit = omega arith;
      confirmed_in = λ i c m.
          all_member (λ d. Memᴰ d.lsn lsns) (confirmed_at (agreed i)) c
          (each_agreed (λ p. All (λ d. Memᴰ d.lsn lsns) (confirmed_at p)) (member0, (member1, tt))
          (member0, (member2, tt)) (member0, (member3, tt)) i) m;
    }

-- they lose none, in every order
pub gathers : (ms : List Merge) (i : ℕ) → Gathered agreed (after_merges area agreed ms) i
gathers = hints_gathered agreed area 100 4 together

-- ---- the same in tables
abbrev agreed_zeros : Tables
agreed_zeros = zeros_of 72 24 5 72 16384 2097184 80

abbrev agreed_tables : ℕ → TablePlace
agreed_tables i = record { numbers = numbers_from (agreed i).list; tables = tables_from (agreed i).list agreed_zeros }

fits_agreed : (i : ℕ) → sized (agreed i).list ≡ true
unfolding all each stated key_sized frame_sized scan_sized known_sized hinting_sized sized
fits_agreed = each_agreed (λ p. sized p.list ≡ true) refl refl refl

savable_agreed : (i : ℕ) → Savable (agreed i).list
savable_agreed i = let v = valid_agreed i in record
    { one = v.one; two = v.two; four = v.four; sizes = fits_agreed i }

agreed_place : (i : ℕ) → place_in (agreed_tables i) ≡ agreed i
agreed_place i =
    stood (agreed i) agreed_zeros (savable_agreed i)
    (each_agreed (λ p. room_of agreed_zeros ≡ p.room) (zeros_room 72 24 5 72 16384 2097184 80)
    (zeros_room 72 24 5 72 16384 2097184 80) (zeros_room 72 24 5 72 16384 2097184 80) i)
    (valid_agreed i).three

agreed_lent : (i : ℕ) → LentPlace (agreed_tables i)
agreed_lent i =
    record {
      lent =
          lent_zeros (agreed i).list (sized→ (agreed i).list (fits_agreed i))
          (each_agreed (λ p. HeldBytes p.list.scan) short_bytes whole_bytes short_bytes i) 72 24 5 72 16384
          2097184 80;
      kinds = kinds_from (agreed i).list agreed_zeros (savable_agreed i);
    }

pub gathers_in_tables : (ms : List Merge) (i : ℕ)
    → Gathered (λ n. place_in (agreed_tables n)) (state_in (after_table_merges area agreed_tables ms)) i
gathers_in_tables =
    hints_gathered_in_tables agreed_tables area 100 4 agreed_lent
    (subst (λ (q : ℕ → Place). Together q area 100 4) (λ k i. sym (agreed_place i) k) together)
