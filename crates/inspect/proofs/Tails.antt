-- The sections from each one on, by what was read of the first. Assumes nothing.
use mathlib.Core.Path.{◌≡◌, refl, sym, ◌∙◌}
use mathlib.Core.Bool.{Bool, true, false, not}
use mathlib.Core.List.{List}
use Prim.Native.Nat.{ℕ, ◌+◌, ◌*◌, ◌-◌, ◌<◌, ◌≤◌}
use native.Mathlib.Omega.{arith}
use borrow.Author.Tests.{leb-true, le-leb, lt-leb, eq-eqb, ne_eqb, not-true, not-false}
use lib.Dec.{eqb}
use lib.ListN.{length, take, drop, length-drop}
use lib.Seq.{drop-drop, length-take-le}
use Rattle.field.specs.Number.{decode}
use Rattle.field.proofs.Records.{records_take}
use Rattle.fnv.specs.Fnv.{fnv64}
use Rattle.rules.specs.declared.Area.{Area}
use Rattle.rules.specs.declared.Header.{Header}
use Rattle.rules.specs.declared.HintHeader.{HintHeader}
use Rattle.rules.specs.Tests.{Answer, Refused, Accepted, after, bind, first_no}
use Rattle.rules.specs.Values.{boundaries}
use Rattle.rules.specs.Sections.{begun, passed, checkpoint_ok, checkpoints_ok, counts_ok}
use Rattle.rules.specs.File.{read_header, decode_checkpoint}
use Rattle.rules.specs.Load.{read, read_checkpoints, header_number, is_complete, fixed_size}
use Rattle.rules.proofs.Tests.{asked, and_right}
use Rattle.tables.specs.Tables.{checkpoints_in}
use Rattle.tables.proofs.Reading.{read_all}
use Rattle.inspect.specs.declared.cursor.Cursor.{Cursor}
use Rattle.inspect.proofs.Sections.{TookConfirmed}
use Rattle.inspect.specs.declared.Found.{Found}
use Rattle.inspect.specs.declared.Inspected.{Inspected}
use Rattle.inspect.specs.declared.Inspected.TheVariants as inspected
use Rattle.inspect.specs.Tails.{answered, at_end, found_by, from_confirmed, from_frames, from_checkpoints, from_body}

-- ---- refused, or on
module _ {A : Type 0} {x : Answer A} (f : A → Answer Found) where
  pub stops : {k : ℕ} → x ≡ Refused k → inspected.Refused k ≡ answered (bind x f)
  unfolding bind answered
  stops e = rw e

  pub goes_on : {t : A} {r : Inspected} → x ≡ Accepted t → r ≡ answered (f t) → r ≡ answered (bind x f)
  unfolding bind
  goes_on e g = rw e g

pub after_no : {A : Type 0} (n : ℕ) (x : Answer A) → (n ≡ 0 → ⊥) → after n x ≡ Refused n
unfolding after
after_no n x h = rw (ne_eqb n 0 h)

pub after_yes : {A : Type 0} {n : ℕ} (x : Answer A) → n ≡ 0 → after n x ≡ x
unfolding after
after_yes x h = rw h

-- ---- the end
module _ (a : Area) (h : Header) (u : ℕ) (g : HintHeader) (s : List ℕ) (at : ℕ) {n : ℕ} {d : Cursor} (y : TookConfirmed a h g.most s at n d) where
  pub left_over : d.at < length s → inspected.Refused 38 ≡ answered (from_confirmed a h u g (drop at s))
  unfolding from_confirmed at_end after first_no answered
  left_over l =
      let z : eqb (length y.value.rest) 0 ≡ false = ne_eqb (length y.value.rest) 0 (λ (e : length y.value.rest ≡ 0). omega (arith, e, y.rest)) in
      goes_on _ y.is (rw z)

  pub all_done : {f : Found} → length s ≤ d.at → f ≡ found_by a h u g n → inspected.Passed f ≡ answered (from_confirmed a h u g (drop at s))
  unfolding from_confirmed at_end after first_no answered
  all_done l e =
      let z : eqb (length y.value.rest) 0 ≡ true = eq-eqb (length y.value.rest) 0 (omega (arith, y.rest)) in
      goes_on _ y.is (rw (z, e, y.count))

-- ---- the checkpoints, cut at their count
module _ (a : Area) (h : Header) (s : List ℕ) (l : 80 + h.checkpoints * 24 ≤ length s) {b : List ℕ} (e : b ≡ take (h.checkpoints * 24) (drop 80 s)) where
  pub checkpoints_fit : h.checkpoints * 24 ≤ length b
  checkpoints_fit =
      let q : h.checkpoints * 24 ≤ length (drop 80 s) = simp length-drop (omega arith) in
      rw (e, length-take-le (h.checkpoints * 24) (drop 80 s) q) (omega arith)

  same : checkpoints_in h.checkpoints b ≡ checkpoints_in h.checkpoints (drop 80 s)
  same = rw (e, records_take 24 decode_checkpoint h.checkpoints (h.checkpoints * 24) (drop 80 s) (omega arith))

  module _ {t : Bool} (o : t ≡ checkpoints_ok h.interval 0 (checkpoints_in h.checkpoints b)) where
    pub checkpoints_no : not t ≡ true → inspected.Refused 31 ≡ answered (from_checkpoints a h (drop 80 s))
    unfolding from_checkpoints checkpoints_ok
    checkpoints_no z =
        let q : h.checkpoints * 24 ≤ length (drop 80 s) = simp length-drop (omega arith) in
        stops _ (read_all 24 decode_checkpoint (checkpoint_ok h.interval) passed 31 refl h.checkpoints (begun 0) (drop 80 s) q ∙ rw (← same, ← o, not-true t z))

    pub checkpoints_yes : not t ≡ false → {r : Inspected} → r ≡ answered (from_frames a h (checkpoints_in h.checkpoints b) (drop (80 + h.checkpoints * 24) s))
        → r ≡ answered (from_checkpoints a h (drop 80 s))
    unfolding from_checkpoints checkpoints_ok
    checkpoints_yes z g =
        let q : h.checkpoints * 24 ≤ length (drop 80 s) = simp length-drop (omega arith) in
        let x : read_checkpoints h (drop 80 s) ≡ read (checkpoints_in h.checkpoints b) (drop (h.checkpoints * 24) (drop 80 s)) =
        read_all 24 decode_checkpoint (checkpoint_ok h.interval) passed 31 refl h.checkpoints (begun 0) (drop 80 s) q ∙ rw (← same, ← o, not-false t z) in
        goes_on _ x (rw (drop-drop (h.checkpoints * 24) 80 s) g)

-- ---- the header
-- the checkpoints of a header that passes lie behind it
pub header_room : (a : Area) (h : Header) (left : ℕ) {n : ℕ} → n ≡ header_number a h left → n ≡ 0 → h.checkpoints * 24 ≤ left
unfolding header_number
header_room a h left o e =
    let g = and_right (counts_ok (boundaries a h.interval) h.checkpoints (is_complete h) h.frames h.parts h.malformed) _ (asked _ refl (sym o ∙ e)).1.1.1.1.1.1.1.1.0 in
    let l = leb-true (fixed_size h) left g in
    omega arith

-- ---- the body, question by question
module _ (a : Area) (s : List ℕ) (sum : ℕ) where
  pub body_short : length s < 80 → inspected.Refused 21 ≡ answered (from_body a sum s)
  unfolding from_body first_no after answered
  body_short l = rw (lt-leb 80 (length s) l)

  module _ (l : 80 ≤ length s) {h : Header} (e : h ≡ read_header s) where
    pub body_magic : (h.magic ≡ 6361698709525447251 → ⊥) → inspected.Refused 21 ≡ answered (from_body a sum s)
    unfolding from_body first_no after answered decode
    body_magic z = rw (le-leb 80 (length s) l, ← e, ne_eqb h.magic 6361698709525447251 z)

    module _ (m : h.magic ≡ 6361698709525447251) {v : ℕ} (o : v ≡ fnv64 s) where
      pub body_sum : (v ≡ sum → ⊥) → inspected.Refused 22 ≡ answered (from_body a sum s)
      unfolding from_body first_no after answered decode
      body_sum z = rw (le-leb 80 (length s) l, ← e, eq-eqb h.magic 6361698709525447251 m, ← o, ne_eqb v sum z)

      module _ (w : v ≡ sum) {n : ℕ} (q : n ≡ header_number a h (length s - 80)) where
        pub body_header : (n ≡ 0 → ⊥) → inspected.Refused n ≡ answered (from_body a sum s)
        unfolding from_body first_no after answered decode
        body_header z = rw (le-leb 80 (length s) l, ← e, eq-eqb h.magic 6361698709525447251 m, ← o, eq-eqb v sum w, length-drop, ← q, ne_eqb n 0 z)

        pub body_on : n ≡ 0 → {r : Inspected} → r ≡ answered (from_checkpoints a h (drop 80 s)) → r ≡ answered (from_body a sum s)
        unfolding from_body first_no after decode
        body_on z g = rw (le-leb 80 (length s) l, ← e, eq-eqb h.magic 6361698709525447251 m, ← o, eq-eqb v sum w, length-drop, ← q, z) g
