-- The hint recorder in its table. Assumes nothing.
use Rattle.std.specs.Prelude.{Option, None, Some}
use mathlib.Core.Path.{◌≡◌, refl, sym, ◌∙◌}
use mathlib.Core.Bool.{Bool, true, false, not}
use mathlib.Core.List.{List, [], ◌∷◌, ◌++◌}
use Prim.Native.Nat.{ℕ, ◌+◌, ◌*◌, ◌/◌, ◌<◌, ◌≤◌}
use native.Mathlib.Omega.{arith}
use borrow.Author.Tests.{not-true, not-false, leb-true, le-leb, lt-leb, lt-ltb, le-ltb, ltb-true, ne_eqb, eq-eqb}
use lib.Dec.{leb, ltb}
use lib.ListN.{length, take, length-append, take-append-drop}
use lib.Seq.{sets, sets-eq, length-take-le}
use Rattle.field.specs.Records.{bytes_of, Bytes}
use Rattle.field.proofs.Records.{records_length}
use Rattle.field.proofs.Format.{bytes_records, bytes_of_append, bytes_of_one}
use Rattle.rules.specs.declared.AreaIndex.{AreaIndex}
use Rattle.rules.specs.declared.Absence.{Absence}
use Rattle.rules.specs.declared.First.{First}
use Rattle.rules.specs.declared.First.TheVariants as first
use Rattle.rules.specs.declared.Hint.{Hint}
use Rattle.rules.specs.declared.HintRecorder.{HintRecorder}
use Rattle.rules.specs.declared.TimeBytes.{TimeBytes}
use Rattle.rules.specs.Tests.{each, ask, first_no, after, Accepted, Refused}
use Rattle.rules.specs.File.{decode_hint, encode_hint, over}
use Rattle.rules.specs.FirstRecord.{first_record}
use Rattle.rules.specs.Create.{hint_recorder}
use Rattle.rules.specs.Hints.{spaced, seen_record, see, flush, flushed_list, take_list}
use Rattle.laws.proofs.Layouts.{hint_layout}
use Rattle.tables.specs.Tables.{hints_in}
use Rattle.tables.specs.Index.{Tables, refusal}
use Rattle.index.proofs.Four.{Later, kinded_index}
use Rattle.tables.specs.HintRecorder.{hint_recorder_in}
use Rattle.hint_recorder.specs.Steps.{tailless, emptied, Roomy, Steps, refusal_of, flushed_record, hint_seen}
use Rattle.hint_recorder.specs.HintRecorder.{seen_out, seen_out_of, saw_out, saw_out_of, see_in, flush_in}
use Rattle.hint_recorder.specs.HintRecorder.{taken_from, take_in, created_from, created_in}

-- ---- 3 and 4
pub short_list : (r : HintRecorder) (t : List ℕ) → length t / 8 < 65536 → 3 ≡ refusal_of r t
unfolding refusal_of first_no
short_list r t h = sym (rw (lt-leb 65536 (length t / 8) h))

pub long_count : (r : HintRecorder) (t : List ℕ) → 65536 ≤ length t / 8 → 65536 < r.count → 4 ≡ refusal_of r t
unfolding refusal_of first_no
long_count r t h g =
    sym (rw (le-leb 65536 (length t / 8) h, records_length 8 decode_hint r.count t, lt-leb r.count 65536 g))

pub asked_both : (r : HintRecorder) (t : List ℕ) → 65536 ≤ length t / 8 → r.count ≤ 65536 → 0 ≡ refusal_of r t
unfolding refusal_of first_no
asked_both r t h g =
    sym (rw (le-leb 65536 (length t / 8) h, records_length 8 decode_hint r.count t, le-leb r.count 65536 g))

two : (a b : Bool) → first_no (ask a 3 ∷ ask b 4 ∷ []) ≡ 0 → (a ≡ true) × (b ≡ true)
unfolding first_no
two false b e = let z : ⊥ = omega arith in absurd z
two true false e = let z : ⊥ = omega arith in absurd z
two true true e = (refl, refl)

pub roomy_is : {n : ℕ} (r : HintRecorder) (t : List ℕ) → n ≡ refusal_of r t → n ≡ 0 → Roomy r t
unfolding refusal_of
roomy_is r t e z =
    let f = two (leb 65536 (length t / 8)) (leb (length (hints_in r.count t)) 65536) (sym e ∙ z) in
    let a : 65536 ≤ length t / 8 = leb-true _ _ f.0 in
    let b : length (hints_in r.count t) ≤ 65536 = leb-true _ _ f.1 in
    record { room = omega arith; few = omega (arith, records_length 8 decode_hint r.count t) }

-- ---- a step
module _ (r : HintRecorder) (t : List ℕ) (p : Roomy r t) (b : Bytes t) where
  abbrev hs : List Hint
  hs = hints_in r.count t

  fits : r.count * 8 ≤ length t
  fits = let a = p.room in let f = p.few in omega arith

  list_same : t ≡ over (bytes_of encode_hint hs) t
  list_same =
      sym (rw (bytes_records hint_layout r.count t b fits, length-take-le (r.count * 8) t fits)
      (take-append-drop (r.count * 8) t))

  pub step_none : (l : Option ℕ) (u : Option Hint)
      → Steps (record { spacing = r.spacing; last = l; tail = u; count = r.count })
      (record { spacing = r.spacing; last = l; tail = u; list = hs }) t t
  step_none l u =
      record { numbers = rw (records_length 8 decode_hint r.count t); list = list_same }

  -- a hint at the end of the list
  pub step_more : {new : List ℕ} (l : Option ℕ) (u : Option Hint) (h : Hint) → r.count < 65536
      → new ≡ sets t (r.count * 8) (encode_hint h)
      → Steps (record { spacing = r.spacing; last = l; tail = u; count = r.count + 1 })
      (record { spacing = r.spacing; last = l; tail = u; list = hs ++ (h ∷ []) }) t new
  step_more l u h few e =
      let k : length (encode_hint h) ≡ 8 = hint_layout.size h in
      let a = p.room in
      let m : length (hs ++ (h ∷ [])) ≡ r.count + 1 = length-append hs (h ∷ [])
      ∙ rw (records_length 8 decode_hint r.count t) in
      let f : r.count * 8 + length (encode_hint h) ≤ length t = omega arith in
      let by : bytes_of encode_hint (hs ++ (h ∷ [])) ≡ take (r.count * 8) t ++ encode_hint h =
      bytes_of_append encode_hint hs (h ∷ []) ∙ rw (bytes_records hint_layout r.count t b fits, bytes_of_one) in
      let n : length (take (r.count * 8) t ++ encode_hint h)
      ≡ r.count * 8 + 8 = length-append (take (r.count * 8) t) (encode_hint h)
      ∙ omega (arith, k, length-take-le (r.count * 8) t fits) in
      record {
        numbers = rw m;
        list = e ∙ sets-eq (encode_hint h) t (r.count * 8) f ∙ rw (k, by, n);
      }

-- ---- see
-- the list has room, or is full
pub has_room : {q : Bool} (n : ℕ) → q ≡ ltb n 65536 → not q ≡ false → n < 65536
has_room {q} n e h = ltb-true n 65536 (sym e ∙ not-false q h)

module _ (r : HintRecorder) (t : List ℕ) (p : Roomy r t) (b : Bytes t) where
  module _ (h : Hint) where
    pub hint_listed : {k : HintRecorder} {new : List ℕ} → true ≡ spaced r.last r.spacing h.number
        → true ≡ ltb r.count 65536 → new ≡ sets t (r.count * 8) (encode_hint h)
        → k ≡ tailless r.spacing (Some h.number) (r.count + 1)
        → Steps k (hint_seen (hint_recorder_in r t) h) t new
    hint_listed e f w v =
        rw (records_length 8 decode_hint r.count t, ← e, ← f, v)
        (step_more r t p b (Some h.number) None h (ltb-true r.count 65536 (sym f)) w)

    abbrev kept : HintRecorder
    kept = record { spacing = r.spacing; last = r.last; tail = Some h; count = r.count }

    pub hint_unspaced : false ≡ spaced r.last r.spacing h.number → Steps kept (hint_seen (hint_recorder_in r t) h) t t
    hint_unspaced e = rw (← e) (step_none r t p b r.last (Some h))

    pub hint_full : true ≡ spaced r.last r.spacing h.number → false ≡ ltb r.count 65536
        → Steps kept (hint_seen (hint_recorder_in r t) h) t t
    hint_full e f = rw (records_length 8 decode_hint r.count t, ← e, ← f) (step_none r t p b r.last (Some h))

  pub same_step : Steps r (hint_recorder_in r t) t t
  same_step = step_none r t p b r.last r.tail

  pub seen_nothing : {f : First} {a : Absence} (lsn : ℕ) → f ≡ first.Nothing a
      → Steps r (seen_record (hint_recorder_in r t) lsn f) t t
  unfolding seen_record
  seen_nothing lsn e = rw e same_step

  pub seen_past : {f : First} {n : TimeBytes} (lsn : ℕ) → f ≡ first.Number n → 4294967295 < lsn
      → Steps r (seen_record (hint_recorder_in r t) lsn f) t t
  unfolding seen_record
  seen_past lsn e h = rw (e, lt-ltb 4294967295 lsn h) same_step

  pub seen_number : {f : First} {n : TimeBytes} {k : HintRecorder} {new : List ℕ} (lsn : ℕ) → f ≡ first.Number n
      → lsn ≤ 4294967295
      → Steps k (hint_seen (hint_recorder_in r t) (record { lsn = lsn; number = n.number; mark = 0 })) t new
      → Steps k (seen_record (hint_recorder_in r t) lsn f) t new
  unfolding seen_record
  seen_number lsn e h s = rw (e, le-ltb 4294967295 lsn h) s

  -- ---- flush
  pub flushed_none : {k : HintRecorder} → r.tail ≡ None → k ≡ tailless r.spacing r.last r.count
      → Steps k (flushed_record (hint_recorder_in r t)) t t
  unfolding flushed_list
  flushed_none e v = rw (e, v) (step_none r t p b r.last None)

  module _ {q : Bool} {h : Hint} (e : r.tail ≡ Some h) (g : q ≡ ltb r.count 65536) where
    pub flushed_full : {k : HintRecorder} → not q ≡ true → k ≡ tailless r.spacing r.last r.count
        → Steps k (flushed_record (hint_recorder_in r t)) t t
    unfolding flushed_list
    flushed_full l v =
        rw (e, v, records_length 8 decode_hint r.count t, ← g, not-true q l) (step_none r t p b r.last None)

    pub flushed_listed : {k : HintRecorder} {new : List ℕ} → not q ≡ false → new ≡ sets t (r.count * 8) (encode_hint h)
        → k ≡ tailless r.spacing r.last (r.count + 1) → Steps k (flushed_record (hint_recorder_in r t)) t new
    unfolding flushed_list
    flushed_listed l w v =
        rw (e, v, records_length 8 decode_hint r.count t, ← g, not-false q l)
        (step_more r t p b r.last None h (has_room r.count g l) w)

-- ---- the calls
module _ (r : HintRecorder) (t : List ℕ) {n : ℕ} (e : n ≡ refusal_of r t) where
  pub see_no : (lsn : ℕ) (sector : List ℕ) → (n ≡ 0 → ⊥) → saw_out (Refused n) t ≡ see_in r t lsn sector
  unfolding see_in see saw_out_of after refusal_of
  see_no lsn sector h = sym (rw (← e, ne_eqb n 0 h))

  pub flush_no : (n ≡ 0 → ⊥) → seen_out (Refused n) t ≡ flush_in r t
  unfolding flush_in flush seen_out_of after refusal_of
  flush_no h = sym (rw (← e, ne_eqb n 0 h))

  pub take_no : (n ≡ 0 → ⊥) → Refused n ≡ take_in r t
  unfolding take_in take_list taken_from after refusal_of
  take_no h = sym (rw (← e, ne_eqb n 0 h))

  module _ (z : n ≡ 0) where
    pub see_yes : {k : HintRecorder} {new : List ℕ} {f : First} (lsn : ℕ) (sector : List ℕ) → f ≡ first_record sector
        → Steps k (seen_record (hint_recorder_in r t) lsn f) t new
        → saw_out (Accepted (record { first = f; recorder = k })) new ≡ see_in r t lsn sector
    unfolding see_in see saw_out_of after refusal_of
    see_yes lsn sector f s = sym (rw (← e, eq-eqb n 0 z, ← f, ← s.numbers, ← s.list))

    pub flush_yes : {k : HintRecorder} {new : List ℕ} → Steps k (flushed_record (hint_recorder_in r t)) t new
        → seen_out (Accepted k) new ≡ flush_in r t
    unfolding flush_in flush seen_out_of after refusal_of
    flush_yes s = sym (rw (← e, eq-eqb n 0 z, ← s.numbers, ← s.list))

    pub take_yes : {k : HintRecorder} → k ≡ emptied r
        → Accepted (record { count = r.count; recorder = k }) ≡ take_in r t
    unfolding take_in take_list taken_from after refusal_of
    take_yes w = sym (rw (w, ← e, eq-eqb n 0 z, records_length 8 decode_hint r.count t))

no_later : Later []
unfolding each
no_later = refl

module _ (x : AreaIndex) (t : Tables) {n : ℕ} (e : n ≡ refusal x t) where
  pub created_no : (n ≡ 0 → ⊥) → Refused n ≡ created_in x t
  unfolding created_in hint_recorder created_from after first_no
  created_no h = sym (rw (kinded_index x t [] no_later e _, ne_eqb n 0 h))

  module _ (z : n ≡ 0) where
    pub created_unspaced : x.spacing ≡ 0 → Accepted None ≡ created_in x t
    unfolding created_in hint_recorder created_from after first_no
    created_unspaced h = sym (rw (kinded_index x t [] no_later e _, eq-eqb n 0 z, eq-eqb x.spacing 0 h))

    pub created_none : (x.spacing ≡ 0 → ⊥) → x.most ≡ 0 → Accepted None ≡ created_in x t
    unfolding created_in hint_recorder created_from after first_no
    created_none g h =
        sym (rw (kinded_index x t [] no_later e _, eq-eqb n 0 z, ne_eqb x.spacing 0 g, eq-eqb x.most 0 h))

    pub created_yes : (x.spacing ≡ 0 → ⊥) → (x.most ≡ 0 → ⊥)
        → Accepted (Some (record { spacing = x.spacing; last = None; tail = None; count = 0 }))
        ≡ created_in x t
    unfolding created_in hint_recorder created_from after first_no
    created_yes g h =
        sym (rw (kinded_index x t [] no_later e _, eq-eqb n 0 z, ne_eqb x.spacing 0 g, ne_eqb x.most 0 h))
