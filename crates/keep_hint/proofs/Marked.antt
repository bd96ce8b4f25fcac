-- keep_hint: its questions, and what it leaves. Assumes nothing.
use mathlib.Core.Path.{◌≡◌, refl, sym, ◌∙◌}
use mathlib.Core.Bool.{Bool, true, false, not}
use mathlib.Core.List.{List, [], ◌∷◌}
use Prim.Native.Nat.{ℕ, ◌+◌, ◌-◌, ◌*◌, ◌<◌, ◌≤◌}
use native.Mathlib.Omega.{arith}
use borrow.Author.Tests.{ltb-true, ne_eqb, eq-eqb, not-true, not-false}
use lib.Dec.{ltb}
use lib.ListN.{length, take, drop, get_or, set, length-set, take-append-drop}
use lib.Seq.{sets, length-sets, length-take-le, drop-drop}
use Rattle.field.specs.Records.{record_at, bytes_of, Bytes}
use Rattle.field.proofs.Bytes.{bytes_sets}
use Rattle.field.proofs.Records.{records_length, records_at}
use Rattle.field.proofs.Format.{bytes_records, record_fits, records_put, rest_pushed}
use Rattle.rules.specs.declared.AreaIndex.{AreaIndex}
use Rattle.rules.specs.declared.Hint.{Hint}
use Rattle.rules.specs.Tests.{each, ask, first_no, after, Accepted}
use Rattle.rules.specs.Values.{no_hint}
use Rattle.rules.specs.File.{over}
use Rattle.rules.specs.Hints.{place_of, question53, kept_hint, with_hinting, with_mark, keep_hint}
use Rattle.rules.proofs.Tests.{and_left}
use Rattle.tables.specs.Tables.{encode_kept, decode_kept, kept_in}
use Rattle.tables.proofs.Kept.{KeptFits, kept_layout}
use Rattle.rules.specs.declared.Made.TheVariants as made
use Rattle.tables.specs.Index.{Tables, index_in, room_of, kinds_in, kinded, refusal, numbers_from, made_out_of, made_out}
use Rattle.index.specs.Steps.{Passes}
use Rattle.tables.specs.Lent.{TableBytes}
use Rattle.index.proofs.Four.{Later, kinded_index}
use Rattle.index.proofs.Questions.{passes, passes_hints}
use Rattle.index.proofs.Left.{with_hint_table, hints_left}
use Rattle.index.proofs.Back.{numbers_back}
use Rattle.keep_hint.specs.Steps.{may_keep}
use Rattle.keep_hint.specs.KeepHint.{keep_hint_in}

-- ---- the mark set in a table
module _ (n i : ℕ) (t : List ℕ) (b : Bytes t) (l : n * 8 ≤ length t) (h : i < n) where
  marked : Hint
  marked = kept_hint (record_at 8 decode_kept t i)

  marked_fits : KeptFits marked
  unfolding marked
  marked_fits = let f = record_fits kept_layout t i b in (f.0, (f.1.0, (omega arith, tt)))

  -- the list with the mark, put into its table, is the record written
  pub marked_over : over (bytes_of encode_kept (set (kept_in n t) i (kept_hint (get_or (kept_in n t) i no_hint)))) t
      ≡ sets t (i * 8) (encode_kept (kept_hint (record_at 8 decode_kept t i)))
  unfolding marked
  marked_over =
      let v = kept_hint (record_at 8 decode_kept t i) in
      let u = sets t (i * 8) (encode_kept v) in
      let room : i * 8 + 8 ≤ length t = omega arith in
      let long : length u ≡ length t = length-sets t (i * 8) (encode_kept v) in
      let within : n * 8 ≤ length u = omega arith in
      let put : kept_in n u ≡ set (kept_in n t) i v = records_put kept_layout n i t v marked_fits h l in
      let back : bytes_of encode_kept (kept_in n u)
      ≡ take (n * 8) u = bytes_records kept_layout n u (bytes_sets (encode_kept v) t (i * 8) b (kept_layout.byte v))
      within in
      let k = n * 8 - (i * 8 + 8) in
      let e : n * 8 ≡ i * 8 + 8 + k = omega arith in
      let rest : drop (n * 8) u ≡ drop (n * 8) t =
      rw (e, ← drop-drop k (i * 8 + 8) u, ← drop-drop k (i * 8 + 8) t, rest_pushed kept_layout i t v room) in
      rw (records_at 8 decode_kept n t i no_hint h, ← put, back, length-take-le (n * 8) u within, ← rest)
      (take-append-drop (n * 8) u)

-- ---- the answers
module _ (x : AreaIndex) (t : Tables) (lsn : ℕ) {n : ℕ} (e : n ≡ refusal x t) where
  later : Later (ask (question53 (index_in x t).hinting lsn) 53 ∷ [])
  unfolding each
  later = refl

  keep_is : kinded (kinds_in x t) (keep_hint (room_of t) (index_in x t) lsn)
      ≡ after n (after (first_no (ask (question53 (index_in x t).hinting lsn) 53 ∷ []))
      (Accepted (with_hinting (index_in x t) (with_mark (index_in x t).hinting lsn))))
  unfolding keep_hint
  keep_is = kinded_index x t (ask (question53 (index_in x t).hinting lsn) 53 ∷ []) later e _

  pub keep_no : (n ≡ 0 → ⊥) → made_out (made.Refused n) t ≡ keep_hint_in x t lsn
  unfolding keep_hint_in made_out_of after
  keep_no h = sym (rw (keep_is, ne_eqb n 0 h))

  -- the numbers stay
  numbers_stay : numbers_from (with_hinting (index_in x t) (with_mark (index_in x t).hinting lsn)) ≡ x
  unfolding with_mark
  numbers_stay = rw length-set (numbers_back x t)

  module _ (z : n ≡ 0) {i : ℕ} (p : i ≡ place_of lsn (kept_in x.hints t.hints)) {q : Bool}
      (g : q ≡ may_keep x.most (kept_in x.hints t.hints) i) where
    asked : q ≡ question53 (index_in x t).hinting lsn
    unfolding question53 may_keep
    asked = g ∙ rw p

    pub keep_53 : not q ≡ true → made_out (made.Refused 53) t ≡ keep_hint_in x t lsn
    unfolding keep_hint_in made_out_of after first_no
    keep_53 h = sym (rw (keep_is, eq-eqb n 0 z, ← asked, not-true q h))

    pub place_within : not q ≡ false → i < x.hints
    unfolding may_keep
    place_within h =
        let y : may_keep x.most (kept_in x.hints t.hints) i ≡ true = sym g ∙ not-false q h in
        let l = ltb-true i _ (and_left (ltb i (length (kept_in x.hints t.hints))) _ y) in
        omega (arith, records_length 8 decode_kept x.hints t.hints)

    hints_are : Passes x t → not q ≡ false → TableBytes t
        → over (bytes_of encode_kept (with_mark (index_in x t).hinting lsn).hints) t.hints
        ≡ sets t.hints (i * 8) (encode_kept (kept_hint (record_at 8 decode_kept t.hints i)))
    unfolding with_mark
    hints_are k h b = rw (← p) (marked_over x.hints i t.hints b.hints (passes_hints k).hints (place_within h))

    pub keep_yes : {hs : List ℕ} → not q ≡ false → TableBytes t
        → hs ≡ sets t.hints (i * 8) (encode_kept (kept_hint (record_at 8 decode_kept t.hints i)))
        → made_out (made.Index x) (with_hint_table t hs) ≡ keep_hint_in x t lsn
    unfolding keep_hint_in made_out_of after first_no bytes_of with_mark
    keep_yes {hs} h b d =
        let k = passes x t (sym e ∙ z) in
        sym (rw (
          keep_is,
          eq-eqb n 0 z,
          ← asked,
          not-false q h,
          numbers_stay,
          hints_are k h b ∙ sym d,
          hints_left k b hs,
        ))
