-- add_hints: its questions, and what it leaves. Assumes nothing.
use mathlib.Core.Path.{◌≡◌, refl, sym, ap, ◌∙◌}
use mathlib.Core.Bool.{Bool, true, false, not, ◌&&◌}
use mathlib.Core.List.{List, [], ◌∷◌}
use Prim.Native.Nat.{ℕ, ◌+◌, ◌/◌, ◌<◌, ◌≤◌}
use native.Mathlib.Omega.{arith}
use borrow.Author.Tests.{leb-true, ne_eqb, eq-eqb, le-leb, lt-leb, lt-ltb, le-ltb, not-true, not-false}
use lib.Dec.{leb}
use lib.ListN.{length}
use Rattle.field.specs.Records.{record_at}
use Rattle.field.proofs.Records.{records_length}
use Rattle.rules.specs.declared.AreaIndex.{AreaIndex}
use Rattle.rules.specs.declared.Hint.{Hint}
use Rattle.rules.specs.Tests.{each, ask, first_no, after, Accepted}
use Rattle.rules.specs.Values.{lim, max_list, merge_room}
use Rattle.rules.specs.Sections.{hint_ok, hints_ok}
use Rattle.rules.specs.Questions.{question3, question4, hinting_room, hinting_ok}
use Rattle.rules.specs.File.{decode_hint}
use Rattle.rules.specs.Hints.{question13, with_hinting, with_hints, add_hints}
use Rattle.rules.proofs.Tests.{all→, and_left}
use Rattle.laws.proofs.hint_lists.Passes.{between_none, between_next}
use Rattle.laws.specs.Passes.{between}
use Rattle.tables.specs.Tables.{decode_kept, kept_in, hints_of}
use Rattle.rules.specs.declared.Made.TheVariants as made
use Rattle.tables.specs.Index.{Tables, index_in, room_of, room_in, kinds_in, kinded, refusal, made_out_of, made_out}
use Rattle.index.specs.Steps.{Passes, held_question4}
use Rattle.tables.specs.Lent.{TableBytes}
use Rattle.index.proofs.Four.{Later, kinded_index}
use Rattle.index.proofs.Questions.{passes}
use Rattle.index.proofs.Left.{with_hint_table, hints_left}
use Rattle.index.proofs.Back.{numbers_back}
use Rattle.add_hints.proofs.Arriving.{arriving_13}
use Rattle.add_hints.specs.Steps.{joined_in, cleared_to, with_count}
use Rattle.add_hints.specs.AddHints.{touched, add_hints_in}

-- ---- 13
module _ {i n : ℕ} {h : Hint} (list : List ℕ) (l : i < n) (e : h ≡ record_at 8 decode_hint list i) where
  first_is : each hint_ok (between 8 decode_hint i n list)
      ≡ (hint_ok h && each hint_ok (between 8 decode_hint (i + 1) n list))
  unfolding each
  first_is = rw (between_next 8 decode_hint i n list l, e)

  pub number_no : lim ≤ h.number → each hint_ok (between 8 decode_hint i n list) ≡ false
  number_no g = first_is ∙ rw (le-ltb h.number lim g)

  pub number_yes : h.number < lim → each hint_ok (between 8 decode_hint i n list)
      ≡ each hint_ok (between 8 decode_hint (i + 1) n list)
  number_yes g = first_is ∙ rw (lt-ltb h.number lim g)

pub numbers_end : {i n : ℕ} (list : List ℕ) → n ≤ i → true ≡ each hint_ok (between 8 decode_hint i n list)
unfolding each
numbers_end {i} {n} list l = rw (between_none 8 decode_hint i n list l)

pub too_many : (list : List ℕ) → max_list < length list / 8 → false ≡ question13 (hints_of list)
unfolding question13
too_many list h = rw (records_length 8 decode_hint (length list / 8) list, lt-leb (length list / 8) max_list h)

pub not_many : {b : Bool} (list : List ℕ) → length list / 8 ≤ max_list → b ≡ each hint_ok (hints_of list)
    → b ≡ question13 (hints_of list)
unfolding question13
not_many list h e = rw (records_length 8 decode_hint (length list / 8) list, le-leb (length list / 8) max_list h) e

-- ---- room for the hints and the list
pub room_is : {x : AreaIndex} {t : Tables} {q : Bool} (list : List ℕ) → Passes x t → q ≡ question13 (hints_of list)
    → not q ≡ false → x.hints + length list / 8 ≤ length t.hints / 8
unfolding room_in question3 hinting_room held_question4 question4 hinting_ok question13
room_is {x} {t} {q} list p e n =
    let r : x.most + merge_room ≤ length t.hints / 8 = leb-true _ _ (all→ _ (all→ _ p.roomy.room).1.1.0).0 in
    let h : length (kept_in x.hints t.hints) ≤ x.most = leb-true _ _
    (all→ _ (all→ _ (and_left _ (kinds_in x t) p.held)).1.0).1.0 in
    let m : length (hints_of list) ≤ max_list = leb-true _ _
    (and_left (leb (length (hints_of list)) max_list) _ (sym e ∙ not-false q n)) in
    omega (arith, records_length 8 decode_kept x.hints t.hints, records_length 8 decode_hint (length list / 8) list)

pub own_rise : {x : AreaIndex} {t : Tables} → Passes x t → hints_ok x.area (kept_in x.hints t.hints) ≡ true
unfolding held_question4 question4 hinting_ok
own_rise {x} {t} p = (all→ _ (all→ _ (and_left _ (kinds_in x t) p.held)).1.0).1.1.1.0

-- ---- the answers
module _ (x : AreaIndex) (t : Tables) (list : List ℕ) {n : ℕ} (e : n ≡ refusal x t) where
  later : Later (ask (question13 (hints_of list)) 13 ∷ [])
  unfolding each
  later = refl

  add_is : kinded (kinds_in x t) (add_hints (room_of t) (index_in x t) (hints_of list))
      ≡ after n (after (first_no (ask (question13 (hints_of list)) 13 ∷ []))
      (Accepted (with_hinting (index_in x t) (with_hints x.area (index_in x t).hinting (hints_of list)))))
  unfolding add_hints
  add_is = kinded_index x t (ask (question13 (hints_of list)) 13 ∷ []) later e _

  pub add_no : (n ≡ 0 → ⊥) → made_out (made.Refused n) t ≡ add_hints_in x t list
  unfolding add_hints_in made_out_of after
  add_no h = sym (rw (add_is, ne_eqb n 0 h))

  module _ (z : n ≡ 0) {q : Bool} (g : q ≡ question13 (hints_of list)) where
    pub add_13 : not q ≡ true → made_out (made.Refused 13) t ≡ add_hints_in x t list
    unfolding add_hints_in made_out_of after first_no
    add_13 h = sym (rw (add_is, eq-eqb n 0 z, ← g, not-true q h))

    pub add_yes : {k : ℕ} {hs : List ℕ} → not q ≡ false → TableBytes t
        → k ≡ length (joined_in x.area x.most x.hints t.hints list)
        → hs ≡ cleared_to (touched x.most x.hints list) (joined_in x.area x.most x.hints t.hints list)
        t.hints
        → made_out (made.Index (with_count x k)) (with_hint_table t hs) ≡ add_hints_in x t list
    unfolding add_hints_in made_out_of after first_no
    add_yes {k} {hs} h b c d =
        sym (rw (
          add_is,
          eq-eqb n 0 z,
          ← g,
          not-false q h,
          ← (arriving_13 (length list / 8) list (sym g ∙ not-false q h)),
          ← d,
          ap (λ (y : AreaIndex). with_count y (length (joined_in x.area x.most x.hints t.hints list)))
              (numbers_back x t),
          ← c,
          hints_left (passes x t (sym e ∙ z)) b hs,
        ))
