-- 1 to 4 of index and recorder with their kind bytes, then 8 to 12. Assumes nothing.
use Rattle.std.specs.Prelude.{Option, ℕ}
use mathlib.Core.Path.{◌≡◌, refl, sym, ◌∙◌}
use mathlib.Core.Bool.{Bool, true, false, ◌&&◌, ◌||◌, cond, and-true}
use mathlib.Core.List.{List, [], ◌∷◌}
use Prim.Native.Nat.{ℕ}
use borrow.Author.Tests.{eq-eqb, ne_eqb, eqb-true, leb-true}
use lib.Dec.{eqb}
use Rattle.field.proofs.Records.{records_length}
use Rattle.rules.specs.declared.AreaIndex.{AreaIndex}
use Rattle.rules.specs.declared.Recorder.{Recorder}
use Rattle.rules.specs.Tests.{all, each, Ask, ask, first_no}
use Rattle.rules.specs.Questions.{both, four_of, recorder_four_of, ask_four, question4, recorder_question4}
use Rattle.rules.specs.File.{decode_checkpoint}
use Rattle.rules.specs.Record.{question8, question9, question10, question11, question12, is_stopped}
use Rattle.rules.proofs.Tests.{test, and_left, all→}
use Rattle.rules.proofs.Same.{same_area_eq}
use Rattle.laws.proofs.scans.Scans.{recorder→}
use Rattle.laws.specs.Twelve.{list_ok, joined_ok}
use Rattle.laws.proofs.absorbing.Twelve.{twelve_is}
use Rattle.tables.specs.Index.{Tables, room_of, index_in, kinds_in, kinded_number, refusal, lowest}
use Rattle.index.specs.Steps.{held_question4}
use Rattle.index.proofs.Four.{Later, number_more, lowest_both}
use Rattle.index.proofs.Questions.{passes, passes_long}
use Rattle.merge.proofs.questions.Refusal.{lowest_zero}
use Rattle.tables.specs.Recorder.{RecorderTables, recorder_room, recorder_in, recorder_kinds, recorder_refusal}
use Rattle.recorder.specs.Steps.{recorder_held}
use Rattle.recorder.proofs.Calls.{passes_held, passes_long as recorder-long}
use Rattle.tables.specs.Tables.{given_in}
use Rattle.absorb.specs.Steps.{nine_in, eleven_in, twelve_in, absorb_refusal, ten_in, later_number, Readable}

-- a fifth answer that matters only where the second and third are yes
under : (a b c d e f : Bool) → (b ≡ true → c ≡ true → e ≡ f)
    → first_no (ask a 8 ∷ ask b 9 ∷ ask c 10 ∷ ask d 11 ∷ ask e 12 ∷ []) ≡ first_no (ask a 8 ∷ ask b 9 ∷ ask c 10 ∷ ask d 11 ∷ ask f 12 ∷ [])
unfolding first_no
under a true true d e f h = rw (h refl refl)
under a true false d e f h = refl
under a false c d e f h = refl

-- the five questions with the mode, and alone
module _ (s a b c d e : Bool) where
  abbrev unless : List Ask
  unless = ask (s || a) 8 ∷ ask (s || b) 9 ∷ ask (s || c) 10 ∷ ask (s || d) 11 ∷ ask (s || e) 12 ∷ []

  unless_later : Later unless
  unfolding each
  unless_later = refl

  unless_stopped : s ≡ true → first_no unless ≡ 0
  unfolding first_no
  unless_stopped h = rw h

  unless_not : s ≡ false → first_no unless ≡ first_no (ask a 8 ∷ ask b 9 ∷ ask c 10 ∷ ask d 11 ∷ ask e 12 ∷ [])
  unfolding first_no
  unless_not h = rw h

-- ---- 1 to 4 of both
module _ (x : AreaIndex) (t : Tables) (r : Recorder) (u : RecorderTables) where
  four_is : lowest (refusal x t) (recorder_refusal r u)
      ≡ kinded_number (kinds_in x t && recorder_kinds r u) (first_no (ask_four (both (four_of (room_of t) (index_in x t)) (recorder_four_of (recorder_room u) (recorder_in r u))) []))
  unfolding refusal recorder_refusal
  four_is = sym (lowest_both (kinds_in x t) (recorder_kinds r u) (four_of (room_of t) (index_in x t)) (recorder_four_of (recorder_room u) (recorder_in r u)))

  module _ {a b n : ℕ} (p : a ≡ refusal x t) (q : b ≡ recorder_refusal r u) (l : n ≡ lowest a b) where
    lowest_is : n ≡ lowest (refusal x t) (recorder_refusal r u)
    lowest_is = l ∙ rw (p, q)

    module _ (h : n ≡ 0) where
      none_first : (refusal x t ≡ 0) × (recorder_refusal r u ≡ 0)
      none_first = lowest_zero (refusal x t) (recorder_refusal r u) (sym lowest_is ∙ h)

      pub readable : Readable x t.checkpoints t.malformed r u.checkpoints
      readable =
          let own = passes x t none_first.0 in
          let k = passes_long own in let j = recorder-long r u refl none_first.1 in
          record { area = own.roomy.area; checkpoints = k.checkpoints; malformed = k.malformed; theirs = j.checkpoints; few = j.few }

-- ---- 8 to 12, and all of them
module _ (x : AreaIndex) (t : Tables) (image : Option ℕ) (given : List ℕ) (r : Recorder) (u : RecorderTables) where
  abbrev eight : Bool
  eight = question8 (index_in x t) image

  abbrev nine : Bool
  nine = question9 (index_in x t) (recorder_in r u)

  abbrev ten : Bool
  ten = question10 (index_in x t) (recorder_in r u)

  abbrev eleven : Bool
  eleven = question11 (index_in x t) (recorder_in r u)

  abbrev twelve : Bool
  twelve = question12 (index_in x t) (recorder_in r u) image (given_in given)

  -- in the tables
  nine_is : nine_in x r ≡ nine
  unfolding nine_in question9
  nine_is = refl

  ten_is : ten_in x r ≡ ten
  unfolding ten_in question10 all
  ten_is = rw (records_length 24 decode_checkpoint x.checkpoints t.checkpoints) (simp and-true)

  eleven_is : eleven_in x t.checkpoints r u.checkpoints ≡ eleven
  unfolding eleven_in question11
  eleven_is = refl

  joined_is : twelve_in x t.checkpoints t.malformed r u.checkpoints given ≡ joined_ok (index_in x t).scan (recorder_in r u) (given_in given)
  unfolding twelve_in joined_ok list_ok
  joined_is = refl

  -- 8 to 12 where 1 to 4 give no number
  refusal_is : absorb_refusal x t image given r u
      ≡ cond (eqb (lowest (refusal x t) (recorder_refusal r u)) 0) (first_no (unless (is_stopped r.mode) eight nine ten eleven twelve)) (lowest (refusal x t) (recorder_refusal r u))
  unfolding absorb_refusal
  refusal_is = number_more (kinds_in x t && recorder_kinds r u) _ _ (unless_later (is_stopped r.mode) eight nine ten eleven twelve) (four_is x t r u)

  module _ (z : refusal x t ≡ 0) (w : recorder_refusal r u ≡ 0) where
    own_four : question4 (index_in x t) ≡ true
    unfolding held_question4
    own_four = and_left (question4 (index_in x t)) (kinds_in x t) (passes x t z).held

    their_four : recorder_question4 (recorder_in r u) ≡ true
    unfolding recorder_held
    their_four = and_left (recorder_question4 (recorder_in r u)) (recorder_kinds r u) (passes_held r u refl w)

    twelve_in_lemma : nine ≡ true → ten ≡ true → twelve ≡ twelve_in x t.checkpoints t.malformed r u.checkpoints given
    unfolding question9 question10
    twelve_in_lemma p q =
        let a = all→ _ p in let b = all→ _ q in
        twelve_is (index_in x t) (recorder_in r u) image (given_in given) own_four (recorder→ (recorder_in r u) their_four)
        (sym (same_area_eq x.area r.area a.0)) (sym (eqb-true x.interval r.interval a.1.0)) (leb-true _ _ b.1.0)
        ∙ sym joined_is

    later_is : first_no (ask eight 8 ∷ ask nine 9 ∷ ask ten 10 ∷ ask eleven 11 ∷ ask twelve 12 ∷ []) ≡ later_number x t.checkpoints t.malformed r u.checkpoints image given
    unfolding later_number question8
    later_is = under eight nine ten eleven twelve _ twelve_in_lemma ∙ rw (nine_is, ten_is, eleven_is)

  -- ---- what the code answers
  module _ {a b n : ℕ} (p : a ≡ refusal x t) (q : b ≡ recorder_refusal r u) (l : n ≡ lowest a b) where
    pub first_refuses : (n ≡ 0 → ⊥) → n ≡ absorb_refusal x t image given r u
    first_refuses h = sym (refusal_is ∙ rw (← lowest_is x t r u p q l, ne_eqb n 0 h))

    module _ (h : n ≡ 0) where
      then_is : absorb_refusal x t image given r u ≡ first_no (unless (is_stopped r.mode) eight nine ten eleven twelve)
      then_is = refusal_is ∙ rw (← lowest_is x t r u p q l, eq-eqb n 0 h)

      module _ {s : Bool} (e : s ≡ is_stopped r.mode) where
        pub then_stopped : s ≡ true → 0 ≡ absorb_refusal x t image given r u
        then_stopped g = sym (then_is ∙ unless_stopped (is_stopped r.mode) eight nine ten eleven twelve (sym e ∙ g))

        pub then_refuses : {k : ℕ} → s ≡ false → k ≡ later_number x t.checkpoints t.malformed r u.checkpoints image given → k ≡ absorb_refusal x t image given r u
        then_refuses g c =
            c ∙ sym (then_is ∙ unless_not (is_stopped r.mode) eight nine ten eleven twelve (sym e ∙ g) ∙ (let z = none_first x t r u p q l h in later_is z.0 z.1))

  -- where nothing refuses, 1 to 4 hold of both
  pub passed : absorb_refusal x t image given r u ≡ 0 → (refusal x t ≡ 0) × (recorder_refusal r u ≡ 0)
  passed e =
      let w = sym refusal_is ∙ e in
      lowest_zero (refusal x t) (recorder_refusal r u) (test (eqb (lowest (refusal x t) (recorder_refusal r u)) 0) (λ a. eqb-true _ 0 a) (λ a. rw a at w))
