-- Each accepted call leaves values that pass questions 1 to 4. Assumes nothing.
use Rattle.std.specs.Prelude.{Option, None, Some}
use Prim.Native.Nat.{ℕ, ◌≤◌}
use mathlib.Core.Path.{◌≡◌, refl, sym, ap, subst, ◌∙◌}
use mathlib.Core.Bool.{Bool, true, ◌&&◌, ◌||◌, cond}
use mathlib.Core.List.{List, [], ◌∷◌, ◌++◌}
use native.Mathlib.Omega.{arith}
use lib.Dec.{eqb, ltb, leb-zero}
use lib.ListN.{length}
use borrow.Author.Tests.{eqb-true, leb-true, ltb-true}
use Rattle.field.specs.Records.{Bytes}
use Rattle.rules.specs.declared.Area.{Area}
use Rattle.rules.specs.declared.Confirmation.{Confirmation}
use Rattle.rules.specs.declared.EndState.{EndState}
use Rattle.rules.specs.declared.First.{First}
use Rattle.rules.specs.declared.First.TheVariants.{Number, Nothing}
use Rattle.rules.specs.declared.Hint.{Hint}
use Rattle.rules.specs.declared.Mode.TheVariants.{Finished, Stopped}
use Rattle.rules.specs.FirstRecord.{first_record}
use Rattle.rules.specs.Tests.{all, walk, last_or, is_some, agree, ask, first_no, Accepted}
use Rattle.rules.specs.Values.{Index, Recorder, HintRecorder, Lengths, max_list, max32, boundaries, counted, stated, is_checked}
use Rattle.rules.specs.Sections.{counts_ok, checkpoints_ok, frames_ok, parts_ok, reached, ending_ok, malformed_ok, rising}
use Rattle.rules.specs.Questions.{area_ok, held_ok, scan_ok, question1, question2, question3, question4, recorder_question1, recorder_question2, recorder_question3, recorder_question4, hint_recorder_four}
use Rattle.rules.specs.Create.{empty_index, new, bind_fingerprint, empty_hint_recorder, hint_recorder}
use Rattle.rules.specs.Record.{Assembling, recorded, record_at, finish, Absorbed, absorb_number, absorbed_by, absorbed_index, absorb, emptied, with_mode, is_stopped}
use Rattle.rules.specs.Hints.{TakenHints, SeenSector, spaced, listed, tailed, seen_record, see, flushed_list, flush, take_list, unkept, add_hints, keep_hint, keep_confirmation, keeps_nothing, question13, question14, question53, with_mark}
use Rattle.rules.specs.Merge.{merge, merged}
use Rattle.rules.specs.Load.{load, limited, from_bytes}
use Rattle.rules.proofs.Tests.{choose, given, and_left, and_right, →all, later, asked, asked→, accepted→, accepted_eq, bind→}
use Rattle.rules.proofs.Walk.{length_snoc}
use Rattle.laws.specs.Kept.{Sound}
use Rattle.laws.proofs.scans.Theorems.{absorb_sound}
use Rattle.laws.proofs.scans.Scans.{scan_of}
use Rattle.laws.proofs.scans.Record.{recorder_sound, record_sound, finish_sound, stopped_sound}
use Rattle.laws.proofs.hint_lists.Calls.{HintingHolds, Answered, four→, taken, new_holds, bind_holds, add_hints_holds, mark_holds, keep_holds}
use Rattle.laws.proofs.Loaded.{loaded_valid}
use Rattle.theorems.proofs.CutLaws.{merged_one, merged_two, merged_three, merged_four, limited_two, limited_four}
use Rattle.theorems.specs.Terms.{Valid, ValidRecorder, ValidHintRecorder}
use Rattle.theorems.specs.Closure.{Closure}
use Rattle.theorems.proofs.Hints.{unmarked_of}

-- question 4 from its two parts
four_of : (x : Index) → scan_ok x.scan ≡ true → HintingHolds x → question4 x ≡ true
unfolding question4
four_of x s h = →all _ (s, (h, tt))

-- ---- an index of which only hints, confirmations and the fingerprint change
-- it has the scan and the M of one that passes
with_scan : (l : Lengths) (x y : Index) → x.scan ≡ y.scan → x.hinting.most ≡ y.hinting.most → Valid l x
    → HintingHolds y → Valid l y
unfolding question1 question2 question3
with_scan l x y e m v h =
    record {
      one = rw e at v.one;
      two = rw e at v.two;
      three = rw (e, m) at v.three;
      four = four_of y (rw e at (scan_of x v.four)) h;
    }

asked_valid : {A : Type 0} (l : Lengths) (x : Index) (q : Bool) (r y : A) → Answered l x q r y → Valid l x
asked_valid l x q r y t = record { one = t.one; two = t.two; three = t.three; four = t.four }

added_valid : (l : Lengths) (x y : Index) (list : List Hint) → unkept list ≡ list → add_hints l x list ≡ Accepted y
    → Valid l y
unfolding add_hints
added_valid l x y list n e =
    let t = four→ l x (question13 list) 13 _ y (omega arith) e in
    with_scan l x y (ap (λ (z : Index). z.scan) t.is) (ap (λ (z : Index). z.hinting.most) t.is)
    (asked_valid l x _ _ y t) (add_hints_holds l x y list (unmarked_of list n) e)

marked_valid : (l : Lengths) (x y : Index) (lsn : ℕ) → keep_hint l x lsn ≡ Accepted y → Valid l y
unfolding keep_hint with_mark
marked_valid l x y lsn e =
    let t = four→ l x (question53 x.hinting lsn) 53 _ y (omega arith) e in
    with_scan l x y (ap (λ (z : Index). z.scan) t.is) (ap (λ (z : Index). z.hinting.most) t.is)
    (asked_valid l x _ _ y t) (mark_holds l x y lsn e)

bound_valid : (l : Lengths) (x y : Index) (v : ℕ) → bind_fingerprint l x v ≡ Accepted y → Valid l y
unfolding bind_fingerprint
bound_valid l x y v e =
    let t = four→ l x (agree eqb (stated x.fingerprint) (Some v)) 15 _ y (omega arith) e in
    with_scan l x y (ap (λ (z : Index). z.scan) t.is) (ap (λ (z : Index). z.hinting.most) t.is)
    (asked_valid l x _ _ y t) (bind_holds l x y v e)

confirmed_valid : (l : Lengths) (x y : Index) (c : Confirmation) → keep_confirmation l x c ≡ Accepted (Some y)
    → Valid l y
unfolding keep_confirmation
confirmed_valid l x y c e =
    let t = four→ l x (question14 x.scan.area c) 14 _ (Some y) (omega arith) e in
    let g = given (keeps_nothing (is_checked x.fingerprint) x.hinting.most) _ y t.is in
    with_scan l x y (ap (λ (z : Index). z.scan) g) (ap (λ (z : Index). z.hinting.most) g)
    (asked_valid l x _ _ (Some y) t) (keep_holds l x y c e)

-- ---- new
-- an empty list holds what loading would accept
empty_scan : (a : Area) (k budget spacing most : ℕ) → scan_ok (empty_index a k budget spacing most).scan ≡ true
unfolding scan_ok counts_ok checkpoints_ok held_ok frames_ok parts_ok reached ending_ok malformed_ok rising walk counted last_or all is_some
empty_scan a k budget spacing most = simp (leb-zero (boundaries a k))

made_valid : (l : Lengths) (a : Area) (k budget spacing most : ℕ) (y : Index) → new l a k budget spacing most
    ≡ Accepted y → Valid l y
unfolding new
made_valid l a k budget spacing most y e =
    let x = empty_index a k budget spacing most in
    let t = accepted→ _ x y e in
    let s = asked (ask (question1 x) 1 ∷ ask (question2 x) 2 ∷ ask (question3 l x) 3 ∷ []) refl t.0 in
    let h : HintingHolds x = subst (λ (z : Index). HintingHolds z) (sym t.1)
    (new_holds l a k budget spacing most y e) in
    subst (Valid l) t.1 (record {
      one = s.0;
      two = s.1.0;
      three = s.1.1.0;
      four = four_of x (empty_scan a k budget spacing most) h;
    })

-- ---- load
-- what an accepted load went through
pub record Went (l : Lengths) (a : Area) (b : List ℕ) (limit : ℕ) (y : Index) : Type 0 where
  pub area : area_ok a ≡ true
  pub whole : Index
  pub read : from_bytes a b ≡ Accepted whole
  pub three : question3 l (limited limit whole) ≡ true
  pub is : limited limit whole ≡ y

pub load→ : (l : Lengths) (a : Area) (b : List ℕ) (limit : ℕ) (y : Index) → load l a b limit ≡ Accepted y
    → Went l a b limit y
unfolding load
load→ l a b limit y e =
    let t = asked→ (ask (area_ok a) 1 ∷ []) _ y refl e in
    let u = bind→ (from_bytes a b) _ y t.1 in
    let w = asked→ (ask (question3 l (limited limit u.value)) 3 ∷ []) _ y refl u.second in
    record {
      area = t.0.0;
      whole = u.value;
      read = u.first;
      three = w.0.0;
      is = accepted_eq (limited limit u.value) y w.1;
    }

loaded_passes : (l : Lengths) (a : Area) (b : List ℕ) (limit : ℕ) (y : Index) → Bytes b → load l a b limit
    ≡ Accepted y → Valid l y
unfolding question1 limited
loaded_passes l a b limit y h e =
    let w = load→ l a b limit y e in
    let v = loaded_valid a b w.whole h w.area w.read in
    subst (Valid l) w.is
    (record {
      one = v.one;
      two = limited_two limit w.whole v.two;
      three = w.three;
      four = limited_four limit w.whole v.four;
    })

-- ---- merge
merged_valid : (l m : Lengths) (own other y : Index) → merge l own m other ≡ Accepted y → Valid l y
unfolding merge
merged_valid l m own other y e =
    let t = accepted→ _ (merged own other) y e in let c = taken l m own other t.0 in
    subst (Valid l) t.1
    (record {
      one = merged_one own other c.one;
      two = merged_two own other c.two;
      three = merged_three own other l c.three;
      four = merged_four own other c.four c.four' c.same c.agreed;
    })

-- ---- recorders
with_three : (m : Lengths) (r : Recorder) → Sound r → recorder_question3 m r ≡ true → ValidRecorder m r
with_three m r s t = record { one = s.0; two = s.1; three = t; four = s.2 }

recorded_valid : (l : Lengths) (r : Recorder) (lsn threshold malformed : ℕ) (f : Option Assembling) (sector : List ℕ)
    (s : Recorder)
    → record_at l r lsn threshold malformed f sector ≡ Accepted s → ValidRecorder l s
unfolding record_at recorder_question3
recorded_valid l r lsn threshold malformed f sector s e =
    let t = accepted→ _ (recorded r lsn threshold malformed f sector) s e in
    let z : recorder_question3 l (recorded r lsn threshold malformed f sector) ≡ true = (asked _ refl t.0).1.1.0 in
    with_three l s (record_sound l r lsn threshold malformed f sector s e)
    (subst (λ (r : Recorder). recorder_question3 l r ≡ true) t.1 z)

finished_valid : (l : Lengths) (r : Recorder) (e : EndState) (s : Recorder) → finish l r e ≡ Accepted s
    → ValidRecorder l s
unfolding finish recorder_question3
finished_valid l r e s x =
    let t = accepted→ _ (with_mode r (Finished e)) s x in
    let z : recorder_question3 l (with_mode r (Finished e)) ≡ true = (asked _ refl t.0).1.1.0 in
    with_three l s (finish_sound l r e s x) (subst (λ (r : Recorder). recorder_question3 l r ≡ true) t.1 z)

-- ---- absorb
module _ (l : Lengths) (x : Index) (m : Lengths) (r : Recorder) (image : Option ℕ) (ms : List ℕ) where
  abbrev number : ℕ
  number = absorb_number l x m r image ms

  abbrev stays : Absorbed
  stays = record { number = 0; index = x; recorder = r }

  abbrev moves : Absorbed
  moves = record { number = 0; index = absorbed_index x r image ms; recorder = emptied r }

  abbrev refusal : ℕ → Absorbed
  refusal n = record { number = n; index = x; recorder = cond (eqb n 8) (with_mode r Stopped) r }

  -- what holds of each answer
  pub of_each : (P : Absorbed → Type 0) (n : ℕ) → (n ≡ 0 → P stays) → (n ≡ 0 → P moves) → P (refusal n)
      → P (absorbed_by n x r image ms)
  of_each P n f g h =
      choose P (eqb n 0) (cond (is_stopped r.mode) stays moves) (refusal n)
      (λ t. choose P (is_stopped r.mode) stays moves (λ s. f (eqb-true n 0 t)) (λ s. g (eqb-true n 0 t))) (λ t. h)

  pub number_by : (n : ℕ) → (absorbed_by n x r image ms).number ≡ n
  number_by n = of_each (λ y. y.number ≡ n) n (λ e. sym e) (λ e. sym e) refl

  -- no answer changes the numbers that 3 asks of
  same_three : (n : ℕ) → (question3 l (absorbed_by n x r image ms).index ≡ question3 l x)
      × (recorder_question3 m (absorbed_by n x r image ms).recorder ≡ recorder_question3 m r)
  unfolding question3 recorder_question3
  same_three n =
      of_each (λ y. (question3 l y.index ≡ question3 l x)
      × (recorder_question3 m y.recorder ≡ recorder_question3 m r)) n (λ e. (refl, refl)) (λ e. (refl, refl)) (
        refl,
        choose (λ s. recorder_question3 m s ≡ recorder_question3 m r) (eqb n 8) (with_mode r Stopped) r (λ e. refl)
            (λ e. refl),
      )

  absorbed_valid : (absorb l x m r image ms).number ≡ 0 → Valid l (absorb l x m r image ms).index
      × ValidRecorder m (absorb l x m r image ms).recorder
  unfolding absorb
  absorbed_valid e =
      let z : number ≡ 0 = sym (number_by number) ∙ e in
      let s = absorb_sound l x m r image ms e in let t = same_three number in
      let q : (question3 l x && recorder_question3 m r) ≡ true = (asked _ refl z).1.1.0 in (
        record {
          one = s.0.0;
          two = s.0.1;
          three = t.0 ∙ and_left (question3 l x) (recorder_question3 m r) q;
          four = s.0.2;
        },
        with_three m _ s.1 (t.1 ∙ and_right (question3 l x) (recorder_question3 m r) q),
      )

  -- where 8 refuses, the recorder passed 1 to 4
  eight : number ≡ 8 → ValidRecorder m r
  eight e =
      let a = later _ 1 8 _ (λ z. omega arith) e in
      let b = later _ 2 8 _ (λ z. omega arith) a.1 in
      let c = later _ 3 8 _ (λ z. omega arith) b.1 in
      let d = later _ 4 8 _ (λ z. omega arith) c.1 in
      record {
        one = and_right (question1 x) (recorder_question1 r) a.0;
        two = and_right (question2 x) (recorder_question2 r) b.0;
        three = and_right (question3 l x) (recorder_question3 m r) c.0;
        four = and_right (question4 x) (recorder_question4 r) d.0;
      }

  stopped_by : (n : ℕ) → n ≡ 8 → (absorbed_by n x r image ms).recorder ≡ with_mode r Stopped
  stopped_by n e = rw e

  stopped_valid : (absorb l x m r image ms).number ≡ 8 → ValidRecorder m (absorb l x m r image ms).recorder
  unfolding absorb recorder_question3
  stopped_valid e =
      let z : number ≡ 8 = sym (number_by number) ∙ e in let v = eight z in
      subst (ValidRecorder m) (sym (stopped_by number z))
      (with_three m (with_mode r Stopped) (stopped_sound r (v.one, v.two, v.four)) v.three)

-- ---- hint recorders
hint_recorder_valid : (l : Lengths) (x : Index) (r : HintRecorder) → hint_recorder l x ≡ Accepted (Some r)
    → ValidHintRecorder max_list r
unfolding hint_recorder
hint_recorder_valid l x r e =
    let g = given (eqb x.hinting.spacing 0 || eqb x.hinting.most 0) _ r
    (accepted→ _ (empty_hint_recorder x.hinting) (Some r) e).1 in
    record { three = omega arith; four = omega (arith, ap (λ (s : HintRecorder). length s.list) g) }

-- 3 and 4 were asked of a hint recorder r, and s is what its call gives
module _ (n : ℕ) (r : HintRecorder) where
  hint_asked : first_no (hint_recorder_four n r []) ≡ 0 → ValidHintRecorder n r
  hint_asked e = let q = asked (hint_recorder_four n r []) refl e in record
      { three = leb-true max_list n q.0; four = leb-true (length r.list) max_list q.1.0 }

  seen_few : (lsn : ℕ) (f : First) → length r.list ≤ max_list → length (seen_record r lsn f).list ≤ max_list
  unfolding seen_record
  seen_few lsn (Nothing a) l = l
  seen_few lsn (Number t) l =
      let h : Hint = record { lsn = lsn; number = t.number; mark = 0 } in
      choose (λ (s : HintRecorder). length s.list ≤ max_list) (ltb max32 lsn) r _ (λ e. l)
      (λ e. choose (λ (s : HintRecorder). length s.list ≤ max_list)
      (spaced r.last r.spacing t.number && ltb (length r.list) max_list) (listed r h) (tailed r h)
      (λ d. let w = ltb-true (length r.list) max_list
      (and_right (spaced r.last r.spacing t.number) (ltb (length r.list) max_list) d) in omega
      (arith, length_snoc r.list h))
      (λ d. l))

  seen_valid : (lsn : ℕ) (sector : List ℕ) (s : SeenSector) → see n r lsn sector ≡ Accepted s
      → ValidHintRecorder n s.recorder
  unfolding see
  seen_valid lsn sector s e =
      let t = accepted→ _ (record { first = first_record sector; recorder = seen_record r lsn (first_record sector) }) s
      e in let v = hint_asked t.0 in
      subst (λ (x : SeenSector). ValidHintRecorder n x.recorder) t.1
      (record { three = v.three; four = seen_few lsn (first_record sector) v.four })

  flushed_few : (o : Option Hint) → length r.list ≤ max_list → length (flushed_list o r.list) ≤ max_list
  unfolding flushed_list
  flushed_few None l = l
  flushed_few (Some h) l =
      choose (λ (hs : List Hint). length hs ≤ max_list) (ltb (length r.list) max_list) (r.list ++ (h ∷ [])) r.list
      (λ d. let w = ltb-true (length r.list) max_list d in omega (arith, length_snoc r.list h)) (λ d. l)

  flushed_valid : (s : HintRecorder) → flush n r ≡ Accepted s → ValidHintRecorder n s
  unfolding flush
  flushed_valid s e =
      let t = accepted→ _ _ s e in let v = hint_asked t.0 in
      subst (ValidHintRecorder n) t.1 (record { three = v.three; four = flushed_few r.tail v.four })

  taken_valid : (s : TakenHints) → take_list n r ≡ Accepted s → ValidHintRecorder n s.recorder
  unfolding take_list
  taken_valid s e =
      let t = accepted→ _ _ s e in let v = hint_asked t.0 in
      subst (λ (s : TakenHints). ValidHintRecorder n s.recorder) t.1
      (record { three = v.three; four = omega arith })

-- ---- together
pub closure : Closure
closure =
    record {
      made = made_valid;
      fingerprinted = bound_valid;
      recording = λ l m x from r e t. with_three m r (recorder_sound l x from r e) t;
      recorded = recorded_valid;
      finished = finished_valid;
      absorbed = absorbed_valid;
      stopped = stopped_valid;
      hint_recording = hint_recorder_valid;
      seen = seen_valid;
      flushed = flushed_valid;
      taken = taken_valid;
      hinted = added_valid;
      marked = marked_valid;
      confirmed = confirmed_valid;
      loaded = loaded_passes;
      merged = merged_valid;
    }
