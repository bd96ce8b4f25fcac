-- Each call over lent tables is accepted where its questions are answered yes. Assumes nothing.
use Rattle.std.specs.Prelude.{Option, ℕ}
use mathlib.Core.Path.{◌≡◌, refl, sym, ap, ◌∙◌}
use mathlib.Core.Bool.{true, false, ◌&&◌}
use mathlib.Core.List.{List, [], ◌∷◌}
use mathlib.Core.Logic.{◌≢◌}
use Prim.Native.Nat.{ℕ, ◌+◌, ◌/◌, ◌≤◌}
use native.Mathlib.Omega.{arith}
use borrow.Author.Tests.{ne_eqb, le-leb}
use lib.Dec.{leb}
use lib.ListN.{length}
use Rattle.rules.specs.declared.AreaIndex.{AreaIndex}
use Rattle.rules.specs.declared.EndState.{EndState}
use Rattle.rules.specs.declared.HintRecorder.{HintRecorder}
use Rattle.rules.specs.declared.Mode.TheVariants.{Finished}
use Rattle.rules.specs.declared.Recorder.{Recorder}
use Rattle.rules.specs.Tests.{Answer, Refused, Accepted, after, ask, first_no, number_of}
use Rattle.rules.specs.Values.{max32, boundaries, last_checkpoint}
use Rattle.rules.specs.Sections.{end_ok}
use Rattle.rules.specs.Questions.{area_ok, numbers_ok}
use Rattle.rules.specs.Plan.{planned}
use Rattle.rules.specs.Create.{bind_fingerprint, recorder, hint_recorder}
use Rattle.rules.specs.Record.{is_running, next_number, question5, question6, question7, recorded, record_at, with_mode, finish, is_stopped, question8, question9, question10, question11, question12, absorbed_index, emptied}
use Rattle.rules.specs.Hints as rules
use Rattle.rules.specs.Hints.{see, add_hints, keep_hint, keep_confirmation}
use Rattle.rules_jump.specs.Names.{named_hint}
use Rattle.rules_jump.proofs.Values.{named_number}
use Rattle.rules_lacks.specs.Lacks.{lacks}
use Rattle.rules_drawer.specs.Drawer.{lengths_in}
use Rattle.rules_coverage.specs.Coverage.{max_file, file_row, line_row}
use Rattle.rules.specs.Merge.{merge}
use Rattle.rules.specs.File.{decode_checkpoint, saved, save}
use Rattle.field.proofs.Records.{records_length}
use Rattle.rules.proofs.Tests.{never, both, asks, →asked, →bind, number_of_accepted}
use Rattle.rules_disc.specs.Disc.{slot_area, contents_ok, bodies_length, disc_length, by_slot}
use Rattle.laws.proofs.Length.{saved_length_is}
use Rattle.tables.specs.Index.{Tables, room_of, index_in, kinds_in, kinded_number, refusal, numbers_from, tables_from, frontier_in, made_out_of, lowest}
use Rattle.tables.specs.Lent.{TableBytes}
use Rattle.index.specs.Index.{numbers_of, new_in, bound_in}
use Rattle.index.proofs.Back.{numbers_back}
use Rattle.index.proofs.Lent.{put_back}
use Rattle.index.proofs.Questions.{passes}
use Rattle.plan.specs.Plan.{plan_in}
use Rattle.tables.specs.Recorder.{RecorderTables, recorder_room, recorder_in, recorder_kinds, recorder_from, recorder_over, assembling_in}
use Rattle.recorder.specs.Recorder.{recorder_of, started_in, finished_in, recorder_out, record_out, record_in, boundary_at}
use Rattle.absorb.specs.Absorb.{absorbed, kinded_both, absorb_in}
use Rattle.absorb.specs.Absorb as absorbing
use Rattle.tables.specs.Tables.{given_in, hints_of}
use Rattle.rules.specs.declared.Assembling as under
use Rattle.hint_recorder.specs.HintRecorder.{created_in, see_in, flush_in, take_in}
use Rattle.hint_recorder.specs.HintRecorder as hinting
use Rattle.tables.specs.HintRecorder.{hint_recorder_in}
use Rattle.add_hints.specs.AddHints.{add_hints_in}
use Rattle.keep_hint.specs.KeepHint.{keep_hint_in}
use Rattle.confirmations.specs.Confirmations.{keep_in}
use Rattle.confirmations.specs.Confirmations as keeping
use Rattle.adds.specs.Adds.{brings}
use Rattle.drawer.specs.Drawer.{lists_of}
use Rattle.hint.specs.Hint.{hint_in}
use Rattle.save.specs.Save.{save_out, save_in}
use Rattle.sizes.specs.Sizes.{new_sizes, file_sizes, file_length, file_area}
use Rattle.short_sum.specs.ShortSum.{fold}
use Rattle.disc_load.specs.DiscLoad.{contents_from, contents_in, both_sizes, disc_sizes}
use Rattle.disc_save.specs.DiscSave.{length_of, length_after, one_length, both_length}
use Rattle.theorems.specs.Terms.{ValidIn}
use Rattle.theorems.specs.TableRun.{is_accepted}
use Rattle.theorems.specs.Recorders.{ValidRecorderIn, ValidHintRecorderIn}
use Rattle.theorems.specs.Demand1.{among}
use Rattle.theorems.specs.UsefulInTables.{RefusesNothingIn}
use Rattle.theorems.proofs.Accepts.{index_asked, refuses_nothing}
use Rattle.theorems.proofs.Demand1.{demand1, recorder_back}
use Rattle.theorems.proofs.TableRun.{kinds_pass}
use Rattle.theorems.proofs.Coverage.{row_of_lemma}
use Rattle.theorems.proofs.ViewInTables.{view_leaves}
use Rattle.theorems.proofs.shelves.Shelf.{shelf_accepts}
use Rattle.theorems.proofs.disc.Accepts.{pair, single, up, down}
use Rattle.theorems.proofs.disc.AcceptsInTables.{disc_save_accepts_in, disc_load_accepts_in}

-- ---- an answer that is refused has a number other than 0
never_0 : {P : Type 0} (ns : List ℕ) (m n : ℕ) → m ≡ n → m ≡ 0 → among ns 0 ≡ false → among ns n ≡ true → P
never_0 ns m n e z f h = let q : n ≡ 0 = sym e ∙ z in never (rw q at h) f

saw_refused : (t : List ℕ) (a : Answer rules.SeenSector) (n : ℕ) → (hinting.saw_out_of t a).answer ≡ Refused n
    → number_of a ≡ n
unfolding hinting.saw_out_of number_of
saw_refused t (Refused m) n e = cc
saw_refused t (Accepted v) n e = let z : ◌≡◌ {A = ℕ} 0 1 = cc in let f : ⊥ = omega arith in absurd f

see_accepted : (r : HintRecorder) (t : List ℕ) (lsn : ℕ) (sector : List ℕ) → ValidHintRecorderIn r t → (n : ℕ)
    → (see_in r t lsn sector).answer ≢ Refused n
unfolding see_in among
see_accepted r t lsn sector v n e =
    never_0 (3 ∷ 4 ∷ []) _ n (saw_refused t (see (length t / 8) (hint_recorder_in r t) lsn sector) n e)
    (number_of_accepted _ _ (refuses_nothing.sees (length t / 8) (hint_recorder_in r t) lsn sector v)) refl
    ((demand1.see r t lsn sector).number n e)

-- ---- 1 to 4 are answered yes
no_number : (x : AreaIndex) (t : Tables) → ValidIn x t → refusal x t ≡ 0
unfolding refusal kinded_number
no_number x t v = rw v.kinds (asks _ (index_asked (room_of t) (index_in x t) [] v.valid tt))

-- ---- lengths
length_accepted : (x : AreaIndex) (t : Tables) → ValidIn x t → file_length x t ≡ length (saved (index_in x t))
unfolding file_length
length_accepted x t v = rw (no_number x t v) (saved_length_is (index_in x t)).0

one_accepted : (x : AreaIndex) (t : Tables) → ValidIn x t → length (saved (index_in x t)) ≤ max32 → one_length x t
    ≡ 16 + length (saved (index_in x t))
unfolding one_length length_after length_of disc_length bodies_length
one_accepted x t v f = rw (no_number x t v, single (index_in x t) f) (omega (arith, (saved_length_is (index_in x t)).0))

both_accepted : (x y : AreaIndex) (t u : Tables) → ValidIn x t → ValidIn y u → x.area.key.slot ≡ 0
    → y.area.key.slot ≡ 1
    → let m = length (saved (index_in x t)) in let n = length (saved (index_in y u)) in
    28 + m ≤ max32 → n ≤ max32 → (both_length x t y u ≡ 28 + m + n) × (both_length y u x t ≡ 28 + m + n)
unfolding both_length length_after length_of lowest by_slot disc_length bodies_length
both_accepted x y t u v w p q f g =
    let i = index_in x t in
    let j = index_in y u in
    let l = (saved_length_is i).0 in
    let k = (saved_length_is j).0 in (
      rw (no_number x t v, no_number y u w, up i j p q, pair i j p q f g) (omega (arith, l, k)),
      rw (no_number x t v, no_number y u w, down i j p q, pair i j p q f g) (omega (arith, l, k)),
    )

-- ---- recorders
record_accepted : (r : Recorder) (u : RecorderTables) (lsn threshold malformed : ℕ) (f : Option under.Assembling)
    (b sector : List ℕ) → ValidRecorderIn r u
    → let v = recorder_in r u in let a = assembling_in f b in
    question5 v lsn sector ≡ true → question6 v threshold malformed ≡ true → question7 v lsn a ≡ true
    → let w = recorded v lsn threshold malformed a sector in
    record_in r u lsn threshold malformed f b sector
    ≡ recorder_out (Accepted (recorder_from w)) (recorder_over w u)
unfolding record_in record_out
record_accepted r u lsn threshold malformed f b sector v q5 q6 q7 =
    rw (
      kinds_pass (recorder_kinds r u) (record_at (recorder_room u) (recorder_in r u) lsn threshold malformed
          (assembling_in f b) sector) v.kinds,
      refuses_nothing.records (recorder_room u) (recorder_in r u) lsn threshold malformed (assembling_in f b) sector
          v.valid q5 q6 q7,
    ) refl

finish_accepted : (r : Recorder) (u : RecorderTables) (e : EndState) → ValidRecorderIn r u → let v = recorder_in r u in
    is_running r.mode ≡ true → next_number v ≡ boundaries r.area r.interval
    → end_ok r.area (last_checkpoint v.checkpoints) e ≡ true
    → finished_in r u e ≡ Accepted (recorder_from (with_mode v (Finished e)))
unfolding finished_in recorder_of
finish_accepted r u e v m n q =
    rw (
      kinds_pass (recorder_kinds r u) (finish (recorder_room u) (recorder_in r u) e) v.kinds,
      refuses_nothing.finishes (recorder_room u) (recorder_in r u) e v.valid m n q,
    ) refl

-- ---- absorb
module _ (x : AreaIndex) (t : Tables) (image : Option ℕ) (given : List ℕ) (r : Recorder) (u : RecorderTables)
    (v : ValidIn x t) (w : ValidRecorderIn r u) where
  both_kinds : (kinds_in x t && recorder_kinds r u) ≡ true
  both_kinds = rw (v.kinds, w.kinds) refl

  absorb_accepted : is_stopped r.mode ≡ false → let i = index_in x t in let s = recorder_in r u in let id = image
      in let ms = given_in given in
      question8 i id ≡ true → question9 i s ≡ true → question10 i s ≡ true → question11 i s ≡ true
      → question12 i s id ms ≡ true
      → let y = absorbed_index i s id ms in
      absorb_in x t image given r u ≡ absorbing.absorbed_out (absorbed 0 (numbers_from y) (recorder_from (emptied s)))
      (tables_from y t)
  unfolding absorb_in absorbing.absorbed_out_of kinded_both
  absorb_accepted m q8 q9 q10 q11 q12 =
      rw (
        both_kinds,
        refuses_nothing.absorbs (room_of t) (index_in x t) (recorder_room u) (recorder_in r u)
            image (given_in given) v.valid w.valid m q8 q9 q10 q11 q12,
      ) refl

  absorb_stopped : TableBytes t → is_stopped r.mode ≡ true → absorb_in x t image given r u
      ≡ absorbing.absorbed_out (absorbed 0 x r) t
  unfolding absorb_in absorbing.absorbed_out_of kinded_both
  absorb_stopped b m =
      rw (
        both_kinds,
        refuses_nothing.stopped (room_of t) (index_in x t) (recorder_room u) (recorder_in r u) image
            (given_in given) v.valid w.valid m,
        numbers_back x t,
        recorder_back r u,
        put_back (passes x t (no_number x t v)) b,
      ) refl

-- ---- each call
pub refuses_nothing_in : RefusesNothingIn
unfolding new_in bound_in keep_in keeping.kept_out_of see_in flush_in take_in hinting.seen_out_of hinting.saw_out_of hinting.taken_from frontier_in boundary_at new_sizes file_sizes file_area fold contents_in contents_from disc_sizes both_sizes after first_no numbers_of started_in recorder_of created_in hinting.created_from add_hints_in keep_hint_in hint_in plan_in save_in save_out made_out_of is_accepted lists_of line_row file_row
refuses_nothing_in =
    record {
      made = λ t a k budget spacing most q1 q2 q3. rw
          (refuses_nothing.made (room_of t) a k budget spacing most q1 q2 q3) refl;
      fingerprints = λ x t v w q.
          rw (
            kinds_pass (kinds_in x t) (bind_fingerprint (room_of t) (index_in x t) v) w.kinds,
            refuses_nothing.fingerprints (room_of t) (index_in x t) v w.valid q,
          ) refl;
      recorders = λ x t from v.
          rw (
            kinds_pass (kinds_in x t) (recorder (room_of t) (index_in x t) from) v.kinds,
            refuses_nothing.recorders (room_of t) (index_in x t) from v.valid,
            records_length 24 decode_checkpoint x.checkpoints t.checkpoints,
          ) refl;
      hint_recorders = λ x t v s m.
          rw (
            kinds_pass (kinds_in x t) (hint_recorder (room_of t) (index_in x t)) v.kinds,
            refuses_nothing.hint_recorders (room_of t) (index_in x t) v.valid,
            ne_eqb x.spacing 0 s,
            ne_eqb x.most 0 m,
          ) refl;
      no_hint_recorder = λ x t v z.
          rw (
            kinds_pass (kinds_in x t) (hint_recorder (room_of t) (index_in x t)) v.kinds,
            refuses_nothing.hint_recorders (room_of t) (index_in x t) v.valid,
            z,
          ) refl;
      adds_hints = λ x t list v q.
          rw (
            kinds_pass (kinds_in x t) (add_hints (room_of t) (index_in x t) (hints_of list)) v.kinds,
            refuses_nothing.adds_hints (room_of t) (index_in x t) (hints_of list) v.valid q,
          ) refl;
      keeps_hints = λ x t lsn v q.
          rw (
            kinds_pass (kinds_in x t) (keep_hint (room_of t) (index_in x t) lsn) v.kinds,
            refuses_nothing.keeps_hints (room_of t) (index_in x t) lsn v.valid q,
          ) refl;
      confirms = λ x t c v q k m.
          rw (
            kinds_pass (kinds_in x t) (keep_confirmation (room_of t) (index_in x t) c) v.kinds,
            refuses_nothing.confirms (room_of t) (index_in x t) c v.valid q k m,
          ) refl;
      keeps_none = λ x t c v q k.
          rw (
            kinds_pass (kinds_in x t) (keep_confirmation (room_of t) (index_in x t) c) v.kinds,
            refuses_nothing.keeps_none (room_of t) (index_in x t) c v.valid q k,
          ) refl;
      hints = λ x t first end playtime v q.
          rw (
            kinds_pass (kinds_in x t) (named_hint (room_of t) (index_in x t) first end playtime) v.kinds,
            named_number (room_of t) (index_in x t) first end playtime,
          )
          (refuses_nothing.hints (room_of t) (index_in x t) first end playtime v.valid q);
      plans = λ x t f v. (
        planned (index_in x t).scan f,
        kinds_pass (kinds_in x t) _ v.kinds ∙ refuses_nothing.plans (room_of t) (index_in x t) f v.valid,
      );
      saves = λ x t old v l.
          rw (
            kinds_pass (kinds_in x t) (save (room_of t) (index_in x t) (length old)) v.kinds,
            refuses_nothing.saves (room_of t) (index_in x t) (length old) v.valid l,
          ) refl;
      merges = λ x t y u v w a b c.
          let k : (kinds_in x t && kinds_in y u) ≡ true = rw (v.kinds, w.kinds) refl in
          rw (
            kinds_pass (kinds_in x t && kinds_in y u) (merge (room_of t) (index_in x t) (room_of u) (index_in y u)) k,
            refuses_nothing.merges (room_of t) (room_of u) (index_in x t) (index_in y u) v.valid w.valid a b c,
          ) refl;
      adds = λ x t y u v w a b c.
          let k : (kinds_in x t && kinds_in y u) ≡ true = rw (v.kinds, w.kinds) refl in
          kinds_pass (kinds_in x t && kinds_in y u) (brings (room_of t) (index_in x t) (room_of u) (index_in y u)) k
          ∙ refuses_nothing.adds (room_of t) (room_of u) (index_in x t) (index_in y u) v.valid w.valid a b c;
      lacks = λ x t y u v w a b c.
          let k : (kinds_in x t && kinds_in y u) ≡ true = rw (v.kinds, w.kinds) refl in
          kinds_pass (kinds_in x t && kinds_in y u) (lacks (room_of t) (index_in x t) (room_of u) (index_in y u)) k
          ∙ refuses_nothing.lacks (room_of t) (room_of u) (index_in x t) (index_in y u) v.valid w.valid a b c;
      loads = λ a b limit t x q e r. rw (refuses_nothing.loads (room_of t) a b limit x q e r) refl;
      records = record_accepted;
      finishes = finish_accepted;
      absorbs = absorb_accepted;
      stopped = λ x t image given r u v b w m. absorb_stopped x t image given r u v w b m;
      sees = see_accepted;
      seen = λ r t lsn sector s e. ap (hinting.saw_out_of t) e;
      flushes = λ r t v. ap (hinting.seen_out_of t) (refuses_nothing.flushes (length t / 8) (hint_recorder_in r t) v);
      takes = λ r t v. ap hinting.taken_from (refuses_nothing.takes (length t / 8) (hint_recorder_in r t) v);
      frontiers = λ x q. rw q refl;
      boundary = λ x j p q. rw (p, q) refl;
      due = λ r p q. rw (p, q) refl;
      sizes = λ a k budget most p q. →asked (ask (area_ok a) 1 ∷ ask (numbers_ok k budget) 2 ∷ []) (p, (q, tt)) refl;
      sizes_of_file = λ a b limit x p e. →asked (ask (area_ok a) 1 ∷ []) (p, tt) (→bind _ e refl);
      lengths = length_accepted;
      area_of_file = λ b e. rw e refl;
      merges_all = λ x t ls b limit u ys v q e p.
          rw (
            no_number x t v,
            refuses_nothing.merges_all (room_of t) (index_in x t) (room_of u) (lengths_in ls) b limit
                ys v.valid q e p,
            e,
          ) refl;
      rows = row_of_lemma;
      rows_of_lines = λ l b r h e. →asked (ask (leb (length b) max_file) 45 ∷ []) (le-leb (length b) max_file h, tt) e;
      coarsens = λ x t k u v q47 q48 q3. rw (
        no_number x t v,
        refuses_nothing.coarsens (room_of t) (index_in x t) k (room_of u) v.valid q47 q48 q3,
      ) refl;
      folds = λ w k s q. rw q refl;
      shelves = shelf_accepts;
      views = view_leaves;
      saves_disc = disc_save_accepts_in;
      loads_disc = disc_load_accepts_in;
      contents = λ b q. rw q refl;
      sizes_of_disc = λ a0 a1 b limit s r p q c e f. →asked
          (ask (slot_area 0 a0 && slot_area 1 a1) 1 ∷ ask (contents_ok b) 54 ∷ []) (both p q, (c, tt))
          (→bind _ e (→bind _ f refl));
      length_one = one_accepted;
      length_both = both_accepted;
    }
