-- Each call is accepted where its questions are answered yes. Assumes nothing.
use Rattle.std.specs.Prelude.{Some}
use mathlib.Core.Path.{◌≡◌, refl}
use mathlib.Core.Bool.{true, ◌&&◌}
use mathlib.Core.List.{List, [], ◌∷◌}
use Prim.Native.Nat.{ℕ}
use lib.Dec.{eqb, leb}
use borrow.Author.Tests.{eq-eqb, ne_eqb, le-leb}
use Rattle.rules.specs.Tests.{agree, Ask, ask}
use Rattle.rules.specs.Values.{Index, Recorder, HintRecorder, Lengths, boundaries, last_checkpoint, stated}
use Rattle.rules.specs.Sections.{end_ok}
use Rattle.rules.specs.Questions.{area_ok, question1, question2, question3, four, recorder_four, hint_recorder_four}
use Rattle.rules.specs.Create.{empty_index, new, bind_fingerprint, recorder, hint_recorder}
use Rattle.rules.specs.Record.{is_running, next_number, question5, question6, question7, record_at, finish, is_stopped, absorb_number, absorb}
use Rattle.rules.specs.Hints.{see, flush, take_list, question13, add_hints, question53, keep_hint, question14, keep_confirmation, hint}
use Rattle.rules.specs.Merge.{question41, question42, question43, merge_number, merge}
use Rattle.rules.specs.File.{saved_length, save}
use Rattle.rules.specs.Load.{limited, load}
use Rattle.rules.specs.Plan.{plan}
use Rattle.rules.proofs.Tests.{both, or_left, or_right, Asked, asks, →after, →asked, →bind, number_of_accepted}
use Rattle.theorems.specs.Terms.{Valid, ValidRecorder, ValidHintRecorder}
use Rattle.theorems.specs.Useful.{RefusesNothing}
use Rattle.adds.specs.Adds.{brings}
use Rattle.rules_lacks.specs.Lacks.{lacks}
use Rattle.rules_drawer.specs.Drawer.{question44, merge_lists, merge_all}
use Rattle.rules_coarsen.specs.Coarse.{coarser, question47, question48, coarse_number, coarse}
use Rattle.rules_view.specs.View.{view_length, view, view_size}
use Rattle.theorems.proofs.disc.Accepts.{disc_save_accepts, disc_load_accepts}

-- 1 to 4 are answered yes, then qs
pub index_asked : (l : Lengths) (x : Index) (qs : List Ask) → Valid l x → Asked qs → Asked (four l x qs)
index_asked l x qs v h = (v.one, (v.two, (v.three, (v.four, h))))

recorder_asked : (l : Lengths) (r : Recorder) (qs : List Ask) → ValidRecorder l r → Asked qs
    → Asked (recorder_four l r qs)
recorder_asked l r qs v h = (v.one, (v.two, (v.three, (v.four, h))))

hint_recorder_asked : (n : ℕ) (r : HintRecorder) → ValidHintRecorder n r → Asked (hint_recorder_four n r [])
hint_recorder_asked n r v = (le-leb _ n v.three, (le-leb _ _ v.four, tt))

-- 1 to 4 of two lists, then 41 to 43
merge_asked : (l m : Lengths) (own other : Index) → Valid l own → Valid m other → question41 own other ≡ true
    → question42 own other ≡ true → question43 own other ≡ true
    → merge_number l own m other ≡ 0
unfolding merge_number
merge_asked l m own other v w q41 q42 q43 =
    asks _ (
      both v.one w.one,
      (
        both v.two w.two,
        (both v.three w.three, (both v.four w.four, (q41, (q42, (q43, tt))))),
      ),
    )

pub refuses_nothing : RefusesNothing
unfolding new bind_fingerprint recorder record_at finish absorb hint_recorder see flush take_list add_hints keep_hint keep_confirmation hint plan save load merge brings lacks merge_all merge_lists coarse coarse_number view view_size
refuses_nothing =
    record {
      made = λ l a k budget spacing most q1 q2 q3. let x = empty_index a k budget spacing most in →asked
          (ask (question1 x) 1 ∷ ask (question2 x) 2 ∷ ask (question3 l x) 3 ∷ []) (q1, (q2, (q3, tt))) refl;
      fingerprints = λ l x v w q. →asked _ (index_asked l x
          (ask (agree eqb (stated x.fingerprint) (Some v)) 15 ∷ []) w (q, tt)) refl;
      recorders = λ l x from w. →asked _ (index_asked l x [] w tt) refl;
      records = λ l r lsn threshold malformed f sector w q5 q6 q7. →asked _
          (recorder_asked l r (ask (question5 r lsn sector) 5 ∷ ask (question6 r threshold malformed) 6
          ∷ ask (question7 r lsn f) 7 ∷ []) w (q5, (q6, (q7, tt)))) refl;
      finishes = λ l r e w q b q6. →asked _
          (recorder_asked l r
          (ask (is_running r.mode && eqb (next_number r) (boundaries r.area r.interval)) 5
          ∷ ask (end_ok r.area (last_checkpoint r.checkpoints) e) 6 ∷ []) w
          (both q (eq-eqb _ _ b), (q6, tt))) refl;
      absorbs = λ l x m r image ms v w s q8 q9 q10 q11 q12.
          let e : absorb_number l x m r image ms ≡ 0 =
          asks _ (
            both v.one w.one,
            (
              both v.two w.two,
              (
                both v.three w.three,
                (
                  both v.four w.four,
                  (
                    or_right (is_stopped r.mode) q8,
                    (
                      or_right (is_stopped r.mode) q9,
                      (
                        or_right (is_stopped r.mode) q10,
                        (or_right (is_stopped r.mode) q11, (or_right (is_stopped r.mode) q12, tt)),
                      ),
                    ),
                  ),
                ),
              ),
            ),
          ) in
          rw (e, s) refl;
      stopped = λ l x m r image ms v w s.
          let e : absorb_number l x m r image ms ≡ 0 =
          asks _ (
            both v.one w.one,
            (
              both v.two w.two,
              (
                both v.three w.three,
                (
                  both v.four w.four,
                  (
                    or_left _ s,
                    (or_left _ s, (or_left _ s, (or_left _ s, (or_left _ s, tt)))),
                  ),
                ),
              ),
            ),
          ) in
          rw (e, s) refl;
      hint_recorders = λ l x w. →asked _ (index_asked l x [] w tt) refl;
      sees = λ n r lsn sector w. →asked _ (hint_recorder_asked n r w) refl;
      flushes = λ n r w. →asked _ (hint_recorder_asked n r w) refl;
      takes = λ n r w. →asked _ (hint_recorder_asked n r w) refl;
      adds_hints = λ l x list w q. →asked _ (index_asked l x (ask (question13 list) 13 ∷ []) w (q, tt)) refl;
      keeps_hints = λ l x lsn w q. →asked _ (index_asked l x (ask (question53 x.hinting lsn) 53 ∷ []) w (q, tt)) refl;
      confirms = λ l x c w q k m.
          →asked _ (index_asked l x (ask (question14 x.scan.area c) 14 ∷ []) w (q, tt))
          (rw (k, ne_eqb x.hinting.most 0 m) refl);
      keeps_none = λ l x c w q k. →asked _ (index_asked l x (ask (question14 x.scan.area c) 14 ∷ []) w (q, tt))
          (rw k refl);
      hints = λ l x first end playtime w q. number_of_accepted _ _
          (→asked _ (index_asked l x (ask (leb first end) 16 ∷ []) w (le-leb first end q, tt)) refl);
      plans = λ l x t w. →asked _ (index_asked l x [] w tt) refl;
      saves = λ l x out w q. →asked _ (index_asked l x (ask (leb (saved_length x) out) 40 ∷ []) w
          (le-leb (saved_length x) out q, tt)) refl;
      loads = λ l a b limit x q e q3. →asked (ask (area_ok a) 1 ∷ []) (q, tt)
          (→bind _ e (→asked (ask (question3 l (limited limit x)) 3 ∷ []) (q3, tt) refl));
      merges = λ l m own other v w q41 q42 q43. →after (merge_asked l m own other v w q41 q42 q43) refl;
      adds = λ l m own other v w q41 q42 q43. →after (merge_asked l m own other v w q41 q42 q43) refl;
      lacks = λ l m own other v w q41 q42 q43. →after (merge_asked l m own other v w q41 q42 q43) refl;
      merges_all = λ l x m ns b limit ys w q e p. →asked _ (index_asked l x (ask (question44 ns) 44 ∷ []) w (q, tt))
          (→bind _ e (→after p refl));
      coarsens = λ l x k m w q47 q48 q3. →asked _
          (index_asked l x (ask (question47 k x) 47 ∷ ask (question48 k x) 48 ∷ ask (question3 m (coarser k x)) 3
          ∷ []) w (q47, (q48, (q3, tt)))) refl;
      views = λ role l x out w r q. →asked _ (
        r,
        index_asked l x (ask (leb (view_length role x) out) 40 ∷ []) w (le-leb (view_length role x) out q, tt),
      ) refl;
      lengths_of_views = λ role l x w r. →asked _ (r, index_asked l x [] w tt) refl;
      saves_disc = disc_save_accepts;
      loads_disc = disc_load_accepts;
    }
