-- Demand 3: the statements of specs/Demand3.antt. Assumes nothing.
use Rattle.std.specs.Prelude.{Option, None, Some}
use mathlib.Core.Path.{◌≡◌, refl, sym, ap, ap₂, ◌∙◌}
use mathlib.Core.Bool.{Bool, true, false, cond}
use mathlib.Core.Logic.{⊎_elim, ◌⊎◌, inl, inr}
use mathlib.Core.List.Memᴰ
use mathlib.Core.List.{List, [], ◌∷◌, ◌++◌, Memᴰ}
use Prim.Native.Nat.{ℕ, ◌+◌, ◌≤◌}
use native.Mathlib.Omega.{arith}
use lib.Dec.{eqb, leb}
use lib.ListN.{length}
use borrow.Author.Tests.{eqb-true, ne_eqb}
use Rattle.rules.specs.Tests.{or_else, agree, after, ask, first_no}
use Rattle.rules.specs.Values.{Index, Lengths, boundaries, complete, count, stated}
use Rattle.rules.specs.Questions.{question3, four}
use Rattle.rules.specs.Merge.{question42, merged, merge}
use Rattle.rules.specs.File.{saved_length, saved, save}
use Rattle.rules.specs.Load.{limited, load}
use Rattle.rules.specs.Run.{Reading, Cut, Place, Call, merge_call, save_call, load_call, Saved, State, begin, answered, merge_into, merge_refusal, just_saved, load_into, step, run, Furthest}
use Rattle.laws.proofs.Limit.{limited_load}
use Rattle.laws.proofs.hint_lists.Closure.{unmarked_stated}
use Rattle.theorems.specs.Terms.{SameRead, AllCut, after_calls, stored_in}
use Rattle.theorems.specs.Demand3.{Outcome, Outcomes, MergedParts, JustLeaves, PartsLeft, PartsByRule, PartsAgree, NoneRefused, Demand3}
use Rattle.rules.proofs.Tests.{test, all→, →all, agree_none, asked}
use Rattle.rules.proofs.Same.{eqb_self}
use Rattle.theorems.proofs.Jump.{jump_not_back}
use Rattle.theorems.proofs.ScanLaws.{one, level, merged_level, one_most}
use Rattle.theorems.proofs.Useful.{merge_takes}
use Rattle.laws.proofs.hint_lists.Closure.{merged_stated}
use Rattle.theorems.proofs.CutLaws.{same_level, merged_three, limited_three, cut_scan, cut_counts, cut_read, cut_merged, cut_limited, not_refused}

at_least_lemma : (b n m : ℕ) (w v : Bool) → n ≤ b → (v ≡ true → m ≡ b) → n + one w ≤ m + one v → n ≤ m
at_least_lemma b n m w true l f h = let x = f refl in omega arith
at_least_lemma b n m w false l f h = omega arith

-- an accepted save passed question 3
pub saved_three : (l : Lengths) (x : Index) (out : ℕ) → first_no (four l x (ask (leb (saved_length x) out) 40 ∷ []))
    ≡ 0 → question3 l x ≡ true
saved_three l x out e = (asked _ refl e).1.1.0

module _ (R : Reading) (p : ℕ → Place) (cut : AllCut R p) where
  -- ---- the invariant of a place, whose tables are those of place k
  pub record Inv (k : ℕ) (q : Place) (ws : List ℕ) : Type 0 where
    pub from_r : Cut R q.list
    pub upper : (w : ℕ) → Memᴰ w ws → level (p w).list.scan ≤ level q.list.scan
    pub lower : (w : ℕ) × Memᴰ w ws × (level (p w).list.scan ≡ level q.list.scan)
    pub room : q.room ≡ (p k).room

  start_inv : (k : ℕ) → Inv k (p k) (k ∷ [])
  start_inv k =
      record {
        from_r = cut k;
        upper = λ w m. let e : level (p w).list.scan
            ≡ level (p k).list.scan = ap (λ (k : ℕ). level (p k).list.scan) (Memᴰ.eq_of_singleton m)
            in omega arith;
        lower = (k, Memᴰ.head refl, refl);
        room = refl;
      }

  merged_inv : (k n : ℕ) (own other : Place) (l l' : List ℕ) → Inv k own l → Inv n other l'
      → Inv k (record { list = merged own.list other.list; room = own.room }) (l ++ l')
  unfolding merged
  merged_inv k n own other l l' i j =
      let c = i.from_r in let d = j.from_r in
      let m = merged_level own.list.scan other.list.scan (cut_scan R own.list c) (cut_scan R other.list d)
      (c.area ∙ sym d.area) (c.interval ∙ sym d.interval) in
      record {
        from_r = cut_merged R own.list other.list c d;
        upper = λ w h.
            ⊎_elim (λ a. let u = i.upper w a in ⊎_elim (λ x. omega arith) (λ x. omega arith) m)
            (λ a. let u = j.upper w a in ⊎_elim (λ x. omega arith) (λ x. omega arith) m) (Memᴰ.append_cases l h);
        lower =
            ⊎_elim (λ x. (i.lower.0, Memᴰ.append_left l' i.lower.1, i.lower.2 ∙ sym x.0))
            (λ x. (j.lower.0, Memᴰ.append_right l j.lower.1, j.lower.2 ∙ sym x.0)) m;
        room = i.room;
      }

  after_merge : (k n : ℕ) (own other : Place) (l l' : List ℕ) → Inv k own l → Inv n other l'
      → Inv k (answered own (merge_into own other)) (cond (eqb (merge_refusal own other) 0) (l ++ l') l)
  unfolding merge after answered
  after_merge k n own other l l' i j = test (eqb (merge_refusal own other) 0)
      (λ e. rw e (merged_inv k n own other l l' i j)) (λ e. rw e i)

  limited_inv : (k limit : ℕ) (q : Place) (l : List ℕ) → Inv k q l
      → Inv k (record { list = limited limit q.list; room = q.room }) l
  unfolding limited level
  limited_inv k limit q l i = record {
    from_r = cut_limited R limit q.list i.from_r;
    upper = i.upper;
    lower = i.lower;
    room = i.room;
  }

  -- what a place passed question 3 saves is loaded there
  pub loaded : (limit : ℕ) (q : Place) → Cut R q.list → question3 q.room q.list ≡ true
      → answered q (load q.room R.area (saved q.list) limit)
      ≡ record { list = limited limit q.list; room = q.room }
  unfolding answered
  loaded limit q c t =
      let e = limited_load q.room limit q.list
      (record { one = c.one; two = c.two; four = c.four; sizes = c.fits })
      (limited_three limit q.list q.room t) in
      rw (← c.area) (rw e refl)

  -- ---- the invariant of a state
  -- what was just saved is what its place holds, in tables that are long enough
  abbrev pub JustOk : (ℕ → Place) → Option Saved → Type 0
  JustOk now None = Unit {0}
  JustOk now (Some b) = (b.bytes ≡ saved (now b.place).list)
      × (question3 (now b.place).room (now b.place).list ≡ true)

  pub record Good (s : State) : Type 0 where
    pub places : (k : ℕ) → Inv k (s.now k) (s.went k)
    pub just : JustOk s.now s.just

  load_good : (limit : ℕ) (s : State) (o : Option Saved) → Good s → JustOk s.now o
      → Good (load_into R.area limit s o)
  unfolding load_into
  load_good limit s None g j = g
  load_good limit s (Some b) g j =
      let i = g.places b.place in let e = loaded limit (s.now b.place) i.from_r j.1 in
      record {
        places = λ k.
            test (eqb k b.place) (λ t. let t' : k
            ≡ b.place = eqb-true k b.place t in rw t
            (rw (t', j.0, e) (limited_inv b.place limit (s.now b.place) (s.went b.place) i)))
            (λ t. rw t (g.places k));
        just = tt;
      }

  just_good : (i out : ℕ) (s : State) → JustOk s.now (just_saved i (save (s.now i).room (s.now i).list out))
  unfolding save after just_saved
  just_good i out s =
      let q = s.now i in let n = first_no (four q.room q.list (ask (leb (saved_length q.list) out) 40 ∷ [])) in
      test (eqb n 0) (λ e. rw e (refl, saved_three q.room q.list out (eqb-true n 0 e))) (λ e. rw e tt)

  pub step_good : (c : Call) (s : State) → Good s → Good (step R.area c s)
  unfolding step
  step_good (merge_call i j) s g =
      record {
        places = λ k.
            test (eqb k i) (λ e. let e' : k ≡ i = eqb-true k i e in rw e
            (rw e' (after_merge i j (s.now i) (s.now j) (s.went i) (s.went j) (g.places i) (g.places j))))
            (λ e. rw e (g.places k));
        just = tt;
      }
  step_good (save_call i out) s g = record { places = g.places; just = just_good i out s }
  step_good (load_call limit) s g = load_good limit s s.just g g.just

  pub run_good : (cs : List Call) (s : State) → Good s → Good (run R.area cs s)
  unfolding run
  run_good [] s g = g
  run_good (c ∷ cs) s g = run_good cs (step R.area c s) (step_good c s g)

  pub start_good : Good (begin p)
  start_good = record { places = start_inv; just = tt }

  -- ---- from the invariant to the claim
  module _ (k : ℕ) (q : Place) (ws : List ℕ) (i : Inv k q ws) where
    same_boundaries : (w : ℕ) → boundaries (p w).list.scan.area (p w).list.scan.interval
        ≡ boundaries q.list.scan.area q.list.scan.interval
    same_boundaries w = ap₂ boundaries ((cut w).area ∙ sym i.from_r.area) ((cut w).interval ∙ sym i.from_r.interval)

    -- a list of the level has read the same
    same : (w : ℕ) → level (p w).list.scan ≡ level q.list.scan → SameRead q.list.scan (p w).list.scan
    same w e =
        let s = same_level R q.list.scan (p w).list.scan (cut_counts R q.list i.from_r)
        (cut_counts R (p w).list (cut w))
        (cut_read R q.list i.from_r) (cut_read R (p w).list (cut w)) (sym e) in
        record { checkpoints = s.0; ending = s.1; malformed = s.2 }

    enough : (w : ℕ) → Memᴰ w ws → count (p w).list.scan ≤ count q.list.scan
    unfolding level
    enough w m =
        let c = cut_counts R q.list i.from_r in let d = (cut_counts R (p w).list (cut w)).within
        in let b = same_boundaries w in
        at_least_lemma (boundaries q.list.scan.area q.list.scan.interval) (count (p w).list.scan)
        (count q.list.scan)
        (complete (p w).list.scan) (complete q.list.scan) (omega arith) c.full (i.upper w m)

    -- the list that attains the level is the furthest
    furthest_of : Furthest p ws i.lower.0
    unfolding level
    furthest_of =
        let w = i.lower.0 in let e = i.lower.2 in
        test (complete (p w).list.scan) (λ c. inl c)
        (λ c.
        let z : one (complete (p w).list.scan)
        ≡ 0 = ap one c in let b = same_boundaries w in let n = (cut_counts R (p w).list (cut w)).within in
        inr (
          (λ v m.
              let u = i.upper v m in let b' = same_boundaries v in
              test (complete (p v).list.scan)
              (λ d.
              let y : one (complete (p v).list.scan)
              ≡ 1 = ap one d in let f = (cut_counts R (p v).list (cut v)).full d in
              let q : ⊥ = omega arith in absurd q)
              (λ d. d)),
          (λ v m. let u = i.upper v m in omega arith),
        ))

    -- a furthest list has the level
    furthest_level : (w : ℕ) → Memᴰ w ws → Furthest p ws w → level (p w).list.scan ≡ level q.list.scan
    unfolding level
    furthest_level w m f =
        let v = i.lower.0 in let e = i.lower.2 in let u = i.upper w m in let b = same_boundaries w in
        let n = (cut_counts R q.list i.from_r).within in
        ⊎_elim
        (λ (c : complete (p w).list.scan ≡ true).
        let y : one (complete (p w).list.scan) ≡ 1 = ap one c in let g = (cut_counts R (p w).list (cut w)).full c in
        omega (arith, one_most (complete q.list.scan)))
        (λ g. let y : one (complete (p v).list.scan)
        ≡ 0 = ap one (g.0 v i.lower.1) in let h = g.1 v i.lower.1 in omega arith) f

  module _ (cs : List Call) where
    after_run : (k : ℕ) → Inv k ((after_calls R p cs).now k) ((after_calls R p cs).went k)
    after_run k = (run_good cs (begin p) start_good).places k

    outcome : (k : ℕ) → Outcome R p (after_calls R p cs) k
    outcome k =
        let q = (after_calls R p cs).now k in let ws = (after_calls R p cs).went k in let i = after_run k in
        record {
          at_least = enough k q ws i;
          largest = (
            i.lower.0,
            i.lower.1,
            furthest_of k q ws i,
            ap length (same k q ws i i.lower.0 i.lower.2).checkpoints,
          );
          furthest = λ w m f. same k q ws i w (furthest_level k q ws i w m f);
          cut = i.from_r;
          room = i.room;
          joins = λ j. not_refused R q.room ((after_calls R p cs).now j).room q.list
              ((after_calls R p cs).now j).list i.from_r (after_run j).from_r;
        }

  -- ---- the held parts, call by call
  merged_parts : (own other : Place) → merge_refusal own other ≡ 0
      → MergedParts own.list.scan other.list.scan (merged own.list other.list).scan
  merged_parts own other e =
      let t = merge_takes own.room other.room own.list other.list (merged own.list other.list)
      (unfold merge after in rw e refl) in
      record { taken = t.scan.parts; kept = λ f. ap stored_in (t.scan.same f) }

  load_left : (limit : ℕ) (s : State) (o : Option Saved) → Good s → JustOk s.now o
      → JustLeaves limit s (load_into R.area limit s o) o
  unfolding JustLeaves load_into limited
  load_left limit s None g j = λ k. refl
  load_left limit s (Some b) g j =
      let e = loaded limit (s.now b.place) (g.places b.place).from_r j.1 in
      record {
        loaded = rw (eqb_self b.place, j.0, e) (record { frames = refl; parts = refl });
        others = λ k t. rw t refl;
      }

  pub parts_left : (c : Call) (s : State) → Good s → PartsLeft s c (step R.area c s)
  unfolding PartsLeft step merge after answered
  parts_left (merge_call i j) s g =
      let own = s.now i in let other = s.now j in
      record {
        accepted = λ e. rw (eqb_self i, e) (merged_parts own other e);
        refused = λ n. rw (eqb_self i, ne_eqb (merge_refusal own other) 0 n) refl;
        others = λ k t. rw t refl;
      }
  parts_left (save_call i out) s g = λ k. refl
  parts_left (load_call limit) s g = load_left limit s s.just g g.just

  -- ---- tables stay long enough, and no id or fingerprint comes from nowhere
  -- o is unknown, or what one of the first lists has
  abbrev From : (Index → Option ℕ) → Option ℕ → Type 0
  From f o = (o ≡ None) ⊎ ((w : ℕ) × (o ≡ f (p w).list))

  from_either : (f : Index → Option ℕ) (a b : Option ℕ) → From f a → From f b → From f (or_else a b)
  unfolding or_else
  from_either f None b h k = k
  from_either f (Some a) b h k = h

  from_agree : (f : Index → Option ℕ) (a b : Option ℕ)
      → ((w v : ℕ) → agree eqb (f (p w).list) (f (p v).list) ≡ true) → From f a → From f b → agree eqb a b ≡ true
  unfolding agree
  from_agree f a b g h k =
      ⊎_elim (λ e. rw e refl) (λ e. ⊎_elim (λ e'. rw e' (agree_none eqb a))
      (λ e'. rw (e.1, e'.1) (g e.0 e'.0)) k) h

  abbrev image_of : Index → Option ℕ
  image_of x = x.image

  abbrev print_of : Index → Option ℕ
  print_of x = stated x.fingerprint

  record Ready (q : Place) : Type 0 where
    three : question3 q.room q.list ≡ true
    image : From image_of q.list.image
    print : From print_of (stated q.list.fingerprint)

  ready_merge : (own other : Place) → Ready own → Ready other → Ready (answered own (merge_into own other))
  unfolding merge after answered
  ready_merge own other h k =
      test (eqb (merge_refusal own other) 0)
      (λ e. rw e
      (record {
        three = merged_three own.list other.list own.room h.three;
        image = unfold merged in from_either image_of own.list.image other.list.image h.image k.image;
        print = unfold merged in rw merged_stated
            (from_either print_of (stated own.list.fingerprint) (stated other.list.fingerprint) h.print
            k.print);
      }))
      (λ e. rw e h)

  ready_limited : (limit : ℕ) (q : Place) → Ready q → Ready (record { list = limited limit q.list; room = q.room })
  ready_limited limit q h =
      record {
        three = limited_three limit q.list q.room h.three;
        image = unfold limited in inl refl;
        print = unfold limited in rw unmarked_stated h.print;
      }

  AllReady : State → Type 0
  AllReady s = (k : ℕ) → Ready (s.now k)

  load_ready : (limit : ℕ) (s : State) (o : Option Saved) → Good s → JustOk s.now o → AllReady s
      → AllReady (load_into R.area limit s o)
  unfolding load_into AllReady
  load_ready limit s None g j r k = r k
  load_ready limit s (Some b) g j r k =
      let e = loaded limit (s.now b.place) (g.places b.place).from_r j.1 in
      test (eqb k b.place) (λ t. rw t (rw (j.0, e) (ready_limited limit (s.now b.place) (r b.place))))
      (λ t. rw t (r k))

  step_ready : (c : Call) (s : State) → Good s → AllReady s → AllReady (step R.area c s)
  unfolding AllReady step
  step_ready (merge_call i j) s g r k = test (eqb k i) (λ e. rw e (ready_merge (s.now i) (s.now j) (r i) (r j)))
      (λ e. rw e (r k))
  step_ready (save_call i out) s g r k = r k
  step_ready (load_call limit) s g r k = load_ready limit s s.just g g.just r k

  run_ready : (cs : List Call) (s : State) → Good s → AllReady s → AllReady (run R.area cs s)
  unfolding run
  run_ready [] s g r = r
  run_ready (c ∷ cs) s g r = run_ready cs (step R.area c s) (step_good c s g) (step_ready c s g r)

  none_refused_of : ((i : ℕ) → question3 (p i).room (p i).list ≡ true)
      → ((i j : ℕ) → question42 (p i).list (p j).list ≡ true)
      → (cs : List Call) (i j : ℕ) → merge_refusal ((after_calls R p cs).now i) ((after_calls R p cs).now j) ≡ 0
  unfolding AllReady question42
  none_refused_of t q cs i j =
      let r = run_ready cs (begin p) start_good (λ k. record
      { three = t k; image = inr (k, refl); print = inr (k, refl) }) in
      let x = ((after_calls R p cs).now i).list in let y = ((after_calls R p cs).now j).list in
      (outcome cs i).joins j (r i).three (r j).three
      (→all _ (
        from_agree image_of x.image y.image (λ w v. (all→ _ (q w v)).0) (r i).image (r j).image,
        (
          from_agree print_of (stated x.fingerprint) (stated y.fingerprint) (λ w v. (all→ _ (q w v)).1.0)
              (r i).print (r j).print,
          tt,
        ),
      ))

pub outcomes : Outcomes
outcomes R p cut cs i = outcome R p cut cs i

pub parts_agree : PartsAgree
parts_agree R p q c d cs ds i j a b la lb e = (outcomes R p c cs i).cut.parts a la ∙ ap R.part e
    ∙ sym ((outcomes R q d ds j).cut.parts b lb)

pub none_refused : NoneRefused
none_refused R p cut t q cs i j = none_refused_of R p cut t q cs i j

pub parts_by_rule : PartsByRule
parts_by_rule R p cut cs c = parts_left R p cut c (after_calls R p cs) (run_good R p cut cs _ (start_good R p cut))

pub demand3 : Demand3
demand3 =
    record {
      outcomes = outcomes;
      parts_by_rule = parts_by_rule;
      parts_agree = parts_agree;
      none_refused = none_refused;
      jump = jump_not_back;
    }
