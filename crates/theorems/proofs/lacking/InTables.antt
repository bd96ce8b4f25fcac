-- The statements over lent tables. Assumes nothing.
use Rattle.std.specs.Prelude.{Some}
use mathlib.Core.Path.{◌≡◌, refl, sym, ap, subst, ◌∙◌}
use mathlib.Core.Bool.{true, ◌&&◌}
use mathlib.Core.List.{List}
use Prim.Native.Nat.{ℕ, ◌≤◌}
use lib.ListN.{drop}
use Rattle.rules.specs.declared.AreaIndex.{AreaIndex}
use Rattle.rules.specs.declared.Area.{Area}
use Rattle.rules.specs.declared.Plan.{Plan}
use Rattle.rules.specs.declared.Plan.TheVariants.{At}
use Rattle.rules.specs.Tests.{Accepted}
use Rattle.rules.specs.Values.{used}
use Rattle.rules.specs.Plan.{planned, start_of, bytes_at}
use Rattle.rules.specs.Merge.{question41, merged}
use Rattle.rules_jump.specs.Names.{named_hint}
use Rattle.rules_jump.proofs.Values.{named_some, some_named}
use Rattle.rules.proofs.Tests.{both, and_left, and_right, all→, after→, accepted→, →after}
use Rattle.adds.specs.Adds.{brings_of, brings}
use Rattle.rules.proofs.Same.{same_area_eq}
use Rattle.tables.specs.Index.{Tables, room_of, index_in, kinds_in, refusal}
use Rattle.index.specs.Steps.{Passes}
use Rattle.index.proofs.Questions.{passes}
use Rattle.index.proofs.Lent.{store_is}
use Rattle.plan.specs.Plan.{plan_in}
use Rattle.plan.proofs.Steps.{answer_is}
use Rattle.hint.specs.Hint.{hint_in}
use Rattle.rules_lacks.specs.Lacks.{lacks}
use Rattle.theorems.proofs.MergeInTables.{kinded→, merge_left}
use Rattle.theorems.specs.LacksInTables.{NothingLackingInTables, LacksHintInTables, LacksTransInTables, LacksAddsInTables, MergeLacksInTables, MergeMalformedInTables}
use Rattle.theorems.proofs.Adds.{only_image_named_in_tables}
use Rattle.theorems.proofs.lacking.Trans.{→asked, lacks→, lacks_trans}
use Rattle.theorems.proofs.lacking.Brought.{lacks_brings}
use Rattle.theorems.proofs.lacking.Serves.{nothing_lacking}
use Rattle.theorems.proofs.lacking.HintPlace.{lacks_hint}
use Rattle.theorems.proofs.lacking.MergeLacks.{merge_lacks}
use Rattle.theorems.proofs.lacking.MergeLeft as left
use Rattle.theorems.proofs.lacking.Malformed.{merge_malformed}
use Rattle.theorems.proofs.TableRun.{kinds_pass}

-- a plan that is accepted in tables
record Plans (x : AreaIndex) (t : Tables) (f : ℕ) (p : Plan) : Type 0 where
  passed : Passes x t
  is : planned (index_in x t).scan f ≡ p

plans→ : (x : AreaIndex) (t : Tables) (f : ℕ) (p : Plan) → plan_in x t f ≡ Accepted p → Plans x t f p
plans→ x t f p e =
    let n = after→ (refusal x t) _ p (sym (answer_is x t f refl) ∙ e) in
    record { passed = passes x t n.0; is = (accepted→ _ _ p n.1).1 }

areas : (x : AreaIndex) (t : Tables) (y : AreaIndex) (u : Tables) → question41 (index_in x t) (index_in y u) ≡ true
    → x.area ≡ y.area
unfolding question41
areas x t y u e = same_area_eq _ _ (all→ _ e).0

pub nothing_lacking_in_tables : NothingLackingInTables
nothing_lacking_in_tables x t y u b e h =
    let l = (kinded→ (kinds_in x t && kinds_in y u) (lacks (room_of t) (index_in x t) (room_of u) (index_in y u)) b e).1 in
    let s = nothing_lacking (room_of t) (room_of u) (index_in x t) (index_in y u) b l h in
    let a = areas x t y u (lacks→ (room_of t) (room_of u) (index_in x t) (index_in y u) b l h).0.q41 in
    record {
      lists = s;
      starts = λ f p q i j. let v = (plans→ x t f p i).is in let w = (plans→ y u f q j).is in
          subst (λ (z : Plan). start_of x.area q ≤ start_of x.area z) v
          (subst (λ (z : Plan). start_of x.area z ≤ start_of x.area (planned (index_in x t).scan f)) w
          (subst (λ (z : Area). start_of z (planned (index_in y u).scan f) ≤ start_of x.area
          (planned (index_in x t).scan f)) (sym a) (s.starts f)));
      plans = λ f r v k i j n g. let mine = plans→ x t f (At v) j in let theirs = plans→ y u f (At r) i in
          let c = s.plans f r v k theirs.is mine.is n g in let d = c.2 in
          let fs = (index_in x t).scan.frames in let gs = (index_in y u).scan.frames in (
            c.0,
            c.1,
            record {
              kind = d.kind;
              number = d.number;
              remaining = d.remaining;
              bytes =
                  ap (λ (z : List ℕ). bytes_at z c.0.offset c.0.len) (sym (store_is mine.passed))
                  ∙ d.bytes (drop (used fs) t.store) (drop (used gs) u.store)
                  ∙ ap (λ (z : List ℕ). bytes_at z k.offset k.len) (store_is theirs.passed);
            },
          );
    }

pub lacks_hint_in_tables : LacksHintInTables
unfolding hint_in
lacks_hint_in_tables x t y u b e h mark first end playtime q d =
    let k = kinded→ (kinds_in x t && kinds_in y u) (lacks (room_of t) (index_in x t) (room_of u) (index_in y u)) b e in
    let f = kinded→ (kinds_in y u) (named_hint (room_of u) (index_in y u) first end playtime) (Some q) d in
    let r = lacks_hint (room_of t) (room_of u) (index_in x t) (index_in y u) b k.1 h mark first end playtime
    q.hinted (named_some (room_of u) (index_in y u) first end playtime q f.1) in
    let p = some_named (room_of t) (index_in x t) first end playtime r.0 r.1 in (
      p.0,
      kinds_pass (kinds_in x t) (named_hint (room_of t) (index_in x t) first end playtime)
          (and_left (kinds_in x t) (kinds_in y u) k.0) ∙ p.1,
      rw p.2 r.2,
    )

pub lacks_trans_in_tables : LacksTransInTables
lacks_trans_in_tables x t y u z v b c e h f g i =
    let k = kinded→ (kinds_in x t && kinds_in y u) (lacks (room_of t) (index_in x t) (room_of u) (index_in y u)) b e in
    let m = kinded→ (kinds_in y u && kinds_in z v) (lacks (room_of u) (index_in y u) (room_of v) (index_in z v)) c f in
    let r = lacks_trans (room_of t) (room_of u) (room_of v) (index_in x t) (index_in y u) (index_in z v) b c k.1 h
    m.1 g i in
    let ok = both (and_left (kinds_in x t) (kinds_in y u) k.0) (and_right (kinds_in y u) (kinds_in z v) m.0) in (
      r.0,
      kinds_pass (kinds_in x t && kinds_in z v) (lacks (room_of t) (index_in x t) (room_of v) (index_in z v)) ok
          ∙ r.1,
      r.2,
    )

pub lacks_adds_in_tables : LacksAddsInTables
unfolding brings
lacks_adds_in_tables x t y u b z t' lx ly e h m =
    let k = kinded→ (kinds_in x t && kinds_in y u) (lacks (room_of t) (index_in x t) (room_of u) (index_in y u)) b e in
    let p = lacks→ (room_of t) (room_of u) (index_in x t) (index_in y u) b k.1 h in
    let a : brings (room_of t) (index_in x t) (room_of u) (index_in y u)
    ≡ Accepted (brings_of (index_in x t) (merged (index_in x t) (index_in y u))) =
    →after (→asked (room_of t) (room_of u) (index_in x t) (index_in y u) p.0) refl in
    only_image_named_in_tables x t y u _ z t' lx ly (kinds_pass (kinds_in x t && kinds_in y u) _ k.0 ∙ a) m
    (lacks_brings (room_of t) (room_of u) (index_in x t) (index_in y u) b _ k.1 h a)

pub merge_lacks_in_tables : MergeLacksInTables
merge_lacks_in_tables x t y u z t' a c e =
    let l = merge_left x t y u z t' a c e in
    record {
      holds = rw l.stands (merge_lacks (room_of t) (room_of u) (index_in x t) (index_in y u) l.list l.accepted);
      leaves = rw l.stands (left.merge_left (room_of t) (room_of u) (index_in x t) (index_in y u) l.list
          l.accepted);
    }

pub merge_malformed_in_tables : MergeMalformedInTables
merge_malformed_in_tables R x t y u z t' a c rising own other e =
    let l = merge_left x t y u z t' a c e in
    rw l.stands (merge_malformed R (room_of t) (room_of u) (index_in x t) (index_in y u) l.list rising own other
    l.accepted)
