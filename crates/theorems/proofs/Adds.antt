-- Nothing is named exactly where a merge leaves the own list as it is. Assumes nothing.
use mathlib.Core.Path.{◌≡◌, refl, sym, ap, ap₂, ◌∙◌}
use mathlib.Core.Bool.{Bool, true, false, ◌&&◌, not}
use mathlib.Core.List.{List}
use Prim.Native.Nat.{ℕ}
use borrow.Author.Tests.{eqb-true}
use lib.Dec.{eqb}
use Rattle.rules.specs.Tests.{Answer, Accepted}
use Rattle.rules.specs.Values.{Scan, Index, Lengths, same_checkpoint, same_end}
use Rattle.rules.specs.Questions.{question1, question2, question3, question4}
use Rattle.rules.specs.Plan.{plan, bytes_at}
use Rattle.rules_jump.specs.Names.{named_hint}
use Rattle.rules.specs.Merge.{merged_scan, merged, merge_number, merge}
use Rattle.rules.specs.File.{over, has_hinting, version_of, header_of, hint_section, confirmed_section, body_of, saved}
use Rattle.rules.proofs.Tests.{both, and_left, and_right, all→, →all, accepted→, accepted_eq, →after}
use Rattle.rules.proofs.Same.{eqb_self, same_checkpoint_self, same_checkpoint_eq, same_end_self, same_end_eq}
use Rattle.rules_lacks.specs.Lacks.{equal_hint}
use Rattle.rules_lacks.proofs.Laws.{equal_hint_self, equal_hint_eq}
use Rattle.adds.specs.Adds.{same_list, same_confirmation, same_frame, same_held, brings_of, brings}
use Rattle.adds.proofs.compare.Same.{same_list_self, same_list_eq, same_confirmation_self, same_confirmation_eq}
use Rattle.tables.specs.Index.{Tables, room_of, room_in, index_in, kinds_in, kinded, store_of}
use Rattle.index.specs.Steps.{Passes, held_question4}
use Rattle.index.proofs.Lent.{put_back}
use Rattle.plan.specs.Plan.{plan_in}
use Rattle.hint.specs.Hint.{hint_in}
use Rattle.rules.specs.declared.Brings.{Brings}
use Rattle.theorems.specs.Adds.{none_but_image, none_named, NothingNamed, OnlyImageNamed, NothingNamedInTables, OnlyImageNamedInTables}
use Rattle.theorems.proofs.MergeInTables.{kinded→, Left, merge_left}
use Rattle.theorems.proofs.TableRun.{kinds_pass}
use Rattle.adds.proofs.Same.{same_known_self, same_known_eq, same_frame_self, same_frame_eq, same_held_self, same_held_eq, same_fingerprint_self, same_fingerprint_eq}
use Rattle.laws.proofs.hint_lists.Calls.{merged_numbers}

same_of : {a : Bool} → not (not a) ≡ true → a ≡ true
same_of {a} e = twice a e
  where
    twice : (a : Bool) → not (not a) ≡ true → a ≡ true
    twice true e = refl
    twice false e = e

-- ---- nothing but the image id
module _ (own other : Index) (e : none_but_image (brings_of own (merged own other)) ≡ true) where
  pub scan_same : (merged own other).scan ≡ own.scan
  unfolding none_but_image brings_of merged
  scan_same =
      let x = merged_scan own.scan other.scan in
      let t = all→ _ e in
      let e0 : x.area ≡ own.scan.area = (merged_numbers own.scan other.scan).0 in
      let e1 : x.interval ≡ own.scan.interval = (merged_numbers own.scan other.scan).1 in
      let e2 : x.budget ≡ own.scan.budget = (merged_numbers own.scan other.scan).2 in
      let e3 : own.scan.checkpoints ≡ x.checkpoints = same_list_eq same_checkpoint same_checkpoint_eq _ _
      (same_of t.0) in
      let e4 : own.scan.ending ≡ x.ending = same_known_eq same_end same_end_eq _ _ (same_of t.1.0) in
      let p : (same_list same_frame own.scan.frames x.frames && same_list same_held own.scan.parts x.parts)
      ≡ true = same_of t.1.1.0 in
      let e5 : own.scan.frames ≡ x.frames = same_list_eq same_frame same_frame_eq _ _
      (and_left _ (same_list same_held own.scan.parts x.parts) p) in
      let e6 : own.scan.parts ≡ x.parts = same_list_eq same_held same_held_eq _ _
      (and_right (same_list same_frame own.scan.frames x.frames) _ p) in
      let e7 : own.scan.malformed ≡ x.malformed = same_list_eq eqb eqb-true _ _ (same_of t.1.1.1.0) in
      let f3 = sym e3 in let f4 = sym e4 in let f5 = sym e5 in let f6 = sym e6 in let f7 = sym e7 in
      λ i. record {
        area = e0 i;
        interval = e1 i;
        budget = e2 i;
        checkpoints = f3 i;
        frames = f5 i;
        parts = f6 i;
        ending = f4 i;
        malformed = f7 i;
      }

  pub hinting_same : (merged own other).hinting ≡ own.hinting
  unfolding none_but_image brings_of merged
  hinting_same =
      let x = (merged own other).hinting in
      let t = all→ _ e in
      let e0 : own.hinting.hints ≡ x.hints = same_list_eq equal_hint equal_hint_eq _ _ (same_of t.1.1.1.1.0) in
      let e1 : own.hinting.confirmed ≡ x.confirmed = same_list_eq same_confirmation same_confirmation_eq _ _
      (same_of t.1.1.1.1.1.0) in
      let f0 = sym e0 in let f1 = sym e1 in
      λ i. record { spacing = own.hinting.spacing; most = own.hinting.most; hints = f0 i; confirmed = f1 i }

  pub fingerprint_same : (merged own other).fingerprint ≡ own.fingerprint
  unfolding none_but_image brings_of merged
  fingerprint_same = let t = all→ _ e in sym (same_fingerprint_eq _ _ (same_of t.1.1.1.1.1.1.0))

-- ---- nothing at all
module _ (own other : Index) where
  none_same : none_named (brings_of own (merged own other)) ≡ true → merged own other ≡ own
  unfolding none_named brings_of
  none_same e =
      let t = all→ _ e in
      let e0 = scan_same own other t.0 in
      let e1 = hinting_same own other t.0 in
      let e2 = fingerprint_same own other t.0 in
      let e3 = image_same t.1.0 in
      λ i. record { scan = e0 i; hinting = e1 i; fingerprint = e2 i; image = e3 i }
    where
      image_same : not (brings_of own (merged own other)).image ≡ true → (merged own other).image ≡ own.image
      image_same h = sym (same_known_eq eqb eqb-true _ _ (same_of h))

  same_none : merged own other ≡ own → none_named (brings_of own (merged own other)) ≡ true
  unfolding none_named none_but_image brings_of
  same_none e =
      rw (
        e,
        same_list_self same_checkpoint same_checkpoint_self own.scan.checkpoints,
        same_known_self same_end same_end_self own.scan.ending,
        same_list_self same_frame same_frame_self own.scan.frames,
        same_list_self same_held same_held_self own.scan.parts,
        same_list_self eqb eqb_self own.scan.malformed,
        same_list_self equal_hint equal_hint_self own.hinting.hints,
        same_list_self same_confirmation same_confirmation_self own.hinting.confirmed,
        same_fingerprint_self own.fingerprint,
        same_known_self eqb eqb_self own.image,
      ) (→all _ (→all _ (refl, (refl, (refl, (refl, (refl, (refl, (refl, tt))))))), (refl, tt)))

pub nothing_named : NothingNamed
unfolding brings merge
nothing_named l m own other b e =
    let r = accepted→ (merge_number l own m other) (brings_of own (merged own other)) b e in (
      λ h. →after r.0 (ap Accepted (none_same own other (rw r.1 h))),
      λ h. rw (← r.1) (same_none own other (accepted→ (merge_number l own m other) (merged own other) own h).1),
    )

-- all but the image id
record ButImage (own x : Index) : Type 0 where
  scan : x.scan ≡ own.scan
  hinting : x.hinting ≡ own.hinting
  fingerprint : x.fingerprint ≡ own.fingerprint

but_image : (l m : Lengths) (own other x : Index) (b : Brings) → brings l own m other ≡ Accepted b → none_but_image b
    ≡ true → merge l own m other ≡ Accepted x
    → ButImage own x
unfolding brings merge
but_image l m own other x b e h g =
    let r = accepted→ (merge_number l own m other) (brings_of own (merged own other)) b e in
    let z = (accepted→ (merge_number l own m other) (merged own other) x g).1 in
    let k : none_but_image (brings_of own (merged own other)) ≡ true = rw r.1 h in
    record {
      scan = rw (← z) (scan_same own other k);
      hinting = rw (← z) (hinting_same own other k);
      fingerprint = rw (← z) (fingerprint_same own other k);
    }

-- no byte of a file depends on it
same_file : (own x : Index) → ButImage own x → saved x ≡ saved own
unfolding saved body_of header_of hint_section confirmed_section version_of has_hinting
same_file own x b = rw (b.scan, b.hinting, b.fingerprint)

pub only_image_named : OnlyImageNamed
unfolding plan named_hint question1 question2 question3 question4
only_image_named l m own other x b e h g =
    let s = but_image l m own other x b e h g in
    record {
      plans = λ first. rw (s.scan, s.hinting, s.fingerprint);
      starts = λ first. rw s.scan;
      parts = λ p. rw s.scan;
      hints = λ first end playtime. rw (s.scan, s.hinting, s.fingerprint);
      file = same_file own x s;
    }

-- ---- in tables
pub nothing_named_in_tables : NothingNamedInTables
nothing_named_in_tables x t y u b z t' a c e m =
    let own = index_in x t in
    let l = merge_left x t y u z t' a c m in
    let k = (kinded→ (kinds_in x t && kinds_in y u) (brings (room_of t) own (room_of u) (index_in y u)) b e).1 in
    let n = nothing_named (room_of t) (room_of u) own (index_in y u) b k in (
      λ h. l.stands ∙ accepted_eq l.list own (sym l.accepted ∙ n.0 h),
      λ h. n.1 (l.accepted ∙ ap Accepted (sym l.stands ∙ h)),
    )

pub only_image_named_in_tables : OnlyImageNamedInTables
unfolding plan_in hint_in question1 question2 room_in held_question4
only_image_named_in_tables x t y u b z t' a c e m h =
    let own = index_in x t in
    let l = merge_left x t y u z t' a c m in
    let k = (kinded→ (kinds_in x t && kinds_in y u) (brings (room_of t) own (room_of u) (index_in y u)) b e).1 in
    let i = but_image (room_of t) (room_of u) own (index_in y u) l.list b k h l.accepted in
    let s = only_image_named (room_of t) (room_of u) own (index_in y u) l.list b k h l.accepted in
    let o = and_left (kinds_in x t) (kinds_in y u) l.both in
    let pass : Passes x t = record {
      roomy = record
          { area = l.own.one; numbers = l.own.two; room = l.own.three };
      held = both l.own.four o;
    } in
    let store : t'.store ≡ t.store =
    ap (λ (v : Tables). v.store) (sym l.tables) ∙ ap (λ (v : Scan). over (store_of v.frames) t.store) i.scan
    ∙ ap (λ (v : Tables). v.store) (put_back pass a.bytes) in
    record {
      plans = λ first. through l o (λ n v. plan n v first) (s.plans first);
      parts = λ offset len. ap (λ (v : List ℕ). bytes_at v offset len) store;
      hints = λ first end playtime. through l o (λ n v. named_hint n v first end playtime) (s.hints first end playtime);
      file = ap saved l.stands ∙ s.file;
    }
  where
    through : {A : Type 0} → (l : Left x t y u z t') → kinds_in x t ≡ true → (call : Lengths → Index → Answer A)
        → call (room_of t) l.list ≡ call (room_of t) (index_in x t)
        → kinded (kinds_in z t') (call (room_of t') (index_in z t')) ≡ kinded (kinds_in x t) (call (room_of t) (index_in x t))
    through l o call q =
        kinds_pass (kinds_in z t') _ l.kinds ∙ ap₂ call l.room l.stands ∙ q ∙ sym (kinds_pass (kinds_in x t) _ o)
