-- The own list does all that the other does, where nothing is lacking. Assumes nothing.
use Rattle.std.specs.Prelude.{Option, None, Some}
use mathlib.Core.Path.{◌≡◌, refl, sym, ap, subst, ◌∙◌}
use mathlib.Core.Bool.{Bool, true, false}
use mathlib.Core.List.{List, [], ◌∷◌}
use Prim.Native.Nat.{ℕ, ◌<◌, ◌≤◌}
use native.Mathlib.Omega.{arith}
use lib.Dec.{leb, eqb}
use lib.ListN.{length, get_or, take}
use lib.Seq.{get_or-take}
use borrow.Author.Tests.{eqb-true, leb-true}
use Rattle.rules.specs.declared.Area.{Area}
use Rattle.rules.specs.declared.Checkpoint.{Checkpoint}
use Rattle.rules.specs.declared.EndState.{EndState}
use Rattle.rules.specs.declared.Hint.{Hint}
use Rattle.rules.specs.declared.Plan.{Plan}
use Rattle.rules.specs.Tests.{is_some, agree, agrees}
use Rattle.rules.specs.Values.{Scan, Index, Lengths, no_checkpoint, no_held, no_hint, no_confirmation, checkpoint_at, boundaries, count, stated, same_checkpoint, same_end}
use Rattle.rules.specs.Questions.{area_ok, question1, question2, question4}
use Rattle.rules.specs.Merge.{question41, question42, question43}
use Rattle.rules.specs.Plan.{last_not_above, plan_from, plan_or, planned, start_of, jump}
use Rattle.rules.specs.Run.{Content, content_of}
use Rattle.rules.proofs.Tests.{test, never, and_left, and_right, all→}
use Rattle.rules.proofs.Same.{same_area_eq, same_checkpoint_eq, same_end_eq}
use Rattle.laws.proofs.scans.Record.{interval_pos}
use Rattle.laws.proofs.scans.Scans.{scan_of, scan→}
use Rattle.rules_lacks.specs.Lacks.{same_part, same_hint, confirms_also}
use Rattle.rules_lacks.proofs.Laws.{covers→, same_part→, same_hint_eq, confirms→}
use Rattle.theorems.specs.Terms.{Holds, stored_in}
use Rattle.theorems.specs.Hints.{Among, Stands}
use Rattle.rules.specs.Hints.{unkept_hint}
use Rattle.theorems.specs.Lacks.{Confirms, Serves, NothingLacking}
use Rattle.theorems.proofs.Jump.{place, last_grows, last_inside, last_same, plan_at}
use Rattle.theorems.proofs.lacking.Planned.{plan_names}
use Rattle.theorems.proofs.lacking.Trans.{Nothing, Asked, lacks→}

-- ---- lists that agree
-- a list that agrees with a longer one is its first part
agrees_first : {A : Type 0} (same : A → A → Bool) → ((a b : A) → same a b ≡ true → a ≡ b) → (xs ys : List A)
    → length ys ≤ length xs → agrees same xs ys ≡ true
    → ys ≡ take (length ys) xs
unfolding agrees
agrees_first same eq [] [] l e = refl
agrees_first same eq [] (y ∷ ys) l e = let z : ⊥ = omega arith in absurd z
agrees_first same eq (x ∷ xs) [] l e = refl
agrees_first same eq (x ∷ xs) (y ∷ ys) l e =
    let p = sym (eq x y (and_left (same x y) (agrees same xs ys) e)) in
    let q = agrees_first same eq xs ys (omega arith) (and_right (same x y) (agrees same xs ys) e) in λ i. p i ∷ q i

-- a value that is known where the other is, and agrees with it
known_same : {A : Type 0} (same : A → A → Bool) → ((a b : A) → same a b ≡ true → a ≡ b) → (o p : Option A)
    → (is_some p ≡ true → is_some o ≡ true)
    → agree same o p ≡ true → (v : A) → p ≡ Some v → o ≡ Some v
unfolding agree is_some
known_same same eq None None f a v e = e
known_same same eq None (Some y) f a v e = never {b = false} (f refl) refl
known_same same eq (Some x) None f a v e = never {b = false} (ap is_some e) refl
known_same same eq (Some x) (Some y) f a v e = ap Some (eq x y a) ∙ e

-- ---- where a jump starts
-- the end state, where only the own list may have one
plan_order : (a : Area) (t : ℕ) (e d : Option EndState) (p q : Plan) → ((v : EndState) → d ≡ Some v → e ≡ Some v)
    → start_of a q ≤ start_of a p → start_of a q ≤ a.end
    → start_of a (plan_or t d q) ≤ start_of a (plan_or t e p)
unfolding plan_or start_of
plan_order a t None None p q f l s = l
plan_order a t (Some v) None p q f l s = test (leb v.threshold t) (λ w. rw w s) (λ w. rw w l)
plan_order a t e (Some u) p q f l s =
    rw (f u refl) (test (leb u.threshold t) (λ w. rw w (omega arith)) (λ w. rw w l))

module _ (own other : Scan) (area : own.area ≡ other.area) (interval : own.interval ≡ other.interval)
    (pos : 1 ≤ own.interval) (spans : own.area.start ≤ own.area.end)
    (within : count other ≤ boundaries own.area own.interval) (fewer : count other ≤ count own)
    (first : other.checkpoints ≡ take (count other) own.checkpoints)
    (ending : (e : EndState) → other.ending ≡ Some e → own.ending ≡ Some e) where
  abbrev a : Area
  a = own.area

  jump_scan : (t : ℕ) → jump other t ≤ jump own t
  unfolding planned
  jump_scan t =
      let n = count other in
      let same : last_not_above t other.checkpoints n ≡ last_not_above t own.checkpoints n =
      last_same t other.checkpoints own.checkpoints n
      (λ i l. ap (λ (cs : List Checkpoint). checkpoint_at cs i) first
      ∙ get_or-take n own.checkpoints i no_checkpoint l) in
      let p = plan_from own (last_not_above t own.checkpoints (count own)) in let q = plan_from other
      (last_not_above t other.checkpoints n) in
      let theirs : start_of a q ≡ place a own.interval t (last_not_above t own.checkpoints n) =
      ap (λ (z : Area). start_of z q) area ∙ plan_at other (last_not_above t other.checkpoints n)
      ∙ rw (← area, ← interval, same) in
      let mine : start_of a p ≡ place a own.interval t (last_not_above t own.checkpoints (count own)) = plan_at
      own _ in
      subst (λ (z : Area). start_of z (plan_or t other.ending q) ≤ start_of a (plan_or t own.ending p)) area
      (plan_order a t own.ending other.ending p q ending
      (rw (theirs, mine) (last_grows a own.interval t own.checkpoints n (count own) fewer))
      (rw theirs (last_inside a own.interval t own.checkpoints n pos spans within)))

-- ---- parts, hints, confirmations
parts_held : (own other : Scan) → (h : (i : ℕ) → i < length other.parts
    → Holds (stored_in own) (get_or other.parts i no_held).at
    (content_of other.frames (get_or other.parts i no_held)))
    → (j : ℕ) (c : Content) → Holds (stored_in other) j c → Holds (stored_in own) j c
parts_held own other h j c o =
    let w = h o.place o.inside in
    record {
      place = w.place;
      inside = w.inside;
      checkpoint = w.checkpoint ∙ o.checkpoint;
      content = w.content ∙ o.content;
    }

module _ (own other : Index) (n : Nothing own other) where
  each_part : (i : ℕ) → i < length other.scan.parts
      → Holds (stored_in own.scan) (get_or other.scan.parts i no_held).at
      (content_of other.scan.frames (get_or other.scan.parts i no_held))
  each_part i l =
      let f = covers→ no_held (same_part own.scan.frames other.scan.frames) own.scan.parts
      other.scan.parts n.parts i l in
      let s = same_part→ own.scan.frames other.scan.frames _ _ f.holds in
      record { place = f.place; inside = f.inside; checkpoint = s.0; content = s.1 }

  each_hint : (h : Hint) → Among other.hinting.hints h → Stands own.hinting.hints h
  each_hint h o =
      let f = covers→ no_hint same_hint own.hinting.hints other.hinting.hints n.hints o.place o.inside in
      record { place = f.place; inside = f.inside; holds = same_hint_eq _ _ f.holds ∙ ap unkept_hint o.holds }

  each_confirmed : (i : ℕ) → i < length other.hinting.confirmed
      → Confirms own.hinting.confirmed (get_or other.hinting.confirmed i no_confirmation)
  each_confirmed i l =
      let f = covers→ no_confirmation confirms_also own.hinting.confirmed other.hinting.confirmed
      n.confirmed i l in
      let s = confirms→ _ _ f.holds in
      record { place = f.place; inside = f.inside; lsn = s.lsn; digest = s.digest; threshold = s.threshold }

-- ---- all of it
serves : (l m : Lengths) (own other : Index) → Asked l own m other → Nothing own other → Serves own other
unfolding question1 question2 question41 question42 question43 area_ok
serves l m own other s n =
    let q41 = all→ _ s.q41 in let q42 = all→ _ s.q42 in let q43 = all→ _ s.q43 in
    let e : own.scan.area ≡ other.scan.area = same_area_eq _ _ q41.0 in
    let k : own.scan.interval ≡ other.scan.interval = eqb-true _ _ q41.1.0 in
    let first : other.scan.checkpoints ≡ take (count other.scan) own.scan.checkpoints =
    agrees_first same_checkpoint same_checkpoint_eq own.scan.checkpoints other.scan.checkpoints
    n.checkpoints q43.0 in
    let ending : (v : EndState) → other.scan.ending ≡ Some v → own.scan.ending ≡ Some v =
    known_same same_end same_end_eq own.scan.ending other.scan.ending n.ending q43.1.0 in
    let ok = scan→ other.scan (scan_of other (and_right (question4 own) (question4 other) s.four)) in
    let mine = scan→ own.scan (scan_of own (and_left (question4 own) (question4 other) s.four)) in
    let w = ok.stretch.within in
    let pos = interval_pos own.scan.interval own.scan.budget
    (and_left (question2 own) (question2 other) s.two) in
    let spans = leb-true _ _ (all→ _ (and_left (question1 own) (question1 other) s.one)).1.0 in
    record {
      starts =
          jump_scan own.scan other.scan e k pos spans
          (rw (e, k) (let z : count other.scan ≤ boundaries other.scan.area other.scan.interval = omega
          arith in z)) n.checkpoints first ending;
      checkpoints = first;
      ending = ending;
      complete = n.ending;
      parts = parts_held own.scan other.scan (each_part own other n);
      plans = plan_names own.scan other.scan mine ok n.parts;
      hints = each_hint own other n;
      confirmed = each_confirmed own other n;
      fingerprint = known_same eqb eqb-true (stated own.fingerprint) (stated other.fingerprint)
          n.fingerprint q42.1.0;
    }

pub nothing_lacking : NothingLacking
nothing_lacking l m own other x e h = let p = lacks→ l m own other x e h in serves l m own other p.0 p.1
