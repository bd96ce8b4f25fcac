-- What a merged list can lack of the two. Assumes nothing.
use Rattle.std.specs.Prelude.{Option, None, Some}
use mathlib.Core.Path.{◌≡◌, refl, sym, ap, subst, ◌∙◌}
use mathlib.Core.Bool.{Bool, true, false, not, ◌&&◌, cond}
use mathlib.Core.List.{List, [], ◌∷◌}
use Prim.Native.Nat.{ℕ, ◌-◌, ◌≤◌}
use native.Mathlib.Omega.{arith}
use lib.Dec.{ltb}
use lib.ListN.{length, get_or, length-append}
use borrow.Author.Tests.{ltb-true, ltb-false, le-ltb}
use Rattle.rules.specs.declared.Fingerprint.{Fingerprint}
use Rattle.rules.specs.declared.Fingerprint.TheVariants.{Unknown, Checked}
use Rattle.rules.specs.declared.Fingerprint.TheVariants as fingerprint
use Rattle.rules.specs.declared.Held.{Held}
use Rattle.rules.specs.PartRule.{Stored, Piece, opens, stores, part_of, opened, grown, add_part, piece, add_parts}
use Rattle.rules.specs.Tests.{is_some, or_else}
use Rattle.rules.specs.Values.{Frame, Scan, Index, no_held, count, complete, stated}
use Rattle.rules.specs.Merge.{further, merged_scan, held_from, merged_fingerprint, merged, merge_number, merge}
use Rattle.rules.proofs.Tests.{test, never, choose, accepted→}
use Rattle.laws.proofs.hint_lists.Calls.{taken, merged_numbers}
use Rattle.theorems.specs.Useful.{MergeOf}
use Rattle.theorems.proofs.Jump.{Joinable, joinable}
use Rattle.theorems.proofs.Useful.{merge_takes}
use Rattle.rules_lacks.specs.Lacks.{covers, same_part, lacking}
use Rattle.rules_lacks.proofs.Laws.{Found, →covers, →same_part, none_missing}
use Rattle.theorems.specs.Lacks.{MergeLacks}
use Rattle.laws.proofs.hint_lists.Closure.{merged_known}

-- ---- nothing of a kind
none_more : (n m : ℕ) → m ≤ n → m - n ≡ 0
none_more n m l = omega arith

known_none : (a b : Bool) → (a ≡ true → b ≡ true) → (a && not b) ≡ false
known_none true b f = rw (f refl)
known_none false b f = refl

-- ---- the fingerprint and the image id
stated_other : (f g : Fingerprint) → is_some (stated g) ≡ true → is_some (stated (merged_fingerprint f g)) ≡ true
unfolding stated is_some merged_fingerprint held_from
stated_other Unknown Unknown e = e
stated_other Unknown (fingerprint.Held v) e = refl
stated_other Unknown (Checked v) e = refl
stated_other (fingerprint.Held v) g e = refl
stated_other (Checked v) g e = refl

else_own : (o p : Option ℕ) → is_some o ≡ true → is_some (or_else o p) ≡ true
unfolding is_some or_else
else_own None p e = never {b = false} e refl
else_own (Some v) p e = refl

else_other : (o p : Option ℕ) → is_some p ≡ true → is_some (or_else o p) ≡ true
unfolding is_some or_else
else_other None p e = e
else_other (Some v) p e = refl

-- ---- no part is lost
add_grows : (budget : ℕ) (h : Stored) (p : Piece) → length h.parts ≤ length (add_part budget h p).parts
unfolding add_part
add_grows budget h p =
    choose (λ (z : Stored). length h.parts ≤ length z.parts) (stores budget h p)
    (cond (opens h p) (opened h p) (grown h p)) h
    (λ e. choose (λ (z : Stored). length h.parts ≤ length z.parts) (opens h p) (opened h p) (grown h p)
    (λ d. omega (arith, length-append h.parts (part_of p (length h.frames) ∷ [])))
    (λ d. omega (arith, length-append h.parts (part_of p (length h.frames - 1) ∷ []))))
    (λ e. omega arith)

adds_grow : (budget : ℕ) (fs : List Frame) (n : ℕ) (ps : List Held) (h : Stored)
    → length h.parts ≤ length (add_parts budget fs n ps h).parts
unfolding add_parts
adds_grow budget fs n [] h = omega arith
adds_grow budget fs n (p ∷ ps) h =
    let w = cond (ltb p.at n) h (add_part budget h (piece fs p)) in
    let a : length h.parts ≤ length w.parts =
    choose (λ (z : Stored). length h.parts ≤ length z.parts) (ltb p.at n) h (add_part budget h (piece fs p))
    (λ e. omega arith) (λ e. add_grows budget h (piece fs p)) in
    omega (arith, a, adds_grow budget fs n ps w)

merged_longer : (own other : Scan) → length own.parts ≤ length (merged_scan own other).parts
unfolding merged_scan
merged_longer own other =
    test (further own other) (λ f. rw f (adds_grow own.budget other.frames (count own) other.parts
    (record { frames = own.frames; parts = own.parts }))) (λ f. rw f (omega arith))

-- ---- the scan
module _ (own other y : Scan) (j : Joinable own other) (m : MergeOf own other y)
    (longer : length own.parts ≤ length y.parts) where
  counts_own : count own ≤ count y
  counts_own =
      test (further own other)
      (λ f. let l = j.longer f in let e = ap length (m.taken f).0.checkpoints in omega arith)
      (λ f. let e = ap count (m.same f) in omega arith)

  counts_other : count other ≤ count y
  counts_other =
      let o = counts_own in
      test (ltb (count own) (count other)) (λ e. let c = ap length (m.longer (ltb-true (count own) (count other) e))
      in omega arith)
      (λ e. let l = ltb-false (count own) (count other) e in omega arith)

  complete_own : complete own ≡ true → complete y ≡ true
  unfolding further
  complete_own e = let f : further own other ≡ false = rw e in ap complete (m.same f) ∙ e

  parts_own : covers (same_part y.frames own.frames) y.parts own.parts ≡ true
  parts_own =
      →covers no_held (same_part y.frames own.frames) y.parts own.parts
      (λ i l.
      test (further own other)
      (λ f.
      let a = (m.parts f).older i l in
      record {
        place = i;
        inside = omega arith;
        holds = →same_part y.frames own.frames _ _
            (ap (λ p. p.at) a.part) a.content;
      })
      (λ f.
      let e = m.same f in
      subst (λ (z : Scan). Found no_held (λ x. same_part z.frames own.frames x (get_or own.parts i no_held))
      z.parts) (sym e)
      (record { place = i; inside = l; holds = →same_part own.frames own.frames _ _ refl refl })))

-- ---- all of it
pub merge_lacks : MergeLacks
unfolding lacking merge merged
merge_lacks l m own other y e =
    let r = accepted→ (merge_number l own m other) (merged own other) y e in
    let t = joinable l m own other (taken l m own other r.0) in
    let o = (merge_takes l m own other y e).scan in
    let w : length own.scan.parts ≤ length y.scan.parts =
    subst (λ (z : Index). length own.scan.parts ≤ length z.scan.parts) r.1
    (merged_longer own.scan other.scan) in
    let n = merged_numbers own.scan other.scan in
    let f : merged_fingerprint own.fingerprint other.fingerprint
    ≡ y.fingerprint = ap (λ (z : Index). z.fingerprint) r.1 in
    let i : or_else own.image other.image ≡ y.image = ap (λ (z : Index). z.image) r.1 in
    let b : y.scan.budget ≡ own.scan.budget = sym (ap (λ (z : Index). z.scan.budget) r.1) ∙ n.2 in
    let h : own.hinting.most ≡ y.hinting.most = ap (λ (z : Index). z.hinting.most) r.1 in
    record {
      checkpoints = none_more _ _ (counts_own own.scan other.scan y.scan t o w);
      ending = known_none _ _ (complete_own own.scan other.scan y.scan t o w);
      parts = none_missing _ _ _ (parts_own own.scan other.scan y.scan t o w);
      fingerprint = known_none _ _ (λ z. ap (λ (g : Fingerprint). is_some (stated g)) (sym f)
          ∙ merged_known own.fingerprint other.fingerprint z);
      image = known_none _ _ (λ z. ap is_some (sym i) ∙ else_own own.image other.image z);
      budget = rw b (le-ltb own.scan.budget own.scan.budget (omega arith));
      most = rw (← h) (le-ltb own.hinting.most own.hinting.most (omega arith));
      checkpoints' = none_more _ _ (counts_other own.scan other.scan y.scan t o w);
      ending' = known_none _ _ o.complete;
      fingerprint' = known_none _ _ (λ z. ap (λ (g : Fingerprint). is_some (stated g)) (sym f)
          ∙ stated_other own.fingerprint other.fingerprint z);
      image' = known_none _ _ (λ z. ap is_some (sym i) ∙ else_other own.image other.image z);
      budget' = rw b;
      most' = rw (← h);
    }
