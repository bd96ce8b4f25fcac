-- Held parts change where one of the other's further parts is stored. Assumes nothing.
use mathlib.Core.Path.{◌≡◌, refl, ap, ◌∙◌}
use mathlib.Core.Bool.{Bool, true, false, ◌&&◌, not, cond}
use mathlib.Core.List.{List, [], ◌∷◌}
use Prim.Native.Nat.{ℕ, ◌+◌, ◌<◌, ◌≤◌}
use native.Mathlib.Omega.{arith}
use lib.Dec.{ltb}
use lib.ListN.{length, length-append}
use Rattle.rules.specs.declared.Held.{Held}
use Rattle.rules.specs.Values.{Frame, Scan, count, used}
use Rattle.rules.specs.PartRule.{Stored, Piece, opens, stores, add_part, piece, add_parts}
use Rattle.rules.specs.Merge.{further, merged_scan}
use Rattle.rules.proofs.Tests.{test, never}
use Rattle.laws.proofs.scans.PartRule.{add_parts_skip, add_parts_add}
use Rattle.adds.specs.Adds.{same_list, same_frame, same_held}
use Rattle.adds.proofs.compare.Same.{differ, same_list_self, same_list_eq}
use Rattle.rules.specs.declared.AreaIndex.{AreaIndex}
use Rattle.tables.specs.Tables.{frames_in, parts_in}
use Rattle.parts.specs.Parts.{PartTables, stored_in}
use Rattle.parts.specs.Steps.{Lent, CountsReady}
use Rattle.adds.specs.Steps.{some_stored, PartsRead, parts_change}
use Rattle.adds.proofs.Same.{same_frame_self, same_held_self, same_held_eq}

-- ---- one part
module _ (budget : ℕ) (h : Stored) (p : Piece) where
  add_not : stores budget h p ≡ false → add_part budget h p ≡ h
  unfolding add_part
  add_not e = rw e

  add_more : stores budget h p ≡ true → length (add_part budget h p).parts ≡ length h.parts + 1
  unfolding add_part
  add_more e =
      rw e (test (opens h p) (λ f. rw f (length-append h.parts _)) (λ f. rw f (length-append h.parts _)))

  add_least : length h.parts ≤ length (add_part budget h p).parts
  add_least = test (stores budget h p) (λ e. let l = add_more e in omega arith) (λ e. rw (add_not e) (omega arith))

-- ---- each in turn
module _ (budget : ℕ) (fs : List Frame) (n : ℕ) where
  adds_nil : (h : Stored) → add_parts budget fs n [] h ≡ h
  unfolding add_parts
  adds_nil h = refl

  module _ (p : Held) (ps : List Held) (h : Stored) where
    adds_pass : ltb p.at n ≡ false → stores budget h (piece fs p) ≡ false
        → add_parts budget fs n (p ∷ ps) h ≡ add_parts budget fs n ps h
    adds_pass e f = add_parts_add budget fs n p ps h e ∙ ap (add_parts budget fs n ps) (add_not budget h (piece fs p) f)

  adds_least : (ps : List Held) (h : Stored) → length h.parts ≤ length (add_parts budget fs n ps h).parts
  adds_least [] h = rw (adds_nil h) (omega arith)
  adds_least (p ∷ ps) h =
      test (ltb p.at n) (λ e. rw (add_parts_skip budget fs n p ps h e) (adds_least ps h))
      (λ e. rw (add_parts_add budget fs n p ps h e)
      (let a = add_least budget h (piece fs p) in let b = adds_least ps (add_part budget h (piece fs p)) in omega arith))

  adds_none : (ps : List Held) (h : Stored) → some_stored budget fs n ps h ≡ false → add_parts budget fs n ps h ≡ h
  unfolding add_parts some_stored
  adds_none [] h e = refl
  adds_none (p ∷ ps) h e =
      test (ltb p.at n) (λ f. add_parts_skip budget fs n p ps h f ∙ adds_none ps h (rw f at e))
      (λ f. test (stores budget h (piece fs p)) (λ g. never {b = true} refl (rw (f, g) at e))
      (λ g. adds_pass p ps h f g ∙ adds_none ps h (rw (f, g) at e)))

  adds_some : (ps : List Held) (h : Stored) → some_stored budget fs n ps h ≡ true
      → length h.parts < length (add_parts budget fs n ps h).parts
  unfolding some_stored
  adds_some [] h e = never {b = false} e refl
  adds_some (p ∷ ps) h e =
      test (ltb p.at n) (λ f. rw (add_parts_skip budget fs n p ps h f) (adds_some ps h (rw f at e)))
      (λ f. test (stores budget h (piece fs p))
      (λ g. rw (add_parts_add budget fs n p ps h f)
      (let a = add_more budget h (piece fs p) g in let b = adds_least ps (add_part budget h (piece fs p)) in
      omega arith))
      (λ g. rw (adds_pass p ps h f g) (adds_some ps h (rw (f, g) at e))))

abbrev held_same : Stored → Stored → Bool
held_same h k = same_list same_frame h.frames k.frames && same_list same_held h.parts k.parts

held_self : (h : Stored) → held_same h h ≡ true
held_self h = rw (same_list_self same_frame same_frame_self h.frames, same_list_self same_held same_held_self h.parts)

and_no : (a b : Bool) → b ≡ false → (a && b) ≡ false
and_no true b e = e
and_no false b e = refl

held_more : (h k : Stored) → length h.parts < length k.parts → held_same h k ≡ false
held_more h k l =
    and_no (same_list same_frame h.frames k.frames) (same_list same_held h.parts k.parts)
    (differ (same_list same_held) (same_list_eq same_held same_held_eq) h.parts k.parts
    (λ z. let y : length h.parts ≡ length k.parts = ap length z in omega arith))

stored_change : (budget : ℕ) (fs : List Frame) (n : ℕ) (ps : List Held) (h : Stored)
    → not (held_same h (add_parts budget fs n ps h)) ≡ some_stored budget fs n ps h
stored_change budget fs n ps h =
    test (some_stored budget fs n ps h)
    (λ e. rw (e, held_more h (add_parts budget fs n ps h) (adds_some budget fs n ps h e)))
    (λ e. rw (e, adds_none budget fs n ps h e, held_self h))

-- ---- of a merged list
abbrev pub stored_of : Scan → Stored
stored_of x = record { frames = x.frames; parts = x.parts }

pub parts_change_lemma : (own other : Scan)
    → not (same_list same_frame own.frames (merged_scan own other).frames && same_list same_held own.parts
    (merged_scan own other).parts)
    ≡ some_stored own.budget other.frames (count own) (cond (further own other) other.parts []) (stored_of own)
unfolding merged_scan some_stored
parts_change_lemma own other =
    test (further own other)
    (λ e. rw e (stored_change own.budget other.frames (count own) other.parts (stored_of own)))
    (λ e. rw (
      e,
      same_list_self same_frame same_frame_self own.frames,
      same_list_self same_held same_held_self own.parts,
    ))

-- ---- in the tables
module _ {go : Bool} {x y : AreaIndex} {t u : PartTables} {h : ℕ} (p : PartsRead go x y t u)
    (e : h ≡ cond go y.parts 0) where
  pub parts_asked : {n : ℕ} → n ≡ used (frames_in x.frames t.frames t.store)
      → Lent y.frames h u × CountsReady x.budget (record { frames = x.frames; parts = x.parts; used = n }) t
  parts_asked {n} q = rw e (p.lent, p.ready (record { frames = x.frames; parts = x.parts; used = n }) refl refl q)

  pub parts_answered : {b : Bool}
      → b
      ≡ some_stored x.budget (frames_in y.frames u.frames u.store) x.checkpoints (parts_in h u.parts)
      (stored_in x.frames x.parts t)
      → b ≡ parts_change go x y t u
  unfolding parts_change
  parts_answered q = q ∙ rw e
