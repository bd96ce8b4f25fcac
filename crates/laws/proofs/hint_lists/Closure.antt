-- Hints and confirmations keep question 4, room and sizes. Assumes nothing.
use Rattle.std.specs.Prelude.{Option, None, Some}
use mathlib.Core.Path.{◌≡◌, refl, sym, ap, ◌∙◌}
use mathlib.Core.Bool.{true, false, not, ◌||◌}
use mathlib.Core.Logic.{⊎_elim}
use mathlib.Core.List.{List, []}
use Prim.Native.Nat.{ℕ, ◌+◌, ◌/◌, ◌≤◌, min}
use native.Mathlib.Omega.{arith}
use lib.Dec.{eqb, leb}
use lib.ListN.{length, length-set}
use borrow.Author.Tests.{eqb-true, leb-true, eq-eqb, le-leb}
use Rattle.rules.specs.declared.Area.{Area}
use Rattle.rules.specs.declared.Confirmation.{Confirmation}
use Rattle.rules.specs.declared.Fingerprint.{Fingerprint}
use Rattle.rules.specs.declared.Fingerprint.TheVariants.{Unknown, Checked}
use Rattle.rules.specs.declared.Fingerprint.TheVariants as fingerprint
use Rattle.rules.specs.declared.Hint.{Hint}
use Rattle.rules.specs.Tests.{is_some, or_else}
use Rattle.rules.specs.Values.{Hinting, max_hints, max_list, merge_room, stated, is_checked, max64, Lengths}
use Rattle.rules.specs.Sections.{hint_lsn, hint_ok, hints_ok, marks_ok, confirmed_lsn, confirmation_ok, confirmations_ok}
use Rattle.rules.specs.Questions.{hinting_ok, hinting_room}
use Rattle.rules.specs.Hints.{last_ones, thin, unkept, with_hints, question13, question14, question53, with_mark, place_of, keep, with_confirmed}
use Rattle.rules.specs.Merge.{held_from, merged_fingerprint, merged_hinting}
use Rattle.rules.specs.Load.{limited_hinting, unmarked}
use Rattle.rules.specs.Sizes.{hinting_sized, known_sized}
use Rattle.rules.proofs.Tests.{test, never, and_right, all→, →all, or_cases, or_left, or_right}
use Rattle.laws.proofs.Marks.{unkept_ok}
use Rattle.laws.proofs.hint_lists.Lists.{sub_last, last_length, All, Passes, each→, →each, all_sub, all_map}
use Rattle.laws.proofs.hint_lists.Rising.{rising_none, rising_each}
use Rattle.laws.proofs.hint_lists.Thinning.{thin_sub, thin_length}
use Rattle.laws.proofs.hint_lists.Hints.{hints_thin, joined_ok, joined_length}
use Rattle.laws.proofs.hint_lists.KeptHints.{Unmarked, marked_at, unmarked_marks, unkept_unmarked, joined_marks_ok, marked_unkept, marked_ok}
use Rattle.laws.proofs.hint_lists.Confirmations.{digest_sized, keep_length, keep_all_length, keep_ok, keep_all_ok, keep_sized, keep_all_sized, keep_none, keep_all_none, confirmed_pass, confirmed_sub}
use Rattle.rules.specs.Create.{empty_index}

-- the hinting after keep_confirmation
abbrev pub kept_hinting : Fingerprint → Hinting → Confirmation → Hinting
kept_hinting f r c = with_confirmed r (keep (is_checked f) r.most r.confirmed c)

-- the hinting of a new index
abbrev pub new_hinting : Area → ℕ → ℕ → ℕ → ℕ → Hinting
new_hinting a k budget spacing most = (empty_index a k budget spacing most).hinting

-- ---- question 4 as facts
pub record HintingIs (a : Area) (f : Fingerprint) (r : Hinting) : Type 0 where
  pub most : r.most ≤ max_hints
  pub few : length r.hints ≤ r.most
  pub fewer : length r.confirmed ≤ r.most
  pub hints : hints_ok a r.hints ≡ true
  pub confirmed : confirmations_ok a r.confirmed ≡ true
  pub known : (eqb (length r.confirmed) 0 || is_some (stated f)) ≡ true
  pub marks : marks_ok r.most r.hints ≡ true

pub hinting→ : (a : Area) (f : Fingerprint) (r : Hinting) → hinting_ok a f r ≡ true → HintingIs a f r
unfolding hinting_ok
hinting→ a f r e =
    let t = all→ _ e in
    record {
      most = leb-true _ _ t.0;
      few = leb-true _ _ t.1.0;
      fewer = leb-true _ _ t.1.1.0;
      hints = t.1.1.1.0;
      confirmed = t.1.1.1.1.0;
      known = t.1.1.1.1.1.0;
      marks = t.1.1.1.1.1.1.0;
    }

pub →hinting : (a : Area) (f : Fingerprint) (r : Hinting) → HintingIs a f r → hinting_ok a f r ≡ true
unfolding hinting_ok
→hinting a f r h =
    →all _ (le-leb _ _ h.most, (le-leb _ _ h.few, (le-leb _ _ h.fewer, (h.hints, (h.confirmed, (h.known, (h.marks, tt)))))))

-- ---- a fingerprint beside confirmations
-- one that is checked is known
checked_known : (f : Fingerprint) → is_checked f ≡ true → is_some (stated f) ≡ true
unfolding is_checked stated is_some
checked_known Unknown e = e
checked_known (fingerprint.Held v) e = refl
checked_known (Checked v) e = refl

pub merged_known : (f g : Fingerprint) → is_some (stated f) ≡ true → is_some (stated (merged_fingerprint f g)) ≡ true
unfolding stated is_some merged_fingerprint
merged_known Unknown g e = never {b = false} e refl
merged_known (fingerprint.Held v) g e = refl
merged_known (Checked v) g e = refl

-- none where there were none, or known where it was
known_from : (m n : ℕ) (o p : Option ℕ) → (m ≡ 0 → n ≡ 0) → (is_some o ≡ true → is_some p ≡ true) → (eqb m 0 || is_some o) ≡ true → (eqb n 0 || is_some p) ≡ true
known_from m n o p f g e =
    ⊎_elim (λ t. or_left (is_some p) (eq-eqb n 0 (f (eqb-true m 0 t)))) (λ t. or_right (eqb n 0) (g t)) (or_cases (eqb m 0) (is_some o) e)

-- what is kept unchecked is what was there
module _ (f : Fingerprint) (o : Option ℕ) (most : ℕ) (cs : List Confirmation) (up : is_some (stated f) ≡ true → is_some o ≡ true)
    (known : (eqb (length cs) 0 || is_some (stated f)) ≡ true) where
  known_after : (ds : List Confirmation) → (is_checked f ≡ false → ds ≡ cs) → (eqb (length ds) 0 || is_some o) ≡ true
  known_after ds s =
      test (is_checked f) (λ e. or_right (eqb (length ds) 0) (up (checked_known f e))) (λ e. rw (s e) (known_from (length cs) (length cs) (stated f) o (λ z. z) up known))

unchecked : (f : Fingerprint) (most : ℕ) → is_checked f ≡ false → (not (is_checked f) || eqb most 0) ≡ true
unchecked f most e = rw e

-- ---- question 4
-- a delivered list has no marks
pub add_hints_ok : (a : Area) (f : Fingerprint) (r : Hinting) (list : List Hint) → All Unmarked list → question13 list ≡ true → hinting_ok a f r ≡ true → hinting_ok a f (with_hints a r list) ≡ true
unfolding question13
add_hints_ok a f r list u q e =
    let h = hinting→ a f r e in let p = each→ hint_ok list (and_right (leb (length list) max_list) _ q) in
    →hinting a f (with_hints a r list)
    (record {
      most = h.most;
      few = joined_length a r.most r.hints list h.few;
      fewer = h.fewer;
      hints = joined_ok a r.most r.hints list h.hints p;
      confirmed = h.confirmed;
      known = h.known;
      marks = joined_marks_ok a r.most r.hints list h.hints p u h.marks;
    })

pub keep_hinting_ok : (a : Area) (f : Fingerprint) (r : Hinting) (c : Confirmation) → question14 a c ≡ true → hinting_ok a f r ≡ true → hinting_ok a f (kept_hinting f r c) ≡ true
keep_hinting_ok a f r c q e =
    let h = hinting→ a f r e in
    →hinting a f (kept_hinting f r c)
    (record {
      most = h.most;
      few = h.few;
      fewer = keep_length (is_checked f) r.most r.confirmed c h.fewer;
      hints = h.hints;
      confirmed = keep_ok (is_checked f) r.most a r.confirmed c q h.confirmed;
      known = known_after f (stated f) r.most r.confirmed (λ z. z) h.known _ (λ d. keep_none (is_checked f) r.most (unchecked f r.most d) r.confirmed c);
      marks = h.marks;
    })

hints_pass : (a : Area) (hs : List Hint) → hints_ok a hs ≡ true → Passes hint_ok hs
unfolding hints_ok
hints_pass a hs e = all_map _ (λ h. hint_ok h ≡ true) (λ h u. u.1.1) hs (rising_each hint_lsn hint_ok a.start a.end hs e)

pub merge_ok : (a : Area) (f g : Fingerprint) (own other : Hinting) → hinting_ok a f own ≡ true → hinting_ok a g other ≡ true
    → hinting_ok a (merged_fingerprint f g) (merged_hinting a (is_checked f) own other) ≡ true
merge_ok a f g own other e d =
    let h = hinting→ a f own e in let k = hinting→ a g other d in let list = unkept other.hints in
    let p = hints_pass a list (unkept_ok a other.hints ∙ k.hints) in
    →hinting a (merged_fingerprint f g) (merged_hinting a (is_checked f) own other)
    (record {
      most = h.most;
      few = joined_length a own.most own.hints list h.few;
      fewer = keep_all_length (is_checked f) own.most own.confirmed other.confirmed h.fewer;
      hints = joined_ok a own.most own.hints list h.hints p;
      confirmed = keep_all_ok (is_checked f) own.most a own.confirmed other.confirmed (confirmed_pass a other.confirmed k.confirmed) h.confirmed;
      known = known_after f (stated (merged_fingerprint f g)) own.most own.confirmed (merged_known f g) h.known _
          (λ z. keep_all_none (is_checked f) own.most (unchecked f own.most z) own.confirmed other.confirmed);
      marks = joined_marks_ok a own.most own.hints list h.hints p (unkept_unmarked other.hints) h.marks;
    })

pub unmarked_stated : (f : Fingerprint) → stated (unmarked f) ≡ stated f
unfolding unmarked stated
unmarked_stated Unknown = refl
unmarked_stated (fingerprint.Held v) = refl
unmarked_stated (Checked v) = refl

pub limit_ok : (a : Area) (f : Fingerprint) (limit : ℕ) (r : Hinting) → hinting_ok a f r ≡ true → hinting_ok a (unmarked f) (limited_hinting limit r) ≡ true
limit_ok a f limit r e =
    let h = hinting→ a f r e in let w = h.most in let m = min r.most (limit / 8) in let n = min m (limit / 16) in let v = last_length n r.confirmed in
    →hinting a (unmarked f) (limited_hinting limit r)
    (record {
      most = omega arith;
      few = omega (arith, thin_length m (unkept r.hints));
      fewer = omega arith;
      hints = hints_thin a m (unkept r.hints) (unkept_ok a r.hints ∙ h.hints);
      confirmed = confirmed_sub a (sub_last n r.confirmed) h.confirmed;
      known = rw (unmarked_stated f) (known_from (length r.confirmed) (length (last_ones n r.confirmed)) (stated f) (stated f) (λ z. omega arith) (λ z. z) h.known);
      marks = unmarked_marks m (thin m (unkept r.hints)) (all_sub Unmarked (thin_sub m (unkept r.hints)) (unkept_unmarked r.hints));
    })

pub bind_ok : (a : Area) (f : Fingerprint) (v : ℕ) (r : Hinting) → hinting_ok a f r ≡ true → hinting_ok a (Checked v) r ≡ true
unfolding stated is_some
bind_ok a f v r e =
    let h = hinting→ a f r e in
    →hinting a (Checked v) r
    (record {
      most = h.most;
      few = h.few;
      fewer = h.fewer;
      hints = h.hints;
      confirmed = h.confirmed;
      known = or_right (eqb (length r.confirmed) 0) refl;
      marks = h.marks;
    })

pub new_ok : (a : Area) (k budget spacing most : ℕ) → hinting_ok a Unknown (new_hinting a k budget spacing most) ≡ true
unfolding hints_ok confirmations_ok
new_ok a k budget spacing most =
    →hinting a Unknown (new_hinting a k budget spacing most)
    (record {
      most = omega arith;
      few = omega arith;
      fewer = omega arith;
      hints = rising_none hint_lsn hint_ok a.start a.end;
      confirmed = rising_none confirmed_lsn confirmation_ok a.start a.end;
      known = refl;
      marks = unmarked_marks (min most max_hints) [] tt;
    })

-- a mark set: LSNs and numbers stay
pub mark_ok : (a : Area) (f : Fingerprint) (r : Hinting) (lsn : ℕ) → question53 r lsn ≡ true → hinting_ok a f r ≡ true → hinting_ok a f (with_mark r lsn) ≡ true
unfolding with_mark
mark_ok a f r lsn q e =
    let h = hinting→ a f r e in let hs = r.hints in let i = place_of lsn hs in
    →hinting a f (with_mark r lsn)
    (record {
      most = h.most;
      few = rw length-set h.few;
      fewer = h.fewer;
      hints = sym (unkept_ok a (marked_at hs i)) ∙ ap (hints_ok a) (marked_unkept hs i) ∙ unkept_ok a hs ∙ h.hints;
      confirmed = h.confirmed;
      known = h.known;
      marks = marked_ok r lsn q h.marks;
    })

-- ---- sizes
resized : (r s : Hinting) → s.spacing ≡ r.spacing → (Passes digest_sized r.confirmed → Passes digest_sized s.confirmed) → hinting_sized r ≡ true → hinting_sized s ≡ true
unfolding hinting_sized
resized r s q f e = let t = all→ _ e in →all _ (rw q t.0, (→each digest_sized s.confirmed (f (each→ digest_sized r.confirmed t.1.0)), tt))

digests : (r : Hinting) → hinting_sized r ≡ true → Passes digest_sized r.confirmed
unfolding hinting_sized
digests r e = each→ digest_sized r.confirmed (all→ _ e).1.0

pub add_hints_sized : (a : Area) (r : Hinting) (list : List Hint) → hinting_sized r ≡ true → hinting_sized (with_hints a r list) ≡ true
add_hints_sized a r list e = resized r (with_hints a r list) refl (λ h. h) e

pub keep_hinting_sized : (f : Fingerprint) (r : Hinting) (c : Confirmation) → leb c.digest max64 ≡ true → hinting_sized r ≡ true → hinting_sized (kept_hinting f r c) ≡ true
keep_hinting_sized f r c q e = resized r (kept_hinting f r c) refl (λ h. keep_sized (is_checked f) r.most r.confirmed c q h) e

pub merge_sized : (a : Area) (f : Fingerprint) (own other : Hinting) → hinting_sized own ≡ true → hinting_sized other ≡ true → hinting_sized (merged_hinting a (is_checked f) own other) ≡ true
merge_sized a f own other e d =
    resized own (merged_hinting a (is_checked f) own other) refl (λ h. keep_all_sized (is_checked f) own.most own.confirmed other.confirmed (digests other d) h) e

pub limit_sized : (limit : ℕ) (r : Hinting) → hinting_sized r ≡ true → hinting_sized (limited_hinting limit r) ≡ true
limit_sized limit r e = resized r (limited_hinting limit r) refl (λ h. all_sub _ (sub_last (min (min r.most (limit / 8)) (limit / 16)) r.confirmed) h) e

-- ---- the fingerprint
-- merging states the own fingerprint, else the other's
pub merged_stated : (f g : Fingerprint) → stated (merged_fingerprint f g) ≡ or_else (stated f) (stated g)
unfolding merged_fingerprint stated held_from or_else
merged_stated Unknown Unknown = refl
merged_stated Unknown (fingerprint.Held v) = refl
merged_stated Unknown (Checked v) = refl
merged_stated (fingerprint.Held v) g = refl
merged_stated (Checked v) g = refl

pub either_sized : (f g : Option ℕ) → known_sized f ≡ true → known_sized g ≡ true → known_sized (or_else f g) ≡ true
unfolding or_else
either_sized None g h k = k
either_sized (Some v) g h k = h

pub merge_known : (f g : Fingerprint) → known_sized (stated f) ≡ true → known_sized (stated g) ≡ true → known_sized (stated (merged_fingerprint f g)) ≡ true
merge_known f g h k = rw (merged_stated f g) (either_sized (stated f) (stated g) h k)

-- ---- room
pub limit_room : (l : Lengths) (limit : ℕ) (r : Hinting) → hinting_room l r.most ≡ true → hinting_room l (limited_hinting limit r).most ≡ true
unfolding hinting_room
limit_room l limit r e =
    let t = all→ _ e in let u = leb-true (r.most + merge_room) l.hints t.0 in let v = leb-true (r.most + 1) l.confirmed t.1.0 in let m = min r.most (limit / 8) in
    →all _ (le-leb (m + merge_room) l.hints (omega arith), (le-leb (m + 1) l.confirmed (omega arith), tt))
