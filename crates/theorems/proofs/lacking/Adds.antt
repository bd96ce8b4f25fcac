-- A merge changes nothing but the image id where nothing is lacking. Assumes nothing.
use mathlib.Core.Path.{◌≡◌, refl, sym, ap, ◌∙◌}
use mathlib.Core.Bool.{Bool, true, false, cond}
use mathlib.Core.List.{List, [], ◌∷◌}
use Prim.Native.Nat.{ℕ, zero, suc, ◌<◌, ◌≤◌, min}
use native.Mathlib.Omega.{arith}
use lib.Dec.{eqb}
use lib.ListN.{length, get_or}
use borrow.Author.Tests.{eq-eqb, le-leb, le-ltb}
use Rattle.rules.specs.declared.Area.{Area}
use Rattle.rules.specs.declared.Confirmation.{Confirmation}
use Rattle.rules.specs.declared.Fingerprint.{Fingerprint}
use Rattle.rules.specs.declared.Fingerprint.TheVariants.{Unknown, Checked}
use Rattle.rules.specs.declared.Fingerprint.TheVariants as fingerprint
use Rattle.rules.specs.declared.Hint.{Hint}
use Rattle.rules.specs.Tests.{is_some, or_else, Accepted}
use Rattle.rules.specs.Values.{Scan, Index, no_hint, no_confirmation, count, complete, stated, is_checked}
use Rattle.rules.specs.Sections.{hint_lsn, hint_ok, hints_ok, confirmed_lsn, confirmation_ok, confirmations_ok}
use Rattle.rules.specs.Questions.{question4}
use Rattle.rules.specs.Hints.{insert, arrived_hint, unkept_hint, unkept, in_area, insert_all, limited_to, joined_hints, held_confirmation, last_ones, keeps_nothing, keep, keep_all}
use Rattle.rules.specs.Merge.{further, merged_scan, held_from, merged_fingerprint, merged, merge}
use Rattle.rules.proofs.Tests.{test, never, and_left, choose, →after}
use Rattle.laws.specs.Order.{Rises}
use Rattle.laws.proofs.hint_lists.Lists.{all_at, insert_past, insert_met}
use Rattle.laws.proofs.hint_lists.Rising.{rises_all, rising→}
use Rattle.laws.proofs.hint_lists.Keeping.{last_few}
use Rattle.laws.proofs.hint_lists.Closure.{hinting→}
use Rattle.laws.proofs.hint_lists.Calls.{holds_of}
use Rattle.rules_lacks.specs.Lacks.{covers, same_hint, confirms_also}
use Rattle.rules_lacks.proofs.Laws.{Found, covers→, same_hint_eq, ConfirmsAlso, confirms→}
use Rattle.theorems.specs.Lacks.{LacksAdds}
use Rattle.theorems.proofs.lacking.Trans.{Nothing, →asked, lacks→}

-- ---- what is held already is inserted to no effect
module _ {A : Type 0} (key : A → ℕ) (meet : A → A → A) (d x : A) where
  pub insert_held : (b : ℕ) (ys : List A) → Rises key b ys → (i : ℕ) → i < length ys → key (get_or ys i d) ≡ key x
      → meet (get_or ys i d) x ≡ get_or ys i d
      → insert key meet x ys ≡ ys
  insert_held b [] r i l k m = let z : ⊥ = omega arith in absurd z
  insert_held b (y ∷ ys) r zero l k m = insert_met key meet x y ys k ∙ ap (λ (z : A). z ∷ ys) m
  insert_held b (y ∷ ys) r (suc i) l k m =
      let low = all_at (λ z. suc (key y) ≤ key z) ys i d (omega arith) (rises_all key (suc (key y)) ys r.1) in
      insert_past key meet x y ys (omega arith) ∙ ap (λ (z : List A). y ∷ z)
      (insert_held (suc (key y)) ys r.1 i (omega arith) k m)

-- ---- hints
module _ (a : Area) (hs : List Hint) (b : ℕ) (r : Rises hint_lsn b hs) where
  all_held : (list : List Hint) → ((i : ℕ) → i < length list
      → Found no_hint (λ x. same_hint x (get_or list i no_hint)) hs) → insert_all a hs (unkept list) ≡ hs
  unfolding insert_all unkept
  all_held [] f = refl
  all_held (z ∷ xs) f =
      let x = unkept_hint z in let h = f zero (omega arith) in let y = get_or hs h.place no_hint in
      let e : unkept_hint y ≡ x = same_hint_eq _ z h.holds in
      let d = sym e in let k : arrived_hint y x ≡ y = λ i. record
      { lsn = (d i).lsn; number = (d i).number; mark = y.mark } in
      let s : insert hint_lsn arrived_hint x hs ≡ hs = insert_held hint_lsn arrived_hint no_hint x b hs r h.place
      h.inside (ap hint_lsn e) k in
      let t : cond (in_area a x.lsn) (insert hint_lsn arrived_hint x hs) hs
      ≡ hs = choose (λ z. z ≡ hs) (in_area a x.lsn) _ _ (λ w. s) (λ w. refl) in
      ap (λ (y : List Hint). insert_all a y (unkept xs)) t ∙ all_held xs (λ i l. f (suc i) (omega arith))

pub joined_same : (a : Area) (most : ℕ) (hs list : List Hint) → hints_ok a hs ≡ true → length hs ≤ most
    → covers same_hint hs list ≡ true → joined_hints a most hs (unkept list) ≡ hs
unfolding joined_hints limited_to hints_ok
joined_same a most hs list ok l c =
    let r = (rising→ hint_lsn hint_ok a.start a.end hs ok).order in
    let e : insert_all a hs (unkept list) ≡ hs = all_held a hs a.start r list (covers→ no_hint same_hint hs list c) in
    choose (λ z. z ≡ hs) (eqb most 0) hs _ (λ w. refl) (λ w. rw (e, le-leb (length hs) most l))

-- ---- confirmations
met_same : (c d : Confirmation) → ConfirmsAlso c d → held_confirmation c d ≡ c
unfolding held_confirmation
met_same c d h =
    let l = h.threshold in let m : min c.threshold d.threshold ≡ c.threshold = omega arith in
    rw (eq-eqb c.digest d.digest h.digest, m)

module _ (checked : Bool) (most : ℕ) (cs : List Confirmation) (b : ℕ) (r : Rises confirmed_lsn b cs)
    (few : length cs ≤ most) where
  all_kept : (ds : List Confirmation) → ((i : ℕ) → i < length ds
      → Found no_confirmation (λ x. confirms_also x (get_or ds i no_confirmation)) cs) → keep_all checked most cs ds ≡ cs
  unfolding keep_all keep
  all_kept [] f = refl
  all_kept (d ∷ ds) f =
      let h = f zero (omega arith) in let e = confirms→ _ d h.holds in
      let s : insert confirmed_lsn held_confirmation d cs ≡ cs =
      insert_held confirmed_lsn held_confirmation no_confirmation d b cs r h.place h.inside e.lsn
      (met_same _ d e) in
      let t : cond (keeps_nothing checked most) cs (last_ones most (insert confirmed_lsn held_confirmation d cs)) ≡ cs =
      choose (λ z. z ≡ cs) (keeps_nothing checked most) _ _ (λ w. refl) (λ w. rw s (last_few most cs few)) in
      rw t (all_kept ds (λ i l. f (suc i) (omega arith)))

pub kept_same : (a : Area) (checked : Bool) (most : ℕ) (cs ds : List Confirmation) → confirmations_ok a cs ≡ true
    → length cs ≤ most → covers confirms_also cs ds ≡ true
    → keep_all checked most cs ds ≡ cs
unfolding confirmations_ok
kept_same a checked most cs ds ok l c =
    all_kept checked most cs a.start (rising→ confirmed_lsn confirmation_ok a.start a.end cs ok).order l ds
    (covers→ no_confirmation confirms_also cs ds c)

-- ---- the fingerprint
pub fingerprint_same : (f g : Fingerprint) → (is_some (stated g) ≡ true → is_some (stated f) ≡ true)
    → merged_fingerprint f g ≡ f
unfolding merged_fingerprint held_from stated is_some
fingerprint_same Unknown Unknown h = refl
fingerprint_same Unknown (fingerprint.Held v) h = never {b = false} (h refl) refl
fingerprint_same Unknown (Checked v) h = never {b = false} (h refl) refl
fingerprint_same (fingerprint.Held v) g h = refl
fingerprint_same (Checked v) g h = refl

-- ---- the scan
pub not_further : (own other : Scan) → count other ≤ count own → (complete other ≡ true → complete own ≡ true)
    → further own other ≡ false
unfolding further
not_further own other l f =
    test (complete own) (λ e. rw e) (λ e. test (complete other) (λ d. never (f d) e)
    (λ d. rw (e, d, le-ltb (count own) (count other) l)))

pub scan_same : (own other : Scan) → count other ≤ count own → (complete other ≡ true → complete own ≡ true)
    → merged_scan own other ≡ own
unfolding merged_scan
scan_same own other l f = rw (not_further own other l f)

-- ---- all of it
pub merged_same : (own other : Index) → question4 own ≡ true → Nothing own other
    → merged own other ≡ record {
      scan = own.scan;
      hinting = own.hinting;
      fingerprint = own.fingerprint;
      image = or_else own.image other.image;
    }
unfolding merged
merged_same own other q h =
    let k = hinting→ own.scan.area own.fingerprint own.hinting (holds_of own q) in
    let e0 : merged_scan own.scan other.scan
    ≡ own.scan = scan_same own.scan other.scan h.checkpoints h.ending in
    let e1 : joined_hints own.scan.area own.hinting.most own.hinting.hints
    (unkept other.hinting.hints) ≡ own.hinting.hints =
    joined_same own.scan.area own.hinting.most own.hinting.hints other.hinting.hints k.hints
    k.few h.hints in
    let e2 : keep_all (is_checked own.fingerprint) own.hinting.most own.hinting.confirmed
    other.hinting.confirmed ≡ own.hinting.confirmed =
    kept_same own.scan.area (is_checked own.fingerprint) own.hinting.most own.hinting.confirmed
    other.hinting.confirmed k.confirmed k.fewer h.confirmed in
    let e3 : merged_fingerprint own.fingerprint other.fingerprint
    ≡ own.fingerprint = fingerprint_same own.fingerprint other.fingerprint h.fingerprint in
    λ i. record {
      scan = e0 i;
      hinting = record { spacing = own.hinting.spacing; most = own.hinting.most; hints = e1 i; confirmed = e2 i };
      fingerprint = e3 i;
      image = or_else own.image other.image;
    }

pub lacks_adds : LacksAdds
unfolding merge
lacks_adds l m own other x e h =
    let p = lacks→ l m own other x e h in let s = p.0 in
    →after (→asked l m own other s) (ap Accepted
    (merged_same own other (and_left (question4 own) (question4 other) s.four) p.1))
