-- What the sizes told for a disc file say of loading it. Assumes nothing.
use Rattle.std.specs.Prelude.{Option, None, Some}
use Prim.Native.Nat.{ℕ}
use mathlib.Core.Path.{◌≡◌, refl, sym, ap, ◌∙◌}
use mathlib.Core.Bool.{Bool, true, false, ◌&&◌}
use mathlib.Core.List.{List, [], ◌∷◌}
use native.Mathlib.Omega.{arith}
use Rattle.rules.specs.declared.Area.{Area}
use Rattle.rules.specs.Tests.{Answer, Refused, Accepted, ask, first_no, after, bind}
use Rattle.rules.specs.Values.{Index}
use Rattle.rules.specs.Questions.{area_ok}
use Rattle.rules.specs.Load.{from_bytes, limited}
use Rattle.rules_disc.specs.Disc.{entries_in, entry_of, contents_ok, body_at, slot_area, load_body, load_bodies, load_disc}
use Rattle.rules.proofs.Tests.{asked→, →asked, accepted_eq, bind→, →bind, refused_bind}
use Rattle.tables.specs.Index.{Tables, room_of}
use Rattle.rules.specs.declared.TableSizes.{TableSizes}
use Rattle.sizes.specs.Sizes.{has_sizes, sizes_for, file_sizes}
use Rattle.theorems.specs.Player.{load_without3}
use Rattle.theorems.proofs.Sizes.{load_fits, load_refused}
use Rattle.disc_load.specs.DiscLoad.{DiscSizes, body_sizes, both_sizes, disc_sizes}
use Rattle.theorems.specs.DiscPlayer.{has_slot, LoadsInTables, DiscSizesTold}

-- ---- a list file
pub record Listed (r : Answer (Option Index)) : Type 0 where
  pub list : Option Index
  pub is : r ≡ Accepted list

file_fits : (a : Area) (b : List ℕ) (limit : ℕ) (t : Tables) (s : TableSizes) → file_sizes a b limit ≡ Accepted s
    → has_sizes s t ≡ true
    → Listed (load_body (room_of t) a limit (Some b))
unfolding file_sizes load_without3 load_body
file_fits a b limit t s e h =
    let r = asked→ (ask (area_ok a) 1 ∷ []) (bind (from_bytes a b) (λ x. Accepted (sizes_for (limited limit x)))) s refl
    e in
    let u = bind→ (from_bytes a b) (λ x. Accepted (sizes_for (limited limit x))) s r.1 in
    let w : load_without3 a b limit ≡ Accepted (limited limit u.value) = →asked (ask (area_ok a) 1 ∷ []) r.0
    (→bind _ u.first refl) in
    record { list = Some (limited limit u.value); is = →bind _ (load_fits a b limit t s e h ∙ w) refl }

-- ---- answers that refuse
not_refused : {A B : Type 0} {x : A} {n : ℕ} → ◌≡◌ {A = Answer A} (Accepted x) (Refused n) → B
not_refused e = let z : ◌≡◌ {A = ℕ} 0 1 = cc in let f : ⊥ = omega arith in absurd f

same_number : {A B : Type 0} {m n : ℕ} → ◌≡◌ {A = Answer A} (Refused m) (Refused n)
    → ◌≡◌ {A = Answer B} (Refused m) (Refused n)
same_number {A} {B} {m} {n} e = let q : m ≡ n = cc in rw q

-- a bound answer that refuses: the first does, or what is made of its value
bind_refused : {A B P : Type 0} (r : Answer A) (f : A → Answer B) {n : ℕ} → bind r f ≡ Refused n → (r ≡ Refused n → P)
    → ((v : A) → r ≡ Accepted v → f v ≡ Refused n → P) → P
unfolding bind
bind_refused (Refused m) f e first later = first (same_number e)
bind_refused (Accepted v) f e first later = later v refl e

-- ---- the body of a slot
module _ (a : Area) (limit : ℕ) (t : Tables) where
  body_fits : (o : Option (List ℕ)) (s : Option TableSizes) → body_sizes a limit o ≡ Accepted s → has_slot s t ≡ true
      → Listed (load_body (room_of t) a limit o)
  unfolding body_sizes load_body has_slot
  body_fits None s e h = record { list = None; is = refl }
  body_fits (Some b) s e h =
      let u = bind→ (file_sizes a b limit) (λ x. Accepted (Some x)) s e in
      let w : s ≡ Some u.value = sym (accepted_eq (Some u.value) s u.second) in
      file_fits a b limit t u.value u.first (rw w at h)

  body_refused : (o : Option (List ℕ)) {n : ℕ} → body_sizes a limit o ≡ Refused n → load_body (room_of t) a limit o
      ≡ Refused n
  unfolding body_sizes load_body
  body_refused None e = not_refused e
  body_refused (Some b) {n} e =
      bind_refused (file_sizes a b limit) (λ x. Accepted (Some x)) e
      (λ h. refused_bind _ _ (load_refused a b limit n t h)) (λ v h k. not_refused k)

-- ---- the file
-- 1 and 54 refuse alike
asked_refused : {A B : Type 0} (p q : Bool) {r : Answer A} {s : Answer B} {n : ℕ} → (r ≡ Refused n → s ≡ Refused n)
    → after (first_no (ask p 1 ∷ ask q 54 ∷ [])) r ≡ Refused n → after (first_no (ask p 1 ∷ ask q 54 ∷ [])) s ≡ Refused n
unfolding first_no after
asked_refused false q f e = same_number e
asked_refused true false f e = same_number e
asked_refused true true f e = f e

module _ (a0 a1 : Area) (b : List ℕ) (limit : ℕ) (t u : Tables) where
  abbrev first : Option (List ℕ)
  first = body_at b (entry_of 0 (entries_in b))

  abbrev second : Option (List ℕ)
  second = body_at b (entry_of 1 (entries_in b))

  disc_fits : (d : DiscSizes) → disc_sizes a0 a1 b limit ≡ Accepted d → has_slot d.slot0 t ≡ true
      → has_slot d.slot1 u ≡ true
      → LoadsInTables a0 a1 b limit t u
  unfolding disc_sizes both_sizes load_disc load_bodies
  disc_fits d e h k =
      let r = asked→ (ask (slot_area 0 a0 && slot_area 1 a1) 1 ∷ ask (contents_ok b) 54 ∷ []) _ d refl e in
      let v = bind→ (body_sizes a0 limit first) _ d r.1 in
      let w = bind→ (body_sizes a1 limit second) _ d v.second in
      let q : record { slot0 = v.value; slot1 = w.value } ≡ d = accepted_eq _ d w.second in
      let x = body_fits a0 limit t first v.value v.first (ap (λ (z : DiscSizes). has_slot z.slot0 t) q ∙ h) in
      let y = body_fits a1 limit u second w.value w.first (ap (λ (z : DiscSizes). has_slot z.slot1 u) q ∙ k) in
      record {
        lists = record { slot0 = x.list; slot1 = y.list };
        loads = →asked (ask (slot_area 0 a0 && slot_area 1 a1) 1 ∷ ask (contents_ok b) 54 ∷ []) r.0
            (→bind _ x.is (→bind _ y.is refl));
      }

  disc_refused : (n : ℕ) → disc_sizes a0 a1 b limit ≡ Refused n
      → ((s : Option TableSizes) → body_sizes a0 limit first ≡ Accepted s → has_slot s t ≡ true)
      → load_disc (room_of t) (room_of u) a0 a1 b limit ≡ Refused n
  unfolding disc_sizes both_sizes load_disc load_bodies
  disc_refused n e h =
      asked_refused (slot_area 0 a0 && slot_area 1 a1) (contents_ok b)
      (λ z.
      bind_refused (body_sizes a0 limit first) _ z (λ g. refused_bind _ _ (body_refused a0 limit t first g))
      (λ v g w.
      bind_refused (body_sizes a1 limit second) _ w
      (λ k. let x = body_fits a0 limit t first v g (h v g) in →bind _ x.is
      (refused_bind _ _ (body_refused a1 limit u second k))) (λ s k j. not_refused j)))
      e

pub disc_sizes_told : DiscSizesTold
disc_sizes_told =
    record {
      fits = λ a0 a1 b limit t u d e h k. disc_fits a0 a1 b limit t u d e h k;
      refused = λ a0 a1 b limit n t u e h. disc_refused a0 a1 b limit t u n e h;
    }
