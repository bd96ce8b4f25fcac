-- What entering a list and jumping in it leave of a shelf. Assumes nothing.
use Rattle.std.specs.Prelude.{None, Some}
use mathlib.Core.Path.{◌≡◌, refl, sym, ap, ap₂, ◌∙◌}
use mathlib.Core.Bool.{Bool, true, false, cond}
use mathlib.Core.List.{List, [], ◌∷◌, ◌++◌, Memᴰ}
use mathlib.Core.Logic.{◌⊎◌, inl, inr, ⊎_elim, ◌≢◌}
use Prim.Native.Nat.{ℕ, zero, suc, ◌+◌, ◌-◌, ◌<◌, ◌≤◌}
use native.Mathlib.Omega.{arith}
use borrow.Author.Tests.{ltb-true, ltb-false, leb-true, leb-false, lt-ltb, le-leb}
use lib.Dec.{leb, ltb}
use lib.ListN.{length, get_or, drop, set, length-append, length-set, length-take, length-drop, take-append-drop}
use lib.Seq.{take-append_seam, set-append_left, get_or-take}
use Rattle.rules.specs.declared.Area.{Area}
use Rattle.rules.specs.Tests.{ask, Accepted}
use Rattle.rules.specs.Values.{max64, same_area}
use Rattle.rules.proofs.Tests.{test, never, all→, →all, accepted_eq, asked→, →asked, bind→, →bind}
use Rattle.rules_shelf.specs.declared.Shelf.{Shelf}
use Rattle.rules_shelf.specs.declared.ShelfRecord.{ShelfRecord}
use Rattle.rules_shelf.specs.Shelf.{no_record, area_of, record_of, present_records, sum, area_place, among, no_two, without, roomy, staying, entered, restamped, jumped, shelf_ok, questions, entering, jumped_in, jumping, After, holding, enter, held_by, jump}
use Rattle.rules_shelf.proofs.Laws.{sum_append}
use Rattle.theorems.specs.Shelf.{Parted, Asked, ValidAfter, ShelfValid, LastBack, Entered, Jumped, ShelfAccepts}
use Rattle.theorems.proofs.shelves.Parting.{Last, Made, made_room, stay_mem, gone_mem, place_of}
use Rattle.theorems.proofs.shelves.Areas.{among_mem, among→, stay_no_two, last_no_two, place_at, mem_at, Others, others}

-- ---- what an accepted call was asked
record Passed (x : Shelf) (t : List ShelfRecord) (a : Area) : Type 0 where
  room : 64 ≤ length t
  few : x.present ≤ 64
  apart : no_two (present_records x t) ≡ true
  within : sum (present_records x t) ≤ x.limit

passed : (x : Shelf) (t : List ShelfRecord) (a : Area) → leb 64 (length t) ≡ true → shelf_ok x (present_records x t)
    ≡ true → Passed x t a
unfolding shelf_ok
passed x t a r s =
    let h = all→ (leb x.present 64 ∷ no_two (present_records x t) ∷ leb (sum (present_records x t)) x.limit ∷ [])
    s in
    record { room = leb-true _ _ r; few = leb-true _ _ h.0; apart = h.1.0; within = leb-true _ _ h.1.1.0 }

-- the records that are present afterwards
present_new : (x : Shelf) (t new : List ShelfRecord)
    → present_records (holding x t new).shelf (holding x t new).table ≡ new
present_new x t new = take-append_seam new (drop (length new) t)

length_new : (x : Shelf) (t new : List ShelfRecord) → length new ≤ length t → length (holding x t new).table ≡ length t
length_new x t new l = simp (length-append, length-drop) (omega arith)

valid_new : (x : Shelf) (t new : List ShelfRecord) → 64 ≤ length t → length new ≤ 64 → no_two new ≡ true
    → sum new ≤ x.limit → ValidAfter t (holding x t new)
unfolding shelf_ok
valid_new x t new r f n s = (
  rw (present_new x t new) (→all (leb (length new) 64 ∷ no_two new ∷ leb (sum new) x.limit ∷ [])
      (le-leb _ _ f, (n, (le-leb _ _ s, tt)))),
  length_new x t new (omega arith),
)

-- ---- entering
record EnterFacts (x : Shelf) (t : List ShelfRecord) (a : Area) (len : ℕ) (y : After) : Type 0 where
  passed : Passed x t a
  long : len ≤ x.limit
  made : Made (x.limit - len) (without a (present_records x t)) (staying x.limit (present_records x t) a len)
  is : y ≡ holding x t (entered x (present_records x t) a len)

enter_facts : (x : Shelf) (t : List ShelfRecord) (a : Area) (len : ℕ) (y : After) → enter x t a len ≡ Accepted y
    → EnterFacts x t a len y
unfolding enter entering staying
enter_facts x t a len y e =
    let b = bind→ (entering x (length t) (present_records x t) a len) (λ new. Accepted (holding x t new)) y e in
    let q = asked→ (questions x (length t) (present_records x t) a (ask (leb len x.limit) 50 ∷ []))
    (Accepted (entered x (present_records x t) a len)) b.value refl b.first in
    let n : entered x (present_records x t) a len ≡ b.value = accepted_eq _ _ q.1 in
    let z : holding x t b.value ≡ y = accepted_eq _ _ b.second in
    record {
      passed = passed x t a q.0.1.0 q.0.1.1.0;
      long = leb-true _ _ q.0.1.1.1.1.0;
      made = made_room (length (without a (present_records x t))) (x.limit - len) (without a (present_records x t)) refl;
      is = sym z ∙ ap (holding x t) (sym n);
    }

roomy→ : (room : ℕ) (rs : List ShelfRecord) → roomy room rs ≡ true → (length rs < 64) × (sum rs ≤ room)
unfolding roomy
roomy→ room rs e = let h = all→ (ltb (length rs) 64 ∷ leb (sum rs) room ∷ []) e
    in (ltb-true _ _ h.0, leb-true _ _ h.1.0)

crowded : (room : ℕ) (rs : List ShelfRecord) → roomy room rs ≡ false → (64 ≤ length rs) ⊎ (room < sum rs)
unfolding roomy
crowded room rs e =
    test (ltb (length rs) 64)
    (λ l.
    test (leb (sum rs) room) (λ s. never (→all (ltb (length rs) 64 ∷ leb (sum rs) room ∷ []) (l, (s, tt))) e)
    (λ s. inr (leb-false _ _ s)))
    (λ l. inl (ltb-false _ _ l))

-- those that stay are of other areas
stay_apart : {x : Shelf} {t : List ShelfRecord} {a : Area} {len : ℕ} {y : After} (f : EnterFacts x t a len y)
    → (r : ShelfRecord)
    → Memᴰ r (staying x.limit (present_records x t) a len) → area_of r ≢ a
stay_apart {x} {t} {a} f r m = (others a (present_records x t) f.passed.apart).apart r (stay_mem f.made.parted m)

enter_valid : (x : Shelf) (t : List ShelfRecord) (a : Area) (len : ℕ) (y : After) → enter x t a len ≡ Accepted y
    → ValidAfter t y
unfolding entered sum
enter_valid x t a len y e =
    let f = enter_facts x t a len y e in
    let ks = staying x.limit (present_records x t) a len in
    let n = record_of a len (x.count + 1) in
    let w = (others a (present_records x t) f.passed.apart).within ks f.made.gone f.made.parted in
    let r = roomy→ (x.limit - len) ks f.made.fits in
    let few = r.0 in
    let small = r.1 in
    let l = f.long in
    let s : sum (ks ++ n ∷ []) ≡ sum ks + sum (n ∷ []) = sum_append ks (n ∷ []) in
    let c : length (ks ++ n ∷ []) ≤ 64 = simp length-append (omega arith) in
    rw f.is
    (valid_new x t (ks ++ n ∷ []) f.passed.room c
    (last_no_two ks n (stay_no_two w.1 f.passed.apart) (stay_apart f)) (omega arith))

last_back : (x : Shelf) (t : List ShelfRecord) (a : Area) (len : ℕ) (gone : List ShelfRecord)
    (ks gs : List ShelfRecord) (o : Others a (present_records x t) (without a (present_records x t)))
    → len ≤ x.limit → Parted ks gs (without a (present_records x t))
    → ((e : ShelfRecord) → Memᴰ e gone → (area_of e ≡ a) ⊎ Memᴰ e gs)
    → ((e : ShelfRecord) → Memᴰ e gs → Memᴰ e gone)
    → Last (x.limit - len) (without a (present_records x t)) ks gs → LastBack x a len (present_records x t) ks gone
last_back x t a len gone ks gs o l p back forth h =
    let r = get_or h.back h.at no_record in
    record {
      back = h.back;
      at = h.at;
      inside = h.inside;
      dropped = h.dropped;
      among = forth r h.among;
      other = o.apart r (gone_mem p h.among);
      last =
          λ g m n.
          ⊎_elim (λ e. absurd (n e)) (λ k. ⊎_elim (λ e. inl e) (λ z. inr (o.older g r z)) (h.last g k)) (back g m);
      too_many = ⊎_elim (λ z. inl z) (λ z. inr (omega arith)) (crowded (x.limit - len) h.back h.full);
    }

pub enter_leaves : Entered
unfolding entered
enter_leaves x t a len y e =
    let f = enter_facts x t a len y e in
    let ks = staying x.limit (present_records x t) a len in
    let o = others a (present_records x t) f.passed.apart in
    let w = o.within ks f.made.gone f.made.parted in
    record {
      stay = ks;
      gone = w.0;
      others = w.1;
      own = stay_apart f;
      stamped = rw f.is (present_new x t (ks ++ record_of a len (x.count + 1) ∷ []));
      counted = ap (λ (z : After). z.shelf.count) f.is;
      oldest = λ g k m n i. ⊎_elim (λ z. absurd (n z)) (λ j. o.older g k (f.made.oldest g k j i)) (w.2 g m);
      needed =
          ⊎_elim (λ None. inl (λ g m. ⊎_elim (λ z. z) (λ j. absurd (None g j)) (w.2 g m)))
          (λ h. inr (last_back x t a len w.0 ks f.made.gone o f.long f.made.parted w.2 w.3 h))
          f.made.needed;
    }

-- ---- a jump
record JumpFacts (x : Shelf) (t : List ShelfRecord) (a : Area) (y : After) : Type 0 where
  passed : Passed x t a
  there : area_place a (present_records x t) < length (present_records x t)
  is : y ≡ holding x t (jumped x (present_records x t) a)

held→ : (x : Shelf) (t : List ShelfRecord) (b : Bool) (new : List ShelfRecord) (y : After)
    → held_by x t (cond b (Some new) None) ≡ Some y → (b ≡ true) × (y ≡ holding x t new)
unfolding held_by
held→ x t true new y e = (refl, cc)
held→ x t false new y e = let z : ◌≡◌ {A = ℕ} 0 1 = cc in let f : ⊥ = omega arith in absurd f

jump_facts : (x : Shelf) (t : List ShelfRecord) (a : Area) (y : After) → jump x t a ≡ Accepted (Some y)
    → JumpFacts x t a y
unfolding jump jumping jumped_in among
jump_facts x t a y e =
    let b = bind→ (jumping x (length t) (present_records x t) a) (λ o. Accepted (held_by x t o)) (Some y) e in
    let q = asked→ (questions x (length t) (present_records x t) a []) (Accepted (jumped_in x (present_records x t) a))
    b.value refl b.first in
    let n : jumped_in x (present_records x t) a ≡ b.value = accepted_eq _ _ q.1 in
    let z : held_by x t b.value ≡ Some y = accepted_eq _ _ b.second in
    let h = held→ x t (among a (present_records x t)) (jumped x (present_records x t) a) y (ap (held_by x t) n ∙ z) in
    record { passed = passed x t a q.0.1.0 q.0.1.1.0; there = ltb-true _ _ h.0; is = h.1 }

present_length : {x : Shelf} {t : List ShelfRecord} {a : Area} → Passed x t a → length (present_records x t) ≡ x.present
present_length {x} {t} p = let r = p.room in let f = p.few in length-take x.present t ∙ (omega arith)

-- another stamp changes neither areas nor lengths
module _ (stamp : ℕ) where
  place_stamped : (b : Area) (rs : List ShelfRecord) (i : ℕ) → area_place b (restamped rs i stamp) ≡ area_place b rs
  unfolding area_place restamped
  place_stamped b [] i = refl
  place_stamped b (r ∷ rs) zero = refl
  place_stamped b (r ∷ rs) (suc i) = ap (λ (n : ℕ). cond (same_area (area_of r) b) 0 (suc n)) (place_stamped b rs i)

  length_stamped : (rs : List ShelfRecord) (i : ℕ) → length (restamped rs i stamp) ≡ length rs
  unfolding restamped
  length_stamped rs i = length-set rs i _

  no_two_stamped : (rs : List ShelfRecord) (i : ℕ) → no_two (restamped rs i stamp) ≡ no_two rs
  unfolding no_two restamped among
  no_two_stamped [] i = refl
  no_two_stamped (r ∷ rs) zero = refl
  no_two_stamped (r ∷ rs) (suc i) = rw (place_stamped (area_of r) rs i, length_stamped rs i, no_two_stamped rs i)

  sum_stamped : (rs : List ShelfRecord) (i : ℕ) → sum (restamped rs i stamp) ≡ sum rs
  unfolding sum restamped
  sum_stamped [] i = refl
  sum_stamped (r ∷ rs) zero = refl
  sum_stamped (r ∷ rs) (suc i) = ap (λ (n : ℕ). r.len + n) (sum_stamped rs i)

jump_valid : (x : Shelf) (t : List ShelfRecord) (a : Area) (y : After) → jump x t a ≡ Accepted (Some y) → ValidAfter t y
unfolding jumped
jump_valid x t a y e =
    let f = jump_facts x t a y e in
    let rs = present_records x t in
    let i = area_place a rs in
    let s = x.count + 1 in
    let p = f.passed in
    let n = length_stamped s rs i in
    let z = present_length p in
    let few = p.few in
    let w = p.within in
    let v = sum_stamped s rs i in
    rw f.is (valid_new x t (restamped rs i s) p.room (omega arith) (no_two_stamped s rs i ∙ p.apart)
    (omega arith))

pub jump_leaves : Jumped
unfolding jumped restamped
jump_leaves x t a y e =
    let f = jump_facts x t a y e in
    let rs = present_records x t in
    let i = area_place a rs in
    let z = present_length f.passed in
    let l = f.there in
    let g : get_or rs i no_record ≡ get_or t i no_record = get_or-take x.present t i no_record (omega arith) in
    let o : area_of (get_or rs i no_record) ≡ a = place_at a rs l in
    let r = record_of a (get_or t i no_record).len (x.count + 1) in
    let w : record_of (area_of (get_or rs i no_record)) (get_or rs i no_record).len (x.count + 1) ≡ r =
    ap₂ (λ (b : Area) (q : ShelfRecord). record_of b q.len (x.count + 1)) o g in
    let n : length (set rs i (record_of (area_of (get_or rs i no_record)) (get_or rs i no_record).len (x.count + 1)))
    ≡ x.present = length-set rs i _ ∙ z in
    let k : set rs i r ++ drop x.present t ≡ set t i r =
    sym (set-append_left rs (drop x.present t) i r l)
    ∙ ap (λ (u : List ShelfRecord). set u i r) (take-append-drop x.present t) in
    record {
      at = i;
      inside = omega arith;
      own = sym (ap area_of g) ∙ o;
      stamped =
          ap (λ (u : After). u.table) f.is
          ∙ ap₂ (λ (u : List ShelfRecord) (m : ℕ). u ++ drop m t) (ap (set rs i) w) n ∙ k;
      counted = ap (λ (u : After). u.shelf.count) f.is;
      same = ap (λ (u : After). u.shelf.present) f.is ∙ n;
    }

pub shelf_valid : ShelfValid
shelf_valid = record { entered = enter_valid; jumped = jump_valid }

-- ---- what is accepted
accepts_enter : (x : Shelf) (t : List ShelfRecord) (a : Area) (len : ℕ) → Asked x t a → len ≤ x.limit → (y : After)
    × (enter x t a len ≡ Accepted y)
unfolding enter entering
accepts_enter x t a len h l = (
  holding x t (entered x (present_records x t) a len),
  →bind (λ new. Accepted (holding x t new))
      (→asked (questions x (length t) (present_records x t) a (ask (leb len x.limit) 50 ∷ [])) (
        h.area,
        (
          le-leb 64 (length t) h.room,
          (h.shelf, (lt-ltb x.count max64 h.count, (le-leb len x.limit l, tt))),
        ),
      ) refl) refl,
)

jump_asked : (x : Shelf) (t : List ShelfRecord) (a : Area) → Asked x t a → jump x t a
    ≡ Accepted (held_by x t (jumped_in x (present_records x t) a))
unfolding jump jumping
jump_asked x t a h =
    →bind (λ o. Accepted (held_by x t o))
    (→asked (questions x (length t) (present_records x t) a [])
    (h.area, (le-leb 64 (length t) h.room, (h.shelf, (lt-ltb x.count max64 h.count, tt)))) refl) refl

accepts_jump : (x : Shelf) (t : List ShelfRecord) (a : Area) → Asked x t a → (i : ℕ) → i < x.present
    → area_of (get_or t i no_record) ≡ a
    → (y : After) × (jump x t a ≡ Accepted (Some y))
unfolding jumped_in held_by
accepts_jump x t a h i l e =
    let p = passed x t a (le-leb 64 (length t) h.room) h.shelf in
    let z = present_length p in
    let g : get_or (present_records x t) i no_record ≡ get_or t i no_record = get_or-take x.present t i no_record l in
    let m : among a (present_records x t) ≡ true = among_mem (present_records x t)
    (get_or (present_records x t) i no_record) a (mem_at (present_records x t) i (omega arith)) (ap area_of g ∙ e) in
    (holding x t (jumped x (present_records x t) a), jump_asked x t a h ∙ rw m)

absent_jump : (x : Shelf) (t : List ShelfRecord) (a : Area) → Asked x t a
    → ((i : ℕ) → i < x.present → area_of (get_or t i no_record) ≢ a) → jump x t a ≡ Accepted None
unfolding jumped_in held_by
absent_jump x t a h f =
    let p = passed x t a (le-leb 64 (length t) h.room) h.shelf in
    let z = present_length p in
    test (among a (present_records x t))
    (λ m.
    let r = among→ (present_records x t) a m in
    let j = place_of (present_records x t) r.0 r.1 in
    let k = j.1 in
    let l : j.0 < x.present = omega arith in
    let g : get_or (present_records x t) j.0 no_record
    ≡ get_or t j.0 no_record = get_or-take x.present t j.0 no_record l in
    absurd (f j.0 l (sym (ap area_of (j.2 ∙ g)) ∙ r.2)))
    (λ m. jump_asked x t a h ∙ rw m)

pub shelf_accepts : ShelfAccepts
shelf_accepts = record { enters = accepts_enter; jumps = accepts_jump; absent = absent_jump }
