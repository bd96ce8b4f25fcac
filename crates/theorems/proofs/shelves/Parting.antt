-- Records that are dropped, the oldest first, until there is room. Assumes nothing.
use mathlib.Core.Path.{◌≡◌, refl, sym, ap, ◌∙◌}
use mathlib.Core.Bool.{true, false}
use mathlib.Core.List.Memᴰ
use mathlib.Core.List.{List, [], ◌∷◌, ◌++◌, Memᴰ}
use mathlib.Core.Logic.{◌⊎◌, inl, inr, ⊎_elim}
use Prim.Native.Nat.{ℕ, zero, suc, ◌+◌, ◌<◌, ◌≤◌}
use native.Mathlib.Omega.{arith}
use borrow.Author.Tests.{ltb-true, ltb-false}
use lib.Dec.{ltb}
use lib.ListN.{length, get_or, take, drop, length-take, length-drop}
use lib.Seq.{split_at, get_or-take, get_or-drop}
use Rattle.rules.proofs.Tests.{test, order, choose, nil_of}
use Rattle.rules_shelf.specs.declared.ShelfRecord.{ShelfRecord}
use Rattle.rules_shelf.specs.Shelf.{no_record, drop_at, stamp_at, older, oldest_of, oldest, roomy, make_room}
use Rattle.rules_shelf.proofs.Laws.{drop_length, oldest_le, oldest_lt, made, made_more, roomy_none}
use Rattle.theorems.specs.Shelf.{Parted, nothing, stays, goes, Before, first, later, Older}

abbrev Mem : ShelfRecord → List ShelfRecord → Type 0
Mem r rs = Memᴰ r rs

-- ---- all stay
pub all_stay : (rs : List ShelfRecord) → Parted rs [] rs
all_stay [] = nothing
all_stay (r ∷ rs) = stays (all_stay rs)

-- what stays was there
pub stay_mem : {ks gs rs : List ShelfRecord} {r : ShelfRecord} → Parted ks gs rs → Mem r ks → Mem r rs
stay_mem nothing m = m
stay_mem (stays h) m = ⊎_elim (λ e. Memᴰ.head e) (λ n. Memᴰ.tail (stay_mem h n)) (Memᴰ.cases_cons m)
stay_mem (goes h) m = Memᴰ.tail (stay_mem h m)

pub gone_mem : {ks gs rs : List ShelfRecord} {r : ShelfRecord} → Parted ks gs rs → Mem r gs → Mem r rs
gone_mem nothing m = m
gone_mem (stays h) m = Memᴰ.tail (gone_mem h m)
gone_mem (goes h) m = ⊎_elim (λ e. Memᴰ.head e) (λ n. Memᴰ.tail (gone_mem h n)) (Memᴰ.cases_cons m)

-- ---- one more that goes
pub record More (ks gs : List ShelfRecord) (d : ShelfRecord) (rs : List ShelfRecord) : Type 0 where
  pub gone : List ShelfRecord
  pub parted : Parted ks gone rs
  pub back : (e : ShelfRecord) → Mem e gone → (e ≡ d) ⊎ Mem e gs
  pub here : Mem d gone
  pub forth : (e : ShelfRecord) → Mem e gs → Mem e gone

pub one_more : {ks gs : List ShelfRecord} (p : List ShelfRecord) (d : ShelfRecord) (q : List ShelfRecord)
    → Parted ks gs (p ++ q) → More ks gs d (p ++ d ∷ q)
one_more {ks} {gs} [] d q h =
    record {
      gone = d ∷ gs;
      parted = goes h;
      back = λ e m. Memᴰ.cases_cons m;
      here = Memᴰ.head refl;
      forth = λ e m. Memᴰ.tail m;
    }
one_more (r ∷ p) d q (stays h) =
    let i = one_more p d q h in record {
      gone = i.gone;
      parted = stays i.parted;
      back = i.back;
      here = i.here;
      forth = i.forth;
    }
one_more (r ∷ p) d q (goes h) =
    let i = one_more p d q h in
    record {
      gone = r ∷ i.gone;
      parted = goes i.parted;
      back = λ e m. ⊎_elim (λ z. inr (Memᴰ.head z))
          (λ n. ⊎_elim (λ z. inl z) (λ k. inr (Memᴰ.tail k)) (i.back e n)) (Memᴰ.cases_cons m);
      here = Memᴰ.tail i.here;
      forth = λ e m. ⊎_elim (λ z. Memᴰ.head z) (λ n. Memᴰ.tail (i.forth e n)) (Memᴰ.cases_cons m);
    }

-- where none goes, all stay
pub only_stay : {ks gs rs : List ShelfRecord} → Parted ks gs rs → ((g : ShelfRecord) → Mem g gs → ⊥) → rs ≡ ks
only_stay nothing f = refl
only_stay {ks} {gs} {rs} (stays {r} h) f = ap (λ (t : List ShelfRecord). r ∷ t) (only_stay h f)
only_stay (goes {r} h) f = absurd (f r (Memᴰ.head refl))

-- ---- the order of two, with one more between
mem_more : {s : ShelfRecord} (p : List ShelfRecord) (d : ShelfRecord) (q : List ShelfRecord) → Mem s (p ++ q)
    → Mem s (p ++ d ∷ q)
mem_more p d q m = ⊎_elim (λ n. Memᴰ.append_left (d ∷ q) n) (λ n. Memᴰ.append_right p (Memᴰ.tail n))
    (Memᴰ.append_cases p m)

before_more : {r s : ShelfRecord} (p : List ShelfRecord) (d : ShelfRecord) (q : List ShelfRecord)
    → Before r s (p ++ q) → Before r s (p ++ d ∷ q)
before_more [] d q b = later b
before_more (x ∷ p) d q (first m) = first (mem_more p d q m)
before_more (x ∷ p) d q (later b) = later (before_more p d q b)

pub older_more : {r s : ShelfRecord} (p : List ShelfRecord) (d : ShelfRecord) (q : List ShelfRecord)
    → Older (p ++ q) r s → Older (p ++ d ∷ q) r s
older_more p d q (inl l) = inl l
older_more p d q (inr e) = inr (e.0, before_more p d q e.1)

before_at : {s : ShelfRecord} (p : List ShelfRecord) (d : ShelfRecord) (q : List ShelfRecord) → Mem s q
    → Before d s (p ++ d ∷ q)
before_at [] d q m = first m
before_at (x ∷ p) d q m = later (before_at p d q m)

-- ---- the oldest of some records
pub record Lowest (rs : List ShelfRecord) (n o : ℕ) : Type 0 where
  pub before : (j : ℕ) → j < o → stamp_at rs o < stamp_at rs j
  pub after : (j : ℕ) → j < n → stamp_at rs o ≤ stamp_at rs j

lowest : (rs : List ShelfRecord) (n : ℕ) → Lowest rs n (oldest_of rs n)
unfolding oldest_of older
lowest rs zero = record {
  before = λ j l. let f : ⊥ = omega arith in absurd f;
  after = λ j l. let f : ⊥ = omega arith in absurd f;
}
lowest rs (suc n) =
    let h = lowest rs n in
    let b = oldest_le rs n in
    choose (Lowest rs (suc n)) (ltb (stamp_at rs n) (stamp_at rs (oldest_of rs n))) n (oldest_of rs n)
    (λ e.
    let l : stamp_at rs n < stamp_at rs (oldest_of rs n) = ltb-true _ _ e in
    record {
      before = λ j m. let q = h.after j m in omega arith;
      after = λ j m. order j n (λ k. let q = h.after j k in omega arith) (λ k. let f : ⊥ = omega arith in absurd f)
          (λ k. rw k (omega arith));
    })
    (λ e.
    let l : stamp_at rs (oldest_of rs n) ≤ stamp_at rs n = ltb-false _ _ e in
    record {
      before = h.before;
      after = λ j m. order j n (λ k. h.after j k) (λ k. let f : ⊥ = omega arith in absurd f) (λ k. rw k l);
    })

-- a member stands at a place
pub place_of : (rs : List ShelfRecord) (s : ShelfRecord) → Mem s rs → (j : ℕ) × (j < length rs)
    × (s ≡ get_or rs j no_record)
place_of [] s m = absurd (Memᴰ.not-nil m)
place_of (r ∷ rs) s m =
    ⊎_elim (λ e. (0, omega arith, e)) (λ k. let p = place_of rs s k
    in (suc p.0, (let l = p.1 in omega arith), p.2)) (Memᴰ.cases_cons m)

-- the oldest is older than each of the others
oldest_older : (rs : List ShelfRecord) (o : ℕ) → o < length rs → Lowest rs (length rs) o → (s : ShelfRecord)
    → Mem s (drop_at o rs)
    → Older (take o rs ++ get_or rs o no_record ∷ drop (suc o) rs) (get_or rs o no_record) s
unfolding drop_at
oldest_older rs o l h s m =
    ⊎_elim
    (λ k.
    let p = place_of (take o rs) s k in
    let i = p.1 in
    let t = length-take o rs in
    let j : p.0 < o = omega arith in
    let e : get_or (take o rs) p.0 no_record ≡ get_or rs p.0 no_record = get_or-take o rs p.0 no_record j in
    let q = h.before p.0 j in
    let z : stamp_at rs p.0 ≡ s.stamp = sym (ap (λ (r : ShelfRecord). r.stamp) (p.2 ∙ e)) in
    inl (omega arith))
    (λ k.
    let p = place_of (drop (suc o) rs) s k in
    let i = p.1 in
    let t = length-drop (suc o) rs in
    let e : get_or (drop (suc o) rs) p.0 no_record
    ≡ get_or rs (suc o + p.0) no_record = get_or-drop (suc o) rs p.0 no_record in
    let q = h.after (suc o + p.0) (omega arith) in
    let z : stamp_at rs (suc o + p.0) ≡ s.stamp = sym (ap (λ (r : ShelfRecord). r.stamp) (p.2 ∙ e)) in
    order (stamp_at rs o) s.stamp (λ d. inl d) (λ d. let f : ⊥ = omega arith in absurd f)
    (λ d. inr (d, before_at (take o rs) (get_or rs o no_record) (drop (suc o) rs) k)))
    (Memᴰ.append_cases (take o rs) m)

-- ---- what making room leaves
pub record Last (room : ℕ) (rs ks gone : List ShelfRecord) : Type 0 where
  pub back : List ShelfRecord
  pub at : ℕ
  pub inside : at < length back
  pub dropped : drop_at at back ≡ ks
  pub among : Mem (get_or back at no_record) gone
  pub last : (g : ShelfRecord) → Mem g gone → (g ≡ get_or back at no_record) ⊎ Older rs g (get_or back at no_record)
  pub full : roomy room back ≡ false

pub record Made (room : ℕ) (rs ks : List ShelfRecord) : Type 0 where
  pub gone : List ShelfRecord
  pub parted : Parted ks gone rs
  pub oldest : (g k : ShelfRecord) → Mem g gone → Mem k ks → Older rs g k
  pub fits : roomy room ks ≡ true
  pub needed : ((g : ShelfRecord) → Mem g gone → ⊥) ⊎ Last room rs ks gone

made_fits : (room : ℕ) (rs : List ShelfRecord) → roomy room rs ≡ true → Made room rs rs
made_fits room rs e =
    record {
      gone = [];
      parted = all_stay rs;
      oldest = λ g k m. absurd (Memᴰ.not-nil m);
      fits = e;
      needed = inl (λ g m. Memᴰ.not-nil m);
    }

made_drop : (room : ℕ) (rs ks : List ShelfRecord) (o : ℕ) → o < length rs → Lowest rs (length rs) o → roomy room rs
    ≡ false → Made room (drop_at o rs) ks → Made room rs ks
unfolding drop_at
made_drop room rs ks o l h f m =
    let d = get_or rs o no_record in
    let p = take o rs in
    let q = drop (suc o) rs in
    let z : p ++ d ∷ q ≡ rs = sym (split_at rs o no_record l) in
    let w = one_more p d q m.parted in
    let old : (s : ShelfRecord) → Mem s (drop_at o rs) → Older rs d s = λ s k. rw z at (oldest_older rs o l h s k) in
    let up : (r s : ShelfRecord) → Older (drop_at o rs) r s → Older rs r s = λ r s k. rw z at (older_more p d q k) in
    record {
      gone = w.gone;
      parted = rw z at w.parted;
      oldest = λ g k i j. ⊎_elim (λ e. rw e (old k (stay_mem m.parted j))) (λ n. up g k (m.oldest g k n j))
          (w.back g i);
      fits = m.fits;
      needed =
          inr
          (⊎_elim
          (λ none.
          record {
            back = rs;
            at = o;
            inside = l;
            dropped = only_stay m.parted none;
            among = w.here;
            last = λ g i. ⊎_elim (λ e. inl e) (λ n. absurd (none g n)) (w.back g i);
            full = f;
          })
          (λ t.
          record {
            back = t.back;
            at = t.at;
            inside = t.inside;
            dropped = t.dropped;
            among = w.forth (get_or t.back t.at no_record) t.among;
            last =
                λ g i.
                ⊎_elim (λ e. inr (rw e (old (get_or t.back t.at no_record) (gone_mem m.parted t.among))))
                (λ n. ⊎_elim (λ e. inl e) (λ y. inr (up g (get_or t.back t.at no_record) y)) (t.last g n))
                (w.back g i);
            full = t.full;
          }) m.needed);
    }

pub made_room : (n room : ℕ) (rs : List ShelfRecord) → length rs ≡ n → Made room rs (make_room n room rs)
made_room zero room rs e =
    let z : rs ≡ [] = nil_of rs e in
    let r : roomy room rs ≡ true = ap (roomy room) z ∙ roomy_none room in
    rw (made zero room rs r) (made_fits room rs r)
made_room (suc n) room rs e =
    test (roomy room rs) (λ t. rw (made (suc n) room rs t) (made_fits room rs t))
    (λ t.
    let o : oldest rs < length rs = rw e (oldest_lt rs n) in
    let k : length (drop_at (oldest rs) rs) ≡ n = let y = drop_length (oldest rs) rs o in omega arith in
    rw (made_more n room rs t) (made_drop room rs (make_room n room (drop_at (oldest rs) rs)) (oldest rs) o
    (lowest rs (length rs)) t (made_room n room (drop_at (oldest rs) rs) k)))
