-- The calls over a table: what is taken, changed and written is what the definitions say. Assumes nothing.
use Rattle.std.specs.Prelude.{Option, None, Some}
use mathlib.Core.Path.{◌≡◌, refl, sym, ap, ap₂, ◌∙◌}
use mathlib.Core.Bool.{true, false}
use mathlib.Core.List.{List, [], ◌∷◌, ◌++◌}
use mathlib.Core.Logic.{◌⊎◌, inl, inr, ⊎_elim}
use Prim.Native.Nat.{ℕ, zero, suc, ◌+◌, ◌<◌, ◌≤◌, min}
use native.Mathlib.Omega.{arith}
use borrow.Author.Tests.{leb-true, ne_eqb}
use lib.Dec.{leb}
use lib.ListN.{length, get_or, take, drop, length-set, length-take, take-append-drop}
use lib.Seq.{take-suc, take-suc-set, drop-set-lt}
use Rattle.rules.specs.declared.Area.{Area}
use Rattle.rules.specs.Tests.{all, Ask, ask, first_no, Answer, Refused, Accepted, after, bind}
use Rattle.rules.specs.Questions.{area_ok}
use Rattle.rules.proofs.Tests.{test}
use Rattle.rules_shelf.specs.declared.Shelf.{Shelf}
use Rattle.rules_shelf.specs.declared.ShelfRecord.{ShelfRecord}
use Rattle.rules_shelf.specs.Shelf.{no_record, area_of, present_records, drop_at, shelf_ok, questions, entering, jumping, records_over, holding, enter, held_by, jump}
use Rattle.shelf.specs.declared.Change.{Change}
use Rattle.shelf.specs.declared.Kept.{Kept}
use Rattle.shelf.specs.declared.ShelfAnswer.{ShelfAnswer}
use Rattle.shelf.specs.Shelf.{some_of, clamp, ShelfOut, shelf_out, shelf_out_of, enter_call, jump_call}
use Rattle.shelf.specs.Steps.{told, new_of, Changes, Sound, Stands, list_of, written}
use Rattle.shelf.proofs.Laws.{list_length}

-- ---- records written over the start of a table
pub length_written : (n : ℕ) (l t : List ShelfRecord) → length (written n l t) ≡ length t
unfolding written
length_written zero l t = refl
length_written (suc n) l t = length-set (written n l t) n (get_or l n no_record) ∙ length_written n l t

written_first : (n : ℕ) (l t : List ShelfRecord) → n ≤ length l → n ≤ length t → take n (written n l t) ≡ take n l
unfolding written
written_first zero l t a b = refl
written_first (suc n) l t a b =
    let w = length_written n l t in
    take-suc-set (written n l t) n (get_or l n no_record) (omega arith)
    ∙ ap (λ (s : List ShelfRecord). s ++ (get_or l n no_record ∷ [])) (written_first n l t (omega arith) (omega arith))
    ∙ sym (take-suc l n no_record (omega arith))

written_rest : (n m : ℕ) (l t : List ShelfRecord) → n ≤ m → drop m (written n l t) ≡ drop m t
unfolding written
written_rest zero m l t a = refl
written_rest (suc n) m l t a = drop-set-lt m (written n l t) n (get_or l n no_record) (omega arith)
    ∙ written_rest n m l t (omega arith)

pub written_is : (n : ℕ) (l t : List ShelfRecord) → n ≤ length l → n ≤ length t → written n l t ≡ take n l ++ drop n t
written_is n l t a b =
    sym (take-append-drop n (written n l t)) ∙ ap₂ (λ (p q : List ShelfRecord). p ++ q) (written_first n l t a b)
    (written_rest n n l t (omega arith))

-- ---- how many are taken
pub clamp_few : (x : Shelf) (room n : ℕ) → n ≡ clamp x room → (n ≤ 64) × (n ≤ room)
unfolding clamp
clamp_few x room n e = (omega arith, omega arith)

-- the number of the first question answered no does not depend on the records where the table or
-- the number of records is no
record Fixed (x : Shelf) (room : ℕ) (a : Area) (qs : List Ask) : Type 0 where
  number : ℕ
  refuses : number ≡ 0 → ⊥
  every : (rs : List ShelfRecord) → number ≡ first_no (questions x room rs a qs)

no_room : (x : Shelf) (room : ℕ) (a : Area) (qs : List Ask) → leb 64 room ≡ false → Fixed x room a qs
unfolding first_no
no_room x room a qs e =
    test (area_ok a) (λ p. record { number = 3; refuses = λ z. let f : ⊥ = omega arith in f; every = λ rs. rw (p, e) })
    (λ p. record { number = 1; refuses = λ z. let f : ⊥ = omega arith in f; every = λ rs. rw p })

too_many : (x : Shelf) (room : ℕ) (a : Area) (qs : List Ask) → leb 64 room ≡ true → leb x.present 64 ≡ false
    → Fixed x room a qs
unfolding first_no shelf_ok all
too_many x room a qs e d =
    test (area_ok a) (λ p. record {
      number = 4;
      refuses = λ z. let f : ⊥ = omega arith in f;
      every = λ rs. rw
          (p, e, d);
    })
    (λ p. record { number = 1; refuses = λ z. let f : ⊥ = omega arith in f; every = λ rs. rw p })

-- all that are present were taken, or the call is refused whatever was taken
taken_all : (x : Shelf) (ys : List ShelfRecord) (a : Area) (qs : List Ask)
    → (take (clamp x (length ys)) ys ≡ present_records x ys) ⊎ Fixed x (length ys) a qs
unfolding clamp
taken_all x ys a qs =
    test (leb 64 (length ys))
    (λ e.
    test (leb x.present 64)
    (λ d.
    let p = leb-true 64 (length ys) e in
    let q = leb-true x.present 64 d in
    let z : min (min x.present 64) (length ys) ≡ x.present = omega arith in
    inl (ap (λ (n : ℕ). take n ys) z)) (λ d. inr (too_many x (length ys) a qs e d)))
    (λ e. inr (no_room x (length ys) a qs e))

refused_by : {A : Type 0} (n m : ℕ) (y : Answer A) → n ≡ m → (n ≡ 0 → ⊥) → after m y ≡ Refused n
unfolding after
refused_by n m y e h = rw (← e) (rw (ne_eqb n 0 h))

enter_same : (x : Shelf) (ys : List ShelfRecord) (a : Area) (len : ℕ)
    → entering x (length ys) (take (clamp x (length ys)) ys) a len ≡ entering x (length ys) (present_records x ys) a len
unfolding entering
enter_same x ys a len =
    ⊎_elim (λ e. ap (λ (rs : List ShelfRecord). entering x (length ys) rs a len) e)
    (λ f. refused_by f.number _ _ (f.every (take (clamp x (length ys)) ys)) f.refuses
    ∙ sym (refused_by f.number _ _ (f.every (present_records x ys)) f.refuses))
    (taken_all x ys a (ask (leb len x.limit) 50 ∷ []))

jump_same : (x : Shelf) (ys : List ShelfRecord) (a : Area) → jumping x (length ys) (take (clamp x (length ys)) ys)
    a ≡ jumping x (length ys) (present_records x ys) a
unfolding jumping
jump_same x ys a =
    ⊎_elim (λ e. ap (λ (rs : List ShelfRecord). jumping x (length ys) rs a) e)
    (λ f. refused_by f.number _ _ (f.every (take (clamp x (length ys)) ys)) f.refuses
    ∙ sym (refused_by f.number _ _ (f.every (present_records x ys)) f.refuses))
    (taken_all x ys a [])

-- ---- what is written fits the table
enter_room : (x : Shelf) (room : ℕ) (rs : List ShelfRecord) (a : Area) (len : ℕ) → leb 64 room ≡ false
    → new_of (some_of (entering x room rs a len)) ≡ []
unfolding entering some_of new_of
enter_room x room rs a len e =
    let f = no_room x room a (ask (leb len x.limit) 50 ∷ []) e in ap
    (λ (y : Answer (List ShelfRecord)). new_of (some_of y)) (refused_by f.number _ _ (f.every rs) f.refuses)

jump_room : (x : Shelf) (room : ℕ) (rs : List ShelfRecord) (a : Area) → leb 64 room ≡ false
    → new_of (jumping x room rs a) ≡ []
unfolding jumping new_of
jump_room x room rs a e = let f = no_room x room a [] e in ap new_of
    (refused_by f.number _ _ (f.every rs) f.refuses)

change_fits : (c : Change) (x : Shelf) (r : Answer (Option (List ShelfRecord))) (room : ℕ) → Changes c x r
    → (leb 64 room ≡ false → new_of r ≡ []) → c.n ≤ room
change_fits c x r room h g =
    let f = h.few in
    let w = h.wide in
    test (leb 64 room) (λ e. let p = leb-true 64 room e in omega arith)
    (λ e.
    let z : length (take c.n c.all) ≡ 0 = ap length (h.new ∙ g e) in
    let v : length (take c.n c.all) ≡ min c.n (length c.all) = length-take c.n c.all in
    omega arith)

-- ---- a call: b is what was changed, m its count, zs the table afterwards
module _ (c : Change) (x : Shelf) (r : Answer (Option (List ShelfRecord))) (ys : List ShelfRecord) (h : Changes c x r)
    (g : leb 64 (length ys) ≡ false → new_of r ≡ []) where
  changed_fits : (b : Kept) (m : ℕ) → (b.all ≡ c.all) × (b.n ≡ c.n) → m ≡ b.n → (m ≤ 64) × (m ≤ length ys)
  changed_fits b m e d =
      let f = h.few in
      let l = change_fits c x r (length ys) h g in
      let k = e.1 in
      (omega arith, omega arith)

  written_out : (b : Kept) (m : ℕ) (zs : List ShelfRecord) (v : ShelfAnswer) → (b.all ≡ c.all) × (b.n ≡ c.n)
      → m ≡ b.n → zs ≡ written m b.all ys → v ≡ c.answer
      → shelf_out v zs ≡ shelf_out (told x r) (records_over (new_of r) ys)
  written_out b m zs v e d w a =
      let f = h.few in
      let l = change_fits c x r (length ys) h g in
      let k : m ≡ c.n = d ∙ e.1 in
      let wide = h.wide in
      let n : length (take c.n c.all) ≡ c.n = let q = length-take c.n c.all in omega arith in
      let t : length (new_of r) ≡ c.n = sym (ap length h.new) ∙ n in
      let z : written c.n c.all ys ≡ take c.n c.all ++ drop c.n ys = written_is c.n c.all ys
      (omega arith) l in
      let s : zs ≡ records_over (new_of r) ys =
      w ∙ ap₂ (λ (i : ℕ) (q : List ShelfRecord). written i q ys) k e.0 ∙ z
      ∙ ap₂ (λ (p : List ShelfRecord) (i : ℕ). p ++ drop i ys) h.new (sym t) in
      ap₂ shelf_out (a ∙ h.answers) s

told_enter : (x : Shelf) (ys : List ShelfRecord) (y : Answer (List ShelfRecord))
    → shelf_out (told x (some_of y)) (records_over (new_of (some_of y)) ys) ≡ shelf_out_of x ys
    (some_of (bind y (λ new. Accepted (holding x ys new))))
unfolding told new_of some_of shelf_out_of bind
told_enter x ys (Refused n) = refl
told_enter x ys (Accepted new) = refl

told_jump : (x : Shelf) (ys : List ShelfRecord) (y : Answer (Option (List ShelfRecord)))
    → shelf_out (told x y) (records_over (new_of y) ys) ≡ shelf_out_of x ys (bind y (λ o. Accepted (held_by x ys o)))
unfolding told new_of shelf_out_of bind held_by
told_jump x ys (Refused n) = refl
told_jump x ys (Accepted None) = refl
told_jump x ys (Accepted (Some new)) = refl

-- a call whose change answers answer_of of the records that were taken, and which is to give called
pub record Answered (x : Shelf) (ys : List ShelfRecord) (answer_of : List ShelfRecord
    → Answer (Option (List ShelfRecord))) (called : ShelfOut) : Type 0 where
  pub no_room : (rs : List ShelfRecord) → leb 64 (length ys) ≡ false → new_of (answer_of rs) ≡ []
  pub gives : (rs : List ShelfRecord) → rs ≡ take (clamp x (length ys)) ys
      → shelf_out (told x (answer_of rs)) (records_over (new_of (answer_of rs)) ys) ≡ called

module _ {x : Shelf} {ys : List ShelfRecord} {answer_of : List ShelfRecord → Answer (Option (List ShelfRecord))}
    {called : ShelfOut} (l : Answered x ys answer_of called)
    {n : ℕ} {a : Kept} {c : Change} (t : n ≡ clamp x (length ys)) (s : Stands a (take n ys))
    (h : Changes c x (answer_of (list_of a))) {b : Kept} {m : ℕ}
    (e : (b.all ≡ c.all) × (b.n ≡ c.n)) (d : m ≡ b.n) where
  pub fits_table : (m ≤ 64) × (m ≤ length ys)
  fits_table = changed_fits c x _ ys h (l.no_room (list_of a)) b m e d

  pub gives_out : {zs : List ShelfRecord} {v : ShelfAnswer} → zs ≡ written m b.all ys → v ≡ c.answer
      → shelf_out v zs ≡ called
  gives_out {zs} {v} w u =
      written_out c x _ ys h (l.no_room (list_of a)) b m zs v e d w u
      ∙ l.gives (list_of a) (s.same ∙ ap (λ (i : ℕ). take i ys) t)

module _ (x : Shelf) (ys : List ShelfRecord) (g : ShelfRecord) where
  abbrev pub enter_answer : List ShelfRecord → Answer (Option (List ShelfRecord))
  enter_answer rs = some_of (entering x (length ys) rs (area_of g) g.len)

  abbrev pub jump_answer : List ShelfRecord → Answer (Option (List ShelfRecord))
  jump_answer rs = jumping x (length ys) rs (area_of g)

  pub enter_answered : Answered x ys enter_answer (enter_call x ys g)
  unfolding enter_call enter
  enter_answered = record {
    no_room = λ rs. enter_room x (length ys) rs (area_of g) g.len;
    gives = λ rs e.
        told_enter x ys (entering x (length ys) rs (area_of g) g.len)
        ∙ ap (λ (y : Answer (List ShelfRecord)). shelf_out_of x ys (some_of (bind y (λ new. Accepted (holding x ys new)))))
        (ap (λ (rs : List ShelfRecord). entering x (length ys) rs (area_of g) g.len) e
        ∙ enter_same x ys (area_of g) g.len);
  }

  pub jump_answered : Answered x ys jump_answer (jump_call x ys g)
  unfolding jump_call jump
  jump_answered = record {
    no_room = λ rs. jump_room x (length ys) rs (area_of g);
    gives = λ rs e.
        told_jump x ys (jumping x (length ys) rs (area_of g))
        ∙ ap (λ (y : Answer (Option (List ShelfRecord))). shelf_out_of x ys (bind y (λ o. Accepted (held_by x ys o))))
        (ap (λ (rs : List ShelfRecord). jumping x (length ys) rs (area_of g)) e ∙ jump_same x ys (area_of g));
  }

-- ---- drop
module _ (n i : ℕ) (a : Kept) where
  taken_n : (ys : List ShelfRecord) → Stands a (take n ys) → n ≤ length ys → a.n ≡ n
  taken_n ys s l = let z = length-take n ys in let w : a.n ≡ length (take n ys) = sym (list_length a s.sound)
      ∙ ap length s.same in omega arith

  pub drop_needs : (ys : List ShelfRecord) → Stands a (take n ys) → (n ≤ 64) × (n ≤ length ys) × (i < n)
      → Sound a × (i < a.n)
  drop_needs ys s h = let m = taken_n ys s h.1 in let l = h.2 in (s.sound, omega arith)

  module _ (k : Kept) (m : ℕ) (ys : List ShelfRecord) where
    pub drop_fits : Stands a (take n ys) → (n ≤ 64) × (n ≤ length ys) × (i < n)
        → (Stands k (drop_at i (list_of a))) × (k.n + 1 ≡ a.n) → m ≡ k.n → (m ≤ 64) × (m ≤ length ys)
    drop_fits s h e d = let z = taken_n ys s h.1 in let p = h.0 in let q = h.1 in let y = e.1 in
        (omega arith, omega arith)

    pub drop_out : (zs : List ShelfRecord) → Stands a (take n ys) → (n ≤ 64) × (n ≤ length ys) × (i < n)
        → (Stands k (drop_at i (list_of a))) × (k.n + 1 ≡ a.n) → m ≡ k.n
        → zs ≡ written m k.all ys → (m + 1 ≡ n) × (zs ≡ drop_at i (take n ys) ++ drop m ys)
    drop_out zs s h e d w =
        let z = taken_n ys s h.1 in
        let q = h.1 in
        let y = e.1 in
        let f = e.0.sound.few in
        let v = e.0.sound.wide in
        let u : written m k.all ys ≡ take m k.all ++ drop m ys = written_is m k.all ys (omega arith)
        (omega arith) in
        let t : take m k.all ≡ drop_at i (take n ys) = ap (λ (j : ℕ). take j k.all) d ∙ e.0.same
        ∙ ap (drop_at i) s.same in
        (omega arith, w ∙ u ∙ ap (λ (p : List ShelfRecord). p ++ drop m ys) t)
