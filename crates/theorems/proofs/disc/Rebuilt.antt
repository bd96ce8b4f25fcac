-- An accepted disc file by its bodies. Assumes nothing.
use Rattle.std.specs.Prelude.{Option, None, Some}
use mathlib.Core.Path.{◌≡◌, refl, sym, ap, ◌∙◌}
use mathlib.Core.Bool.{true, false}
use mathlib.Core.List.{List, [], ◌∷◌, ◌++◌}
use Prim.Native.Nat.{ℕ, ◌+◌, ◌*◌, ◌≤◌}
use native.Mathlib.Omega.{arith}
use borrow.Author.Tests.{eqb-true, eqb-false, eq-eqb, ne_eqb, leb-true, le-leb}
use lib.Dec.{eqb, leb}
use lib.ListN.{length, take, drop, length-take, length-drop, take-append-drop, drop_of_length-le}
use lib.Seq.{drop-drop}
use Rattle.field.specs.Number.{encode}
use Rattle.field.specs.Records.{bytes_of, Bytes}
use Rattle.field.proofs.Bytes.{bytes_drop}
use Rattle.field.proofs.Number.{encode_number}
use Rattle.field.proofs.Format.{Each, none as nothing, one, bytes_records}
use Rattle.rules.specs.declared.Area.{Area}
use Rattle.rules.specs.Tests.{Accepted, ask}
use Rattle.rules.specs.Values.{Index, Lengths, max32}
use Rattle.rules.specs.Questions.{area_ok, question1, question3, four}
use Rattle.rules.specs.File.{saved, saved_length, save}
use Rattle.rules.specs.Load.{from_bytes, limited, load}
use Rattle.rules.proofs.Tests.{test, all→, →all, asked→, accepted_eq, bind→, none_some, some_eq}
use Rattle.laws.specs.Statements.{Savable, stripped}
use Rattle.laws.proofs.Facts.{sized→}
use Rattle.laws.proofs.Length.{saved_length_is}
use Rattle.laws.proofs.Limit.{large_limit}
use Rattle.laws.proofs.Loaded.{loaded_valid}
use Rattle.laws.proofs.Question4.{saved_bytes}
use Rattle.laws.proofs.Saved.{load_of_save}
use Rattle.theorems.specs.Terms.{Ample}
use Rattle.theorems.proofs.Closure.{load→}
use Rattle.theorems.proofs.RoundTrip.{loaded_saves, loaded_area}
use Rattle.rules_disc.specs.declared.Entry.{Entry}
use Rattle.rules_disc.specs.Disc.{entry, encode_entry, table_size, count_in, entries_in, laid, contents_ok, entry_of, body_at, slot_of, entries_from, contents_of, disc_bytes, entries_ok, load_body}
use Rattle.theorems.proofs.disc.Tables.{EntryFits, entry_layout}
use Rattle.disc_load.proofs.contents.Inside.{none_laid, laid_below}

-- ---- the rule of a table, by its first entry
pub record Front (size s at : ℕ) (e : Entry) (es : List Entry) : Type 0 where
  pub low : s ≤ e.slot
  pub slot : e.slot ≤ 1
  pub here : e.offset ≡ at
  pub rest : laid size (e.slot + 1) (at + e.len) es ≡ true

pub front : (size s at : ℕ) (e : Entry) (es : List Entry) → laid size s at (e ∷ es) ≡ true → Front size s at e es
unfolding laid
front size s at e es h =
    let g = all→ _ h in
    record {
      low = leb-true s e.slot g.0;
      slot = leb-true e.slot 1 g.1.0;
      here = eqb-true e.offset at g.1.1.0;
      rest = g.1.1.1.0;
    }

-- ---- lists whose files are the bodies
pub data Bodies (b : List ℕ) : List Entry → List Index → Type 0 where
  no_more : Bodies b [] []
  body : {e : Entry} {es : List Entry} {x : Index} {xs : List Index} → e.slot ≡ slot_of x
      → take e.len (drop e.offset b) ≡ saved x
      → Bodies b es xs → Bodies b (e ∷ es) (x ∷ xs)

pub record Rebuilt (b : List ℕ) (at : ℕ) (es : List Entry) (xs : List Index) : Type 0 where
  pub entries : es ≡ entries_from at xs
  pub bodies : drop at b ≡ bytes_of saved xs

pub rebuilt : (b : List ℕ) (s at : ℕ) {es : List Entry} {xs : List Index} → Bodies b es xs → laid (length b) s at es
    ≡ true → Rebuilt b at es xs
unfolding entries_from bytes_of
rebuilt b s at no_more h =
    let e = none_laid (length b) s at h in
    record { entries = refl; bodies = drop_of_length-le b {i = at} (omega arith) }
rebuilt b s at (body {e = e} {es = es} {x = x} {xs = xs} p q r) h =
    let f = front (length b) s at e es h in
    let o = f.here in
    let w = laid_below (length b) (e.slot + 1) (at + e.len) es f.rest in
    let t : take e.len (drop at b) ≡ saved x = rw o at q in
    let n : e.len ≡ saved_length x =
    let k = (saved_length_is x).0 in let j : length (take e.len (drop at b))
    ≡ e.len = length-take e.len (drop at b) ∙ rw length-drop (omega arith) in
    sym j ∙ ap length t ∙ sym k in
    let z = rebuilt b (e.slot + 1) (at + e.len) r f.rest in
    let i : e ≡ entry (slot_of x) at (saved_length x) = λ v. entry (p v) (o v) (n v) in
    let m : drop at b ≡ saved x ++ drop (at + e.len) b = sym (take-append-drop e.len (drop at b))
    ∙ rw (t, drop-drop) in
    record {
      entries = λ v. i v ∷ (z.entries ∙ ap (λ (k : ℕ). entries_from (at + k) xs) n) v;
      bodies = m ∙ rw z.bodies;
    }

-- the file of those lists
pub own_file : (b : List ℕ) (xs : List Index) → Bytes b → contents_ok b ≡ true → count_in b ≡ length xs
    → Bodies b (entries_in b) xs → disc_bytes xs ≡ b
unfolding contents_ok disc_bytes
own_file b xs g h c k =
    let a = all→ _ h in
    let t : table_size (count_in b) ≤ length b = leb-true _ _ a.1.1.0 in
    let r = rebuilt b 0 (table_size (count_in b)) k a.1.1.1.0 in
    let d = drop 4 b in
    let l : count_in b * 12 ≤ length d = rw length-drop (omega arith) in
    let head : encode 4 (count_in b) ≡ take 4 b = encode_number 4 b 0 g (omega arith) in
    let two : bytes_of encode_entry (entries_in b) ≡ take (count_in b * 12) d = bytes_records entry_layout (count_in b) d
    (bytes_drop b 4 g) l in
    let q : 4 + count_in b * 12 ≡ table_size (count_in b) = omega arith in
    let three : drop (count_in b * 12) d ≡ bytes_of saved xs = drop-drop (count_in b * 12) 4 b
    ∙ ap (λ (n : ℕ). drop n b) q ∙ r.bodies in
    let e : contents_of xs ≡ entries_in b = rw (← c) (sym r.entries) in
    rw (e, ← c, head, two, ← three, take-append-drop (count_in b * 12) d) (take-append-drop 4 b)

-- ---- the table's entries by slot
-- the tests of a slot
first_zero : (e : Entry) → e.slot ≡ 0 → eqb e.slot 0 ≡ true
first_zero e h = eq-eqb e.slot 0 h

first_not : (e : Entry) → e.slot ≡ 0 → eqb e.slot 1 ≡ false
first_not e h = ne_eqb e.slot 1 (λ z. omega arith)

first_one : (e : Entry) → e.slot ≡ 1 → eqb e.slot 1 ≡ true
first_one e h = eq-eqb e.slot 1 h

module _ (size at : ℕ) where
  -- two entries are of slots 0 and 1
  two_slots : (e f : Entry) (es : List Entry) → laid size 0 at (e ∷ f ∷ es) ≡ true → (e.slot ≡ 0) × (f.slot ≡ 1)
  two_slots e f es h =
      let p = front size 0 at e (f ∷ es) h in
      let q = front size (e.slot + 1) (at + e.len) f es p.rest in
      (omega (arith, q.low, q.slot), omega (arith, q.low, q.slot))

  pub record Pair (es : List Entry) (e f : Entry) : Type 0 where
    pub is : es ≡ e ∷ f ∷ []
    pub slot0 : e.slot ≡ 0
    pub slot1 : f.slot ≡ 1

  pub pair : (es : List Entry) (d g : Entry) → length es ≤ 2 → laid size 0 at es ≡ true → entry_of 0 es ≡ Some d
      → entry_of 1 es ≡ Some g → Pair es d g
  unfolding entry_of
  pair [] d g l h p q = none_some p
  pair (e ∷ []) d g l h p q =
      test (eqb e.slot 0) (λ t. let z = eqb-true e.slot 0 t in let y : ◌≡◌ {A = Option Entry} None
      (Some g) = rw z at q in none_some y) (λ t. let y : ◌≡◌ {A = Option Entry} None (Some d) = rw t at p
      in none_some y)
  pair (e ∷ f ∷ []) d g l h p q =
      let s = two_slots e f [] h in
      let x : Some e ≡ Some d = rw (first_zero e s.0) at p in
      let y : Some f ≡ Some g = rw (first_not e s.0, first_one f s.1) at q in
      rw (← some_eq x, ← some_eq y) (record { is = refl; slot0 = s.0; slot1 = s.1 })
  pair (e ∷ f ∷ i ∷ es) d g l h p q = let z : ⊥ = omega arith in absurd z

  pub record Single (k : ℕ) (es : List Entry) (e : Entry) : Type 0 where
    pub is : es ≡ e ∷ []
    pub slot : e.slot ≡ k

  pub single0 : (es : List Entry) (d : Entry) → length es ≤ 2 → laid size 0 at es ≡ true → entry_of 0 es ≡ Some d
      → entry_of 1 es ≡ None → Single 0 es d
  unfolding entry_of
  single0 [] d l h p q = none_some p
  single0 (e ∷ []) d l h p q =
      test (eqb e.slot 0) (λ t. let x : Some e
      ≡ Some d = rw t at p in rw (← some_eq x) (record { is = refl; slot = eqb-true e.slot 0 t }))
      (λ t. let y : ◌≡◌ {A = Option Entry} None (Some d) = rw t at p in none_some y)
  single0 (e ∷ f ∷ []) d l h p q =
      let s = two_slots e f [] h in
      let y : ◌≡◌ {A = Option Entry} (Some f) None = rw (first_not e s.0, first_one f s.1) at q in
      none_some (sym y)
  single0 (e ∷ f ∷ i ∷ es) d l h p q = let z : ⊥ = omega arith in absurd z

  pub single1 : (es : List Entry) (d : Entry) → length es ≤ 2 → laid size 0 at es ≡ true → entry_of 0 es ≡ None
      → entry_of 1 es ≡ Some d → Single 1 es d
  unfolding entry_of
  single1 [] d l h p q = none_some q
  single1 (e ∷ []) d l h p q =
      test (eqb e.slot 1) (λ t. let x : Some e
      ≡ Some d = rw t at q in rw (← some_eq x) (record { is = refl; slot = eqb-true e.slot 1 t }))
      (λ t. let y : ◌≡◌ {A = Option Entry} None (Some d) = rw t at q in none_some y)
  single1 (e ∷ f ∷ []) d l h p q =
      let s = two_slots e f [] h in
      let y : ◌≡◌ {A = Option Entry} (Some e) None = rw (first_zero e s.0) at p in
      none_some (sym y)
  single1 (e ∷ f ∷ i ∷ es) d l h p q = let z : ⊥ = omega arith in absurd z

  -- an entry is of slot 0 or 1
  pub no_slot : (es : List Entry) → 1 ≤ length es → laid size 0 at es ≡ true → entry_of 0 es ≡ None → entry_of 1 es
      ≡ None → ⊥
  unfolding entry_of
  no_slot [] l h p q = omega arith
  no_slot (e ∷ es) l h p q =
      let f = front size 0 at e es h in
      test (eqb e.slot 0) (λ t. let y : ◌≡◌ {A = Option Entry} (Some e) None = rw t at p in none_some (sym y))
      (λ t. let n = eqb-false e.slot 0 t in let k : e.slot
      ≡ 1 = omega (arith, f.slot) in let y : ◌≡◌ {A = Option Entry} (Some e) None = rw (first_one e k) at q
      in none_some (sym y))

-- entries of a right table fit four bytes
pub listed_of : (size s at : ℕ) {es : List Entry} → Each EntryFits es → laid size s at es ≡ true → entries_ok s es ≡ true
unfolding entries_ok
listed_of size s at nothing h = refl
listed_of size s at (one {x = e} {xs = es} f fs) h =
    let p = front size s at e es h in
    →all _ (
      le-leb s e.slot p.low,
      (
        le-leb e.offset max32 (omega (arith, f.1.0)),
        (
          le-leb e.len max32 (omega (arith, f.1.1.0)),
          (listed_of size (e.slot + 1) (at + e.len) fs p.rest, tt),
        ),
      ),
    )

-- ---- a list that was loaded whole
pub record Kept (l : Lengths) (a : Area) (c : List ℕ) (x : Index) : Type 0 where
  pub savable : Savable x
  pub three : question3 l x ≡ true
  pub file : saved x ≡ c
  pub slot : slot_of x ≡ a.key.slot

-- a list as a file holds it may be saved
pub as_saved : (x : Index) → Savable x → Savable (stripped x)
unfolding question1
as_saved x v = loaded_valid x.scan.area (saved x) (stripped x) (saved_bytes x (sized→ x v.sizes)) v.one
    (load_of_save x v)

-- the list of a file under a limit that drops nothing
list_savable : (a : Area) (c : List ℕ) (limit : ℕ) (w x : Index) → Bytes c → area_ok a ≡ true → from_bytes a c
    ≡ Accepted w → Ample limit w → limited limit w ≡ x → Savable x
list_savable a c limit w x g o e m i =
    let v = loaded_valid a c w g o e in
    let j : stripped w ≡ x = sym (large_limit limit w v.four m.budget m.hints) ∙ i in
    rw (← j) (as_saved w v)

pub kept : (l : Lengths) (a : Area) (c : List ℕ) (limit : ℕ) (x : Index) → Bytes c
    → ((w : Index) → from_bytes a c ≡ Accepted w → Ample limit w)
    → load l a c limit ≡ Accepted x → Kept l a c x
unfolding save limited
kept l a c limit x g m e =
    let w = load→ l a c limit x e in
    let s = loaded_saves l a c limit (length c) w.whole x g w.read (m w.whole w.read) e (omega arith) in
    let r = asked→ (four l x (ask (leb (saved_length x) (length c)) 40 ∷ [])) (Accepted (saved x)) c refl s in
    let t : x.scan.area ≡ a = sym (ap (λ (i : Index). i.scan.area) w.is)
    ∙ loaded_area a c w.whole g w.read in
    record {
      savable = list_savable a c limit w.whole x g w.area w.read (m w.whole w.read) w.is;
      three = r.0.1.1.0;
      file = accepted_eq (saved x) c r.1;
      slot = ap (λ (i : Area). i.key.slot) t;
    }

-- ---- the entry and the list of a body
pub record Named (l : Lengths) (a : Area) (b : List ℕ) (limit : ℕ) (o : Option Entry) (x : Index) : Type 0 where
  pub entry : Entry
  pub is : o ≡ Some entry
  pub loads : load l a (take entry.len (drop entry.offset b)) limit ≡ Accepted x

pub named : (l : Lengths) (a : Area) (b : List ℕ) (limit : ℕ) (o : Option Entry) (x : Index)
    → load_body l a limit (body_at b o) ≡ Accepted (Some x) → Named l a b limit o x
unfolding load_body body_at
named l a b limit None x h = none_some (accepted_eq None (Some x) h)
named l a b limit (Some e) x h =
    let u = bind→ (load l a (take e.len (drop e.offset b)) limit) (λ y. Accepted (Some y)) (Some x) h in
    let v : Some u.value ≡ Some x = accepted_eq (Some u.value) (Some x) u.second in
    record { entry = e; is = refl; loads = rw (← some_eq v) u.first }

pub unnamed : (l : Lengths) (a : Area) (b : List ℕ) (limit : ℕ) (o : Option Entry) → load_body l a limit (body_at b o)
    ≡ Accepted None → o ≡ None
unfolding load_body body_at
unnamed l a b limit None h = refl
unnamed l a b limit (Some e) h =
    let u = bind→ (load l a (take e.len (drop e.offset b)) limit) (λ y. Accepted (Some y)) None h in
    none_some (sym (accepted_eq (Some u.value) None u.second))
