-- The files of a set, asked in their order. Assumes nothing.
use Prim.Native.Nat.{ℕ, suc, ◌+◌, ◌-◌, ◌*◌, ◌/◌, ◌<◌, ◌≤◌}
use mathlib.Core.Path.{◌≡◌, refl, sym, ap, ◌∙◌, subst}
use mathlib.Core.Bool.{true, false}
use mathlib.Core.List.{List, [], ◌∷◌, ◌++◌, append_assoc, append-nil, map, map-append}
use native.Mathlib.Omega.{arith}
use lib.ListN.{length, take, drop, get_or, set, length-drop, length-set}
use lib.Seq.{drop-cons, drop-drop, drop-length, take-suc-set, get_or-set_same, get_or-set_other}
use borrow.Author.Tests.{le-leb, lt-leb}
use Rattle.field.specs.Number.{number_at}
use Rattle.field.proofs.Number.{number_part}
use Rattle.field.proofs.Records.{records_length, records_at}
use Rattle.rules.specs.declared.Area.{Area}
use Rattle.rules.specs.declared.AreaIndex.{AreaIndex}
use Rattle.rules.specs.Tests.{Answer, Refused, Accepted, ask, bind}
use Rattle.rules.specs.Values.{Index, Lengths}
use Rattle.rules.specs.Load.{load}
use Rattle.rules.proofs.Tests.{order, →asked, →bind}
use Rattle.tables.specs.Index.{Tables, room_of}
use Rattle.inspect.specs.declared.Found.{Found}
use Rattle.load.specs.declared.Decided.{Decided}
use Rattle.load.specs.declared.Decided.TheVariants as decided
use Rattle.load.specs.Steps.{Decision}
use Rattle.load.proofs.Answers.{ready_loads}
use Rattle.rules_drawer.specs.Drawer.{max_files, decode_length, lengths_in, load_files}
use Rattle.rules_drawer.proofs.Files.{refused_bind, refused_after, no_first}
use Rattle.drawer.specs.declared.ask.Entry.{Entry}
use Rattle.drawer.specs.declared.ask.File.{File}
use Rattle.drawer.specs.declared.ask.File.TheVariants as file
use Rattle.drawer.specs.declared.ask.Asked.{Asked}
use Rattle.drawer.specs.Ask.{no_file, unasked, refused_by, bytes_at, list_at, FileLoads, HoldsAt, FileAsked, FilesAsked}

-- ---- one file
abbrev entry_of : ℕ → ℕ → Found → AreaIndex → Entry
entry_of at n found y = record { from = at; len = n; found = found; index = y }

module _ (a : Area) (b : List ℕ) (at n limit : ℕ) (u : Tables) where
  refuses : {k : ℕ} → ((ns : List ℕ) → load_files (room_of u) a (n ∷ ns) (drop at b) limit ≡ Refused k) → FileAsked a b at n limit u (file.Refused k)
  refuses {k} f =
      record {
        refused = λ m e ns. let p : k ≡ m = cc in rw (← p) (f ns);
        loads = λ e q. let z : ◌≡◌ {A = ℕ} 0 1 = cc in let w : ⊥ = omega arith in absurd w;
      }

  -- it goes past what is left
  pub goes_past : length b - at < n → FileAsked a b at n limit u (file.Refused 20)
  goes_past l =
      refuses (λ ns.
      unfold load_files in
      let s = length-drop at b in
      let f = no_first _ 20 (lt-leb n (length (drop at b)) (omega (arith, s, l))) in
      rw f (refused_after 20 _ (λ z. omega arith)))

  module _ {to : ℕ} {r : Decided} (h : n ≤ length b - at) (q : to ≡ at + n) (d : Decision a (take (to - at) (drop at b)) limit u r) where
    said : Decision a (take n (drop at b)) limit u r
    said = let s : n ≡ to - at = omega arith in rw s d

    fits : n ≤ length (drop at b)
    fits = let s = length-drop at b in omega (arith, s, h)

    pub file_refused : {k : ℕ} → r ≡ decided.Refused k → FileAsked a b at n limit u (file.Refused k)
    file_refused {k} e =
        refuses (λ ns. unfold load_files in →asked (ask _ 20 ∷ []) (le-leb n (length (drop at b)) fits, tt) (refused_bind _ k (said.refused k e)))

    pub file_loads : {found : Found} {y : AreaIndex} → at ≤ length b → r ≡ decided.Ready found y → FileAsked a b at n limit u (file.Loads (entry_of at n found y))
    file_loads {found} {y} l e =
        record {
          refused = λ m k ns. let z : ◌≡◌ {A = ℕ} 0 1 = cc in let w : ⊥ = omega arith in absurd w;
          loads = λ e' k.
              let p : entry_of at n found y ≡ e' = cc in
              subst (λ (x : Entry). HoldsAt a b at n limit u x) p
              (record { from = refl; len = refl; holds = record { inside = omega arith; ready = said.ready found y e } });
        }

-- ---- the lengths
pub length_at : (ls : List ℕ) (i : ℕ) → i < length ls / 8 → get_or (lengths_in ls) i 0 ≡ number_at 8 ls (i * 8)
unfolding lengths_in decode_length
length_at ls i h = records_at 8 decode_length (length ls / 8) ls i 0 h ∙ number_part 8 8 (i * 8) 0 ls refl ∙ ap (number_at 8 ls) (omega arith)

pub lengths_count : (ls : List ℕ) → length (lengths_in ls) ≡ length ls / 8
unfolding lengths_in
lengths_count ls = records_length 8 decode_length (length ls / 8) ls

pub few_lengths : (ls : List ℕ) (i : ℕ) → i < length ls / 8 → i < length (lengths_in ls)
few_lengths ls i h = let n = lengths_count ls in omega (arith, n, h)

-- ---- lists before those of other files
abbrev before : List Index → Answer (List Index) → Answer (List Index)
before ys r = bind r (λ zs. Accepted (ys ++ zs))

before_none : (r : Answer (List Index)) → r ≡ before [] r
unfolding bind
before_none (Refused n) = refl
before_none (Accepted zs) = refl

before_one : (ys : List Index) (y : Index) (r : Answer (List Index)) → before ys (bind r (λ zs. Accepted (y ∷ zs))) ≡ before (ys ++ (y ∷ [])) r
unfolding bind
before_one ys y (Refused n) = refl
before_one ys y (Accepted zs) = ap (λ (x : List Index). Accepted x) (sym (append_assoc ys (y ∷ []) zs))

-- the first file loads
first_loads : (m : Lengths) (a : Area) (n : ℕ) (ns c : List ℕ) (limit : ℕ) (y : Index) → n ≤ length c → load m a (take n c) limit ≡ Accepted y
    → load_files m a (n ∷ ns) c limit ≡ bind (load_files m a ns (drop n c) limit) (λ zs. Accepted (y ∷ zs))
unfolding load_files
first_loads m a n ns c limit y h e = →asked (ask _ 20 ∷ []) (le-leb n (length c) h, tt) (→bind _ e refl)

-- the first i files are asked, and load; the next one begins at the place at
pub record Asking (a : Area) (ns b : List ℕ) (limit : ℕ) (u : Tables) (s : Asked) (at i : ℕ) : Type 0 where
  pub from : at ≤ length b
  pub good : s.ok ≡ true
  pub room : length s.entries ≡ max_files
  pub each : (j : ℕ) → j < i → FileLoads a b limit u (get_or s.entries j no_file)
  pub files : load_files (room_of u) a ns b limit ≡ before (map (list_at a b limit) (take i s.entries)) (load_files (room_of u) a (drop i ns) (drop at b) limit)

module _ (a : Area) (ns b : List ℕ) (limit : ℕ) (u : Tables) where
  pub asking_none : {s : Asked} → s ≡ unasked → Asking a ns b limit u s 0 0
  asking_none e =
      rw e
      (record {
        from = omega arith;
        good = refl;
        room = refl;
        each = λ j h. let f : ⊥ = omega arith in absurd f;
        files = before_none (load_files (room_of u) a ns b limit);
      })

  module _ {s : Asked} {at i n : ℕ} (k : Asking a ns b limit u s at i) (l : i < length ns) (q : n ≡ get_or ns i 0) where
    next : load_files (room_of u) a ns b limit ≡ before (map (list_at a b limit) (take i s.entries)) (load_files (room_of u) a (n ∷ drop (suc i) ns) (drop at b) limit)
    next = k.files ∙ ap (λ (ms : List ℕ). before (map (list_at a b limit) (take i s.entries)) (load_files (room_of u) a ms (drop at b) limit)) (drop-cons ns i 0 l ∙ ap (λ (m : ℕ). m ∷ drop (suc i) ns) (sym q))

    pub asking_refused : {r : File} {m : ℕ} {s' : Asked} → FileAsked a b at n limit u r → r ≡ file.Refused m → s' ≡ refused_by s m → FilesAsked a ns b limit u s'
    asking_refused {r} {m} f e z =
        rw z
        (record {
          refused = λ w. next ∙ refused_bind _ m (f.refused m e (drop (suc i) ns));
          loads = λ w. let y : ◌≡◌ {A = ℕ} 0 1 = cc in let v : ⊥ = omega arith in absurd v;
        })

    pub asking_on : {r : File} {e : Entry} → FileAsked a b at n limit u r → r ≡ file.Loads e → i < max_files
        → Asking a ns b limit u (record { ok = s.ok; number = s.number; count = s.count; entries = set s.entries i e }) (at + e.len) (i + 1)
    asking_on {r} {e} f z m =
        let h = f.loads e z in
        let es = s.entries in
        let w : i < length es = omega (arith, k.room, m) in
        let from_is = h.from in let len_is = h.len in let inside = h.holds.inside in
        record {
          from = omega arith;
          good = k.good;
          room = length-set es i e ∙ k.room;
          each = λ j g. order j i (λ o. subst (FileLoads a b limit u) (sym (get_or-set_other es i j e no_file (λ p. omega arith))) (k.each j o)) (λ o. let f : ⊥ = omega arith in absurd f)
              (λ o. subst (FileLoads a b limit u) (sym (ap (λ (v : ℕ). get_or (set es i e) v no_file) o ∙ get_or-set_same es i e no_file w)) h.holds);
          files =
              let y = list_at a b limit e in
              let rest = load_files (room_of u) a (drop (suc i) ns) (drop n (drop at b)) limit in
              let lists = map (list_at a b limit) (take i es) in
              let c : bytes_at b e ≡ take n (drop at b) = λ v. take (len_is v) (drop (from_is v) b) in
              let loads : load (room_of u) a (take n (drop at b)) limit ≡ Accepted y =
              ap (λ (x : List ℕ). load (room_of u) a x limit) (sym c) ∙ ready_loads limit u h.holds.ready in
              let g = length-drop at b in
              let one : load_files (room_of u) a (n ∷ drop (suc i) ns) (drop at b) limit ≡ bind rest (λ zs. Accepted (y ∷ zs)) =
              first_loads (room_of u) a n (drop (suc i) ns) (drop at b) limit y (omega (arith, g)) loads in
              let moved : rest ≡ load_files (room_of u) a (drop (i + 1) ns) (drop (at + e.len) b) limit =
              let x : suc i ≡ i + 1 = omega arith in
              let p : drop n (drop at b) ≡ drop (at + e.len) b = drop-drop n at b ∙ ap (λ (v : ℕ). drop (at + v) b) (sym len_is) in
              λ v. load_files (room_of u) a (drop (x v) ns) (p v) limit in
              let entries : lists ++ (y ∷ []) ≡ map (list_at a b limit) (take (i + 1) (set es i e)) =
              let x : i + 1 ≡ suc i = omega arith in
              sym (ap (λ (v : ℕ). map (list_at a b limit) (take v (set es i e))) x ∙ ap (map (list_at a b limit)) (take-suc-set es i e w) ∙ map-append (list_at a b limit) (take i es) (e ∷ [])) in
              next ∙ ap (before lists) one ∙ before_one lists y rest ∙ (λ v. before (entries v) (moved v));
        }

  -- no file is left
  pub asking_done : {s : Asked} {at i n : ℕ} → Asking a ns b limit u s at i → i ≡ n → length ns ≡ n → n ≤ max_files
      → FilesAsked a ns b limit u (record { ok = s.ok; number = s.number; count = n; entries = s.entries })
  unfolding load_files bind
  asking_done {s} {at} {i} {n} k' p q m =
      let k : Asking a ns b limit u s at n = subst (λ (v : ℕ). Asking a ns b limit u s at v) p k' in
      let lists = map (list_at a b limit) (take n s.entries) in
      let d : drop n ns ≡ [] = ap (λ (v : ℕ). drop v ns) (sym q) ∙ drop-length ns in
      record {
        refused = λ w. let p : true ≡ false = sym k.good ∙ w in let z : ◌≡◌ {A = ℕ} 0 1 = cc in let f : ⊥ = omega arith in absurd f;
        loads = λ w.
            record {
              lists = k.files ∙ ap (λ (ms : List ℕ). before lists (load_files (room_of u) a ms (drop at b) limit)) d ∙ ap (λ (x : List Index). Accepted x) (append-nil lists);
              held = record { few = m; room = k.room; each = k.each };
            };
      }
