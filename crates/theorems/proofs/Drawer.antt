-- The files of a drawer, merged together. Assumes nothing.
use Prim.Native.Nat.{ℕ, zero, suc, ◌<◌, ◌≤◌}
use mathlib.Core.Path.{◌≡◌, refl, sym, ap, subst, ◌∙◌}
use mathlib.Core.Bool.{Bool, true, false, cond}
use mathlib.Core.Logic.{◌≢◌}
use mathlib.Core.List.{List, [], ◌∷◌}
use native.Mathlib.Omega.{arith}
use lib.Dec.{leb}
use lib.ListN.{length, take, drop, get_or}
use borrow.Author.Tests.{leb-true, le-leb}
use Rattle.field.specs.Records.{Bytes}
use Rattle.field.proofs.Bytes.{bytes_take, bytes_drop}
use Rattle.field.proofs.Format.{Each, none as nothing, one}
use Rattle.rules.specs.declared.Area.{Area}
use Rattle.rules.specs.Tests.{Ask, ask, first_no, Refused, Accepted}
use Rattle.rules.specs.Values.{Index, Lengths}
use Rattle.rules.specs.Questions.{question1, question2, question3, question4, four}
use Rattle.rules.specs.Load.{load}
use Rattle.rules.specs.Merge.{merged, merge_number, merge}
use Rattle.rules.proofs.Tests.{test, and_left, and_right, both, asked, asks, asked→, →asked, accepted→, accepted_eq, →after, bind→, →bind, none_some, some_eq, refused_bind, refused_after}
use Rattle.laws.proofs.scans.Scans.{ScanIs, scan_of, scan→}
use Rattle.rules_drawer.specs.Drawer.{question44, load_files, pair_number, pairs_with, pairs_number, merge_each, merge_lists, merge_all}
use Rattle.theorems.specs.Terms.{Valid}
use Rattle.theorems.specs.Drawer.{FileLoads, EachLoads, SetAsked, merge_turns, SetIsTurns, room_at, SetIsPairs, SetValid, Loaded, FileFails, past, refused, SetNumber}
use Rattle.theorems.proofs.Closure.{closure}
use Rattle.rules_drawer.proofs.Pairs.{first_of→, →first_of, pairs_at, pairs_of, pairs_first, mergeable→}
use Rattle.rules_drawer.proofs.Files.{behind→, →behind, first_file, next_file, file_inside, no_first}
use Rattle.drawer.proofs.Joining.{pairs_both, pairs_each}

-- ---- a merge of two lists that pass 1 to 4
merge_number_lemma : (l m : Lengths) (x y : Index) → Valid l x → Valid m y → pair_number x y ≡ 0 → merge_number l x m y ≡ 0
unfolding merge_number pair_number
merge_number_lemma l m x y v w e =
    let q = asked _ refl e in
    asks _ (
      both v.one w.one,
      (
        both v.two w.two,
        (both v.three w.three, (both v.four w.four, q)),
      ),
    )

pub number_merge : (l m : Lengths) (x y : Index) → merge_number l x m y ≡ 0 → pair_number x y ≡ 0
unfolding merge_number pair_number
number_merge l m x y e = asks _ (asked _ refl e).1.1.1.1

pub merge_accepts : (l m : Lengths) (x y : Index) → Valid l x → Valid m y → pair_number x y ≡ 0 → merge l x m y
    ≡ Accepted (merged x y)
unfolding merge
merge_accepts l m x y v w e = →after (merge_number_lemma l m x y v w e) refl

merge_accepted : (l m : Lengths) (x y z : Index) → merge l x m y ≡ Accepted z → (pair_number x y ≡ 0) × (merged x y ≡ z)
unfolding merge
merge_accepted l m x y z e = let t = accepted→ _ (merged x y) z e in (number_merge l m x y t.0, t.1)

pub scan_is : {l : Lengths} (x : Index) → Valid l x → ScanIs x.scan
scan_is x v = scan→ x.scan (scan_of x v.four)

-- ---- turns and pairs
module _ (l m : Lengths) where
  to_turns : (x : Index) {ys : List Index} → Valid l x → Each (Valid m) ys → pairs_number (x ∷ ys) ≡ 0
      → merge_turns l x m ys ≡ Accepted (merge_each x ys)
  unfolding pairs_number pairs_with merge_turns merge_each
  to_turns x v nothing e = refl
  to_turns x v (one {x = y} {xs = ys} w ws) e =
      let a = first_of→ _ _ e in let b = first_of→ _ _ a.0 in let c = first_of→ _ _ a.1 in
      let k = merge_accepts l m x y v w b.0 in
      let u : pairs_with (merged x y) ys ≡ 0 = pairs_both x y (scan_is x v) (scan_is y w) (mergeable→ x y b.0) ys
      b.1 c.0 in
      →bind _ k (to_turns (merged x y) (closure.merged l m x y (merged x y) k) ws (→first_of u c.1))

  of_turns : (x z : Index) {ys : List Index} → Valid l x → Each (Valid m) ys → merge_turns l x m ys ≡ Accepted z
      → (pairs_number (x ∷ ys) ≡ 0) × (merge_each x ys ≡ z)
  unfolding pairs_number pairs_with merge_turns merge_each
  of_turns x z v nothing e = (→first_of refl refl, accepted_eq x z e)
  of_turns x z v (one {x = y} {xs = ys} w ws) e =
      let t = bind→ (merge l x m y) _ z e in
      let k = merge_accepted l m x y t.value t.first in
      let r = of_turns t.value z (closure.merged l m x y t.value t.first) ws t.second in
      let a = first_of→ (pairs_with t.value ys) (pairs_number ys) r.0 in
      let b : pairs_with (merged x y) ys ≡ 0 = ap (λ (u : Index). pairs_with u ys) k.1 ∙ a.0 in
      let s = pairs_each x y (scan_is x v) (scan_is y w) (mergeable→ x y k.0) ys b in
      (→first_of (→first_of k.0 s.0) (→first_of s.1 a.1), ap (λ (u : Index). merge_each u ys) k.1 ∙ r.1)

-- ---- the files
module _ (m : Lengths) (a : Area) (limit : ℕ) where
  pub files_loaded : (ns b : List ℕ) (ys : List Index) → load_files m a ns b limit ≡ Accepted ys
      → EachLoads m a ns b limit ys
  unfolding load_files
  files_loaded [] b ys e =
      let q : [] ≡ ys = accepted_eq [] ys e in
      record { count = ap length (sym q); file = λ i z h. let f : ⊥ = omega arith in absurd f }
  files_loaded (n ∷ ns) b ys e =
      let h = behind→ m a limit n ns b ys e in let r = files_loaded ns (drop n b) h.rest h.others in
      subst (EachLoads m a (n ∷ ns) b limit) h.is
      (record {
        count = ap suc r.count;
        file = file_at n ns b h.first h.rest h.inside h.loads r.file;
      })
    where
      file_at : (n : ℕ) (ns b : List ℕ) (y : Index) (ys : List Index) → n ≤ length b → load m a (take n b) limit
          ≡ Accepted y
          → ((i : ℕ) (z : Index) → i < length ns → FileLoads m a ns (drop n b) limit i (get_or ys i z))
          → (i : ℕ) (z : Index) → i < length (n ∷ ns) → FileLoads m a (n ∷ ns) b limit i (get_or (y ∷ ys) i z)
      file_at n ns b y ys l d f zero z h = record { bytes = take n b; place = first_file n ns b l; loads = d }
      file_at n ns b y ys l d f (suc i) z h =
          let g = f i z (omega arith) in record {
            bytes = g.bytes;
            place = next_file n ns b i l ∙ g.place;
            loads = g.loads;
          }

  pub loaded_files : (ns b : List ℕ) (ys : List Index) → EachLoads m a ns b limit ys → load_files m a ns b limit
      ≡ Accepted ys
  unfolding load_files
  loaded_files [] b [] h = refl
  loaded_files [] b (y ∷ ys) h = let f : ⊥ = omega (arith, h.count) in absurd f
  loaded_files (n ∷ ns) b [] h = let f : ⊥ = omega (arith, h.count) in absurd f
  loaded_files (n ∷ ns) b (y ∷ ys) h =
      let f = h.file 0 y (omega arith) in
      let l = file_inside n ns b 0 f.bytes f.place in
      let e = some_eq (sym (first_file n ns b l) ∙ f.place) in
      →behind m a limit n ns b (y ∷ ys)
      (record {
        inside = l;
        first = y;
        rest = ys;
        loads = ap (λ (c : List ℕ). load m a c limit) e ∙ f.loads;
        others =
            loaded_files ns (drop n b) ys
            (record {
              count = let c = h.count in omega arith;
              file = λ i z g. let k = h.file (suc i) z (omega arith) in record
                  { bytes = k.bytes; place = sym (next_file n ns b i l) ∙ k.place; loads = k.loads };
            });
        is = refl;
      })

  -- each loaded list passes 1 to 4
  pub files_valid : (ns b : List ℕ) (ys : List Index) → Bytes b → load_files m a ns b limit ≡ Accepted ys
      → Each (Valid m) ys
  unfolding load_files
  files_valid [] b ys g e = subst (Each (Valid m)) (accepted_eq [] ys e) nothing
  files_valid (n ∷ ns) b ys g e =
      let h = behind→ m a limit n ns b ys e in
      subst (Each (Valid m)) h.is
      (one (closure.loaded m a (take n b) limit h.first (bytes_take b n g) h.loads)
      (files_valid ns (drop n b) h.rest (bytes_drop b n g) h.others))

-- ---- the call
-- an accepted set
pub record Gathered (l : Lengths) (x : Index) (m : Lengths) (ns b : List ℕ) (limit : ℕ) (z : Index) : Type 0 where
  pub asked : SetAsked l x ns
  pub lists : List Index
  pub loaded : load_files m x.scan.area ns b limit ≡ Accepted lists
  pub pairs : pairs_number (x ∷ lists) ≡ 0
  pub is : merge_each x lists ≡ z

pub gathered→ : (l m : Lengths) (x z : Index) (ns b : List ℕ) (limit : ℕ) → merge_all l x m ns b limit ≡ Accepted z
    → Gathered l x m ns b limit z
unfolding merge_all merge_lists question44
gathered→ l m x z ns b limit e =
    let t = asked→ _ _ z refl e in
    let s = t.0 in let q = s.1.1.1.1.0 in
    let u = bind→ (load_files m x.scan.area ns b limit) _ z t.1 in
    let w = accepted→ _ (merge_each x u.value) z u.second in
    record {
      asked =
          record {
            own = record { one = s.0; two = s.1.0; three = s.1.1.0; four = s.1.1.1.0 };
            at_least = leb-true _ _ (and_left (leb 1 (length ns)) _ q);
            at_most = leb-true _ _ (and_right (leb 1 (length ns)) _ q);
          };
      lists = u.value;
      loaded = u.first;
      pairs = w.0;
      is = w.1;
    }

pub →gathered : (l m : Lengths) (x z : Index) (ns b : List ℕ) (limit : ℕ) → Gathered l x m ns b limit z
    → merge_all l x m ns b limit ≡ Accepted z
unfolding merge_all merge_lists question44
→gathered l m x z ns b limit g =
    let v = g.asked.own in
    →asked _ (
      v.one,
      (
        v.two,
        (
          v.three,
          (
            v.four,
            (both (le-leb _ _ g.asked.at_least) (le-leb _ _ g.asked.at_most), tt),
          ),
        ),
      ),
    )
    (→bind _ g.loaded (→after g.pairs (ap (λ (y : Index). Accepted y) g.is)))

pub set_is_turns : SetIsTurns
set_is_turns l m x z ns b limit h = (
  (λ e.
      let g = gathered→ l m x z ns b limit e in
      record {
        asked = g.asked;
        lists = g.lists;
        load = files_loaded m x.scan.area limit ns b g.lists g.loaded;
        turns =
            to_turns l m x g.asked.own (files_valid m x.scan.area limit ns b g.lists h g.loaded)
            g.pairs
            ∙ ap (λ (y : Index). Accepted y) g.is;
      }),
  (λ t.
      let d = loaded_files m x.scan.area limit ns b t.lists t.load in
      let r = of_turns l m x z t.asked.own (files_valid m x.scan.area limit ns b t.lists h d) t.turns in
      →gathered l m x z ns b limit (record {
        asked = t.asked;
        lists = t.lists;
        loaded = d;
        pairs = r.0;
        is = r.1;
      })),
)

-- ---- pairs
pub each_in : {P : Index → Type 0} (d : Index) {zs : List Index} → Each P zs → (k : ℕ) → k < length zs → P (get_or zs k d)
each_in d nothing k h = let f : ⊥ = omega arith in absurd f
each_in d (one p ps) zero h = p
each_in d (one p ps) (suc k) h = each_in d ps k (omega arith)

valid_at : (l m : Lengths) (x : Index) (ys : List Index) (i : ℕ) → Valid l x → Each (Valid m) ys
    → i < length (x ∷ ys) → Valid (room_at l m i) (get_or (x ∷ ys) i x)
unfolding room_at
valid_at l m x ys zero v w h = v
valid_at l m x ys (suc i) v w h = each_in x w i (omega arith)

pub set_is_pairs : SetIsPairs
set_is_pairs l m x ns b limit h = (
  (λ r.
      let g = gathered→ l m x r.value ns b limit r.is in
      let w = files_valid m x.scan.area limit ns b g.lists h g.loaded in
      record {
        asked = g.asked;
        lists = g.lists;
        load = files_loaded m x.scan.area limit ns b g.lists g.loaded;
        pairs =
            λ i j k k'.
            merge_number_lemma (room_at l m i) (room_at l m j) (get_or (x ∷ g.lists) i x) (get_or (x ∷ g.lists) j x)
            (valid_at l m x g.lists i g.asked.own w (omega arith))
            (valid_at l m x g.lists j g.asked.own w k')
            (pairs_at (x ∷ g.lists) i j x g.pairs k k');
      }),
  (λ t.
      record {
        value = merge_each x t.lists;
        is =
            →gathered l m x (merge_each x t.lists) ns b limit
            (record {
              asked = t.asked;
              lists = t.lists;
              loaded = loaded_files m x.scan.area limit ns b t.lists t.load;
              pairs =
                  pairs_of (x ∷ t.lists) x
                  (λ i j k k'. number_merge (room_at l m i) (room_at l m j) (get_or (x ∷ t.lists) i x)
                  (get_or (x ∷ t.lists) j x) (t.pairs i j k k'));
              is = refl;
            });
      }),
)

-- ---- 1 to 4 afterwards
turns_valid : (l m : Lengths) (x z : Index) (ys : List Index) → Valid l x → merge_turns l x m ys ≡ Accepted z → Valid l z
unfolding merge_turns
turns_valid l m x z [] v e = subst (Valid l) (accepted_eq x z e) v
turns_valid l m x z (y ∷ ys) v e =
    let t = bind→ (merge l x m y) _ z e in turns_valid l m t.value z ys
    (closure.merged l m x y t.value t.first) t.second

pub set_valid : SetValid
set_valid l m x z ns b limit h e =
    let t = (set_is_turns l m x z ns b limit h).0 e in turns_valid l m x z t.lists t.asked.own t.turns

-- ---- the number of a refusal
module _ (m : Lengths) (a : Area) (limit : ℕ) where
  -- the first failing file
  file_refused : (ns b : List ℕ) (k n : ℕ) → k < length ns → ((i : ℕ) → i < k → Loaded m a ns b limit i)
      → FileFails m a ns b limit k n
      → load_files m a ns b limit ≡ Refused n
  unfolding load_files
  file_refused [] b k n h f g = let z : ⊥ = omega arith in absurd z
  file_refused (i ∷ ns) b zero n h f (past e q) =
      test (leb i (length b)) (λ t. none_some (sym e ∙ first_file i ns b (leb-true i (length b) t)))
      (λ t. let f = no_first (leb i (length b)) 20 t in rw (f, q) (refused_after 20 _ (λ z. omega arith)))
  file_refused (i ∷ ns) b zero n h f (refused c e q) =
      let l = file_inside i ns b 0 c e in
      let w = some_eq (sym (first_file i ns b l) ∙ e) in
      →asked (ask (leb i (length b)) 20 ∷ []) (le-leb i (length b) l, tt)
      (refused_bind _ n (ap (λ (c : List ℕ). load m a c limit) w ∙ q))
  file_refused (i ∷ ns) b (suc k) n h f g =
      let d = f 0 (omega arith) in
      let l = file_inside i ns b 0 d.file.bytes d.file.place in
      let w = some_eq (sym (first_file i ns b l) ∙ d.file.place) in
      let r = file_refused ns (drop i b) k n (omega arith) (λ j t. behind i ns b j l (f (suc j) (omega arith)))
      (fails_behind i ns b k n l g) in
      →asked (ask (leb i (length b)) 20 ∷ []) (le-leb i (length b) l, tt)
      (→bind _ (ap (λ (c : List ℕ). load m a c limit) w ∙ d.file.loads) (refused_bind _ n r))
    where
      behind : (i : ℕ) (ns b : List ℕ) (j : ℕ) → i ≤ length b → Loaded m a (i ∷ ns) b limit (suc j)
          → Loaded m a ns (drop i b) limit j
      behind i ns b j l d =
          record {
            list = d.list;
            file = record {
              bytes = d.file.bytes;
              place = sym (next_file i ns b j l) ∙ d.file.place;
              loads = d.file.loads;
            };
          }

      fails_behind : (i : ℕ) (ns b : List ℕ) (j n : ℕ) → i ≤ length b → FileFails m a (i ∷ ns) b limit (suc j) n
          → FileFails m a ns (drop i b) limit j n
      fails_behind i ns b j n l (past e q) = past (sym (next_file i ns b j l) ∙ e) q
      fails_behind i ns b j n l (refused c e q) = refused c (sym (next_file i ns b j l) ∙ e) q

-- a question before others
first_no_lemma : (l : Lengths) (x : Index) (q : Ask) (n : ℕ) → first_no (four l x []) ≡ n → n ≢ 0
    → first_no (four l x (q ∷ [])) ≡ n
unfolding first_no
first_no_lemma l x q n e z = more (question1 x) (question2 x) (question3 l x) (question4 x) e
  where
    more : (a b c d : Bool) → cond a (cond b (cond c (cond d 0 4) 3) 2) 1 ≡ n
        → cond a (cond b (cond c (cond d (cond q.ok 0 q.number) 4) 3) 2) 1 ≡ n
    more false b c d e = e
    more true false c d e = e
    more true true false d e = e
    more true true true false e = e
    more true true true true e = absurd (z (sym e))

size_no : (l : Lengths) (x : Index) (b : Bool) (n : ℕ) → Valid l x → b ≡ false → first_no (four l x (ask b n ∷ [])) ≡ n
unfolding first_no
size_no l x b n v e = rw (v.one, v.two, v.three, v.four, e)

all_asked : (l : Lengths) (x : Index) (ns : List ℕ) → SetAsked l x ns
    → first_no (four l x (ask (question44 ns) 44 ∷ [])) ≡ 0
unfolding question44
all_asked l x ns q =
    let v = q.own in asks _ (
      v.one,
      (
        v.two,
        (
          v.three,
          (v.four, (both (le-leb _ _ q.at_least) (le-leb _ _ q.at_most), tt)),
        ),
      ),
    )

pub set_number : SetNumber
set_number =
    record {
      own = λ l m x ns b limit n e z. unfold merge_all in let f = first_no_lemma l x (ask (question44 ns) 44) n e z in rw f
          (refused_after n _ z);
      size = λ l m x ns b limit v e. unfold merge_all in let f = size_no l x (question44 ns) 44 v e in rw f
          (refused_after 44 _ (λ z. omega arith));
      file = λ l m x ns b limit i n q h f g. unfold merge_all in →after (all_asked l x ns q)
          (refused_bind _ n (file_refused m x.scan.area limit ns b i n h f g));
      pair = λ l m x ns b limit ys i j n q d h k f e z.
          unfold merge_all in unfold merge_lists in
          →after (all_asked l x ns q)
          (→bind _ (loaded_files m x.scan.area limit ns b ys d)
          (let w = pairs_first (x ∷ ys) i j n x h k f e z in rw w (refused_after n _ z)));
    }
