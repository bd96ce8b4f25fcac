-- A set of files over the tables that players hold, and files that saving wrote. Assumes nothing.
use Prim.Native.Nat.{ℕ, zero, suc, ◌<◌}
use mathlib.Core.Path.{◌≡◌, refl, sym, ap, subst, ◌∙◌}
use mathlib.Core.Bool.{true}
use mathlib.Core.Logic.{◌≢◌}
use mathlib.Core.List.{List, [], ◌∷◌, map}
use native.Mathlib.Omega.{arith}
use lib.ListN.{length, take, drop, get_or, length-append, length-map}
use lib.Seq.{take_at, drop_at}
use Rattle.field.specs.Records.{Bytes, bytes_of}
use Rattle.field.proofs.Bytes.{bytes_take, bytes_drop}
use Rattle.field.proofs.Format.{Each, none as nothing, one}
use Rattle.rules.specs.declared.Area.{Area}
use Rattle.rules.specs.declared.AreaIndex.{AreaIndex}
use Rattle.rules.specs.Tests.{Answer, Refused, Accepted, after}
use Rattle.rules.specs.Values.{Index, Lengths}
use Rattle.rules.specs.Questions.{question3}
use Rattle.rules.specs.File.{saved}
use Rattle.rules.specs.Load.{load, limited}
use Rattle.rules.specs.Merge.{merged}
use Rattle.rules.specs.Run.{Reading, Cut}
use Rattle.rules.proofs.Tests.{after→, →after, accepted_eq, asks}
use Rattle.laws.specs.Statements.{Savable}
use Rattle.laws.proofs.Facts.{facts}
use Rattle.laws.proofs.Limit.{limited_load}
use Rattle.rules_drawer.specs.Drawer.{lengths_in, load_files, pair_number, pairs_with, pairs_number, merge_each, merge_all}
use Rattle.rules_drawer.proofs.Pairs.{first_of→, →first_of, mergeable→}
use Rattle.rules_drawer.proofs.Files.{behind→, →behind, refused_after}
use Rattle.rules.specs.declared.Made.TheVariants as made
use Rattle.tables.specs.Index.{Tables, room_of, index_in, kinds_in, kinded_number, refusal, numbers_from, tables_from, tables_cleared, made_out, made_out_of}
use Rattle.index.proofs.Back.{numbers_back}
use Rattle.index.proofs.Lent.{sized_in}
use Rattle.index.proofs.Questions.{passes, passes_kinds}
use Rattle.index.proofs.Standing.{stands, stands_cleared, kinds_from, within, room_cleared}
use Rattle.merge.specs.Merge.{hints_written}
use Rattle.drawer.specs.Drawer.{merged_tables, lists_of, merge_all_in}
use Rattle.drawer.proofs.Joining.{pairs_both}
use Rattle.theorems.specs.Terms.{Valid}
use Rattle.theorems.specs.TableRun.{LentIn}
use Rattle.theorems.specs.Drawer.{InTurn, SetAsked}
use Rattle.theorems.specs.DrawerInTables.{SetLeft, SetAnswers, SetInTables, SetOfSaved}
use Rattle.theorems.proofs.Closure.{closure}
use Rattle.theorems.proofs.CutLaws.{merged_fits, cut_limited}
use Rattle.theorems.proofs.MergeInTables.{out→}
use Rattle.theorems.proofs.TableRun.{cut_savable, written_fits}
use Rattle.theorems.proofs.disc.AcceptsInTables.{load_savable}
use Rattle.theorems.proofs.Drawer.{merge_accepts, scan_is, Gathered, gathered→, files_loaded, files_valid, set_is_turns, set_valid}
use Rattle.theorems.proofs.DrawerReading.{set_of_reading}

-- ---- a list in its tables
pub record Stood (l : Lengths) (v : Index) (t : Tables) : Type 0 where
  pub stands : index_in (numbers_from v) t ≡ v
  pub room : room_of t ≡ l
  pub kinds : kinds_in (numbers_from v) t ≡ true
  pub valid : Valid l v
  pub savable : Savable v

module _ (l m : Lengths) where
  -- after one merge
  stood_one : (v y : Index) (t : Tables) → Stood l v t → Valid m y → Savable y → pair_number v y ≡ 0
      → Stood l (merged v y) (tables_cleared (hints_written (numbers_from v) (numbers_from y)) (merged v y) t)
  stood_one v y t k w s e =
      let z = merged v y in
      let c = closure.merged l m v y z (merge_accepts l m v y k.valid w e) in
      let n : Savable z = record {
        one = c.one;
        two = c.two;
        four = c.four;
        sizes = merged_fits v y k.savable.sizes s.sizes;
      } in
      let h = hints_written (numbers_from v) (numbers_from y) in
      let three : question3 (room_of t) (index_in (numbers_from v) t) ≡ true = rw (k.stands, k.room) k.valid.three in
      let own : Savable (index_in (numbers_from v) t) = rw k.stands k.savable in
      let other : Savable (index_in (numbers_from y) (tables_from y t)) = rw (stands y t s) s in
      let g = written_fits (record { numbers = numbers_from v; tables = t })
      (record { numbers = numbers_from y; tables = tables_from y t }) own other three in
      let q : question3 (room_of t) z ≡ true = rw k.room c.three in
      record {
        stands = stands_cleared h z t n;
        room = room_cleared z t (within z t (facts z n) q) h g ∙ k.room;
        kinds = kinds_from z t n;
        valid = c;
        savable = n;
      }

  -- after all
  stood_each : (v : Index) (t : Tables) {ys : List Index} → Stood l v t → Each (Valid m) ys → Each Savable ys
      → pairs_number (v ∷ ys) ≡ 0
      → Stood l (merge_each v ys) (merged_tables v ys t)
  unfolding merge_each merged_tables pairs_number pairs_with
  stood_each v t k nothing nothing e = k
  stood_each v t k (one {x = y} {xs = ys} w ws) (one s ss) e =
      let a = first_of→ _ _ e in let b = first_of→ _ _ a.0 in let c = first_of→ _ _ a.1 in
      let u : pairs_with (merged v y) ys ≡ 0 = pairs_both v y (scan_is v k.valid) (scan_is y w)
      (mergeable→ v y b.0) ys b.1 c.0 in
      stood_each (merged v y) (tables_cleared (hints_written (numbers_from v) (numbers_from y)) (merged v y) t)
      (stood_one v y t k w s b.0) ws ss (→first_of u c.1)

files_savable : (m : Lengths) (a : Area) (limit : ℕ) (ns b : List ℕ) (ys : List Index) → Bytes b
    → load_files m a ns b limit ≡ Accepted ys → Each Savable ys
unfolding load_files
files_savable m a limit [] b ys g e = subst (Each Savable) (accepted_eq [] ys e) nothing
files_savable m a limit (n ∷ ns) b ys g e =
    let h = behind→ m a limit n ns b ys e in
    subst (Each Savable) h.is
    (one (load_savable m a (take n b) limit h.first (bytes_take b n g) h.loads)
    (files_savable m a limit ns (drop n b) h.rest (bytes_drop b n g) h.others))

-- ---- the call
module _ (x : AreaIndex) (t : Tables) (ls b : List ℕ) (limit : ℕ) (u : Tables) where
  abbrev mine : Index
  mine = index_in x t

  -- an accepted set, in its tables
  stood_set : (z : Index) → LentIn x t → Bytes b → kinds_in x t ≡ true
      → (g : Gathered (room_of t) mine (room_of u) (lengths_in ls) b limit z)
      → Stood (room_of t) z (merged_tables mine g.lists t)
  stood_set z a h k g =
      let v = g.asked.own in
      let s : Savable mine = record {
        one = v.one;
        two = v.two;
        four = v.four;
        sizes = sized_in x t a.typed a.bytes;
      } in
      let n = numbers_back x t in
      let o : Stood (room_of t) mine t = record {
        stands = ap (λ (y : AreaIndex). index_in y t) n;
        room = refl;
        kinds = ap (λ (y : AreaIndex). kinds_in y t) n ∙ k;
        valid = v;
        savable = s;
      } in
      subst (λ (w : Index). Stood (room_of t) w (merged_tables mine g.lists t)) g.is
      (stood_each (room_of t) (room_of u) mine t o
      (files_valid (room_of u) x.area limit (lengths_in ls) b g.lists h g.loaded)
      (files_savable (room_of u) x.area limit (lengths_in ls) b g.lists h g.loaded) g.pairs)

  lists_are : {z : Index} (g : Gathered (room_of t) mine (room_of u) (lengths_in ls) b limit z)
      → lists_of (load_files (room_of u) x.area (lengths_in ls) b limit) ≡ g.lists
  unfolding lists_of
  lists_are g = rw g.loaded

  pub leaves : (y : AreaIndex) (t' : Tables) → LentIn x t → Bytes b → merge_all_in x t ls b limit u
      ≡ made_out (made.Index y) t' → SetLeft x t ls b limit u y t'
  leaves y t' a h e =
      let r = out→ _ t x y t' _ e in
      let p = after→ (refusal x t) _ r.0 r.1 in
      let k = passes_kinds (passes x t p.0) in
      let g = gathered→ (room_of t) (room_of u) mine r.0 (lengths_in ls) b limit p.1 in
      let s = stood_set r.0 a h k g in
      let q : merged_tables mine g.lists t ≡ t' = ap (λ (ys : List Index). merged_tables mine ys t)
      (sym (lists_are g)) ∙ r.3 in
      let i : index_in y t' ≡ r.0 = (λ j. index_in (sym r.2 j) (sym q j)) ∙ s.stands in
      let m : room_of t' ≡ room_of t = ap room_of (sym q) ∙ s.room in
      let w = set_valid (room_of t) (room_of u) mine r.0 (lengths_in ls) b limit h p.1 in
      record {
        own = record { valid = g.asked.own; kinds = k };
        turns = rw i ((set_is_turns (room_of t) (room_of u) mine r.0 (lengths_in ls) b limit h).0 p.1);
        valid = record { valid = rw (i, m) w; kinds = (λ j. kinds_in (sym r.2 j) (sym q j)) ∙ s.kinds };
        room = m;
      }

  pub accepts : (z : Index) → LentIn x t → Bytes b → kinds_in x t ≡ true
      → InTurn (room_of t) mine (room_of u) (lengths_in ls) b limit z → SetAnswers x t ls b limit u z
  unfolding refusal kinded_number made_out_of
  accepts z a h k i =
      let e = (set_is_turns (room_of t) (room_of u) mine z (lengths_in ls) b limit h).1 i in
      let g = gathered→ (room_of t) (room_of u) mine z (lengths_in ls) b limit e in
      let v = g.asked.own in
      let n : refusal x t ≡ 0 = rw k (asks _ (v.one, (v.two, (v.three, (v.four, tt))))) in
      let s = stood_set z a h k g in
      record {
        after = merged_tables mine g.lists t;
        answer = ap (made_out_of _ t) (→after n e)
            ∙ (λ j. made_out (made.Index (numbers_from z)) (merged_tables mine (lists_are g j) t));
        stands = s.stands;
      }

  -- ---- a refusal
  abbrev putting : Index → Tables
  putting z = merged_tables mine (lists_of (load_files (room_of u) x.area (lengths_in ls) b limit)) t

  abbrev answered : Answer Index
  answered = merge_all (room_of t) mine (room_of u) (lengths_in ls) b limit

  pub own_refused : (n : ℕ) → refusal x t ≡ n → n ≢ 0 → merge_all_in x t ls b limit u ≡ made_out (made.Refused n) t
  unfolding made_out_of
  own_refused n e z = ap (made_out_of putting t) (ap (λ (k : ℕ). after k answered) e ∙ refused_after n answered z)

  pub set_refused : (n : ℕ) → refusal x t ≡ 0 → answered ≡ Refused n → merge_all_in x t ls b limit u
      ≡ made_out (made.Refused n) t
  unfolding made_out_of
  set_refused n e q = ap (made_out_of putting t) (→after e q)

pub set_in_tables : SetInTables
set_in_tables = record { leaves = leaves; accepts = accepts; own = own_refused; refused = set_refused }

-- ---- files that saving wrote
get_d_map : {A B : Type 0} (f : A → B) (xs : List A) (i : ℕ) (d : A) (d' : B) → i < length xs → get_or (map f xs) i d'
    ≡ f (get_or xs i d)
get_d_map f [] i d d' h = let z : ⊥ = omega arith in absurd z
get_d_map f (x ∷ xs) zero d d' h = refl
get_d_map f (x ∷ xs) (suc i) d d' h = get_d_map f xs i d d' (omega arith)

module _ (R : Reading) (m : Lengths) (limit : ℕ) (d : Index) where
  saved_load : (zs : List Index) → ((i : ℕ) → i < length zs → Cut R (get_or zs i d)
      × (question3 m (limited limit (get_or zs i d)) ≡ true))
      → load_files m R.area (map (λ z. length (saved z)) zs) (bytes_of saved zs) limit
      ≡ Accepted (map (limited limit) zs)
  unfolding load_files bytes_of
  saved_load [] f = refl
  saved_load (z ∷ zs) f =
      let c = f 0 (omega arith) in
      let n = length (saved z) in
      let rest = bytes_of saved zs in
      let a : load m R.area (saved z) limit ≡ Accepted (limited limit z) = rw (← c.0.area)
      (limited_load m limit z (cut_savable z c.0) c.1) in
      let p : take n (bytes_of saved (z ∷ zs)) ≡ saved z = take_at (saved z) rest n refl in
      let q : drop n (bytes_of saved (z ∷ zs)) ≡ rest = drop_at (saved z) rest n refl in
      →behind m R.area limit n (map (λ z. length (saved z)) zs) (bytes_of saved (z ∷ zs))
      (map (limited limit) (z ∷ zs))
      (record {
        inside = let k = length-append (saved z) rest in omega arith;
        first = limited limit z;
        rest = map (limited limit) zs;
        loads = ap (λ (b : List ℕ). load m R.area b limit) p ∙ a;
        others = ap (λ (b : List ℕ). load_files m R.area (map (λ z. length (saved z)) zs) b limit) q
            ∙ saved_load zs (λ i h. f (suc i) (omega arith));
        is = refl;
      })

pub set_of_saved : SetOfSaved
set_of_saved R l m x zs limit v n k c f g =
    let ns = map (λ z. length (saved z)) zs in
    let b = bytes_of saved zs in
    let e = length-map zs (λ z. length (saved z)) in
    let a : x.scan.area ≡ R.area = c.area in
    let d : load_files m x.scan.area ns b limit
    ≡ Accepted (map (limited limit) zs) = rw a (saved_load R m limit x zs f) in
    let q : SetAsked l x ns = record { own = v; at_least = omega arith; at_most = omega arith } in
    set_of_reading R l m x ns b limit (map (limited limit) zs) q
    (files_loaded m x.scan.area limit ns b (map (limited limit) zs) d) c
    (λ i h.
    let w : i < length zs = omega (arith, length-map zs (limited limit)) in
    subst (Cut R) (sym (get_d_map (limited limit) zs i x x w)) (cut_limited R limit (get_or zs i x) (f i w).0))
    g
