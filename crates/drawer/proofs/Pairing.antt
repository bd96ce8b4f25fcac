-- The pairs of a set, asked of the files' own bytes. Assumes nothing.
use Prim.Native.Nat.{ℕ, suc, ◌+◌, ◌*◌, ◌<◌, ◌≤◌}
use mathlib.Core.Path.{◌≡◌, refl, sym, ap, ap₂, ◌∙◌, subst}
use mathlib.Core.Logic.{◌≢◌}
use mathlib.Core.List.{List, [], ◌∷◌, ◌++◌, map}
use native.Mathlib.Omega.{arith}
use lib.ListN.{length, drop, get_or, length-take, length-drop, drop_of_length-le, take-append-drop}
use lib.Seq.{drop-cons, drop-drop, get_or-take, length-take-le}
use Rattle.field.specs.Records.{Bytes, records}
use Rattle.field.proofs.Bytes.{bytes_take, bytes_drop}
use Rattle.field.proofs.Format.{Each, none as nothing, one}
use Rattle.rules.specs.declared.Area.{Area}
use Rattle.rules.specs.declared.AreaIndex.{AreaIndex}
use Rattle.rules.specs.File.{decode_checkpoint}
use Rattle.rules.specs.Load.{limited}
use Rattle.tables.specs.Index.{Tables, index_in}
use Rattle.load.specs.Limit.{list_in}
use Rattle.load.proofs.Filling.{ready_inside}
use Rattle.merge.specs.Steps.{join_number}
use Rattle.rules_drawer.specs.Drawer.{max_files, first_of, pair_number, pairs_with, pairs_number}
use Rattle.rules_drawer.proofs.Pairs.{first_of_zero, first_of_other}
use Rattle.drawer.specs.declared.ask.Entry.{Entry}
use Rattle.drawer.specs.declared.ask.Asked.{Asked}
use Rattle.drawer.specs.Ask.{no_file, entries_in, bytes_at, list_at, lists_at, FileLoads, Held, checkpoints_at, Joinable, join_list, join_lists, join_pairs}
use Rattle.drawer.proofs.Bytes.{file_checkpoints, own_pair, numbers_pair}

-- ---- the entries from number k on
pub entry_at : (s : Asked) (k : ℕ) → s.count ≤ max_files → length s.entries ≡ max_files → k < s.count
    → drop k (entries_in s) ≡ get_or s.entries k no_file ∷ drop (k + 1) (entries_in s)
entry_at s k f r l =
    let n = length-take-le s.count s.entries (omega arith) in
    let p : suc k ≡ k + 1 = omega arith in
    drop-cons (entries_in s) k no_file (omega arith)
    ∙ (λ i. get_or-take s.count s.entries k no_file l i ∷ drop (p i) (entries_in s))

pub entries_end : (s : Asked) (k : ℕ) → s.count ≤ max_files → length s.entries ≡ max_files → s.count ≤ k → drop k (entries_in s) ≡ []
entries_end s k f r l = let n = length-take-le s.count s.entries (omega arith) in drop_of_length-le (entries_in s) {i = k} (omega arith)

-- ---- the loops
module _ (b : List ℕ) (s : Asked) (j : Joinable b s) where
  -- one list with those from number k on
  module _ (x : AreaIndex) (cs : List ℕ) {k n : ℕ} (l : k < s.count) (e : n ≡ join_number x cs (get_or s.entries k no_file).index (checkpoints_at b (get_or s.entries k no_file))) where
    split : join_list x cs (drop k (entries_in s)) b ≡ first_of n (join_list x cs (drop (k + 1) (entries_in s)) b)
    unfolding join_list
    split =
        ap (λ (es : List Entry). join_list x cs es b) (entry_at s k j.few j.room l)
        ∙ ap (λ (m : ℕ). first_of m (join_list x cs (drop (k + 1) (entries_in s)) b)) (sym e)

    pub list_stops : n ≢ 0 → n ≡ join_list x cs (drop k (entries_in s)) b
    list_stops z = sym (split ∙ first_of_other n _ z)

    pub list_on : n ≡ 0 → join_list x cs (drop (k + 1) (entries_in s)) b ≡ join_list x cs (drop k (entries_in s)) b
    list_on z = sym (split ∙ first_of_zero z)

  pub list_ends : (x : AreaIndex) (cs : List ℕ) {k : ℕ} → s.count ≤ k → 0 ≡ join_list x cs (drop k (entries_in s)) b
  unfolding join_list
  list_ends x cs {k} l = ap (λ (es : List Entry). join_list x cs es b) (sym (entries_end s k j.few j.room l))

  -- every two of those from number k on
  module _ {k n : ℕ} (l : k < s.count)
      (e : n ≡ join_list (get_or s.entries k no_file).index (checkpoints_at b (get_or s.entries k no_file)) (drop (k + 1) (entries_in s)) b) where
    split_pairs : join_lists (drop k (entries_in s)) b ≡ first_of n (join_lists (drop (k + 1) (entries_in s)) b)
    unfolding join_lists
    split_pairs =
        ap (λ (es : List Entry). join_lists es b) (entry_at s k j.few j.room l)
        ∙ ap (λ (m : ℕ). first_of m (join_lists (drop (k + 1) (entries_in s)) b)) (sym e)

    pub pairs_stop : n ≢ 0 → n ≡ join_lists (drop k (entries_in s)) b
    pairs_stop z = sym (split_pairs ∙ first_of_other n _ z)

    pub pairs_on : n ≡ 0 → join_lists (drop (k + 1) (entries_in s)) b ≡ join_lists (drop k (entries_in s)) b
    pairs_on z = sym (split_pairs ∙ first_of_zero z)

  pub pairs_end : {k : ℕ} → s.count ≤ k → 0 ≡ join_lists (drop k (entries_in s)) b
  unfolding join_lists
  pairs_end {k} l = ap (λ (es : List Entry). join_lists es b) (sym (entries_end s k j.few j.room l))

-- the own list first
pub own_stops : (x : AreaIndex) (cs b : List ℕ) (s : Asked) {n : ℕ} → n ≡ join_list x cs (entries_in s) b → n ≢ 0 → n ≡ join_pairs x cs s b
own_stops x cs b s {n} e z = sym (ap (λ (m : ℕ). first_of m (join_lists (entries_in s) b)) (sym e) ∙ first_of_other n _ z)

pub own_on : (x : AreaIndex) (cs b : List ℕ) (s : Asked) {n : ℕ} → n ≡ join_list x cs (entries_in s) b → n ≡ 0 → join_lists (entries_in s) b ≡ join_pairs x cs s b
own_on x cs b s {n} e z = sym (ap (λ (m : ℕ). first_of m (join_lists (entries_in s) b)) (sym e) ∙ first_of_zero z)

-- ---- the lists of the files
module _ (a : Area) (b : List ℕ) (limit : ℕ) (u : Tables) (by : Bytes b) where
  entry_bytes : (e : Entry) → Bytes (bytes_at b e)
  entry_bytes e = bytes_take (drop e.from b) e.len (bytes_drop b e.from by)

  -- its checkpoints lie behind its header
  entry_checkpoints : (e : Entry) → FileLoads a b limit u e
      → records 24 decode_checkpoint (length (list_at a b limit e).scan.checkpoints) (checkpoints_at b e) ≡ (list_at a b limit e).scan.checkpoints
  unfolding limited
  entry_checkpoints e h =
      let k = h.ready.accepts in
      let p : drop 80 (bytes_at b e ++ drop e.len (drop e.from b)) ≡ checkpoints_at b e = ap (drop 80) (take-append-drop e.len (drop e.from b)) ∙ drop-drop 80 e.from b in
      let c = file_checkpoints a (bytes_at b e) (drop e.len (drop e.from b)) (list_in a (bytes_at b e)) (entry_bytes e) k.area k.file in
      subst (λ (ds : List ℕ). records 24 decode_checkpoint (length (list_in a (bytes_at b e)).scan.checkpoints) ds ≡ (list_in a (bytes_at b e)).scan.checkpoints) p c

  own_join : (x : AreaIndex) (t : Tables) (e : Entry) → FileLoads a b limit u e
      → join_number x t.checkpoints e.index (checkpoints_at b e) ≡ pair_number (index_in x t) (list_at a b limit e)
  own_join x t e h =
      ap (λ (y : AreaIndex). join_number x t.checkpoints y (checkpoints_at b e)) h.ready.numbers
      ∙ own_pair x t (list_at a b limit e) (checkpoints_at b e) (entry_checkpoints e h)

  two_join : (d e : Entry) → FileLoads a b limit u d → FileLoads a b limit u e
      → join_number d.index (checkpoints_at b d) e.index (checkpoints_at b e) ≡ pair_number (list_at a b limit d) (list_at a b limit e)
  two_join d e h k =
      (λ i. join_number (h.ready.numbers i) (checkpoints_at b d) (k.ready.numbers i) (checkpoints_at b e))
      ∙ numbers_pair (list_at a b limit d) (list_at a b limit e) (checkpoints_at b d) (checkpoints_at b e) (entry_checkpoints d h) (entry_checkpoints e k)

  own_list : (x : AreaIndex) (t : Tables) {es : List Entry} → Each (FileLoads a b limit u) es
      → join_list x t.checkpoints es b ≡ pairs_with (index_in x t) (map (list_at a b limit) es)
  unfolding join_list pairs_with
  own_list x t nothing = refl
  own_list x t (one {x = e} h hs) = ap₂ first_of (own_join x t e h) (own_list x t hs)

  two_list : (d : Entry) {es : List Entry} → FileLoads a b limit u d → Each (FileLoads a b limit u) es
      → join_list d.index (checkpoints_at b d) es b ≡ pairs_with (list_at a b limit d) (map (list_at a b limit) es)
  unfolding join_list pairs_with
  two_list d h nothing = refl
  two_list d h (one {x = e} k ks) = ap₂ first_of (two_join d e h k) (two_list d h ks)

  all_lists : {es : List Entry} → Each (FileLoads a b limit u) es → join_lists es b ≡ pairs_number (map (list_at a b limit) es)
  unfolding join_lists pairs_number
  all_lists nothing = refl
  all_lists (one {x = e} h hs) = ap₂ first_of (two_list e h hs) (all_lists hs)

  each_entry : {P : Entry → Type 0} (es : List Entry) → ((i : ℕ) → i < length es → P (get_or es i no_file)) → Each P es
  each_entry [] f = nothing
  each_entry (e ∷ es) f = one (f 0 (omega arith)) (each_entry es (λ i l. f (suc i) (omega arith)))

  pub each_holds : (s : Asked) → Held a b limit u s → Each (FileLoads a b limit u) (entries_in s)
  each_holds s h =
      let few = h.few in let room = h.room in
      let n = length-take-le s.count s.entries (omega arith) in
      each_entry (entries_in s)
      (λ i l. let m : i < s.count = omega arith in subst (FileLoads a b limit u) (sym (get_or-take s.count s.entries i no_file m)) (h.each i m))

  -- the number that was asked is that of the lists
  pub pairs_are : (x : AreaIndex) (t : Tables) (s : Asked) → Held a b limit u s
      → join_pairs x t.checkpoints s b ≡ pairs_number (index_in x t ∷ lists_at a b limit s)
  unfolding pairs_number
  pairs_are x t s h = let hs = each_holds s h in ap₂ first_of (own_list x t hs) (all_lists hs)

  -- what the pairs read lies in the buffer
  pub joinable : (s : Asked) → Held a b limit u s → Joinable b s
  unfolding limited
  joinable s h =
      record {
        few = h.few;
        room = h.room;
        each = λ i l. let e = get_or s.entries i no_file in lies e (h.each i l);
      }
    where
      lies : (e : Entry) → FileLoads a b limit u e → (e.from + 80 ≤ length b) × (e.index.checkpoints * 24 ≤ length (checkpoints_at b e))
      lies e h =
          let i = (ready_inside (entry_bytes e) h.ready).front in
          let f : e.found.index.checkpoints ≡ length (list_in a (bytes_at b e)).scan.checkpoints = ap (λ (g : _). g.index.checkpoints) h.ready.accepts.is in
          let y : e.index.checkpoints ≡ length (list_in a (bytes_at b e)).scan.checkpoints = ap (λ (g : AreaIndex). g.checkpoints) h.ready.numbers in
          let z = length-take e.len (drop e.from b) in let n : length (bytes_at b e) ≤ e.len = omega (arith, z) in
          let d = length-drop (e.from + 80) b in
          let k = h.inside in
          (omega arith, omega arith)
