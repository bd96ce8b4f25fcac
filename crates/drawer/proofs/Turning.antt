-- The lists of a set, merged one after the other. Assumes nothing.
use Prim.Native.Nat.{ℕ, ◌+◌, ◌-◌, ◌<◌, ◌≤◌}
use mathlib.Core.Path.{◌≡◌, refl, sym, ap, ◌∙◌, subst}
use mathlib.Core.Bool.{true, false}
use mathlib.Core.List.{List, [], ◌∷◌, map}
use native.Mathlib.Omega.{arith}
use lib.ListN.{length, take, drop, get_or}
use Rattle.field.specs.Records.{Bytes}
use Rattle.field.proofs.Bytes.{bytes_take, bytes_drop}
use Rattle.rules.specs.declared.Area.{Area}
use Rattle.rules.specs.declared.AreaIndex.{AreaIndex}
use Rattle.rules.specs.Tests.{after}
use Rattle.rules.specs.Values.{Index, Lengths}
use Rattle.rules.specs.Questions.{question1, question3}
use Rattle.rules.specs.Load.{limited}
use Rattle.rules.specs.Merge.{merged, merge_number, merge}
use Rattle.rules.proofs.Tests.{asked, asks, both}
use Rattle.laws.specs.Statements.{Savable}
use Rattle.laws.proofs.Facts.{facts}
use Rattle.laws.proofs.Loaded.{loaded_valid}
use Rattle.laws.proofs.scans.Scans.{ScanIs, scan_of, scan→}
use Rattle.rules.specs.declared.Made.{Made}
use Rattle.rules.specs.declared.Made.TheVariants as made
use Rattle.tables.specs.Index.{Tables, room_of, room_in, index_in, kinds_in, kinded, numbers_from, tables_from, tables_cleared, MadeOut, made_out, made_out_of}
use Rattle.index.proofs.Back.{numbers_back}
use Rattle.index.proofs.Questions.{passes_kinds}
use Rattle.index.proofs.Standing.{stands, stands_cleared, kinds_from, within, room_from}
use Rattle.load.specs.Limit.{list_in, limited_in}
use Rattle.load.specs.Steps.{Loadable}
use Rattle.merge.specs.Merge.{hints_written, merge_in}
use Rattle.merge.specs.Steps.{out_index}
use Rattle.rules_drawer.specs.Drawer.{pair_number, pairs_with, pairs_number, merge_each}
use Rattle.rules_drawer.proofs.Pairs.{first_of→, →first_of, mergeable→}
use Rattle.drawer.specs.declared.ask.Entry.{Entry}
use Rattle.drawer.specs.declared.ask.Asked.{Asked}
use Rattle.drawer.specs.Ask.{no_file, entries_in, bytes_at, list_at, lists_at, FileLoads}
use Rattle.drawer.specs.Drawer.{merged_tables}
use Rattle.drawer.specs.Turns.{numbers_after, Turning, turn_in, Turns, turns_in, turns_out}
use Rattle.drawer.proofs.Passing.{merged_one, merged_two, merged_three, merged_four, merged_fits, limited_two, limited_four, limited_fits}
use Rattle.drawer.proofs.Joining.{pairs_both}
use Rattle.drawer.proofs.Pairing.{entry_at, entries_end}

-- ---- a list that was loaded
-- the bytes of a file, cut from the buffer by its ends
pub commits : (a : Area) (b : List ℕ) (limit : ℕ) (u : Tables) (e : Entry) {to : ℕ} → to ≡ e.from + e.len → FileLoads a b limit u e
    → Loadable a (take (to - e.from) (drop e.from b)) limit e.found e.index u
commits a b limit u e {to} q h =
    let z : to - e.from ≡ e.len = omega arith in
    subst (λ (k : ℕ). Loadable a (take k (drop e.from b)) limit e.found e.index u) (sym z) h.ready

module _ (a : Area) (b : List ℕ) (limit : ℕ) (by : Bytes b) where
  pub held_savable : {u : Tables} (e : Entry) → FileLoads a b limit u e → Savable (list_at a b limit e)
  unfolding question1 limited
  held_savable e h =
      let k = h.ready.accepts in
      let x = list_in a (bytes_at b e) in
      let v = loaded_valid a (bytes_at b e) x (bytes_take (drop e.from b) e.len (bytes_drop b e.from by)) k.area k.file in
      record { one = v.one; two = limited_two limit x v.two; four = limited_four limit x v.four; sizes = limited_fits limit x v.sizes }

  -- ---- one turn
  module _ (x : AreaIndex) (t : Tables) (e : Entry) (u : Tables) (g : Turning a x t e b limit u) where
    abbrev list : Index
    list = list_at a b limit e

    step_is : merge_in x t (numbers_from list) (tables_from list u) ≡ turn_in x t list
    unfolding merge kinded made_out_of turn_in after
    step_is =
        let s = held_savable e g.holds in
        let r = room_from list u (within list u (facts list s) g.holds.ready.room) in
        rw (stands list u s, kinds_from list u s, g.kinds, r, g.merges)

    pub turned : {r : AreaIndex} {to : ℕ} {u' t' : Tables} {made : Made} → r ≡ numbers_after x made → to ≡ e.from + e.len
        → u' ≡ tables_from (limited_in a (take (to - e.from) (drop e.from b)) limit) u → made_out made t' ≡ merge_in x t e.index u'
        → out_index r t' ≡ turn_in x t list
    unfolding turn_in numbers_after
    turned {r} {to} {u'} {t'} {made} n q w m =
        let z : to - e.from ≡ e.len = omega arith in
        let v : u' ≡ tables_from list u = w ∙ ap (λ (k : ℕ). tables_from (limited_in a (take k (drop e.from b)) limit) u) z in
        let o : made_out made t' ≡ turn_in x t list = m ∙ (λ i. merge_in x t (g.holds.ready.numbers i) (v i)) ∙ step_is in
        (λ i. out_index (n i) t') ∙ ap (λ (o : MadeOut). out_index (numbers_after x o.answer) o.tables) o

-- ---- a merge that nothing refuses
merge_none : (l m : Lengths) (x y : Index) → Savable x → question3 l x ≡ true → Savable y → question3 m y ≡ true → pair_number x y ≡ 0 → merge_number l x m y ≡ 0
unfolding merge_number pair_number
merge_none l m x y s q w r e =
    asks _ (both s.one w.one, (both s.two w.two, (both q r, (both s.four w.four, asked _ refl e))))

scan_is : (x : Index) → Savable x → ScanIs x.scan
scan_is x s = scan→ x.scan (scan_of x s.four)

merged_savable : (x y : Index) → Savable x → Savable y → pair_number x y ≡ 0 → Savable (merged x y)
unfolding pair_number
merged_savable x y s w e =
    let q = asked _ refl e in
    record {
      one = merged_one x y s.one;
      two = merged_two x y s.two;
      four = merged_four x y s.four w.four q.0 q.1.1.0;
      sizes = merged_fits x y s.sizes w.sizes;
    }

-- ---- the loop
-- the list of x and t, with the lists ys still to be merged, in place of that of x0 and t0 with ys0
pub record Turned (x0 : AreaIndex) (t0 : Tables) (ys0 : List Index) (x : AreaIndex) (t : Tables) (ys : List Index) : Type 0 where
  pub same : turns_in x t ys ≡ turns_in x0 t0 ys0
  pub pairs : pairs_number (index_in x t ∷ ys) ≡ 0
  pub savable : Savable (index_in x t)
  pub room : question3 (room_of t) (index_in x t) ≡ true
  pub kinds : kinds_in x t ≡ true

module _ (x0 : AreaIndex) (t0 : Tables) (ys0 : List Index) where
  module _ {x : AreaIndex} {t : Tables} {y : Index} {ys : List Index} (k : Turned x0 t0 ys0 x t (y ∷ ys)) where
    abbrev own : Index
    own = index_in x t

    first_pair : pair_number own y ≡ 0
    unfolding pairs_number pairs_with
    first_pair = (first_of→ _ _ (first_of→ _ _ k.pairs).0).0

    pub merges : (m : Lengths) → Savable y → question3 m y ≡ true → merge_number (room_of t) own m y ≡ 0
    merges m w q = merge_none (room_of t) m own y k.savable k.room w q first_pair

    module _ (w : Savable y) where
      after_savable : Savable (merged own y)
      after_savable = merged_savable own y k.savable w first_pair

      abbrev after_tables : Tables
      after_tables = tables_cleared (hints_written x (numbers_from y)) (merged own y) t

      standing : index_in (numbers_from (merged own y)) after_tables ≡ merged own y
      standing = stands_cleared (hints_written x (numbers_from y)) (merged own y) t after_savable

      pairs_left : pairs_number (merged own y ∷ ys) ≡ 0
      unfolding pairs_number pairs_with
      pairs_left =
          let p = first_of→ _ _ k.pairs in let q = first_of→ _ _ p.0 in let r = first_of→ _ _ p.1 in
          →first_of (pairs_both own y (scan_is own k.savable) (scan_is y w) (mergeable→ own y q.0) ys q.1 r.0) r.1

      same_left : turns_in (numbers_from (merged own y)) after_tables ys ≡ turns_in x t (y ∷ ys)
      unfolding turns_in merge_each merged_tables
      same_left = rw (standing, numbers_back x t)

      turned_by : room_of after_tables ≡ room_of t → Turned x0 t0 ys0 (numbers_from (merged own y)) after_tables ys
      turned_by r =
          record {
            same = same_left ∙ k.same;
            pairs = rw standing pairs_left;
            savable = rw standing after_savable;
            room = rw (standing, r) (merged_three own y (room_of t) k.room);
            kinds = kinds_from (merged own y) t after_savable;
          }

      pub turned_on : {x' : AreaIndex} {t' : Tables} → out_index x' t' ≡ turn_in x t y → room_of t' ≡ room_of t → Turned x0 t0 ys0 x' t' ys
      unfolding turn_in numbers_after
      turned_on {x'} {t'} e r =
          let p : x' ≡ numbers_from (merged own y) = ap (λ (o : MadeOut). numbers_after x o.answer) e in
          let q : t' ≡ after_tables = ap (λ (o : MadeOut). o.tables) e in
          let z : room_of after_tables ≡ room_of t = ap room_of (sym q) ∙ r in
          subst (λ (v : Tables). Turned x0 t0 ys0 x' v ys) (sym q) (subst (λ (v : AreaIndex). Turned x0 t0 ys0 v after_tables ys) (sym p) (turned_by z))

  -- nothing is left
  pub turned_done : {x : AreaIndex} {t : Tables} {ys : List Index} → Turned x0 t0 ys0 x t ys → ys ≡ [] → out_index x t ≡ turns_in x0 t0 ys0
  unfolding turns_in merge_each merged_tables
  turned_done {x} {t} {ys} k e =
      let z : turns_in x t [] ≡ turns_in x0 t0 ys0 = ap (turns_in x t) (sym e) ∙ k.same in
      (λ i. out_index (sym (numbers_back x t) i) t) ∙ z

-- ---- working tables of the same lengths
pub ready_in : {a : Area} {b : List ℕ} {limit : ℕ} {e : Entry} {u u' : Tables} → room_of u' ≡ room_of u → FileLoads a b limit u e → FileLoads a b limit u' e
ready_in r h = record { inside = h.inside; ready = record { accepts = h.ready.accepts; numbers = h.ready.numbers; room = rw r h.ready.room } }

-- ---- over the tables
-- tables that kept their lengths
pub record Kept (t0 t : Tables) : Type 0 where
  pub checkpoints : length t.checkpoints ≡ length t0.checkpoints
  pub frames : length t.frames ≡ length t0.frames
  pub store : length t.store ≡ length t0.store
  pub parts : length t.parts ≡ length t0.parts
  pub malformed : length t.malformed ≡ length t0.malformed
  pub hints : length t.hints ≡ length t0.hints
  pub confirmed : length t.confirmed ≡ length t0.confirmed

pub kept_room : {t0 t : Tables} → Kept t0 t → room_of t ≡ room_of t0
kept_room k = rw (k.checkpoints, k.frames, k.store, k.parts, k.malformed, k.hints, k.confirmed)

pub kept_none : (t : Tables) → Kept t t
kept_none t = record { checkpoints = refl; frames = refl; store = refl; parts = refl; malformed = refl; hints = refl; confirmed = refl }

pub kept_on : {t0 t t' : Tables} → Kept t0 t → Kept t t' → Kept t0 t'
kept_on k l =
    record {
      checkpoints = l.checkpoints ∙ k.checkpoints;
      frames = l.frames ∙ k.frames;
      store = l.store ∙ k.store;
      parts = l.parts ∙ k.parts;
      malformed = l.malformed ∙ k.malformed;
      hints = l.hints ∙ k.hints;
      confirmed = l.confirmed ∙ k.confirmed;
    }

-- i lists are merged, in the own tables t and the working tables u
pub record At (a : Area) (x0 : AreaIndex) (t0 : Tables) (s : Asked) (b : List ℕ) (limit : ℕ) (u0 : Tables) (x : AreaIndex) (t u : Tables) (i : ℕ) : Type 0 where
  pub set : Turns a x0 t0 s b limit u0
  pub bytes : Bytes b
  pub turned : Turned x0 t0 (lists_at a b limit s) x t (map (list_at a b limit) (drop i (entries_in s)))
  pub own : Kept t0 t
  pub work : Kept u0 u

pub turns_refused : (x : AreaIndex) (t : Tables) (s : Asked) (ys : List Index) → s.ok ≡ false
    → made_out (made.Refused s.number) t ≡ turns_out x t s ys
unfolding turns_out
turns_refused x t s ys e = rw e

module _ {a : Area} {x0 : AreaIndex} {t0 : Tables} {s : Asked} {b : List ℕ} {limit : ℕ} {u0 : Tables} where
  pub at_start : Turns a x0 t0 s b limit u0 → Bytes b → At a x0 t0 s b limit u0 x0 t0 u0 0
  unfolding room_in
  at_start g by =
      record {
        set = g;
        bytes = by;
        turned = record { same = refl; pairs = g.pairs; savable = g.savable; room = g.own.roomy.room; kinds = passes_kinds g.own };
        own = kept_none t0;
        work = kept_none u0;
      }

  module _ {x : AreaIndex} {t u : Tables} {i : ℕ} (k : At a x0 t0 s b limit u0 x t u i) (l : i < s.count) where
    abbrev entry : Entry
    entry = get_or s.entries i no_file

    holds : FileLoads a b limit u entry
    holds = ready_in (kept_room k.work) (k.set.held.each i l)

    savable : Savable (list_at a b limit entry)
    savable = held_savable a b limit k.bytes entry holds

    next : Turned x0 t0 (lists_at a b limit s) x t (list_at a b limit entry ∷ map (list_at a b limit) (drop (i + 1) (entries_in s)))
    next =
        subst (λ (es : List Entry). Turned x0 t0 (lists_at a b limit s) x t (map (list_at a b limit) es))
        (entry_at s i k.set.held.few k.set.held.room l) k.turned

    -- with the entry of number j, which is i
    pub at_turn : {j : ℕ} → j ≡ i → Turning a x t (get_or s.entries j no_file) b limit u
    at_turn q =
        rw q
        (record { holds = holds; kinds = k.turned.kinds; merges = merges x0 t0 (lists_at a b limit s) next (room_of u) savable holds.ready.room })

    pub at_next : {x' : AreaIndex} {t' u' : Tables} {j : ℕ} → j ≡ i → out_index x' t' ≡ turn_in x t (list_at a b limit (get_or s.entries j no_file)) → Kept t t' → Kept u u'
        → At a x0 t0 s b limit u0 x' t' u' (i + 1)
    at_next q e o w =
        record {
          set = k.set;
          bytes = k.bytes;
          turned = turned_on x0 t0 (lists_at a b limit s) next savable (rw q at e) (kept_room o);
          own = kept_on k.own o;
          work = kept_on k.work w;
        }

  pub at_end : {x : AreaIndex} {t u : Tables} {i : ℕ} → At a x0 t0 s b limit u0 x t u i → s.count ≤ i
      → out_index x t ≡ turns_out x0 t0 s (lists_at a b limit s)
  unfolding turns_out
  at_end {x} {t} {u} {i} k l =
      turned_done x0 t0 (lists_at a b limit s) k.turned
      (ap (map (list_at a b limit)) (entries_end s i k.set.held.few k.set.held.room l))
      ∙ rw k.set.ok
