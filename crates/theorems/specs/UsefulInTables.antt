-- Document 01, "Programs that do nothing useful", about the calls over lent tables: what shuts out each.
use Rattle.std.specs.Prelude.{ℕ, ◌+◌, ◌/◌, min, ◌<◌, ◌≤◌, ◌≡◌, true, false, ◌&&◌, ◌||◌, cond, List, [], ◌∷◌, ◌≢◌, eqb, ltb, length, get_or, Option, None, Some}
use Rattle.field.specs.Records.{bytes_of}
use Rattle.rules.specs.declared.Area.{Area}
use Rattle.rules.specs.declared.AreaIndex.{AreaIndex}
use Rattle.rules.specs.declared.Confirmation.{Confirmation}
use Rattle.rules.specs.declared.EndState.{EndState}
use Rattle.rules.specs.declared.HintRecorder.{HintRecorder}
use Rattle.rules.specs.declared.Mode.TheVariants.{Running, Finished, Stopped}
use Rattle.rules.specs.declared.Plan.{Plan}
use Rattle.rules.specs.declared.Plan.TheVariants.{End}
use Rattle.rules.specs.declared.Recorder.{Recorder}
use Rattle.rules.specs.Tests.{is_some, agree, Accepted, number_of, Refused}
use Rattle.rules.specs.Values.{Index, max32, max_hints, no_hint, boundaries, lsn_of, frontier_of, last_checkpoint, stated, is_checked}
use Rattle.rules.specs.Sections.{end_ok}
use Rattle.rules.specs.Questions.{area_ok, numbers_ok, question1, question2, question3}
use Rattle.rules.specs.Create.{empty_index, bound}
use Rattle.rules.specs.Record.{is_running, next_number, question5, question6, question7, recorded, with_mode, is_stopped, question8, question9, question10, question11, question12, absorbed_index, emptied}
use Rattle.rules.specs.Hints as rules
use Rattle.rules.specs.Hints.{see, flushed_list, near, question13, with_hints, with_hinting, question53, with_mark, question14, keeps_nothing, keep, with_confirmed}
use Rattle.rules.specs.Load.{key_of, body_in, file_number, from_bytes, limited}
use Rattle.rules.specs.Merge.{question41, question42, question43, merged}
use Rattle.rules.specs.File.{read_header, encode_hint, saved_length, saved, over}
use Rattle.rules.specs.declared.Made.TheVariants as madeAs
use Rattle.rules_lacks.specs.Lacks.{lacking}
use Rattle.rules_drawer.specs.Drawer.{lengths_in, question44, load_files, pairs_number, merge_each}
use Rattle.rules_coverage.specs.declared.Row.{Row}
use Rattle.rules_coverage.specs.Lines.{Line}
use Rattle.rules_coverage.specs.Coverage.{area_in, range_ok, row_from, row_of, max_file, line_row}
use Rattle.rules_coarsen.specs.Coarse.{coarser, question47, question48}
use Rattle.tables.specs.Index.{Tables, room_of, index_in, numbers_from, tables_from, tables_cleared, frontier_in, MadeOut, made_out}
use Rattle.tables.specs.Lent.{TableBytes}
use Rattle.index.specs.Index.{new_in, bound_in}
use Rattle.tables.specs.Recorder.{RecorderTables, recorder_in, recorder_from, recorder_over, assembling_in}
use Rattle.recorder.specs.Recorder.{started_in, finished_in, recorder_out, record_in, checkpoint_lsn, due_at}
use Rattle.absorb.specs.Absorb.{absorbed, absorb_in}
use Rattle.absorb.specs.Absorb as absorbing
use Rattle.tables.specs.Tables.{given_in, hints_of}
use Rattle.hint_recorder.specs.HintRecorder.{created_in, see_in, flush_in, take_in}
use Rattle.hint_recorder.specs.HintRecorder as hinting
use Rattle.tables.specs.HintRecorder.{hint_recorder_from, hint_recorder_in}
use Rattle.add_hints.specs.AddHints.{touched, add_hints_in}
use Rattle.keep_hint.specs.KeepHint.{keep_hint_in}
use Rattle.confirmations.specs.Confirmations.{keep_in}
use Rattle.confirmations.specs.Confirmations as keeping
use Rattle.adds.specs.Adds.{brings_of, adds_in}
use Rattle.lacks.specs.Lacks.{lacks_in}
use Rattle.plan.specs.Plan.{plan_in}
use Rattle.hint.specs.Hint.{hint_in}
use Rattle.save.specs.Save as saving
use Rattle.load.specs.Load.{load_in}
use Rattle.rules.specs.declared.TableSizes.{TableSizes}
use Rattle.sizes.specs.Sizes.{sizes_of, range_of, sizes_for, new_sizes, file_sizes, file_length, before_sum, file_area}
use Rattle.short_sum.specs.declared.Folded.TheVariants as foldedAs
use Rattle.short_sum.specs.ShortSum.{folded, question49, fold}
use Rattle.rules_disc.specs.Disc.{slot_area, entries_in, entry_of, contents_ok}
use Rattle.rules_disc.specs.declared.Contents.TheVariants.{Lists}
use Rattle.rules.specs.declared.Assembling as under
use Rattle.disc_load.specs.DiscLoad.{place_from, contents_in, body_sizes, disc_sizes}
use Rattle.disc_save.specs.DiscSave.{one_length, both_length}
use Rattle.merge.specs.Merge.{merge_in}
use Rattle.drawer.specs.Drawer.{merged_tables, merge_all_in}
use Rattle.coarsen.specs.Coarsen.{coarse_in}
use Rattle.theorems.specs.Terms.{ValidIn}
use Rattle.theorems.specs.TableRun.{LentIn, is_accepted}
use Rattle.theorems.specs.Recorders.{ValidRecorderIn, RecorderBytes, ValidHintRecorderIn}
use Rattle.theorems.specs.Useful.{LoadOf, MergedOf, AbsorbedOf, Looked}
use Rattle.theorems.specs.DiscFile as disc
use Rattle.theorems.specs.DiscInTables.{DiscSaveAcceptsIn, DiscLoadAcceptsIn}
use Rattle.theorems.specs.Shelf.{ShelfAccepts}
use Rattle.theorems.specs.View.{ViewLeaves}

-- ---- refuses every call
-- where the questions are answered yes
pub record RefusesNothingIn : Type 0 where
  pub made : (t : Tables) (a : Area) (k budget spacing most : ℕ) → let x = empty_index a k budget spacing most in
      question1 x ≡ true → question2 x ≡ true → question3 (room_of t) x ≡ true → new_in t a k budget spacing most
      ≡ Accepted (numbers_from x)
  pub fingerprints : (x : AreaIndex) (t : Tables) (v : ℕ) → ValidIn x t
      → agree eqb (stated x.fingerprint) (Some v) ≡ true
      → bound_in x t v ≡ Accepted (numbers_from (bound (index_in x t) v))
  -- a complete index gives a stopped recorder
  pub recorders : (x : AreaIndex) (t : Tables) (from : ℕ) → ValidIn x t
      → started_in x t from
      ≡ Accepted (record {
        area = x.area;
        interval = x.interval;
        budget = x.budget;
        first = x.checkpoints;
        from = from;
        checkpoints = 0;
        frames = 0;
        parts = 0;
        mode = cond (is_some x.ending) Stopped Running;
      })
  pub hint_recorders : (x : AreaIndex) (t : Tables) → ValidIn x t → x.spacing ≢ 0 → x.most ≢ 0
      → created_in x t ≡ Accepted (Some (record { spacing = x.spacing; last = None; tail = None; count = 0 }))
  -- spacing or M of 0: no hint recorder
  pub no_hint_recorder : (x : AreaIndex) (t : Tables) → ValidIn x t → (eqb x.spacing 0 || eqb x.most 0) ≡ true
      → created_in x t ≡ Accepted None
  pub adds_hints : (x : AreaIndex) (t : Tables) (list : List ℕ) → ValidIn x t → question13 (hints_of list) ≡ true
      → let i = index_in x t in let y = with_hinting i (with_hints x.area i.hinting (hints_of list)) in
      add_hints_in x t list ≡ made_out (madeAs.Index (numbers_from y))
      (tables_cleared (touched x.most x.hints list) y t)
  pub keeps_hints : (x : AreaIndex) (t : Tables) (lsn : ℕ) → ValidIn x t
      → let i = index_in x t in question53 i.hinting lsn ≡ true
      → let y = with_hinting i (with_mark i.hinting lsn) in keep_hint_in x t lsn
      ≡ made_out (madeAs.Index (numbers_from y)) (tables_from y t)
  pub confirms : (x : AreaIndex) (t : Tables) (c : Confirmation) → ValidIn x t → question14 x.area c ≡ true
      → is_checked x.fingerprint ≡ true → x.most ≢ 0
      → let i = index_in x t in let y = with_hinting i
      (with_confirmed i.hinting (keep true x.most i.hinting.confirmed c)) in
      keep_in x t c ≡ keeping.kept_out (Accepted (Some (numbers_from y))) (tables_from y t)
  -- nothing is kept, and that is the answer
  pub keeps_none : (x : AreaIndex) (t : Tables) (c : Confirmation) → ValidIn x t → question14 x.area c ≡ true
      → keeps_nothing (is_checked x.fingerprint) x.most ≡ true
      → keep_in x t c ≡ keeping.kept_out (Accepted None) t
  pub hints : (x : AreaIndex) (t : Tables) (first end playtime : ℕ) → ValidIn x t → first ≤ end
      → number_of (hint_in x t first end playtime) ≡ 0
  pub plans : (x : AreaIndex) (t : Tables) (f : ℕ) → ValidIn x t → (p : Plan) × (plan_in x t f ≡ Accepted p)
  pub saves : (x : AreaIndex) (t : Tables) (old : List ℕ) → ValidIn x t → saved_length (index_in x t) ≤ length old
      → saving.save_in x t old ≡ saving.made (Accepted (length (saved (index_in x t)))) (over (saved (index_in x t)) old)
  pub merges : (x : AreaIndex) (t : Tables) (y : AreaIndex) (u : Tables) → ValidIn x t → ValidIn y u
      → let i = index_in x t in let j = index_in y u in
      question41 i j ≡ true → question42 i j ≡ true → question43 i j ≡ true → is_accepted (merge_in x t y u).answer
      ≡ true
  pub adds : (x : AreaIndex) (t : Tables) (y : AreaIndex) (u : Tables) → ValidIn x t → ValidIn y u
      → let i = index_in x t in let j = index_in y u in
      question41 i j ≡ true → question42 i j ≡ true → question43 i j ≡ true → adds_in x t y u
      ≡ Accepted (brings_of i (merged i j))
  pub lacks : (x : AreaIndex) (t : Tables) (y : AreaIndex) (u : Tables) → ValidIn x t → ValidIn y u
      → let i = index_in x t in let j = index_in y u in
      question41 i j ≡ true → question42 i j ≡ true → question43 i j ≡ true → lacks_in x t y u ≡ Accepted (lacking i j)
  pub loads : (a : Area) (b : List ℕ) (limit : ℕ) (t : Tables) (x : Index) → area_ok a ≡ true → from_bytes a b
      ≡ Accepted x → question3 (room_of t) (limited limit x) ≡ true
      → is_accepted (load_in a b limit t).answer ≡ true
  -- reading a disc
  pub records : (r : Recorder) (u : RecorderTables) (lsn threshold malformed : ℕ) (f : Option under.Assembling)
      (b sector : List ℕ) → ValidRecorderIn r u
      → let v = recorder_in r u in let a = assembling_in f b in
      question5 v lsn sector ≡ true → question6 v threshold malformed ≡ true → question7 v lsn a ≡ true
      → let w = recorded v lsn threshold malformed a sector in
      record_in r u lsn threshold malformed f b sector
      ≡ recorder_out (Accepted (recorder_from w)) (recorder_over w u)
  pub finishes : (r : Recorder) (u : RecorderTables) (e : EndState) → ValidRecorderIn r u → let v = recorder_in r u in
      is_running r.mode ≡ true → next_number v ≡ boundaries r.area r.interval
      → end_ok r.area (last_checkpoint v.checkpoints) e ≡ true
      → finished_in r u e ≡ Accepted (recorder_from (with_mode v (Finished e)))
  pub absorbs : (x : AreaIndex) (t : Tables) (image : Option ℕ) (given : List ℕ) (r : Recorder) (u : RecorderTables)
      → ValidIn x t → ValidRecorderIn r u
      → is_stopped r.mode ≡ false → let i = index_in x t in let v = recorder_in r u in let id = image
      in let ms = given_in given in
      question8 i id ≡ true → question9 i v ≡ true → question10 i v ≡ true → question11 i v ≡ true
      → question12 i v id ms ≡ true
      → let y = absorbed_index i v id ms in
      absorb_in x t image given r u ≡ absorbing.absorbed_out (absorbed 0 (numbers_from y) (recorder_from (emptied v)))
      (tables_from y t)
  -- a stopped recorder brings nothing and is no refusal after 4
  pub stopped : (x : AreaIndex) (t : Tables) (image : Option ℕ) (given : List ℕ) (r : Recorder) (u : RecorderTables)
      → ValidIn x t → TableBytes t → ValidRecorderIn r u
      → is_stopped r.mode ≡ true → absorb_in x t image given r u ≡ absorbing.absorbed_out (absorbed 0 x r) t
  pub sees : (r : HintRecorder) (t : List ℕ) (lsn : ℕ) (sector : List ℕ) → ValidHintRecorderIn r t → (n : ℕ)
      → (see_in r t lsn sector).answer ≢ Refused n
  -- what the rules accept is put into the table
  pub seen : (r : HintRecorder) (t : List ℕ) (lsn : ℕ) (sector : List ℕ) (s : rules.SeenSector)
      → see (length t / 8) (hint_recorder_in r t) lsn sector ≡ Accepted s
      → see_in r t lsn sector
      ≡ hinting.saw_out (Accepted (record { first = s.first; recorder = hint_recorder_from s.recorder }))
      (over (bytes_of encode_hint s.recorder.list) t)
  pub flushes : (r : HintRecorder) (t : List ℕ) → ValidHintRecorderIn r t
      → let v = hint_recorder_in r t in let hs = flushed_list v.tail v.list in
      flush_in r t
      ≡ hinting.seen_out (Accepted (hint_recorder_from
      (record { spacing = v.spacing; last = v.last; tail = None; list = hs }))) (over (bytes_of encode_hint hs) t)
  pub takes : (r : HintRecorder) (t : List ℕ) → ValidHintRecorderIn r t → let v = hint_recorder_in r t in
      take_in r t
      ≡ Accepted (record {
        count = length v.list;
        recorder = hint_recorder_from (record { spacing = v.spacing; last = v.last; tail = v.tail; list = [] });
      })
  -- numbers, lengths and what a file says
  pub frontiers : (x : AreaIndex) → area_ok x.area ≡ true → frontier_in x
      ≡ Accepted (frontier_of x.area x.interval x.checkpoints x.ending)
  pub boundary : (x : AreaIndex) (j : ℕ) → area_ok x.area ≡ true → numbers_ok x.interval x.budget ≡ true
      → checkpoint_lsn x j ≡ cond (ltb j (boundaries x.area x.interval))
      (Accepted (Some (lsn_of x.area x.interval j))) (Accepted None)
  pub due : (r : Recorder) → area_ok r.area ≡ true → numbers_ok r.interval r.budget ≡ true
      → let j = r.first + r.checkpoints in
      due_at r ≡ cond (is_running r.mode && ltb j (boundaries r.area r.interval))
      (Accepted (Some (lsn_of r.area r.interval j))) (Accepted None)
  pub sizes : (a : Area) (k budget most : ℕ) → area_ok a ≡ true → numbers_ok k budget ≡ true → new_sizes a k budget most
      ≡ Accepted (sizes_of a k budget (min most max_hints))
  pub sizes_of_file : (a : Area) (b : List ℕ) (limit : ℕ) (x : Index) → area_ok a ≡ true → from_bytes a b ≡ Accepted x
      → file_sizes a b limit ≡ Accepted (sizes_for (limited limit x))
  pub lengths : (x : AreaIndex) (t : Tables) → ValidIn x t → file_length x t ≡ length (saved (index_in x t))
  pub area_of_file : (b : List ℕ) → before_sum (file_number b) ≡ 0 → file_area b
      ≡ Accepted (range_of (key_of (read_header (body_in b))))
  -- change request 1
  pub merges_all : (x : AreaIndex) (t : Tables) (ls b : List ℕ) (limit : ℕ) (u : Tables) (ys : List Index)
      → ValidIn x t → question44 (lengths_in ls) ≡ true
      → load_files (room_of u) x.area (lengths_in ls) b limit ≡ Accepted ys
      → let i = index_in x t in pairs_number (i ∷ ys) ≡ 0
      → merge_all_in x t ls b limit u ≡ made_out (madeAs.Index (numbers_from (merge_each i ys))) (merged_tables i ys t)
  -- change request 2
  pub rows : (b : List ℕ) (s e : ℕ) (x : Index) → range_ok s e ≡ true → from_bytes (area_in b s e) b ≡ Accepted x
      → row_of b s e ≡ Accepted (row_from x)
  pub rows_of_lines : (l : Line) (b : List ℕ) (r : Row) → length b ≤ max_file → row_of b l.start l.end ≡ Accepted r
      → line_row (Some l) (Some b) ≡ Accepted r
  -- change request 6; the tables are the coarser list's
  pub coarsens : (x : AreaIndex) (t : Tables) (k : ℕ) (u : Tables) → ValidIn x t
      → let i = index_in x t in let y = coarser k i in
      question47 k i ≡ true → question48 k i ≡ true → question3 (room_of u) y ≡ true → coarse_in x t k u
      ≡ made_out (madeAs.Index (numbers_from y)) (tables_from y u)
  -- change request 8
  pub folds : (w k s : ℕ) → question49 w k ≡ true → fold w k s ≡ foldedAs.Sum (folded k s)
  -- change requests 9 and 10
  pub shelves : ShelfAccepts
  pub views : ViewLeaves
  -- change request 14
  pub saves_disc : DiscSaveAcceptsIn
  pub loads_disc : DiscLoadAcceptsIn
  pub contents : (b : List ℕ) → contents_ok b ≡ true → contents_in b
      ≡ Lists (place_from (entry_of 0 (entries_in b))) (place_from (entry_of 1 (entries_in b)))
  pub sizes_of_disc : (a0 a1 : Area) (b : List ℕ) (limit : ℕ) (s r : Option TableSizes) → slot_area 0 a0 ≡ true
      → slot_area 1 a1 ≡ true → contents_ok b ≡ true
      → body_sizes a0 limit (disc.body_in b 0) ≡ Accepted s → body_sizes a1 limit (disc.body_in b 1) ≡ Accepted r
      → disc_sizes a0 a1 b limit ≡ Accepted (record { slot0 = s; slot1 = r })
  pub length_one : (x : AreaIndex) (t : Tables) → ValidIn x t → let n = length (saved (index_in x t)) in n ≤ max32
      → one_length x t ≡ 16 + n
  pub length_both : (x y : AreaIndex) (t u : Tables) → ValidIn x t → ValidIn y u → x.area.key.slot ≡ 0
      → y.area.key.slot ≡ 1
      → let m = length (saved (index_in x t)) in let n = length (saved (index_in y u)) in
      28 + m ≤ max32 → n ≤ max32 → (both_length x t y u ≡ 28 + m + n) × (both_length y u x t ≡ 28 + m + n)

-- ---- loads each file as an empty list
-- a load answered the numbers of a list that the file of x loads as, and its tables then hold that list
pub record LoadOfIn (limit : ℕ) (x : Index) (o : MadeOut) : Type 0 where
  pub numbers : AreaIndex
  pub answer : o.answer ≡ madeAs.Index numbers
  pub list : LoadOf limit x (index_in numbers o.tables)

-- of what was saved, in tables t' that have room for it
abbrev pub LoadKeepsIn : Type 0
LoadKeepsIn =
    (x : AreaIndex) (t : Tables) → LentIn x t → ValidIn x t → (limit : ℕ) (t' : Tables)
    → question3 (room_of t') (index_in x t) ≡ true
    → LoadOfIn limit (index_in x t) (load_in x.area (saved (index_in x t)) limit t')

-- ---- merge hands back the first list untouched
abbrev pub MergeTakesIn : Type 0
MergeTakesIn =
    (x : AreaIndex) (t : Tables) (y : AreaIndex) (u : Tables) (z : AreaIndex) (t' : Tables) → LentIn x t → LentIn y u
    → merge_in x t y u ≡ made_out (madeAs.Index z) t'
    → MergedOf (index_in x t) (index_in y u) (index_in z t')

-- ---- absorbs one recorder, then only empties the others
-- of numbers and tables of their types
abbrev pub AbsorbTakesIn : Type 0
AbsorbTakesIn =
    (x : AreaIndex) (t : Tables) (image : Option ℕ) (given : List ℕ) (r : Recorder) (u : RecorderTables) → LentIn x t
    → RecorderBytes u
    → let o = absorb_in x t image given r u in
    o.answer.number ≡ 0 → is_stopped r.mode ≡ false
    → AbsorbedOf (index_in x t) (recorder_in r u) image (given_in given) (index_in o.answer.index o.tables)

-- ---- save tells an invented length
-- the number is the file's length, 88 at least, and that many bytes are the file
pub record SaveOf (x : Index) (old : List ℕ) (n : ℕ) (new : List ℕ) : Type 0 where
  pub number : n ≡ saved_length x
  pub least : 88 ≤ n
  pub whole : length (saved x) ≡ n
  pub bytes : new ≡ over (saved x) old

abbrev pub SaveTellsIn : Type 0
SaveTellsIn = (x : AreaIndex) (t : Tables) (old : List ℕ) (n : ℕ) (new : List ℕ) → saving.save_in x t old
    ≡ saving.made (Accepted n) new → SaveOf (index_in x t) old n new

-- ---- plan says Start, hint none, without looking
pub record PlanLooksIn : Type 0 where
  pub answers : (x : AreaIndex) (t : Tables) (f : ℕ) (p : Plan) → plan_in x t f ≡ Accepted p
      → Looked (index_in x t).scan f p
  -- at or past the end of a complete list it says so
  pub ends : (x : AreaIndex) (t : Tables) (f : ℕ) (e : EndState) → ValidIn x t → x.ending ≡ Some e
      → e.threshold ≤ f → plan_in x t f ≡ Accepted (End e)

abbrev pub HintLooksIn : Type 0
HintLooksIn =
    (x : AreaIndex) (t : Tables) (first end playtime i : ℕ) → hint_in x t first end playtime ≡ Accepted None
    → i < x.hints
    → near first (get_or (index_in x t).hinting.hints i no_hint) ≡ false
