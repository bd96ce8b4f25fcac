-- Document 01, "Programs that do nothing useful": what shuts out each.
use Rattle.std.specs.Prelude.{ℕ, ◌+◌, ◌-◌, ◌/◌, min, ◌<◌, ◌≤◌, ◌≡◌, true, false, List, [], ◌∷◌, ◌++◌, ◌≢◌, eqb, length, get_or, take, drop, Option, None, Some}
use Rattle.rules.specs.declared.Area.{Area}
use Rattle.rules.specs.declared.Confirmation.{Confirmation}
use Rattle.rules.specs.declared.EndState.{EndState}
use Rattle.rules.specs.declared.Hint.{Hint}
use Rattle.rules.specs.declared.Mode.TheVariants.{Finished}
use Rattle.rules.specs.declared.Plan.{Plan}
use Rattle.rules.specs.declared.Plan.TheVariants.{Start, At, End}
use Rattle.rules.specs.declared.Resume.{Resume}
use Rattle.rules.specs.FirstRecord.{first_record}
use Rattle.rules.specs.Tests.{or_else, agree, Accepted, number_of}
use Rattle.rules.specs.Values.{Scan, Index, Recorder, HintRecorder, Lengths, max_malformed, no_hint, no_held, checkpoint_at, boundaries, lsn_of, frontier, count, complete, last_checkpoint, stated, is_checked}
use Rattle.rules.specs.Sections.{end_ok}
use Rattle.rules.specs.Questions.{area_ok, question1, question2, question3, end_of}
use Rattle.rules.specs.Create.{empty_index, new, bound, bind_fingerprint, empty_recorder, recorder, empty_hint_recorder, hint_recorder}
use Rattle.rules.specs.Record.{Assembling, is_running, next_number, question5, question6, question7, recorded, record_at, with_mode, finish, question8, question9, question10, question11, question12, absorbed_index, below, emptied, is_stopped, absorb}
use Rattle.rules.specs.Hints.{thin, last_ones, unkept, joined_hints, keeps_nothing, keep, keep_all, seen_record, see, flushed_list, flush, take_list, question13, with_hints, with_hinting, with_confirmed, add_hints, question53, with_mark, keep_hint, question14, keep_confirmation, near, hint}
use Rattle.rules.specs.Merge.{question41, question42, question43, further, merged, merge}
use Rattle.rules.specs.File.{saved_length, saved, save}
use Rattle.rules.specs.Load.{from_bytes, limited, load}
use Rattle.rules.specs.Plan.{planned, plan}
use Rattle.rules.specs.Sizes.{sized}
use Rattle.theorems.specs.Terms.{Valid, ValidRecorder, ValidHintRecorder, stored_in, SameRead}
use Rattle.adds.specs.Adds.{brings_of, brings}
use Rattle.rules_lacks.specs.Lacks as lacking
use Rattle.rules_drawer.specs.Drawer.{question44, load_files, pairs_number, merge_each, merge_all}
use Rattle.rules_coarsen.specs.Coarse.{coarser, question47, question48, coarse}
use Rattle.rules_view.specs.View.{is_role, view_bytes, view_length, view, view_size}
use Rattle.theorems.specs.DiscFile.{DiscSaveAccepts, DiscLoadAccepts}
use Rattle.theorems.specs.Demand3.{LoadedParts}
use Rattle.theorems.specs.PartRule.{Admits}

-- ---- refuses every call
-- each call is accepted where the questions that it asks are answered yes (for the merges of a run see NoneRefused)
pub record RefusesNothing : Type 0 where
  pub made :
      (l : Lengths) (a : Area) (k budget spacing most : ℕ) → let x = empty_index a k budget spacing most in
      question1 x ≡ true → question2 x ≡ true → question3 l x ≡ true → new l a k budget spacing most ≡ Accepted x
  pub fingerprints :
      (l : Lengths) (x : Index) (v : ℕ) → Valid l x → agree eqb (stated x.fingerprint) (Some v) ≡ true
      → bind_fingerprint l x v ≡ Accepted (bound x v)
  pub recorders : (l : Lengths) (x : Index) (from : ℕ) → Valid l x → recorder l x from
      ≡ Accepted (empty_recorder x.scan from)
  pub records :
      (l : Lengths) (r : Recorder) (lsn threshold malformed : ℕ) (f : Option Assembling) (sector : List ℕ)
      → ValidRecorder l r → question5 r lsn sector ≡ true
      → question6 r threshold malformed ≡ true → question7 r lsn f ≡ true
      → record_at l r lsn threshold malformed f sector ≡ Accepted (recorded r lsn threshold malformed f sector)
  pub finishes :
      (l : Lengths) (r : Recorder) (e : EndState) → ValidRecorder l r → is_running r.mode ≡ true → next_number r
      ≡ boundaries r.area r.interval
      → end_ok r.area (last_checkpoint r.checkpoints) e ≡ true → finish l r e ≡ Accepted (with_mode r (Finished e))
  pub absorbs :
      (l : Lengths) (x : Index) (m : Lengths) (r : Recorder) (image : Option ℕ) (ms : List ℕ) → Valid l x
      → ValidRecorder m r → is_stopped r.mode ≡ false
      → question8 x image ≡ true → question9 x r ≡ true → question10 x r ≡ true → question11 x r ≡ true
      → question12 x r image ms ≡ true
      → absorb l x m r image ms ≡ record { number = 0; index = absorbed_index x r image ms; recorder = emptied r }
  -- a stopped recorder brings nothing and is no refusal after 4
  pub stopped :
      (l : Lengths) (x : Index) (m : Lengths) (r : Recorder) (image : Option ℕ) (ms : List ℕ) → Valid l x
      → ValidRecorder m r → is_stopped r.mode ≡ true
      → absorb l x m r image ms ≡ record { number = 0; index = x; recorder = r }
  pub hint_recorders : (l : Lengths) (x : Index) → Valid l x → hint_recorder l x
      ≡ Accepted (empty_hint_recorder x.hinting)
  pub sees :
      (n : ℕ) (r : HintRecorder) (lsn : ℕ) (sector : List ℕ) → ValidHintRecorder n r
      → see n r lsn sector ≡ Accepted (record {
        first = first_record sector;
        recorder = seen_record r lsn (first_record sector);
      })
  pub flushes :
      (n : ℕ) (r : HintRecorder) → ValidHintRecorder n r
      → flush n r ≡ Accepted (record {
        spacing = r.spacing;
        last = r.last;
        tail = None;
        list = flushed_list r.tail r.list;
      })
  pub takes :
      (n : ℕ) (r : HintRecorder) → ValidHintRecorder n r
      → take_list n r ≡ Accepted (record {
        list = r.list;
        recorder = record { spacing = r.spacing; last = r.last; tail = r.tail; list = [] };
      })
  pub adds_hints :
      (l : Lengths) (x : Index) (list : List Hint) → Valid l x → question13 list ≡ true
      → add_hints l x list ≡ Accepted (with_hinting x (with_hints x.scan.area x.hinting list))
  pub keeps_hints :
      (l : Lengths) (x : Index) (lsn : ℕ) → Valid l x → question53 x.hinting lsn ≡ true → keep_hint l x lsn
      ≡ Accepted (with_hinting x (with_mark x.hinting lsn))
  pub confirms :
      (l : Lengths) (x : Index) (c : Confirmation) → Valid l x → question14 x.scan.area c ≡ true
      → is_checked x.fingerprint ≡ true → x.hinting.most ≢ 0
      → keep_confirmation l x c ≡ Accepted (Some (with_hinting x
      (with_confirmed x.hinting (keep true x.hinting.most x.hinting.confirmed c))))
  -- nothing is kept, and that is the answer
  pub keeps_none :
      (l : Lengths) (x : Index) (c : Confirmation) → Valid l x → question14 x.scan.area c ≡ true
      → keeps_nothing (is_checked x.fingerprint) x.hinting.most ≡ true → keep_confirmation l x c ≡ Accepted None
  pub hints : (l : Lengths) (x : Index) (first end playtime : ℕ) → Valid l x → first ≤ end
      → number_of (hint l x first end playtime) ≡ 0
  pub plans : (l : Lengths) (x : Index) (t : ℕ) → Valid l x → plan l x t ≡ Accepted (planned x.scan t)
  pub saves : (l : Lengths) (x : Index) (out : ℕ) → Valid l x → saved_length x ≤ out → save l x out ≡ Accepted (saved x)
  pub loads :
      (l : Lengths) (a : Area) (b : List ℕ) (limit : ℕ) (x : Index) → area_ok a ≡ true → from_bytes a b ≡ Accepted x
      → question3 l (limited limit x) ≡ true
      → load l a b limit ≡ Accepted (limited limit x)
  pub merges :
      (l m : Lengths) (own other : Index) → Valid l own → Valid m other → question41 own other ≡ true
      → question42 own other ≡ true → question43 own other ≡ true
      → merge l own m other ≡ Accepted (merged own other)
  pub adds :
      (l m : Lengths) (own other : Index) → Valid l own → Valid m other → question41 own other ≡ true
      → question42 own other ≡ true → question43 own other ≡ true
      → brings l own m other ≡ Accepted (brings_of own (merged own other))
  pub lacks :
      (l m : Lengths) (own other : Index) → Valid l own → Valid m other → question41 own other ≡ true
      → question42 own other ≡ true → question43 own other ≡ true
      → lacking.lacks l own m other ≡ Accepted (lacking.lacking own other)
  -- change request 1
  pub merges_all :
      (l : Lengths) (x : Index) (m : Lengths) (ns b : List ℕ) (limit : ℕ) (ys : List Index) → Valid l x
      → question44 ns ≡ true
      → load_files m x.scan.area ns b limit ≡ Accepted ys → pairs_number (x ∷ ys) ≡ 0 → merge_all l x m ns b limit
      ≡ Accepted (merge_each x ys)
  -- change request 6
  pub coarsens :
      (l : Lengths) (x : Index) (k : ℕ) (m : Lengths) → Valid l x → question47 k x ≡ true → question48 k x ≡ true
      → question3 m (coarser k x) ≡ true
      → coarse l x k m ≡ Accepted (coarser k x)
  -- change request 10
  pub views :
      (role : ℕ) (l : Lengths) (x : Index) (out : ℕ) → Valid l x → is_role role ≡ true → view_length role x ≤ out
      → view role l x out ≡ Accepted (view_bytes role x)
  pub lengths_of_views : (role : ℕ) (l : Lengths) (x : Index) → Valid l x → is_role role ≡ true → view_size role l x
      ≡ Accepted (view_length role x)
  -- change request 14
  pub saves_disc : DiscSaveAccepts
  pub loads_disc : DiscLoadAccepts

-- ---- loads each file as an empty list
-- what the list y that the file of x loads as holds under a limit
pub record LoadOf (limit : ℕ) (x y : Index) : Type 0 where
  pub read : SameRead y.scan x.scan
  pub area : y.scan.area ≡ x.scan.area
  pub interval : y.scan.interval ≡ x.scan.interval
  -- the budget, and the parts that fit it
  pub budget : y.scan.budget ≡ min x.scan.budget limit
  pub parts : LoadedParts limit x.scan y.scan
  -- M, as many of the hints, without marks, and the last confirmations
  pub spacing : y.hinting.spacing ≡ x.hinting.spacing
  pub most : y.hinting.most ≡ min x.hinting.most (limit / 8)
  pub hints : y.hinting.hints ≡ thin y.hinting.most (unkept x.hinting.hints)
  pub confirmed : y.hinting.confirmed ≡ last_ones (min y.hinting.most (limit / 16)) x.hinting.confirmed
  pub fingerprint : stated y.fingerprint ≡ stated x.fingerprint

abbrev pub LoadKeeps : Type 0
LoadKeeps =
    (l : Lengths) (x : Index) → Valid l x → sized x ≡ true → (limit : ℕ) → (y : Index)
    × (load l x.scan.area (saved x) limit ≡ Accepted y) × LoadOf limit x y

-- ---- merge hands back the first list untouched
-- what the own scan is afterwards, y
pub record MergeOf (own other y : Scan) : Type 0 where
  -- a longer list's checkpoints, and a complete list's end
  pub longer : count own < count other → y.checkpoints ≡ other.checkpoints
  pub complete : complete other ≡ true → complete y ≡ true
  -- a further list: its rest is appended, and of its parts those that the part rule admits; no own part is lost
  pub taken : further own other ≡ true → SameRead y other
      × (y.checkpoints ≡ own.checkpoints ++ drop (count own) other.checkpoints)
  pub parts : further own other ≡ true → Admits own.budget other.frames (count own) other.parts
      (stored_in own) (stored_in y)
  -- any other list: nothing changes
  pub same : further own other ≡ false → y ≡ own

-- and the whole list
pub record MergedOf (own other y : Index) : Type 0 where
  pub scan : MergeOf own.scan other.scan y.scan
  -- image id and fingerprint where none is held; the mark stays
  pub image : y.image ≡ or_else own.image other.image
  pub fingerprint : stated y.fingerprint ≡ or_else (stated own.fingerprint) (stated other.fingerprint)
  pub checked : is_checked y.fingerprint ≡ is_checked own.fingerprint
  -- the other's hints, without their marks, and confirmations come to the own ones by the rules of add_hints and keep_confirmation
  pub hints : y.hinting.hints ≡ joined_hints own.scan.area own.hinting.most own.hinting.hints
      (unkept other.hinting.hints)
  pub confirmed :
      y.hinting.confirmed ≡ keep_all (is_checked own.fingerprint) own.hinting.most own.hinting.confirmed
      other.hinting.confirmed

abbrev pub MergeTakes : Type 0
MergeTakes = (l m : Lengths) (own other y : Index) → merge l own m other ≡ Accepted y → MergedOf own other y

-- ---- absorbs one recorder, then only empties the others
-- what the scan x is after absorbing r, y
pub record AbsorbOf (x : Scan) (r : Recorder) (y : Scan) : Type 0 where
  -- the recorder's further checkpoints, so that it reaches as far as the recorder did
  pub checkpoints : y.checkpoints ≡ x.checkpoints ++ drop (count x - r.first) r.checkpoints
  pub reaches : next_number r ≤ count y
  -- the end state of a finished one, else what was held
  pub ending : y.ending ≡ or_else (end_of r.mode) x.ending
  -- of its parts those that the part rule admits
  pub parts : Admits x.budget r.frames (count x) r.parts (stored_in x) (stored_in y)

-- and the whole list, y, where id is the image id and ms are the malformed LSNs of the reading
pub record AbsorbedOf (x : Index) (r : Recorder) (id : Option ℕ) (ms : List ℕ) (y : Index) : Type 0 where
  pub scan : AbsorbOf x.scan r y.scan
  -- where the frontier moves, the malformed LSNs below it, at most 4,096; else those held
  pub malformed : frontier x.scan < frontier y.scan → y.scan.malformed
      ≡ take max_malformed (below (frontier y.scan) ms)
  pub held : frontier y.scan ≤ frontier x.scan → y.scan.malformed ≡ x.scan.malformed
  pub image : y.image ≡ or_else x.image id
  pub hinting : y.hinting ≡ x.hinting
  pub fingerprint : y.fingerprint ≡ x.fingerprint

abbrev pub AbsorbTakes : Type 0
AbsorbTakes =
    (l : Lengths) (x : Index) (m : Lengths) (r : Recorder) (image : Option ℕ) (ms : List ℕ)
    → (absorb l x m r image ms).number ≡ 0 → is_stopped r.mode ≡ false
    → AbsorbedOf x r image ms (absorb l x m r image ms).index

-- ---- save tells an invented length
-- what is saved has the length that is told, 88 bytes at least
abbrev pub SaveTells : Type 0
SaveTells = (l : Lengths) (x : Index) (out : ℕ) (b : List ℕ) → save l x out ≡ Accepted b → (length b ≡ saved_length x)
    × (88 ≤ saved_length x)

-- ---- plan says Start, hint none, without looking
-- the frame t lies before every checkpoint's threshold from number n on
abbrev pub BeforeAll : Scan → ℕ → ℕ → Type 0
BeforeAll x t n = (j : ℕ) → n ≤ j → j < count x → t < (checkpoint_at x.checkpoints j).threshold

-- r is the last checkpoint whose threshold is not above the frame
pub record LastNotAbove (x : Scan) (t : ℕ) (r : Resume) : Type 0 where
  pub inside : r.number < count x
  pub lsn : r.lsn ≡ lsn_of x.area x.interval r.number
  pub checkpoint : r.checkpoint ≡ checkpoint_at x.checkpoints r.number
  pub not_above : (checkpoint_at x.checkpoints r.number).threshold ≤ t
  pub last : BeforeAll x t (r.number + 1)
  -- with its part, where one is held
  pub held : (i : ℕ) → i < length x.parts → (get_or x.parts i no_held).at ≡ r.number → r.assembly ≢ None

-- what an answer of plan says of the list x and the frame t
unfoldable pub Looked : Scan → ℕ → Plan → Type 0
Looked x t Start = BeforeAll x t 0
Looked x t (At r) = LastNotAbove x t r
Looked x t (End e) = (x.ending ≡ Some e) × (e.threshold ≤ t)

pub record PlanLooks : Type 0 where
  pub answers : (l : Lengths) (x : Index) (t : ℕ) (p : Plan) → plan l x t ≡ Accepted p → Looked x.scan t p
  -- at or past the end of a complete list it says so
  pub ends : (l : Lengths) (x : Index) (t : ℕ) (e : EndState) → Valid l x → x.scan.ending ≡ Some e
      → e.threshold ≤ t → plan l x t ≡ Accepted (End e)

-- where hint says none, no hint is near
abbrev pub HintLooks : Type 0
HintLooks =
    (l : Lengths) (x : Index) (first end playtime i : ℕ) → hint l x first end playtime ≡ Accepted None
    → i < length x.hinting.hints
    → near first (get_or x.hinting.hints i no_hint) ≡ false
