-- Each accepted call leaves numbers and tables that no next call refuses with 1, 2 or 4, kinds included.
use Rattle.std.specs.Prelude.{ℕ, ◌≤◌, ◌≡◌, true, List, Option, Some}
use Rattle.field.specs.Records.{Bytes}
use Rattle.rules.specs.declared.Area.{Area}
use Rattle.rules.specs.declared.AreaIndex.{AreaIndex}
use Rattle.rules.specs.declared.Confirmation.{Confirmation}
use Rattle.rules.specs.declared.EndState.{EndState}
use Rattle.rules.specs.declared.HintRecorder.{HintRecorder}
use Rattle.rules.specs.declared.Recorder.{Recorder}
use Rattle.rules.specs.Tests.{Accepted}
use Rattle.rules.specs.Values.{max64}
use Rattle.rules.specs.Questions.{question1, question2, question4}
use Rattle.rules.specs.declared.Made.TheVariants as made
use Rattle.tables.specs.Index.{Tables, index_in, kinds_in, made_out}
use Rattle.index.specs.Index.{new_in, bound_in}
use Rattle.add_hints.specs.AddHints.{add_hints_in}
use Rattle.keep_hint.specs.KeepHint.{keep_hint_in}
use Rattle.confirmations.specs.Confirmations.{keep_in}
use Rattle.confirmations.specs.Confirmations as keeping
use Rattle.load.specs.Load.{load_in}
use Rattle.merge.specs.Merge.{merge_in}
use Rattle.tables.specs.Recorder.{RecorderTables}
use Rattle.recorder.specs.Recorder.{started_in, finished_in, recorder_out, record_in}
use Rattle.absorb.specs.Absorb.{absorb_in}
use Rattle.rules.specs.declared.SeenSector.{SeenSector}
use Rattle.rules.specs.declared.TakenList.{TakenList}
use Rattle.rules.specs.declared.Assembling as under
use Rattle.hint_recorder.specs.HintRecorder.{created_in, see_in, flush_in, take_in}
use Rattle.hint_recorder.specs.HintRecorder as hinting
use Rattle.theorems.specs.TableRun.{LentIn}
use Rattle.theorems.specs.Recorders.{StandsRecorder, RecorderBytes, SignedIn, StandsHintRecorder}

-- 1, 2 and 4 of an index in its tables
pub record Stands (x : AreaIndex) (t : Tables) : Type 0 where
  pub one : question1 (index_in x t) ≡ true
  pub two : question2 (index_in x t) ≡ true
  pub four : question4 (index_in x t) ≡ true
  pub kinds : kinds_in x t ≡ true

pub record ClosureInTables : Type 0 where
  pub new : (t : Tables) (a : Area) (k budget spacing most : ℕ) (x : AreaIndex) → new_in t a k budget spacing most
      ≡ Accepted x → Stands x t
  pub fingerprinted : (x : AreaIndex) (t : Tables) (v : ℕ) (y : AreaIndex) → bound_in x t v ≡ Accepted y → Stands y t
  pub hinted : (x : AreaIndex) (t : Tables) (list : List ℕ) (y : AreaIndex) (t' : Tables) → LentIn x t
      → add_hints_in x t list ≡ made_out (made.Index y) t' → Stands y t'
  pub marked : (x : AreaIndex) (t : Tables) (lsn : ℕ) (y : AreaIndex) (t' : Tables) → LentIn x t → keep_hint_in x t lsn
      ≡ made_out (made.Index y) t' → Stands y t'
  pub confirmed : (x : AreaIndex) (t : Tables) (c : Confirmation) (y : AreaIndex) (t' : Tables) → LentIn x t
      → c.digest ≤ max64
      → keep_in x t c ≡ keeping.kept_out (Accepted (Some y)) t' → Stands y t'
  pub loaded : (a : Area) (b : List ℕ) (limit : ℕ) (t : Tables) (y : AreaIndex) (t' : Tables) → Bytes b
      → load_in a b limit t ≡ made_out (made.Index y) t' → Stands y t'
  pub merged : (x : AreaIndex) (t : Tables) (y : AreaIndex) (u : Tables) (z : AreaIndex) (t' : Tables) → LentIn x t
      → LentIn y u
      → merge_in x t y u ≡ made_out (made.Index z) t' → Stands z t'
  -- recorders: a new one holds nothing, whatever tables u it is given
  pub recording : (x : AreaIndex) (t : Tables) (from : ℕ) (r : Recorder) (u : RecorderTables) → started_in x t from
      ≡ Accepted r → StandsRecorder r u
  pub recorded : (r : Recorder) (u : RecorderTables) (lsn threshold malformed : ℕ) (f : Option under.Assembling)
      (b sector : List ℕ) (s : Recorder) (u' : RecorderTables)
      → RecorderBytes u → SignedIn f → Bytes b → record_in r u lsn threshold malformed f b sector
      ≡ recorder_out (Accepted s) u' → StandsRecorder s u'
  pub finished : (r : Recorder) (u : RecorderTables) (e : EndState) (s : Recorder) → finished_in r u e
      ≡ Accepted s → StandsRecorder s u
  pub absorbed : (x : AreaIndex) (t : Tables) (image : Option ℕ) (given : List ℕ) (r : Recorder) (u : RecorderTables)
      → LentIn x t → RecorderBytes u
      → let o = absorb_in x t image given r u in
      o.answer.number ≡ 0 → Stands o.answer.index o.tables × StandsRecorder o.answer.recorder u
  -- a refusal with 8 changes the recorder
  pub stopped : (x : AreaIndex) (t : Tables) (image : Option ℕ) (given : List ℕ) (r : Recorder) (u : RecorderTables)
      → let o = absorb_in x t image given r u in
      o.answer.number ≡ 8 → StandsRecorder o.answer.recorder u
  -- hint recorders: a new one lists nothing, whatever table t' it is given
  pub hint_recording : (x : AreaIndex) (t : Tables) (r : HintRecorder) (t' : List ℕ) → created_in x t
      ≡ Accepted (Some r) → StandsHintRecorder r t'
  pub seen : (r : HintRecorder) (t : List ℕ) (lsn : ℕ) (sector : List ℕ) (s : SeenSector) (t' : List ℕ)
      → see_in r t lsn sector ≡ hinting.saw_out (Accepted s) t' → StandsHintRecorder s.recorder t'
  pub flushed : (r : HintRecorder) (t : List ℕ) (s : HintRecorder) (t' : List ℕ) → flush_in r t
      ≡ hinting.seen_out (Accepted s) t' → StandsHintRecorder s t'
  pub taken : (r : HintRecorder) (t : List ℕ) (k : TakenList) → take_in r t ≡ Accepted k
      → StandsHintRecorder k.recorder t
