-- Each accepted call leaves values that pass questions 1 to 4, in the tables of the call.
use Rattle.std.specs.Prelude.{ℕ, ◌≡◌, true, List, Option, Some}
use Rattle.field.specs.Records.{Bytes}
use Rattle.rules.specs.declared.Area.{Area}
use Rattle.rules.specs.declared.Confirmation.{Confirmation}
use Rattle.rules.specs.declared.EndState.{EndState}
use Rattle.rules.specs.declared.Hint.{Hint}
use Rattle.rules.specs.Tests.{Accepted}
use Rattle.rules.specs.Values.{Index, Recorder, HintRecorder, Lengths, max_list}
use Rattle.rules.specs.Questions.{recorder_question3}
use Rattle.rules.specs.Create.{new, bind_fingerprint, recorder, hint_recorder}
use Rattle.rules.specs.Record.{Assembling, record_at, finish, absorb}
use Rattle.rules.specs.Hints.{TakenHints, SeenSector, see, flush, take_list, unkept, add_hints, keep_hint, keep_confirmation}
use Rattle.rules.specs.Merge.{merge}
use Rattle.rules.specs.Load.{load}
use Rattle.theorems.specs.Terms.{Valid, ValidRecorder, ValidHintRecorder}

pub record Closure : Type 0 where
  pub made : (l : Lengths) (a : Area) (k budget spacing most : ℕ) (y : Index) → new l a k budget spacing most
      ≡ Accepted y → Valid l y
  pub fingerprinted : (l : Lengths) (x y : Index) (v : ℕ) → bind_fingerprint l x v ≡ Accepted y → Valid l y
  -- in tables m that are long enough: none is lent to the call
  pub recording :
      (l m : Lengths) (x : Index) (from : ℕ) (r : Recorder) → recorder l x from ≡ Accepted r → recorder_question3 m r
      ≡ true → ValidRecorder m r
  pub recorded :
      (l : Lengths) (r : Recorder) (lsn threshold malformed : ℕ) (f : Option Assembling) (sector : List ℕ)
      (s : Recorder)
      → record_at l r lsn threshold malformed f sector ≡ Accepted s → ValidRecorder l s
  pub finished : (l : Lengths) (r : Recorder) (e : EndState) (s : Recorder) → finish l r e ≡ Accepted s
      → ValidRecorder l s
  pub absorbed :
      (l : Lengths) (x : Index) (m : Lengths) (r : Recorder) (image : Option ℕ) (ms : List ℕ)
      → (absorb l x m r image ms).number ≡ 0
      → Valid l (absorb l x m r image ms).index × ValidRecorder m (absorb l x m r image ms).recorder
  -- a refusal with 8 changes the recorder
  pub stopped :
      (l : Lengths) (x : Index) (m : Lengths) (r : Recorder) (image : Option ℕ) (ms : List ℕ)
      → (absorb l x m r image ms).number ≡ 8
      → ValidRecorder m (absorb l x m r image ms).recorder
  pub hint_recording : (l : Lengths) (x : Index) (r : HintRecorder) → hint_recorder l x ≡ Accepted (Some r)
      → ValidHintRecorder max_list r
  pub seen : (n : ℕ) (r : HintRecorder) (lsn : ℕ) (sector : List ℕ) (s : SeenSector) → see n r lsn sector
      ≡ Accepted s → ValidHintRecorder n s.recorder
  pub flushed : (n : ℕ) (r s : HintRecorder) → flush n r ≡ Accepted s → ValidHintRecorder n s
  pub taken : (n : ℕ) (r : HintRecorder) (t : TakenHints) → take_list n r ≡ Accepted t
      → ValidHintRecorder n t.recorder
  -- a delivered list has no marks
  pub hinted : (l : Lengths) (x y : Index) (list : List Hint) → unkept list ≡ list → add_hints l x list ≡ Accepted y
      → Valid l y
  pub marked : (l : Lengths) (x y : Index) (lsn : ℕ) → keep_hint l x lsn ≡ Accepted y → Valid l y
  pub confirmed : (l : Lengths) (x y : Index) (c : Confirmation) → keep_confirmation l x c ≡ Accepted (Some y)
      → Valid l y
  pub loaded : (l : Lengths) (a : Area) (b : List ℕ) (limit : ℕ) (y : Index) → Bytes b → load l a b limit
      ≡ Accepted y → Valid l y
  pub merged : (l m : Lengths) (own other y : Index) → merge l own m other ≡ Accepted y → Valid l y
