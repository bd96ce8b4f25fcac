-- A recorder keeps its questions. Assumes nothing.
use Rattle.std.specs.Prelude.{Option, None, Some}
use mathlib.Core.Path.{subst, ◌≡◌, refl, ap}
use mathlib.Core.Bool.{true, false}
use mathlib.Core.List.{List, [], ◌∷◌, ◌++◌}
use Prim.Native.Nat.{ℕ, ◌+◌, ◌-◌, ◌*◌, ◌<◌, ◌≤◌}
use native.Mathlib.Omega.{arith}
use lib.Dec.{eqb, ltb}
use lib.ListN.{length}
use borrow.Author.Tests.{eqb-true, leb-true, ltb-true}
use Rattle.fnv.specs.Fnv.{fnv64}
use Rattle.rules.specs.declared.Area.{Area}
use Rattle.rules.specs.declared.Checkpoint.{Checkpoint}
use Rattle.rules.specs.declared.EndState.{EndState}
use Rattle.rules.specs.declared.Mode.{Mode}
use Rattle.rules.specs.declared.Mode.TheVariants.{Running, Finished, Stopped}
use Rattle.rules.specs.Tests.{is_some, Accepted}
use Rattle.rules.specs.Values.{Recorder, lim, replay_sectors, boundaries, lsn_of, complete, Lengths, Index}
use Rattle.rules.specs.Sections.{checkpoints_ok, ending_ok}
use Rattle.rules.specs.Questions.{numbers_ok, question1, question2, question4, recorder_question1, recorder_question2, end_of}
use Rattle.rules.specs.PartRule.{Stored, Piece, add_part}
use Rattle.rules.specs.Create.{empty_recorder, recorder}
use Rattle.rules.specs.Record.{Assembling, is_running, next_number, question5, question6, question7, back_of, stored_of, assembled, recorded, record_at, with_mode, finish, drained, emptied}
use Rattle.laws.specs.Kept.{Sound}
use Rattle.rules.proofs.Tests.{never, all→, and_right, asked, accepted→, choose}
use Rattle.rules.proofs.Walk.{length_snoc, walk_none}
use Rattle.laws.proofs.scans.Parts.{HeldIs, held_none, held_append}
use Rattle.laws.proofs.scans.PartRule.{next_part}
use Rattle.laws.proofs.scans.Scans.{boundary_in, checkpoints_snoc, recorder→, →recorder, scan→}

pub interval_pos : (k budget : ℕ) → numbers_ok k budget ≡ true → 1 ≤ k
unfolding numbers_ok
interval_pos k budget e = leb-true _ _ (all→ _ e).0

running : (m : Mode) → is_running m ≡ true → m ≡ Running
unfolding is_running
running Running e = refl
running (Finished x) e = never {b = false} e refl
running Stopped e = never {b = false} e refl

-- the end state of a recorder that is not finished
pub open_ending : (a : Area) (cs : List Checkpoint) (o : Option EndState) → is_some o ≡ false → ending_ok a cs o ≡ true
unfolding ending_ok is_some
open_ending a cs None e = refl
open_ending a cs (Some x) e = never {b = true} refl e

open_mode : (m : Mode) → m ≡ Running → is_some (end_of m) ≡ false
unfolding end_of is_some
open_mode m e = rw e

-- ---- record
-- the checkpoint that is recorded
abbrev recording : ℕ → ℕ → ℕ → Option Assembling → List ℕ → Checkpoint
recording lsn threshold malformed f sector = record { threshold = threshold; back = back_of lsn f; malformed = malformed; digest = fnv64 sector }

-- a frame under assembly starts in the area before this LSN
back_low : (r : Recorder) (lsn n : ℕ) (f : Option Assembling) → lsn ≡ r.area.start + n → question7 r lsn f ≡ true → back_of lsn f ≤ n
unfolding back_of question7
back_low r lsn n None e q = omega arith
back_low r lsn n (Some f) e q = let l = leb-true r.area.start f.start (all→ _ q).0 in omega arith

assembled_ok : (r : Recorder) (lsn threshold malformed : ℕ) (f : Option Assembling) (sector : List ℕ)
    → HeldIs r.area r.interval r.budget r.first r.checkpoints r.frames r.parts → lsn ≡ lsn_of r.area r.interval (next_number r) → lsn < r.area.end
    → question7 r lsn f ≡ true
    → HeldIs r.area r.interval r.budget r.first (r.checkpoints ++ (recording lsn threshold malformed f sector ∷ [])) (assembled r lsn f).frames (assembled r lsn f).parts
unfolding assembled back_of question7
assembled_ok r lsn threshold malformed None sector ok e l q =
    held_append r.area r.interval r.budget r.first r.checkpoints (recording lsn threshold malformed None sector ∷ []) r.frames r.parts ok
assembled_ok r lsn threshold malformed (Some f) sector ok e l q =
    let c = recording lsn threshold malformed (Some f) sector in let t = all→ _ q in
    let lo = leb-true r.area.start f.start t.0 in let hi = ltb-true f.start lsn t.1.0 in
    let p : Piece = record { at = next_number r; start = f.start; bytes = f.bytes; number = f.number; kind = f.kind; remaining = f.remaining } in
    choose (λ (h : Stored). HeldIs r.area r.interval r.budget r.first (r.checkpoints ++ (c ∷ [])) h.frames h.parts) (ltb replay_sectors (lsn - f.start))
    (add_part r.budget (stored_of r) p) (stored_of r)
    (λ b.
    next_part r.area r.interval r.budget r.first r.checkpoints (stored_of r) c p ok refl (omega arith) (omega arith) (omega arith) (omega arith)
    (ltb-true f.number lim t.1.1.0))
    (λ b. held_append r.area r.interval r.budget r.first r.checkpoints (c ∷ []) r.frames r.parts ok)

recorded_ok : (r : Recorder) (lsn threshold malformed : ℕ) (f : Option Assembling) (sector : List ℕ) → Sound r → question5 r lsn sector ≡ true → question6 r threshold malformed ≡ true
    → question7 r lsn f ≡ true → Sound (recorded r lsn threshold malformed f sector)
unfolding question5 question6 recorder_question1 recorder_question2
recorded_ok r lsn threshold malformed f sector s five six seven =
    let h = recorder→ r s.2 in let t = all→ _ five in let u = all→ _ six in
    let m = running r.mode t.0 in
    let e = eqb-true lsn (lsn_of r.area r.interval (next_number r)) t.1.0 in
    let l = ltb-true lsn r.area.end t.1.1.0 in
    let c = recording lsn threshold malformed f sector in
    let n = length_snoc r.checkpoints c in
    let j = boundary_in r.area r.interval (next_number r) (interval_pos r.interval r.budget s.1) (omega arith) in
    let d = ltb-true threshold (lim + 1) u.1.0 in
    let o : is_some (end_of r.mode) ≡ false = open_mode r.mode m in (
      s.0,
      s.1,
      →recorder (recorded r lsn threshold malformed f sector)
          (record {
            within = omega arith;
            full = λ w. never w o;
            checkpoints =
                checkpoints_snoc r.interval r.first r.checkpoints c h.checkpoints (leb-true _ _ u.0) (omega arith) (leb-true _ _ u.1.1.0)
                (leb-true malformed (next_number r * r.interval) u.1.1.1.0) (back_low r lsn (next_number r * r.interval) f e seven);
            held = assembled_ok r lsn threshold malformed f sector h.held e l seven;
            ending = open_ending r.area (r.checkpoints ++ (c ∷ [])) (end_of r.mode) o;
          }),
    )

pub record_sound : (l : Lengths) (r : Recorder) (lsn threshold malformed : ℕ) (f : Option Assembling) (sector : List ℕ) (r' : Recorder)
    → record_at l r lsn threshold malformed f sector ≡ Accepted r' → Sound r'
unfolding record_at
record_sound l r lsn threshold malformed f sector r' e =
    let h = accepted→ _ (recorded r lsn threshold malformed f sector) r' e in
    let q = asked _ refl h.0 in
    rw h.1 at (recorded_ok r lsn threshold malformed f sector (q.0, q.1.0, q.1.1.1.0) q.1.1.1.1.0 q.1.1.1.1.1.0 q.1.1.1.1.1.1.0)

-- ---- the mode alone
-- another mode, whose end state is in order
mode_sound : (r : Recorder) (m : Mode) → Sound r → (is_some (end_of m) ≡ true → next_number r ≡ boundaries r.area r.interval) → ending_ok r.area r.checkpoints (end_of m) ≡ true
    → Sound (with_mode r m)
unfolding recorder_question1 recorder_question2
mode_sound r m s f e =
    let h = recorder→ r s.2 in
    (s.0, s.1, →recorder (with_mode r m) (record { within = h.within; full = f; checkpoints = h.checkpoints; held = h.held; ending = e }))

pub finish_sound : (l : Lengths) (r : Recorder) (e : EndState) (r' : Recorder) → finish l r e ≡ Accepted r' → Sound r'
unfolding finish end_of ending_ok
finish_sound l r e r' x =
    let h = accepted→ _ (with_mode r (Finished e)) r' x in
    let q = asked _ refl h.0 in
    let n = eqb-true (next_number r) (boundaries r.area r.interval) (and_right (is_running r.mode) (eqb (next_number r) (boundaries r.area r.interval)) q.1.1.1.1.0) in
    rw h.1 at (mode_sound r (Finished e) (q.0, q.1.0, q.1.1.1.0) (λ w. n) q.1.1.1.1.1.0)

pub stopped_sound : (r : Recorder) → Sound r → Sound (with_mode r Stopped)
unfolding end_of ending_ok is_some
stopped_sound r s = mode_sound r Stopped s (λ w. never {b = false} w refl) refl

-- ---- empty recorders
empty_sound : (r : Recorder) → recorder_question1 r ≡ true → recorder_question2 r ≡ true → r.first ≤ boundaries r.area r.interval → r.checkpoints ≡ [] → r.frames ≡ [] → r.parts ≡ []
    → is_some (end_of r.mode) ≡ false → Sound r
unfolding checkpoints_ok
empty_sound r one two l c f p o =
    let n : length r.checkpoints ≡ 0 = ap length c in (
      one,
      two,
      →recorder r
          (record {
            within = omega arith;
            full = λ w. never w o;
            checkpoints = rw c (walk_none _ _ _);
            held = rw (f, p) (held_none r.area r.interval r.budget r.first r.checkpoints);
            ending = open_ending r.area r.checkpoints (end_of r.mode) o;
          }),
    )

pub recorder_sound : (l : Lengths) (x : Index) (from : ℕ) (r : Recorder) → recorder l x from ≡ Accepted r → Sound r
unfolding recorder question1 question2 question4 recorder_question1 recorder_question2 end_of is_some
recorder_sound l x from r e =
    let h = accepted→ _ (empty_recorder x.scan from) r e in
    let q = asked _ refl h.0 in
    let w = (scan→ x.scan (all→ _ q.1.1.1.0).0).stretch.within in
    subst Sound h.1
    (empty_sound (empty_recorder x.scan from) q.0 q.1.0 (omega arith) refl refl refl
    (choose (λ m. is_some (end_of m) ≡ false) (complete x.scan) Stopped Running (λ t. refl) (λ t. refl)))

drained_open : (m : Mode) → is_some (end_of (drained m)) ≡ false
unfolding drained end_of is_some
drained_open Running = refl
drained_open (Finished e) = refl
drained_open Stopped = refl

pub emptied_sound : (r : Recorder) → Sound r → Sound (emptied r)
unfolding recorder_question1 recorder_question2
emptied_sound r s = empty_sound (emptied r) s.0 s.1 (recorder→ r s.2).within refl refl refl (drained_open r.mode)
