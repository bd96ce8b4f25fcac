-- The numbers and tables that a player in C rests on. Assumes nothing.
use Prim.Native.Nat.{ℕ, ◌≤◌}
use mathlib.Core.Path.{◌≡◌, refl, sym}
use mathlib.Core.Bool.{Bool, true, false, cond}
use mathlib.Core.List.{List, [], ◌∷◌}
use native.Mathlib.Omega.{arith}
use borrow.Author.Tests.{le-leb}
use lib.Dec.{eqb, leb}
use lib.ListN.{length}
use Rattle.rules.specs.declared.HintRecorder.{HintRecorder}
use Rattle.rules.specs.Tests.{Accepted, ask, first_no, after, number_of, all, Refused}
use Rattle.rules.specs.Values.{Index, Hinting, boundaries}
use Rattle.rules.specs.Questions.{recorder_question3, scan_room}
use Rattle.rules.specs.Create.{empty_hint_recorder, hint_recorder}
use Rattle.rules.specs.File.{saved, saved_length, save}
use Rattle.rules.proofs.Tests.{test}
use Rattle.laws.proofs.Length.{saved_length_is}
use Rattle.tables.specs.Index.{index_in, or_four, kinded_number, kinded, refusal}
use Rattle.hint_recorder.specs.HintRecorder.{created_from, created_in}
use Rattle.std.specs.Prelude.{None, Some}
use Rattle.save.specs.Save.{save_out, save_in}
use Rattle.sizes.specs.Sizes.{sizes_of, file_length}
use Rattle.blocks.specs.Calls.{saved_number}
use Rattle.theorems.specs.Player.{Told, SaveNumber, LengthIsSaved, has_four, RecorderRoomIsSizes, HintListIsSize, MadeHasSpacing}
use Rattle.theorems.proofs.Sizes.{fits24, fits8}
use Rattle.theorems.proofs.Demand1.{some_number}

-- ---- saving
refused_told : (m n : ℕ) → 1 ≤ m → m ≤ 40 → Told (Refused m) n
refused_told m n h g =
    ((λ e. let q : m ≡ n = cc in (omega arith, omega arith)), (λ e. let z : ◌≡◌ {A = ℕ} 0 1 = cc in omega arith))

length_told : (x : Index) (n : ℕ) → Told (Accepted (length (saved x))) n
length_told x n = (
  (λ e. let z : ◌≡◌ {A = ℕ} 0 1 = cc in (omega arith, omega arith)),
  (λ e. let q : length (saved x) ≡ n = cc in omega (arith, (saved_length_is x).0, (saved_length_is x).1)),
)

told_by : (k a b c d e : Bool) (x : Index) (out : List ℕ) (n : ℕ)
    → Told (save_out (kinded k (after (first_no (ask a 1 ∷ ask b 2 ∷ ask c 3 ∷ ask d 4 ∷ ask e 40 ∷ []))
    (Accepted (saved x)))) out).answer n
unfolding save_out kinded after first_no or_four number_of
told_by true false b c d e x out n = refused_told 1 n (omega arith) (omega arith)
told_by true true false c d e x out n = refused_told 2 n (omega arith) (omega arith)
told_by true true true false d e x out n = refused_told 3 n (omega arith) (omega arith)
told_by true true true true false e x out n = refused_told 4 n (omega arith) (omega arith)
told_by true true true true true false x out n = refused_told 40 n (omega arith) (omega arith)
told_by true true true true true true x out n = length_told x n
told_by false false b c d e x out n = refused_told 1 n (omega arith) (omega arith)
told_by false true false c d e x out n = refused_told 2 n (omega arith) (omega arith)
told_by false true true false d e x out n = refused_told 3 n (omega arith) (omega arith)
told_by false true true true false e x out n = refused_told 4 n (omega arith) (omega arith)
told_by false true true true true false x out n = refused_told 4 n (omega arith) (omega arith)
told_by false true true true true true x out n = refused_told 4 n (omega arith) (omega arith)

pub save_number : SaveNumber
unfolding save_in save
save_number x t out n = told_by _ _ _ _ _ _ _ out n

-- the same questions before both
length_by : (k a b c d : Bool) (x : Index) (out : List ℕ)
    → let n = kinded_number k (first_no (ask a 1 ∷ ask b 2 ∷ ask c 3 ∷ ask d 4 ∷ [])) in let m = cond (eqb n 0)
    (saved_length x) n in
    m ≤ length out
    → saved_number (save_out (kinded k (after (first_no
    (ask a 1 ∷ ask b 2 ∷ ask c 3 ∷ ask d 4 ∷ ask (leb (saved_length x) (length out)) 40 ∷ [])) (Accepted (saved x))))
    out).answer ≡ m
unfolding save_out kinded kinded_number after first_no or_four number_of saved_number
length_by true false b c d x out l = refl
length_by true true false c d x out l = refl
length_by true true true false d x out l = refl
length_by true true true true false x out l = refl
length_by true true true true true x out l = rw (le-leb (saved_length x) (length out) l) (sym (saved_length_is x).0)
length_by false false b c d x out l = refl
length_by false true false c d x out l = refl
length_by false true true false d x out l = refl
length_by false true true true false x out l = refl
length_by false true true true true x out l = test (leb (saved_length x) (length out)) (λ e. rw e refl) (λ e. rw e refl)

pub length_is_saved : LengthIsSaved
unfolding save_in save file_length refusal
length_is_saved x t out l = length_by _ _ _ _ _ (index_in x t) out l

-- ---- recorders
swap : (a b c d : Bool) → all (a ∷ b ∷ d ∷ c ∷ []) ≡ all (a ∷ b ∷ c ∷ d ∷ [])
unfolding all
swap true true true d = refl
swap true true false true = refl
swap true true false false = refl
swap true false c d = refl
swap false b c d = refl

pub recorder_room_is_sizes : RecorderRoomIsSizes
unfolding recorder_question3 scan_room has_four sizes_of
recorder_room_is_sizes r t most =
    rw (
      fits24 (boundaries r.area r.interval) (length t.checkpoints),
      fits8 (boundaries r.area r.interval) (length t.frames),
      fits24 (boundaries r.area r.interval) (length t.parts),
    )
    (swap _ _ _ _)

-- ---- hint recorders
pub hint_list_is_size : HintListIsSize
hint_list_is_size list = fits8 65536 (length list)

module _ {A : Type 0} {h : HintRecorder} where
  not_refused : (n : ℕ) → Refused n ≡ Accepted (Some h) → A
  not_refused n e = let z : ◌≡◌ {A = ℕ} 0 1 = cc in let f : ⊥ = omega arith in absurd f

  not_none : Accepted None ≡ Accepted (Some h) → A
  not_none e = let z : ◌≡◌ {A = ℕ} 0 1 = cc in let f : ⊥ = omega arith in absurd f

same_spacing : (r h : HintRecorder) → Accepted (Some r) ≡ Accepted (Some h) → r.spacing ≡ h.spacing
same_spacing r h e = cc

made_by : (k : Bool) (n : ℕ) (g : Hinting) (h : HintRecorder)
    → created_from (kinded k (after n (Accepted (empty_hint_recorder g)))) ≡ Accepted (Some h)
    → 1 ≤ h.spacing
unfolding created_from kinded after
made_by false n g h e = not_refused _ e
made_by true n g h e =
    test (eqb n 0)
    (λ z.
    test (eqb g.spacing 0) (λ s. not_none (rw (z, s) at e))
    (λ s. test (eqb g.most 0) (λ m. not_none (rw (z, s, m) at e))
    (λ m. rw (← same_spacing _ h (rw (z, s, m) at e)) (some_number g.spacing s))))
    (λ z. not_refused n (rw z at e))

pub made_has_spacing : MadeHasSpacing
unfolding created_in hint_recorder
made_has_spacing x t h e = made_by _ _ (index_in x t).hinting h e
