-- What questions 1 to 3 and the counts of 4 say of numbers and tables. Assumes nothing.
use mathlib.Core.Path.{◌≡◌, refl, sym, ◌∙◌}
use mathlib.Core.Bool.{Bool, true, false, ◌&&◌, ◌||◌, not, cond, and-true, and_assoc}
use mathlib.Core.List.{List, [], ◌∷◌}
use Prim.Native.Nat.{ℕ, zero, suc, ◌+◌, ◌*◌, ◌/◌, ◌≤◌}
use native.Mathlib.Omega.{arith}
use borrow.Author.Tests.{leb-true, not-false, ne_eqb}
use lib.Dec.{leb, eqb}
use lib.ListN.{length}
use Rattle.field.proofs.Records.{records_length}
use Rattle.rules.specs.declared.Area.{Area}
use Rattle.rules.specs.declared.AreaIndex.{AreaIndex}
use Rattle.rules.specs.Tests.{all, is_some, ask, first_no}
use Rattle.rules.specs.Values.{boundaries, stated, frontier_of, counted, used, merge_room}
use Rattle.rules.specs.Sections.{counts_ok, hints_ok, marks_ok, confirmations_ok, checkpoints_ok, frames_ok, parts_ok, ending_ok, malformed_ok}
use Rattle.rules.specs.Questions.{area_ok, numbers_ok, scan_room, hinting_room, question1, question2, question3, question4, held_ok, scan_ok, hinting_ok}
use Rattle.rules.specs.File.{decode_checkpoint, decode_held, decode_lsn, decode_confirmation}
use Rattle.laws.proofs.scans.Parts.{frames_used}
use Rattle.laws.proofs.Facts.{scan_ok→}
use Rattle.tables.specs.Tables.{decode_header, headers_in, frames_in, decode_kept, kept_in, confirmations_in}
use Rattle.tables.proofs.Frames.{frames_length}
use Rattle.tables.specs.Index.{Tables, room_of, index_in, kinds_ok, kinds_in, kinded_number, refusal, three, room_in, hint_room}
use Rattle.index.specs.Steps.{Roomy, Long, Passes, held_question4, sections_in, scan_in, hinting_in, sections_ok, hint_counts}
use Rattle.index.specs.Index.{scan_space}
use Rattle.index.proofs.Four.{one_bits}
use Rattle.index.proofs.Numbers.{within24, within8, within4, within16, test, first, second}

-- ---- 1 to 3
pub record Range (a : Area) : Type 0 where
  pub order : a.start ≤ a.end
  pub end : a.end ≤ 4294967295

pub range : (a : Area) → area_ok a ≡ true → Range a
unfolding area_ok
range a e = record { order = leb-true _ _ (test _ e 1); end = leb-true _ _ (test _ e 2) }

-- what has space for the counted records
pub record Space (x : AreaIndex) (t : Tables) : Type 0 where
  pub checkpoints : boundaries x.area x.interval ≤ length t.checkpoints / 24
  pub frames : boundaries x.area x.interval ≤ length t.frames / 8
  pub parts : boundaries x.area x.interval ≤ length t.parts / 24
  pub malformed : 4096 ≤ length t.malformed / 4

pub space : {x : AreaIndex} {t : Tables} → Roomy x t → Space x t
unfolding room_in question3 scan_room
space r =
    let s = test _ r.room 0 in
    record {
      checkpoints = leb-true _ _ (test _ s 0);
      frames = leb-true _ _ (test _ s 1);
      parts = leb-true _ _ (test _ s 2);
      malformed = leb-true _ _ (test _ r.room 1);
    }

pub hint_space : {x : AreaIndex} {t : Tables} → Roomy x t → hint_room x.most t.hints t.confirmed ≡ true
unfolding room_in question3 hint_room hinting_room
hint_space r = test _ r.room 2

pub room_is : (x : AreaIndex) (t : Tables)
    → room_in x t
    ≡ (scan_space (boundaries x.area x.interval) x.budget t.checkpoints t.frames t.store t.parts
    && (leb 4096 (length t.malformed / 4) && hint_room x.most t.hints t.confirmed))
unfolding room_in question3 scan_space scan_room hint_room hinting_room all
room_is x t = simp and-true

-- ---- counts
module _ {x : AreaIndex} {t : Tables} (s : Space x t) where
  pub long : (whole : Bool) → counts_ok (boundaries x.area x.interval) x.checkpoints whole x.frames x.parts x.malformed ≡ true → Long x t.checkpoints t.frames t.parts t.malformed
  unfolding counts_ok
  long whole e =
      let n : x.checkpoints ≤ boundaries x.area x.interval = leb-true _ _ (test _ e 0) in
      let h : x.parts ≤ x.checkpoints = leb-true _ _ (test _ e 2) in
      let f : x.frames ≤ x.parts = leb-true _ _ (test _ e 3) in
      let m : x.malformed ≤ 4096 = leb-true _ _ (test _ e 4) in
      record {
        checkpoints = within24 _ _ _ n s.checkpoints;
        frames = within8 _ _ _ (let l : x.frames ≤ boundaries x.area x.interval = omega arith in l) s.frames;
        parts = within24 _ _ _ (let l : x.parts ≤ boundaries x.area x.interval = omega arith in l) s.parts;
        malformed = within4 _ _ _ m s.malformed;
      }

-- where the counts were asked
pub long_by : {x : AreaIndex} {t : Tables} {b : ℕ} (whole : Bool) → Roomy x t → b ≡ boundaries x.area x.interval
    → counts_ok b x.checkpoints whole x.frames x.parts x.malformed ≡ true → Long x t.checkpoints t.frames t.parts t.malformed
long_by whole r e c = long (space r) whole (rw e at c)

-- counts first, then sections
pub scan_is : (x : AreaIndex) (t : Tables)
    → scan_in x t
    ≡ (counts_ok (boundaries x.area x.interval) x.checkpoints (is_some x.ending) x.frames x.parts x.malformed
    && sections_in x t)
unfolding scan_in sections_in scan_ok sections_ok all
scan_is x t =
    rw (
      records_length 24 decode_checkpoint x.checkpoints t.checkpoints,
      frames_length (headers_in x.frames t.frames) t.store,
      records_length 8 decode_header x.frames t.frames,
      records_length 24 decode_held x.parts t.parts,
      records_length 4 decode_lsn x.malformed t.malformed,
    )

pub hinting_is : (x : AreaIndex) (hints confirmed : List ℕ)
    → hinting_in x hints confirmed
    ≡ (hint_counts x.most x.hints x.confirmed
    && (hints_ok x.area (kept_in x.hints hints)
    && (confirmations_ok x.area (confirmations_in x.confirmed confirmed)
    && (((eqb x.confirmed 0) || is_some (stated x.fingerprint)) && marks_ok x.most (kept_in x.hints hints)))))
unfolding hinting_in hinting_ok hint_counts all
hinting_is x hints confirmed =
    rw (records_length 8 decode_kept x.hints hints, records_length 16 decode_confirmation x.confirmed confirmed) (simp (and-true, and_assoc))

pub record HintsLong (x : AreaIndex) (s c : List ℕ) : Type 0 where
  pub hints : x.hints * 8 ≤ length s
  pub confirmed : x.confirmed * 16 ≤ length c

pub hints_long : (x : AreaIndex) (hints confirmed : List ℕ) → hint_room x.most hints confirmed ≡ true
    → {q : Bool} → q ≡ hint_counts x.most x.hints x.confirmed → not q ≡ false → HintsLong x hints confirmed
unfolding hint_room hinting_room hint_counts
hints_long x hints confirmed r q n =
    let e = sym q ∙ not-false _ n in
    let a : x.most + merge_room ≤ length hints / 8 = leb-true _ _ (test _ r 0) in
    let b : x.most + 1 ≤ length confirmed / 16 = leb-true _ _ (test _ r 1) in
    let s : x.hints ≤ x.most = leb-true _ _ (test _ e 1) in
    let c : x.confirmed ≤ x.most = leb-true _ _ (test _ e 2) in
    record {
      hints = within8 _ _ _ (let l : x.hints ≤ x.most + merge_room = omega arith in l) a;
      confirmed = within16 _ _ _ (let l : x.confirmed ≤ x.most + 1 = omega arith in l) b;
    }

-- ---- 4
pub held_is : (x : AreaIndex) (t : Tables)
    → held_question4 x t
    ≡ (scan_in x t
    && (hinting_in x t.hints t.confirmed && kinds_ok x.parts t.parts))
unfolding held_question4 question4 scan_in hinting_in all
held_is x t = simp (and-true, and_assoc)

-- what 4 says of the counts
pub scan_long : {x : AreaIndex} {t : Tables} → Roomy x t → scan_in x t ≡ true → Long x t.checkpoints t.frames t.parts t.malformed
scan_long {x} {t} r e = long (space r) _ (first _ _ (sym (scan_is x t) ∙ e))

-- ---- sections
pub sections_is : (x : AreaIndex) (t : Tables)
    → sections_in x t
    ≡ (checkpoints_ok x.interval 0 (index_in x t).scan.checkpoints
    && (held_ok x.area x.interval x.budget 0 (index_in x t).scan.checkpoints (index_in x t).scan.frames (index_in x t).scan.parts
    && (ending_ok x.area (index_in x t).scan.checkpoints x.ending
    && malformed_ok x.area (frontier_of x.area x.interval x.checkpoints x.ending) (counted (index_in x t).scan.checkpoints x.ending) (index_in x t).scan.malformed)))
unfolding sections_in sections_ok all
sections_is x t = rw (records_length 24 decode_checkpoint x.checkpoints t.checkpoints) (simp and-true)

-- ---- 1 to 3
-- the answers behind a number
firsts : (a b c : Bool) → first_no (ask a 1 ∷ ask b 2 ∷ ask c 3 ∷ []) ≡ 0 → (a ≡ true) × (b ≡ true) × (c ≡ true)
unfolding first_no
firsts false b c e = let z : ⊥ = omega arith in absurd z
firsts true false c e = let z : ⊥ = omega arith in absurd z
firsts true true false e = let z : ⊥ = omega arith in absurd z
firsts true true true e = (refl, refl, refl)

-- 1 to 3 hold where no number is given
pub roomy : (x : AreaIndex) (t : Tables) → three x t ≡ 0 → Roomy x t
unfolding three room_in question1 question2
roomy x t e =
    let f = firsts (area_ok x.area) (numbers_ok x.interval x.budget) (question3 (room_of t) (index_in x t)) e in
    record { area = f.0; numbers = f.1; room = f.2 }

-- ---- 1 to 4
then_4 : (ok a b c d : Bool)
    → kinded_number ok (first_no (ask a 1 ∷ ask b 2 ∷ ask c 3 ∷ ask d 4 ∷ []))
    ≡ cond (eqb (first_no (ask a 1 ∷ ask b 2 ∷ ask c 3 ∷ [])) 0) (cond (d && ok) 0 4) (first_no (ask a 1 ∷ ask b 2 ∷ ask c 3 ∷ []))
unfolding first_no
then_4 ok false b c d = one_bits ok false b c d
then_4 ok true false c d = one_bits ok true false c d
then_4 ok true true false d = one_bits ok true true false d
then_4 ok true true true d = one_bits ok true true true d

pub refusal_is : (x : AreaIndex) (t : Tables) → refusal x t ≡ cond (eqb (three x t) 0) (cond (held_question4 x t) 0 4) (three x t)
unfolding refusal three held_question4
refusal_is x t = then_4 (kinds_in x t) (question1 (index_in x t)) (question2 (index_in x t)) (question3 (room_of t) (index_in x t)) (question4 (index_in x t))

fourth : (d : Bool) (n : ℕ) → cond (eqb n 0) (cond d 0 4) n ≡ 0 → (n ≡ 0) × (d ≡ true)
fourth true zero e = (refl, refl)
fourth false zero e = let z : ⊥ = omega arith in absurd z
fourth d (suc n) e = let q : suc n ≡ 0 = rw (ne_eqb (suc n) 0 (λ z. omega arith)) at e in let z : ⊥ = omega arith in absurd z

-- 1 to 4 hold where no number is given
pub passes : (x : AreaIndex) (t : Tables) → refusal x t ≡ 0 → Passes x t
passes x t e =
    let f = fourth (held_question4 x t) (three x t) (sym (refusal_is x t) ∙ e) in
    record { roomy = roomy x t f.0; held = f.1 }

-- ---- what 4 says of the scan
scan_holds : {x : AreaIndex} {t : Tables} → Passes x t → scan_in x t ≡ true
scan_holds {x} {t} p = first _ _ (sym (held_is x t) ∙ p.held)

pub checkpoints_hold : {x : AreaIndex} {t : Tables} → Passes x t → checkpoints_ok x.interval 0 (index_in x t).scan.checkpoints ≡ true
unfolding sections_in sections_ok
checkpoints_hold {x} {t} p =
    let s : sections_in x t ≡ true =
    second (counts_ok (boundaries x.area x.interval) x.checkpoints (is_some x.ending) x.frames x.parts x.malformed) (sections_in x t)
    (sym (scan_is x t) ∙ scan_holds p) in
    test _ s 0

pub passes_long : {x : AreaIndex} {t : Tables} → Passes x t → Long x t.checkpoints t.frames t.parts t.malformed
passes_long p = scan_long p.roomy (scan_holds p)

-- ---- and of the rest
others_hold : {x : AreaIndex} {t : Tables} → Passes x t → (hinting_in x t.hints t.confirmed && kinds_in x t) ≡ true
others_hold {x} {t} p = second (scan_in x t) _ (sym (held_is x t) ∙ p.held)

pub passes_kinds : {x : AreaIndex} {t : Tables} → Passes x t → kinds_in x t ≡ true
passes_kinds {x} {t} p = second (hinting_in x t.hints t.confirmed) _ (others_hold p)

pub passes_hints : {x : AreaIndex} {t : Tables} → Passes x t → HintsLong x t.hints t.confirmed
passes_hints {x} {t} p =
    let c = first (hint_counts x.most x.hints x.confirmed) _ (sym (hinting_is x t.hints t.confirmed) ∙ first (hinting_in x t.hints t.confirmed) _ (others_hold p)) in
    hints_long x t.hints t.confirmed (hint_space p.roomy) (sym c) refl

pub passes_frames : {x : AreaIndex} {t : Tables} → Passes x t → frames_ok x.area x.budget (frames_in x.frames t.frames t.store) ≡ true
unfolding scan_in
passes_frames {x} {t} p = (scan_ok→ (index_in x t).scan (scan_holds p)).frames

pub passes_parts : {x : AreaIndex} {t : Tables} → Passes x t
    → parts_ok x.area x.interval 0 (index_in x t).scan.checkpoints (index_in x t).scan.frames (index_in x t).scan.parts ≡ true
unfolding scan_in
passes_parts {x} {t} p = (scan_ok→ (index_in x t).scan (scan_holds p)).parts

-- the store has the bytes of the frames
pub passes_store : {x : AreaIndex} {t : Tables} → Passes x t → used (frames_in x.frames t.frames t.store) ≤ length t.store
unfolding room_in question3 scan_room
passes_store {x} {t} p =
    let b : x.budget ≤ length t.store = leb-true _ _ (test _ (test _ p.roomy.room 0) 3) in
    omega (arith, frames_used x.area x.budget (frames_in x.frames t.frames t.store) (passes_frames p))
