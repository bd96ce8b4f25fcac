-- What questions 1 to 4 say to the writers, and the answers of saving. Assumes nothing.
use mathlib.Core.Path.{◌≡◌, refl, sym, ◌∙◌}
use mathlib.Core.Bool.{true, ◌&&◌, cond}
use mathlib.Core.List.{List, [], ◌∷◌}
use Prim.Native.Nat.{ℕ, ◌≤◌, ◌<◌}
use native.Mathlib.Omega.{arith}
use borrow.Author.Tests.{leb-true, ne_eqb, eq-eqb, le-leb, lt-leb}
use lib.Dec.{leb}
use lib.ListN.{length}
use Rattle.rules.specs.declared.AreaIndex.{AreaIndex}
use Rattle.rules.specs.Tests.{each, ask, first_no, Accepted, after, Refused}
use Rattle.rules.specs.Sections.{frames_ok}
use Rattle.rules.specs.Questions.{question3, scan_room}
use Rattle.rules.specs.File.{saved, saved_length, save, over}
use Rattle.tables.specs.Tables.{headers_in, frames_in}
use Rattle.tables.proofs.Frames.{frames_by}
use Rattle.laws.proofs.scans.Parts.{frames_used}
use Rattle.rules.proofs.Tests.{and_left, and_right, all→}
use Rattle.laws.proofs.Facts.{numbers_ok→, scan_ok→}
use Rattle.laws.proofs.Length.{saved_length_is}
use Rattle.index.specs.Steps.{Passes, scan_in, hinting_in, hint_counts}
use Rattle.index.proofs.Four.{kinded_index}
use Rattle.index.proofs.Questions.{passes, passes_long, held_is, hinting_is, hints_long, hint_space}
use Rattle.tables.specs.Index.{Tables, index_in, kinds_ok, refusal, room_in}
use Rattle.save.specs.Layout.{Framed}
use Rattle.save.specs.Save.{made, save_out, save_in}
use Rattle.save.specs.Steps.{Scanned, Hinted}

-- ---- where 1 to 4 hold
module _ (x : AreaIndex) (t : Tables) (z : refusal x t ≡ 0) where
  pass : Passes x t
  pass = passes x t z

  held : (scan_in x t && (hinting_in x t.hints t.confirmed && kinds_ok x.parts t.parts)) ≡ true
  held = sym (held_is x t) ∙ pass.held

  others : (hinting_in x t.hints t.confirmed && kinds_ok x.parts t.parts) ≡ true
  others = and_right (scan_in x t) _ held

  frames_hold : frames_ok x.area x.budget (frames_in x.frames t.frames t.store) ≡ true
  unfolding scan_in
  frames_hold = (scan_ok→ (index_in x t).scan (and_left (scan_in x t) _ held)).frames

  -- the budget fits the store
  budget_room : x.budget ≤ length t.store
  unfolding room_in question3 scan_room
  budget_room = leb-true _ _ (all→ _ (all→ _ pass.roomy.room).0).1.1.1.0

  pub framed : Framed x t.frames
  framed =
      let hs = headers_in x.frames t.frames in
      record {
        long = (passes_long pass).frames;
        rule = frames_by x.area x.budget hs [] ∙ sym (frames_by x.area x.budget hs t.store) ∙ frames_hold;
        budgeted = (numbers_ok→ x.interval x.budget pass.roomy.numbers).budgeted;
      }

  pub scanned : Scanned x t
  scanned =
      record {
        long = passes_long pass;
        framed = framed;
        store = omega (arith, frames_used x.area x.budget (frames_in x.frames t.frames t.store) frames_hold, budget_room);
        kinds = and_right (hinting_in x t.hints t.confirmed) _ others;
      }

  pub hinted : Hinted x t.hints t.confirmed
  hinted =
      let c = and_left (hint_counts x.most x.hints x.confirmed) _ (sym (hinting_is x t.hints t.confirmed) ∙ and_left (hinting_in x t.hints t.confirmed) _ others) in
      let l = hints_long x t.hints t.confirmed (hint_space pass.roomy) (sym c) refl in
      record { hints = l.hints; confirmed = l.confirmed }

-- ---- the answers
module _ (x : AreaIndex) (t : Tables) (o : List ℕ) {n : ℕ} (e : n ≡ refusal x t) where
  pub save_is : save_in x t o ≡ save_out (after n (after (cond (leb (saved_length (index_in x t)) (length o)) 0 40) (Accepted (saved (index_in x t))))) o
  unfolding save_in save each first_no
  save_is = rw (kinded_index x t (ask (leb (saved_length (index_in x t)) (length o)) 40 ∷ []) refl e (saved (index_in x t)))

  pub save_refused : (n ≡ 0 → ⊥) → made (Refused n) o ≡ save_in x t o
  unfolding save_out after
  save_refused h = sym (save_is ∙ simp (ne_eqb n 0 h))

  module _ (z : n ≡ 0) {k : ℕ} (l : k ≡ saved_length (index_in x t)) where
    pub save_short : length o < k → made (Refused 40) o ≡ save_in x t o
    unfolding save_out after
    save_short h = sym (save_is ∙ rw (← l) (simp (eq-eqb n 0 z, lt-leb k (length o) h)))

    pub save_done : {o' : List ℕ} → k ≤ length o → o' ≡ over (saved (index_in x t)) o → made (Accepted k) o' ≡ save_in x t o
    unfolding save_out after
    save_done h c = rw (c, l, (saved_length_is (index_in x t)).0) (sym (save_is ∙ simp (eq-eqb n 0 z, le-leb _ _ (let g : saved_length (index_in x t) ≤ length o = rw (← l) h in g))))
