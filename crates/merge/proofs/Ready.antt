-- What each step of a merge needs of the tables, where nothing refuses. Assumes nothing.
use mathlib.Core.Path.{◌≡◌}
use mathlib.Core.Bool.{Bool, cond}
use Prim.Native.Nat.{ℕ, ◌≤◌}
use native.Mathlib.Omega.{arith}
use Rattle.field.proofs.Records.{records_length}
use Rattle.rules.specs.declared.AreaIndex.{AreaIndex}
use Rattle.rules.specs.Sections.{confirmations_ok, confirmed_lsn, confirmation_ok}
use Rattle.rules.specs.File.{decode_lsn, decode_confirmation}
use Rattle.rules.proofs.Tests.{test}
use Rattle.laws.proofs.scans.Scans.{malformed_length}
use Rattle.laws.proofs.hint_lists.Rising.{rising→, rises_from}
use Rattle.tables.specs.Tables.{decode_kept, confirmations_in}
use Rattle.tables.specs.Index.{Tables}
use Rattle.index.specs.Steps.{Passes}
use Rattle.index.proofs.Questions.{space, passes_long, passes_hints}
use Rattle.confirmations.specs.Steps.{Rising}
use Rattle.merge.specs.Merge.{further_in}
use Rattle.merge.specs.Steps.{Joins, Appends, Takes, PartsReady, HintsReady}
use Rattle.merge.proofs.questions.Ready.{scan_is, hinting_is, hint_room, confirmed_room, areas, few_boundaries, few_checkpoints, other_few}
use Rattle.merge.proofs.questions.Held.{lent, room}
use Rattle.parts.specs.Parts.{part_tables}

few_malformed : {y : AreaIndex} {u : Tables} → Passes y u → y.malformed ≤ 4096
few_malformed {y} {u} p =
    let m = malformed_length _ _ _ _ (scan_is p).malformed in let n = records_length 4 decode_lsn y.malformed u.malformed in omega arith

module _ {x y : AreaIndex} {t u : Tables} {go : Bool} (j : Joins x t y u) (g : go ≡ further_in x y) where
  pub appends : {k : ℕ} → k ≡ cond go y.checkpoints 0 → Appends x.checkpoints k x.checkpoints t.checkpoints u.checkpoints
  appends {k} q =
      let l = (passes_long j.own).checkpoints in let m = (passes_long j.other).checkpoints in
      let s = (space j.own.roomy).checkpoints in let o = other_few j in let b = few_boundaries j.own in let n = few_checkpoints j.own in
      test go (λ e. let z : k ≡ y.checkpoints = rw e at q in record { own = l; other = omega arith; room = omega arith; few = omega arith })
      (λ e. let z : k ≡ 0 = rw e at q in record { own = l; other = omega arith; room = omega arith; few = omega arith })

  pub takes : Takes x.malformed y.malformed t.malformed u.malformed
  takes =
      let l = passes_long j.own in let k = passes_long j.other in
      let s = (space j.own.roomy).malformed in let m = few_malformed j.other in
      record { own = l.malformed; other = k.malformed; room = omega arith }

  pub parts_ready : {h : ℕ} → h ≡ cond go y.parts 0
      → PartsReady x y.frames h (part_tables t.frames t.store t.parts) (part_tables u.frames u.store u.parts)
  parts_ready q = rw q (record { own = (passes_long j.own).frames; lent = lent j g; room = room j g })

  pub hints_ready : HintsReady x.area x.hints y.hints t.hints u.hints
  hints_ready =
      let h = hinting_is j.own in let k = hinting_is j.other in
      let hf = h.few in let kf = k.few in let km = k.most in let r = hint_room j.own in let l = passes_hints j.other in
      let n = records_length 8 decode_kept x.hints t.hints in let m = records_length 8 decode_kept y.hints u.hints in
      record { room = omega arith; there = l.hints; own = h.hints; rising = rw (areas j) k.hints }

  pub confirmed_ready : Rising x.most x.confirmed y.confirmed t.confirmed u.confirmed
  unfolding confirmations_ok
  confirmed_ready =
      let h = hinting_is j.own in let k = hinting_is j.other in
      let hf = h.fewer in let r = confirmed_room j.own in let l = passes_hints j.other in
      let n = records_length 16 decode_confirmation x.confirmed t.confirmed in
      record {
        few = omega arith;
        room = omega arith;
        there = l.confirmed;
        own = rises_from confirmed_lsn 0 x.area.start (confirmations_in x.confirmed t.confirmed) (omega arith) (rising→ confirmed_lsn confirmation_ok x.area.start x.area.end _ h.confirmed).order;
        other = rises_from confirmed_lsn 0 y.area.start (confirmations_in y.confirmed u.confirmed) (omega arith) (rising→ confirmed_lsn confirmation_ok y.area.start y.area.end _ k.confirmed).order;
      }
