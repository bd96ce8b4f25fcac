-- What `commit` needs holds where nothing refuses an absorb. Assumes nothing.
use Rattle.std.specs.Prelude.{Option, ℕ}
use mathlib.Core.Path.{◌≡◌, refl}
use mathlib.Core.Bool.{Bool, true, false, ◌&&◌}
use mathlib.Core.List.{List}
use Prim.Native.Nat.{ℕ, ◌+◌, ◌≤◌}
use native.Mathlib.Omega.{arith}
use lib.Dec.{leb, ltb}
use lib.ListN.{length}
use borrow.Author.Tests.{leb-true}
use Rattle.field.specs.Records.{Bytes}
use Rattle.field.proofs.Format.{bytes_records}
use Rattle.field.proofs.Records.{records_length}
use Rattle.rules.specs.declared.AreaIndex.{AreaIndex}
use Rattle.rules.specs.declared.Recorder.{Recorder}
use Rattle.rules.specs.Values.{max32}
use Rattle.rules.specs.Sections.{rising, own_lsn, any_lsn}
use Rattle.rules.specs.Record.{question9, question10, question12, moves, absorb_number}
use Rattle.rules.specs.File.{decode_checkpoint}
use Rattle.rules.proofs.Tests.{test, implied, all→, asked}
use Rattle.laws.proofs.scans.Absorb.{unstopped}
use Rattle.laws.proofs.Layouts.{confirmation_layout}
use Rattle.tables.proofs.Kept.{kept_layout}
use Rattle.tables.specs.Index.{Tables, room_of, index_in, kinds_in, or_four, kinded_number}
use Rattle.index.specs.Steps.{Passes}
use Rattle.index.proofs.Lent.{over_same}
use Rattle.index.proofs.Questions.{passes, passes_hints}
use Rattle.tables.specs.Recorder.{RecorderTables, recorder_room, recorder_in, recorder_kinds}
use Rattle.tables.specs.Tables.{given_in}
use Rattle.absorb.specs.Steps.{nine_in, absorb_refusal, Absorbs, Kept, AbsorbReady}
use Rattle.absorb.proofs.refusal.Refusal.{passed}

-- no number with the kind bytes is no number of the rules
kinded_zero : (ok : Bool) (n : ℕ) → kinded_number ok n ≡ 0 → n ≡ 0
unfolding kinded_number or_four
kinded_zero true n e = e
kinded_zero false n e = test (ltb 0 n && leb n 3) (λ y. rw y at e) (λ y. let z : 4 ≡ 0 = rw y at e in let f : ⊥ = omega arith in absurd f)

module _ {x : AreaIndex} {t : Tables} {image : Option ℕ} {given : List ℕ} {r : Recorder} {u : RecorderTables} (a : Absorbs x t image given r u) where
  number_zero : absorb_number (room_of t) (index_in x t) (recorder_room u) (recorder_in r u) image (given_in given) ≡ 0
  unfolding absorb_refusal
  number_zero = kinded_zero (kinds_in x t && recorder_kinds r u) _ a.accepted

  nine : nine_in x r ≡ true
  unfolding nine_in question9
  nine = unstopped (recorder_in r u) _ a.brings (asked _ refl number_zero).1.1.1.1.1.0

  ten : question10 (index_in x t) (recorder_in r u) ≡ true
  ten = unstopped (recorder_in r u) _ a.brings (asked _ refl number_zero).1.1.1.1.1.1.0

  twelve : question12 (index_in x t) (recorder_in r u) image (given_in given) ≡ true
  twelve = unstopped (recorder_in r u) _ a.brings (asked _ refl number_zero).1.1.1.1.1.1.1.1.0

  own_passes : Passes x t
  own_passes = passes x t (passed x t image given r u a.accepted).0

  joins : r.first ≤ x.checkpoints
  unfolding question10
  joins = let l : r.first ≤ length (index_in x t).scan.checkpoints = leb-true _ _ (all→ _ ten).1.0 in let n = records_length 24 decode_checkpoint x.checkpoints t.checkpoints in omega arith

  rises : moves (index_in x t).scan (recorder_in r u) ≡ true → rising own_lsn any_lsn 0 (max32 + 1) (given_in given) ≡ true
  unfolding question12
  rises m = (all→ _ (implied (moves (index_in x t).scan (recorder_in r u)) _ twelve m)).0

  pub ready : AbsorbReady x t.checkpoints t.frames t.store t.parts t.malformed r u given
  ready =
      record {
        hints = t.hints;
        confirmed = t.confirmed;
        own = own_passes;
        recorder = (passed x t image given r u a.accepted).1;
        same = nine;
        joins = joins;
        rises = rises;
      }

  -- hints and confirmations stay
  pub kept : Bytes t.hints → Bytes t.confirmed → Kept x t.hints t.confirmed
  kept b c =
      let l = passes_hints own_passes in
      record {
        hints = over_same _ _ t.hints l.hints (bytes_records kept_layout x.hints t.hints b l.hints);
        confirmed = over_same _ _ t.confirmed l.confirmed (bytes_records confirmation_layout x.confirmed t.confirmed c l.confirmed);
      }
