-- What record writes: a checkpoint, and the part of a frame under assembly. Assumes nothing.
use Rattle.std.specs.Prelude.{Option, None, Some}
use mathlib.Core.Path.{◌≡◌, ◌∙◌}
use mathlib.Core.List.{List, [], ◌∷◌, append-nil}
use Prim.Native.Nat.{ℕ, ◌+◌, ◌-◌, ◌<◌, ◌≤◌}
use borrow.Author.Tests.{le-ltb, lt-ltb}
use lib.IntN.{ℤ}
use lib.Seq.{sets}
use Rattle.field.specs.Number.{put}
use Rattle.field.specs.Records.{Bytes}
use Rattle.field.proofs.Fields.{fields_put}
use Rattle.rules.specs.declared.Checkpoint.{Checkpoint}
use Rattle.rules.specs.PartRule.{add_part}
use Rattle.rules.specs.File.{encode_checkpoint}
use Rattle.rules.specs.declared.Assembling as under
use Rattle.parts.specs.declared.Counts.{Counts}
use Rattle.parts.specs.Parts.{PartTables, stored_in, Held, held, held_from}
use Rattle.parts.specs.Steps.{Room}
use Rattle.parts.proofs.Stored.{stays}
use Rattle.tables.specs.Recorder.{assembling_in}
use Rattle.recorder.specs.Steps.{assembled_in}

pub checkpoint_put : {t1 t2 t3 t4 : List ℕ} (t : List ℕ) (k : ℕ) (c : Checkpoint) → t1 ≡ put 4 t k c.threshold → t2 ≡ put 4 t1 (k + 4) c.back → t3 ≡ put 8 t2 (k + 8) c.malformed
    → t4 ≡ put 8 t3 (k + 16) c.digest → t4 ≡ sets t k (encode_checkpoint c)
unfolding encode_checkpoint
checkpoint_put t k c e f g h = h ∙ rw (g, f, e) (fields_put 4 (4 ∷ 8 ∷ 8 ∷ []) t k c.threshold (c.back ∷ c.malformed ∷ c.digest ∷ []) ∙ simp append-nil)

-- ---- the part
module _ {budget : ℕ} {c : Counts} {t : PartTables} (r : Room 1 budget c t) (bf : Bytes t.frames) (bp : Bytes t.parts) (j lsn : ℕ) {frame : Option under.Assembling} (b : List ℕ) where
  pub assembled_none : frame ≡ None → held c t ≡ held_from (assembled_in budget (stored_in c.frames c.parts t) j lsn (assembling_in frame b)) t
  unfolding assembled_in assembling_in
  assembled_none e = rw e (stays r.ready r.kinds bf bp)

  module _ (a : under.Assembling) (is : frame ≡ Some a) where
    pub assembled_near : lsn - a.start ≤ 32 → held c t ≡ held_from (assembled_in budget (stored_in c.frames c.parts t) j lsn (assembling_in frame b)) t
    unfolding assembled_in assembling_in
    assembled_near l = rw (is, le-ltb 32 (lsn - a.start) l) (stays r.ready r.kinds bf bp)

    pub assembled_far : {x : Held} {z : ℤ} → 32 < lsn - a.start → z ≡ a.remaining
        → x ≡ held_from (add_part budget (stored_in c.frames c.parts t)
        (record { at = j; start = a.start; bytes = b; number = a.number; kind = a.kind; remaining = z })) t
        → x ≡ held_from (assembled_in budget (stored_in c.frames c.parts t) j lsn (assembling_in frame b)) t
    unfolding assembled_in assembling_in
    assembled_far l e h = rw (is, lt-ltb 32 (lsn - a.start) l) (rw e at h)
