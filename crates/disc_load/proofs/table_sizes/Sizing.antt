-- What is told of a disc file's sizes. Assumes nothing.
use Rattle.std.specs.Prelude.{Some}
use mathlib.Core.Path.{◌≡◌, ◌∙◌}
use mathlib.Core.Bool.{Bool, true, false, ◌&&◌}
use mathlib.Core.List.{List}
use Prim.Native.Nat.{ℕ, ◌+◌, ◌-◌}
use native.Mathlib.Omega.{arith}
use lib.ListN.{take, drop}
use Rattle.rules.specs.declared.Area.{Area}
use Rattle.rules_disc.specs.declared.Entry.{Entry}
use Rattle.rules.specs.Tests.{Accepted, first_no, after, bind}
use Rattle.rules_disc.specs.Disc.{body_at, slot_area}
use Rattle.rules_disc.specs.declared.Contents.TheVariants.{Broken, Lists}
use Rattle.rules_disc.specs.declared.SlotEntry.{SlotEntry}
use Rattle.rules_disc.specs.declared.SlotEntry.TheVariants.{Absent, At}
use Rattle.disc_load.specs.Steps.{entry_in, body_sized_of}
use Rattle.disc_load.specs.DiscLoad.{contents_in, body_sizes, both_sizes, disc_sizes, slot_sizes_of, disc_sized_of}
use Rattle.disc_load.proofs.contents.Inside.{locates, breaks}
use Rattle.rules.specs.declared.Sized.{Sized}
use Rattle.sizes.specs.Sizes.{sized_of, file_sizes}
use Rattle.rules_disc.specs.declared.SlotSizes.TheVariants as slot
use Rattle.rules_disc.specs.declared.BodySized.{BodySized}
use Rattle.rules_disc.specs.declared.BodySized.TheVariants as body
use Rattle.rules_disc.specs.declared.DiscSized.{DiscSized}
use Rattle.rules_disc.specs.declared.DiscSized.TheVariants as disc

-- ---- one slot
module _ (a : Area) (limit : ℕ) (b : List ℕ) where
  pub absent : {p : SlotEntry} → p ≡ Absent → body_sized_of (body.Passed slot.Absent) ≡ body_sizes a limit (body_at b (entry_in p))
  unfolding body_sized_of slot_sizes_of body_sizes body_at entry_in
  absent h = rw h

  pub present : (s : Sized) (r : BodySized) {p : SlotEntry} {e : Entry} {to : ℕ} → p ≡ At e → to ≡ e.offset + e.len
      → sized_of s ≡ file_sizes a (take (to - e.offset) (drop e.offset b)) limit → body_sized_of r ≡ bind (sized_of s) (λ x. Accepted (Some x))
      → body_sized_of r ≡ body_sizes a limit (body_at b (entry_in p))
  unfolding body_sizes body_at entry_in
  present s r {p} {e} {to} h q f k = let w : to - e.offset ≡ e.len = omega arith in k ∙ rw (h, f, w)

-- ---- the file
module _ (a0 a1 : Area) (b : List ℕ) (limit : ℕ) {v : Bool} (e : v ≡ (slot_area 0 a0 && slot_area 1 a1)) where
  pub no_areas : v ≡ false → disc_sized_of (disc.Refused 1) ≡ disc_sizes a0 a1 b limit
  unfolding disc_sized_of disc_sizes first_no after
  no_areas h = rw (← e, h)

  module _ (h : v ≡ true) where
    pub no_table : Broken ≡ contents_in b → disc_sized_of (disc.Refused 54) ≡ disc_sizes a0 a1 b limit
    unfolding disc_sized_of disc_sizes first_no after
    no_table k = rw (← e, h, breaks b k)

    pub lists : (x y : BodySized) (r : DiscSized) {p q : SlotEntry} → Lists p q ≡ contents_in b → body_sized_of x ≡ body_sizes a0 limit (body_at b (entry_in p))
        → body_sized_of y ≡ body_sizes a1 limit (body_at b (entry_in q)) → disc_sized_of r ≡ both_sizes (body_sized_of x) (body_sized_of y)
        → disc_sized_of r ≡ disc_sizes a0 a1 b limit
    unfolding disc_sizes first_no after
    lists x y r k f g w =
        let l = locates b k in
        w ∙ rw (f, g, ← e, h, l.contents, ← l.entry0, ← l.entry1)
