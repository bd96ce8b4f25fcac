-- In what a merged list differs, by tests of the numbers and the tables. Assumes nothing.
use Rattle.std.specs.Prelude.{Option, None, Some}
use mathlib.Core.Path.{◌≡◌, refl, sym, ap, ◌∙◌}
use mathlib.Core.Bool.{Bool, true, false, ◌&&◌, not}
use mathlib.Core.List.{List, [], ◌∷◌, ◌++◌}
use Prim.Native.Nat.{ℕ, suc, ◌-◌, ◌*◌, ◌≤◌}
use native.Mathlib.Omega.{arith}
use lib.Dec.{eqb, ltb}
use lib.ListN.{length, take, drop, length-drop}
use lib.Seq.{length-take-le}
use borrow.Author.Tests.{eqb-true, ne_eqb, ltb-true, ltb-false}
use Rattle.field.specs.Number.{same_bytes}
use Rattle.field.specs.Records.{records, bytes_of, Bytes}
use Rattle.field.proofs.Bytes.{same_true, same_refl}
use Rattle.field.proofs.Format.{bytes_records}
use Rattle.field.proofs.Records.{records_same}
use Rattle.rules.specs.declared.Fingerprint.{Fingerprint}
use Rattle.rules.specs.declared.Fingerprint.TheVariants.{Unknown, Checked}
use Rattle.rules.specs.declared.Fingerprint.TheVariants as fingerprint
use Rattle.std.specs.Option as option
use Rattle.rules.specs.Tests.{is_some, or_else}
use Rattle.rules.specs.Values.{Scan, count, complete, stated, same_checkpoint, same_end}
use Rattle.rules.specs.File.{decode_lsn, encode_lsn}
use Rattle.rules.specs.Merge.{further, merged_scan, merged_fingerprint, held_from}
use Rattle.rules.proofs.Tests.{test, never, and_left}
use Rattle.rules.proofs.Same.{eqb_self, same_checkpoint_self, same_end_self}
use Rattle.laws.proofs.Layouts.{lsn_layout}
use Rattle.adds.specs.Adds.{same_list, same_known, same_fingerprint}
use Rattle.adds.proofs.compare.Same.{same_list_self, same_list_eq}
use Rattle.adds.proofs.Same.{same_known_self}

-- ---- checkpoints
more_same : {A : Type 0} (same : A → A → Bool) → ((a : A) → same a a ≡ true) → (xs ys : List A)
    → same_list same xs (xs ++ ys) ≡ eqb (length ys) 0
unfolding same_list
more_same same self [] [] = refl
more_same same self [] (y ∷ ys) = sym (ne_eqb (suc (length ys)) 0 (λ z. omega arith))
more_same same self (x ∷ xs) ys = rw (self x) (more_same same self xs ys)

rest_none : (n m : ℕ) → not (eqb (m - n) 0) ≡ ltb n m
rest_none n m =
    test (ltb n m) (λ e. let l = ltb-true n m e in rw (e, ne_eqb (m - n) 0 (λ z. omega arith)))
    (λ e. let l = ltb-false n m e in let z : m - n ≡ 0 = omega arith in rw (e, z))

module _ (own other : Scan) where
  pub checkpoints_change : not (same_list same_checkpoint own.checkpoints (merged_scan own other).checkpoints)
      ≡ (further own other && ltb (count own) (count other))
  unfolding merged_scan
  checkpoints_change =
      test (further own other)
      (λ e. rw (
        e,
        more_same same_checkpoint same_checkpoint_self own.checkpoints (drop (count own) other.checkpoints),
        length-drop (count own) other.checkpoints,
      )
      (rest_none (count own) (count other)))
      (λ e. rw (e, same_list_self same_checkpoint same_checkpoint_self own.checkpoints))

  -- ---- the end state
  open_end : further own other ≡ true → own.ending ≡ None
  unfolding further is_some
  open_end e = none_of own.ending (and_left (not (complete own)) _ e)
    where
      none_of : {A : Type 0} (o : Option A) → not (is_some o) ≡ true → o ≡ None
      none_of None h = refl
      none_of (Some a) h = never {b = false} h refl

  pub ending_change : not (same_known same_end own.ending (merged_scan own other).ending)
      ≡ (further own other && complete other)
  unfolding merged_scan same_known is_some
  ending_change =
      test (further own other) (λ e. rw (e, open_end e) (known other.ending))
      (λ e. rw (e, same_known_self same_end same_end_self own.ending))
    where
      known : (o : Option _) → not (same_known same_end None o) ≡ is_some o
      known None = refl
      known (Some a) = refl

  -- ---- malformed LSNs
  pub malformed_change : not (same_list eqb own.malformed (merged_scan own other).malformed)
      ≡ (further own other && not (same_list eqb own.malformed other.malformed))
  unfolding merged_scan
  malformed_change = test (further own other) (λ e. rw e) (λ e. rw (e, same_list_self eqb eqb_self own.malformed))

-- two tables of LSNs compared as bytes
module _ (n m : ℕ) (s t : List ℕ) (b : Bytes s) (c : Bytes t) (h : n * 4 ≤ length s) (g : m * 4 ≤ length t) where
  pub lsns_same : same_bytes (take (n * 4) s) (take (m * 4) t)
      ≡ same_list eqb (records 4 decode_lsn n s) (records 4 decode_lsn m t)
  lsns_same =
      test (same_bytes (take (n * 4) s) (take (m * 4) t))
      (λ e. let p = same_true (take (n * 4) s) (take (m * 4) t) e in
      let l : length (take (n * 4) s) ≡ length (take (m * 4) t) = ap length p in
      let u = length-take-le (n * 4) s h in let v = length-take-le (m * 4) t g in
      let q : m ≡ n = omega arith in
      e ∙ sym
      (rw (q, records_same 4 decode_lsn n s t (rw q at p)) (same_list_self eqb eqb_self (records 4 decode_lsn n t))))
      (λ e. test (same_list eqb (records 4 decode_lsn n s) (records 4 decode_lsn m t))
      (λ f. let r = same_list_eq eqb eqb-true (records 4 decode_lsn n s) (records 4 decode_lsn m t) f in
      let z : take (n * 4) s ≡ take (m * 4) t =
      sym (bytes_records lsn_layout n s b h) ∙ ap (bytes_of encode_lsn) r ∙ bytes_records lsn_layout m t c g in
      never (rw z (same_refl (take (m * 4) t))) e)
      (λ f. e ∙ sym f))

-- ---- fingerprint and image id
pub fingerprint_change : (f g : Fingerprint)
    → not (same_fingerprint f (merged_fingerprint f g)) ≡ (not (is_some (stated f)) && is_some (stated g))
unfolding merged_fingerprint held_from stated is_some same_fingerprint
fingerprint_change Unknown Unknown = refl
fingerprint_change Unknown (fingerprint.Held w) = refl
fingerprint_change Unknown (Checked w) = refl
fingerprint_change (fingerprint.Held v) g = rw (eqb_self v)
fingerprint_change (Checked v) g = rw (eqb_self v)

pub image_change : (a b : Option ℕ) → not (same_known eqb a (or_else a b)) ≡ (not (option.is_some a) && option.is_some b)
unfolding same_known or_else
image_change None None = refl
image_change None (Some w) = refl
image_change (Some v) b = rw (eqb_self v)
