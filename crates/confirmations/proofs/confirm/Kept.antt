-- Confirmations of two tables joined. Assumes nothing.
use mathlib.Core.Path.{◌≡◌, refl, sym, ap, subst, ◌∙◌}
use mathlib.Core.Bool.{Bool, true, false, cond}
use mathlib.Core.List.{List, [], ◌∷◌, ◌++◌, append-nil}
use Prim.Native.Nat.{ℕ, zero, suc, ◌+◌, ◌*◌, ◌-◌, ◌<◌, ◌≤◌}
use native.Mathlib.Numerals.{add-one}
use native.Mathlib.Omega.{arith}
use lib.Dec.{leb}
use lib.ListN.{length, take, drop, take-append-drop}
use lib.Seq.{sets}
use Rattle.field.specs.Number.{put}
use Rattle.field.specs.Records.{Bytes, record_at}
use Rattle.field.proofs.Records.{records_length, records_at}
use Rattle.field.proofs.Format.{bytes_records}
use Rattle.field.proofs.Fields.{fields_put}
use Rattle.rules.specs.declared.Confirmation.{Confirmation}
use Rattle.rules.specs.Values.{no_confirmation}
use Rattle.rules.specs.Sections.{confirmed_lsn}
use Rattle.rules.specs.File.{decode_confirmation, encode_confirmation}
use Rattle.rules.specs.Hints.{held_confirmation, last_ones, keeps_nothing, keep_all}
use Rattle.laws.proofs.Layouts.{confirmation_layout}
use Rattle.laws.specs.Merging.{last_key}
use Rattle.laws.specs.Passes.{between, Begins, Fits}
use Rattle.laws.proofs.hint_lists.Passes.{between_drop, moved_between, moved_past}
use Rattle.laws.proofs.hint_lists.Splitting.{Splitting, splitting_start, splitting_step, splitting_full}
use Rattle.laws.proofs.hint_lists.Splitting.{splitting_whole, splitting_least}
use Rattle.laws.proofs.hint_lists.Keeping.{keep_all_merged}
use Rattle.laws.proofs.hint_lists.Confirmations.{keep_all_none}
use Rattle.tables.specs.Tables.{confirmations_in}
use Rattle.confirmations.specs.Steps.{confirmations_merged, last_lsn, Rising, Splits, Keeps}

-- ---- one confirmation
-- its three numbers written are the confirmation written
pub confirmation_put : (t : List ℕ) (k : ℕ) (c : Confirmation)
    → put 8 (put 4 (put 4 t k c.lsn) (k + 4) c.threshold) (k + 8) c.digest ≡ sets t k (encode_confirmation c)
unfolding encode_confirmation
confirmation_put t k c = fields_put 4 (4 ∷ 8 ∷ []) t k c.lsn (c.threshold ∷ c.digest ∷ []) ∙ simp append-nil

-- ---- the count from behind
pub last_none : {i : ℕ} (t : List ℕ) → i ≡ 0 → (0 ≡ last_lsn t i) × (0 ≤ 4294967296)
unfolding last_lsn
last_none t e = (rw e, omega arith)

positive : (i : ℕ) → (i ≡ 0 → ⊥) → i ≡ suc (i - 1)
positive zero h = absurd (h refl)
positive (suc i) h = omega arith

pub last_some : {i : ℕ} {c : Confirmation} (t : List ℕ) → (i ≡ 0 → ⊥) → c ≡ record_at 16 decode_confirmation t (i - 1)
    → c.lsn + 1 ≡ last_lsn t i
unfolding last_lsn
last_some {i} {c} t h e =
    let q = positive i h in ap (λ (x : Confirmation). x.lsn + 1) e ∙ add-one _ ∙ sym (ap (last_lsn t) q)

last_is : (n : ℕ) (t : List ℕ) (i : ℕ) → i ≤ n
    → last_key confirmed_lsn no_confirmation (confirmations_in n t) i ≡ last_lsn t i
unfolding last_key last_lsn
last_is n t zero h = refl
last_is n t (suc i) h = rw (records_at 16 decode_confirmation n t i no_confirmation h)

-- the last ones begin at i and j, and are k
abbrev pub Counted : ℕ → ℕ → List ℕ → List ℕ → ℕ → ℕ → ℕ → Type 0
Counted c d t o i j k =
    Splitting confirmed_lsn held_confirmation no_confirmation (confirmations_in c t) (confirmations_in d o) i j k

module _ {c d most : ℕ} {t o : List ℕ} (f : Rising most c d t o) where
  pub counted_start : Counted c d t o c d 0
  counted_start =
      rw (records_length 16 decode_confirmation c t, records_length 16 decode_confirmation d o) at
      (splitting_start confirmed_lsn held_confirmation no_confirmation (confirmations_in c t) (confirmations_in d o))

  module _ {i j k : ℕ} (s : Counted c d t o i j k) where
    pub own_few : i ≤ c
    own_few = rw (records_length 16 decode_confirmation c t) at s.own

    pub other_few : j ≤ d
    other_few = rw (records_length 16 decode_confirmation d o) at s.other

    pub counted_step : {x y i' j' : ℕ} → (i + j ≡ 0 → ⊥) → x ≡ last_lsn t i → y ≡ last_lsn o j
        → i' ≡ i - cond (leb y x) 1 0 → j' ≡ j - cond (leb x y) 1 0
        → Counted c d t o i' j' (k + 1)
    counted_step h ex ey ei ej =
        let some : 0 < i + j = omega (arith, h) in
        let u = last_is c t i own_few in let v = last_is d o j other_few in
        rw (ei, ej, ex, ey, ← u, ← v) (splitting_step confirmed_lsn held_confirmation no_confirmation (confirmations_in c t)
        (confirmations_in d o) f.own f.other i j k s some)

    splits : k ≤ most → last_ones most (confirmations_merged (confirmations_in c t) (confirmations_in d o))
        ≡ confirmations_merged (drop i (confirmations_in c t)) (drop j (confirmations_in d o))
        → Splits most c d t o i j k
    splits l e =
        let u = between_drop 16 decode_confirmation i c t own_few in
        let v = between_drop 16 decode_confirmation j d o other_few in
        let few = f.few in
        let least : length (confirmations_in c t) ≤ most = omega (arith, records_length 16 decode_confirmation c t) in
        record {
          own = own_few;
          other = other_few;
          few = l;
          more =
              omega (
                arith,
                records_length 16 decode_confirmation c t,
                splitting_least confirmed_lsn held_confirmation
                    no_confirmation (confirmations_in c t) (confirmations_in d o) most i j k s least e,
              );
          last = rw (← u, ← v) e;
          count = rw (← u, ← v) s.count;
        }

    pub counted_whole : k < most → i + j ≡ 0 → Splits most c d t o i j k
    counted_whole l h =
        splits (omega arith) (splitting_whole confirmed_lsn held_confirmation no_confirmation (confirmations_in c t)
        (confirmations_in d o) most i j k s h (omega arith))

    pub counted_most : k ≡ most → Splits most c d t o i j most
    counted_most e =
        subst (Splits most c d t o i j) e
        (splits (omega arith) (splitting_full confirmed_lsn held_confirmation no_confirmation (confirmations_in c t)
        (confirmations_in d o) most i j k s e))

-- ---- the last ones moved up, and merged
module _ (most c d : ℕ) (t t1 o : List ℕ) (i j k : ℕ) (f : Rising most c d t o) (s : Splits most c d t o i j k)
    (same : length t1 ≡ length t)
    (up : t1 ≡ take (i * 16 + (k - c) * 16) t
    ++ (take ((c - i) * 2 * 8) (drop (i * 16) t) ++ drop (i * 16 + (k - c) * 16 + (c - i) * 2 * 8) t)) where
  abbrev at : ℕ
  at = k - (c - i)

  end : at + (c - i) ≡ k
  end = let a = s.own in let b = s.more in omega arith

  moved : t1 ≡ take (at * 16) t ++ (take ((c - i) * 16) (drop (i * 16) t) ++ drop ((at + (c - i)) * 16) t)
  moved =
      let a = s.own in let b = s.more in
      let u : i * 16 + (k - c) * 16 ≡ at * 16 = omega arith in
      let v : (c - i) * 2 * 8 ≡ (c - i) * 16 = omega arith in
      let w : at * 16 + (c - i) * 16 ≡ (at + (c - i)) * 16 = omega arith in
      up ∙ rw (u, v, w)

  module _ (room : (at + (c - i)) * 16 ≤ length t) (low : i ≤ at) where
    own_is : between 16 decode_confirmation at k t1 ≡ between 16 decode_confirmation i c t
    own_is = rw end at (moved_between 16 decode_confirmation t t1 i c at s.own low room moved)

    past_is : drop (k * 16) t1 ≡ drop (k * 16) t
    past_is = rw end at (moved_past 16 decode_confirmation t t1 i c at s.own low room moved)

  room_is : (at + (c - i)) * 16 ≤ length t
  room_is = let r = f.room in let l = s.few in rw end (omega arith)

  low_is : i ≤ at
  low_is = let a = s.own in let b = s.more in omega arith

  pub keep_fits : Fits 16 decode_confirmation decode_confirmation confirmations_merged t1 o at k j d
  keep_fits =
      let r = f.room in let l = s.few in
      record {
        own = omega arith;
        other = s.other;
        own_there = omega arith;
        other_there = f.there;
        most = rw (own_is room_is low_is) (omega (arith, s.count));
      }

  pub keep_keeps : {t2 : List ℕ} {r : ℕ} → Begins 16 encode_confirmation
      (confirmations_merged (between 16 decode_confirmation at k t1) (between 16 decode_confirmation j d o)) r t1 t2
      → Keeps most c d o r t t2
  keep_keeps {t2} {r} g =
      let e : confirmations_merged (between 16 decode_confirmation at k t1) (between 16 decode_confirmation j d o)
      ≡ last_ones most (confirmations_merged (confirmations_in c t) (confirmations_in d o)) =
      rw (own_is room_is low_is) (sym s.last) in
      let h = rw e at g in
      let n : r ≡ k = h.count ∙ ap length s.last ∙ sym s.count in
      let few = s.few in
      record {
        begins = record { count = h.count; bytes = h.bytes ∙ rw (n, past_is room_is low_is) };
        few = omega
            arith;
      }

-- ---- the whole
pub nothing_kept : {d : ℕ} {o : List ℕ} (checked : Bool) (most c : ℕ) (t : List ℕ) → Rising most c d t o → Bytes t
    → keeps_nothing checked most ≡ true
    → Begins 16 encode_confirmation (keep_all checked most (confirmations_in c t) (confirmations_in d o)) c t t
nothing_kept {d} {o} checked most c t f b h =
    let few = f.few in let room = f.room in
    let l : c * 16 ≤ length t = omega arith in
    rw (keep_all_none checked most h (confirmations_in c t) (confirmations_in d o))
    (record {
      count = sym (records_length 16 decode_confirmation c t);
      bytes = sym (rw (bytes_records confirmation_layout c t b l) (take-append-drop (c * 16) t));
    })

pub all_kept : {d r : ℕ} {o new : List ℕ} (checked : Bool) (most c : ℕ) (t : List ℕ) → Rising most c d t o
    → keeps_nothing checked most ≡ false → Keeps most c d o r t new
    → Begins 16 encode_confirmation (keep_all checked most (confirmations_in c t) (confirmations_in d o)) r t new
all_kept {d} {r} {o} checked most c t f h k =
    let few = f.few in
    rw (keep_all_merged checked most h (confirmations_in c t) (confirmations_in d o)
    (omega (arith, records_length 16 decode_confirmation c t)) f.own f.other) k.begins
