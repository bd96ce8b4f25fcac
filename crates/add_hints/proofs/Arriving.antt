-- The hints of a list that arrives, which bring no mark. Assumes nothing.
use mathlib.Core.Path.{◌≡◌, refl, sym, ap, ◌∙◌}
use mathlib.Core.Bool.{Bool, true, false, cond}
use mathlib.Core.List.{List, [], ◌∷◌}
use Prim.Native.Nat.{ℕ, zero, suc}
use native.Mathlib.Omega.{arith}
use lib.Dec.{ltb}
use lib.ListN.{drop}
use Rattle.field.specs.Records.{records, record_at, Bytes}
use Rattle.field.proofs.Format.{Each, record_fits, records_fit}
use Rattle.rules.specs.declared.Area.{Area}
use Rattle.rules.specs.declared.Hint.{Hint}
use Rattle.rules.specs.Sections.{hint_lsn}
use Rattle.rules.specs.File.{decode_hint}
use Rattle.rules.specs.Hints.{insert, arrived_hint, in_area, insert_all, unkept_hint, unkept, question13}
use Rattle.rules.proofs.Tests.{test}
use Rattle.laws.proofs.Marks.{unkept_twice, unkept_each}
use Rattle.tables.specs.Tables.{hints_in, decode_kept, kept_in, decode_unkept, unkept_in}
use Rattle.tables.proofs.Kept.{KeptFits, kept_layout, kept_13}

pub unkept_in_lemma : (n : ℕ) (t : List ℕ) → unkept_in n t ≡ unkept (kept_in n t)
unfolding records unkept
unkept_in_lemma zero t = refl
unkept_in_lemma (suc n) t = rw (unkept_in_lemma n (drop 8 t))

-- ---- their numbers fit
fits_unkept : (h : Hint) → KeptFits h → KeptFits (unkept_hint h)
fits_unkept h f = (f.0, (f.1.0, (omega arith, tt)))

pub fits_arrived : (h new : Hint) → KeptFits h → KeptFits new → KeptFits (arrived_hint h new)
fits_arrived h new f g = (g.0, (g.1.0, (f.1.1.0, tt)))

pub arriving_fits : (t : List ℕ) (j : ℕ) → Bytes t → KeptFits (record_at 8 decode_unkept t j)
arriving_fits t j b = fits_unkept (record_at 8 decode_kept t j) (record_fits kept_layout t j b)

pub unkept_fit : (n : ℕ) (t : List ℕ) → Bytes t → Each KeptFits (unkept_in n t)
unkept_fit n t b = rw (unkept_in_lemma n t) (unkept_each fits_unkept (records_fit kept_layout n t b))

-- ---- inserted among hints without marks
unkept_insert : (x : Hint) (hs : List Hint)
    → unkept (insert hint_lsn arrived_hint x hs) ≡ insert hint_lsn arrived_hint (unkept_hint x) (unkept hs)
unfolding insert unkept
unkept_insert x [] = refl
unkept_insert x (y ∷ ys) =
    test (ltb x.lsn y.lsn) (λ e. rw e)
    (λ e. test (ltb y.lsn x.lsn) (λ g. rw (e, g, unkept_insert x ys)) (λ g. rw (e, g)))

unkept_put : (b : Bool) (x : Hint) (hs : List Hint)
    → unkept (cond b (insert hint_lsn arrived_hint x hs) hs)
    ≡ cond b (insert hint_lsn arrived_hint (unkept_hint x) (unkept hs)) (unkept hs)
unkept_put true x hs = unkept_insert x hs
unkept_put false x hs = refl

unkept_all : (a : Area) (hs xs : List Hint) → unkept (insert_all a hs xs) ≡ insert_all a (unkept hs) (unkept xs)
unfolding insert_all unkept
unkept_all a hs [] = refl
unkept_all a hs (x ∷ xs) =
    unkept_all a (cond (in_area a x.lsn) (insert hint_lsn arrived_hint x hs) hs) xs
    ∙ ap (λ (l : List Hint). insert_all a l (unkept xs)) (unkept_put (in_area a x.lsn) x hs)

-- a list sorted has no mark
pub sorted_plain : (r : ℕ) (t : List ℕ) (a : Area) (n : ℕ) (list : List ℕ)
    → kept_in r t ≡ insert_all a [] (unkept_in n list) → unkept_in r t ≡ kept_in r t
unfolding unkept
sorted_plain r t a n list e =
    unkept_in_lemma r t ∙ ap unkept e ∙ unkept_all a [] (unkept_in n list)
    ∙ rw (unkept_in_lemma n list, unkept_twice (kept_in n list)) (sym (rw (unkept_in_lemma n list) at e))

-- ---- a delivered list
pub given_plain : (n : ℕ) (t : List ℕ) → unkept (hints_in n t) ≡ hints_in n t
unfolding records unkept decode_hint
given_plain zero t = refl
given_plain (suc n) t = rw (given_plain n (drop 8 t))

-- behind 13 it is read so
pub arriving_13 : (n : ℕ) (t : List ℕ) → question13 (hints_in n t) ≡ true → unkept_in n t ≡ hints_in n t
arriving_13 n t q = unkept_in_lemma n t ∙ ap unkept (kept_13 n t q) ∙ given_plain n t
