-- The contents table by its count. Assumes nothing.
use mathlib.Core.Path.{◌≡◌, refl, sym, ap, ◌∙◌}
use mathlib.Core.Bool.{Bool, true, false, and-true}
use mathlib.Core.Logic.{◌≢◌}
use mathlib.Core.List.{List, [], ◌∷◌}
use Prim.Native.Nat.{ℕ, ◌+◌, ◌≤◌, ◌<◌}
use native.Mathlib.Nat.{add-zero}
use native.Mathlib.Omega.{arith}
use borrow.Author.Tests.{leb-true, le-leb, eq-eqb, ne_eqb}
use lib.ListN.{length, take, drop}
use lib.Seq.{drop-drop}
use Rattle.field.specs.Number.{encode, number_at, put}
use Rattle.field.specs.Records.{records}
use Rattle.field.proofs.Number.{number_part}
use Rattle.rules.specs.Tests.{all}
use Rattle.rules.proofs.Tests.{test, all→}
use Rattle.rules_disc.specs.declared.Entry.{Entry}
use Rattle.rules_disc.specs.Disc.{entry, encode_entry, decode_entry, laid, contents_ok, count_in, entry_of, table_size}
use Rattle.save.specs.Output.{Put}
use Rattle.save.proofs.output.Stretches.{put_both, put_one}
use Rattle.rules_disc.specs.declared.Contents.TheVariants.{Broken, Lists}
use Rattle.rules_disc.specs.declared.SlotEntry.{SlotEntry}
use Rattle.rules_disc.specs.declared.SlotEntry.TheVariants.{Absent, At}
use Rattle.disc_load.specs.DiscLoad.{place_from, contents_from, contents_in}

-- an entry by its three numbers
pub entry_here : (b : List ℕ) (at : ℕ) → entry (number_at 4 b at) (number_at 4 b (at + 4)) (number_at 4 b (at + 8)) ≡ decode_entry (take 12 (drop at b))
unfolding decode_entry
entry_here b at = rw (number_part 4 12 at 0 b refl, number_part 4 12 at 4 b refl, number_part 4 12 at 8 b refl) (ap (λ (k : ℕ). entry (number_at 4 b k) (number_at 4 b (at + 4)) (number_at 4 b (at + 8))) (sym (add-zero at)))

pub entry_read : (b : List ℕ) (at : ℕ) {s o n : ℕ} → s ≡ number_at 4 b at → o ≡ number_at 4 b (at + 4) → n ≡ number_at 4 b (at + 8)
    → entry s o n ≡ decode_entry (take 12 (drop at b))
entry_read b at p q r = rw (p, q, r) (entry_here b at)

-- ---- the entry of a slot
module _ (e : Entry) {s : ℕ} where
  pub place_here : (es : List Entry) → e.slot ≡ s → At e ≡ place_from (entry_of s (e ∷ es))
  unfolding place_from entry_of
  place_here es h = rw (eq-eqb e.slot s h)

  pub place_later : (es : List Entry) {r : SlotEntry} → (e.slot ≡ s → ⊥) → r ≡ place_from (entry_of s es) → r ≡ place_from (entry_of s (e ∷ es))
  unfolding entry_of
  place_later es h q = q ∙ rw (ne_eqb e.slot s h)

  pub place_none : (e.slot ≡ s → ⊥) → Absent ≡ place_from (entry_of s (e ∷ []))
  unfolding place_from entry_of
  place_none h = rw (ne_eqb e.slot s h)

-- ---- what a table says
module _ {ok : Bool} (es : List Entry) where
  pub contents_broken : ok ≡ false → Broken ≡ contents_from ok es
  unfolding contents_from
  contents_broken h = rw h

  pub contents_lists : {p q : SlotEntry} → ok ≡ true → p ≡ place_from (entry_of 0 es) → q ≡ place_from (entry_of 1 es) → Lists p q ≡ contents_from ok es
  unfolding contents_from
  contents_lists h p q = rw (h, p, q)

-- ---- an entry written
pub entry_put : {o1 o2 o3 : List ℕ} (e : Entry) (o : List ℕ) {at : ℕ} → o1 ≡ put 4 o at e.slot → o2 ≡ put 4 o1 (at + 4) e.offset
    → o3 ≡ put 4 o2 (at + 8) e.len → Put (encode_entry e) 12 o at (at + 12) o3
unfolding encode_entry
entry_put {o1} {o2} {o3} e o {at} p q r =
    let two : at + 4 + 4 ≡ at + 8 = omega arith in
    let three : at + 4 + 4 + 4 ≡ at + 12 = omega arith in
    let last : Put (encode 4 e.len) 4 o2 (at + 4 + 4) (at + 4 + 4 + 4) o3 = put_one 4 o2 (at + 4 + 4) e.len (rw two r) in
    let all : Put (encode_entry e) 12 o at (at + 4 + 4 + 4) o3 = put_both (put_one 4 o at e.slot p) (put_both (put_one 4 o1 (at + 4) e.offset q) last) in
    rw three at all

-- entry number 0 and 1
abbrev first : List ℕ → Entry
first b = decode_entry (take 12 (drop 4 b))

abbrev second : List ℕ → Entry
second b = decode_entry (take 12 (drop 16 b))

module _ (b : List ℕ) where
  broken : contents_ok b ≡ false → Broken ≡ contents_in b
  unfolding contents_in contents_from
  broken e = rw e

  -- no table fits
  not_ok : (contents_ok b ≡ true → ⊥) → contents_ok b ≡ false
  not_ok h = test (contents_ok b) (λ e. absurd (h e)) (λ e. e)

  pub too_short : length b < 16 → Broken ≡ contents_in b
  unfolding contents_ok
  too_short l =
      broken (not_ok (λ e. let h = all→ _ e in let p : 1 ≤ count_in b = leb-true _ _ h.0 in let q : table_size (count_in b) ≤ length b = leb-true _ _ h.1.1.0 in let f : ⊥ = omega (arith, p, q, l) in f))

  module _ {n : ℕ} (e : n ≡ number_at 4 b 0) where
    pub other_count : n ≢ 1 → n ≢ 2 → Broken ≡ contents_in b
    unfolding contents_ok
    other_count u v =
        broken (not_ok (λ k. let h = all→ _ k in let p : 1 ≤ count_in b = leb-true _ _ h.0 in let q : count_in b ≤ 2 = leb-true _ _ h.1.0 in let f : ⊥ = omega (arith, p, q, u, v, e) in f))

    pub two_short : n ≡ 2 → length b < 28 → Broken ≡ contents_in b
    unfolding contents_ok
    two_short z l =
        broken (not_ok (λ k. let h = all→ _ k in let q : table_size (count_in b) ≤ length b = leb-true _ _ h.1.1.0 in let f : ⊥ = omega (arith, q, z, e, l) in f))

    pub of_one : n ≡ 1 → 16 ≤ length b → contents_from (laid (length b) 0 16 (first b ∷ [])) (first b ∷ []) ≡ contents_in b
    unfolding contents_in contents_ok all records
    of_one z l = rw (← e, z, le-leb 16 (length b) l, and-true) refl

    pub of_two : n ≡ 2 → 28 ≤ length b
        → contents_from (laid (length b) 0 28 (first b ∷ second b ∷ [])) (first b ∷ second b ∷ []) ≡ contents_in b
    unfolding contents_in contents_ok all records
    of_two z l = rw (← e, z, le-leb 28 (length b) l, and-true, drop-drop) refl
