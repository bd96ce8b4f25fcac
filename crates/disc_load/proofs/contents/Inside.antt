-- The bodies of a right contents table lie inside the file. Assumes nothing.
use Rattle.std.specs.Prelude.{Option, None, Some}
use mathlib.Core.Path.{◌≡◌, refl}
use mathlib.Core.Bool.{true, false}
use mathlib.Core.List.{List, [], ◌∷◌}
use Prim.Native.Nat.{ℕ, ◌+◌, ◌≤◌}
use native.Mathlib.Omega.{arith}
use borrow.Author.Tests.{eqb-true}
use lib.Dec.{eqb}
use lib.ListN.{length}
use Rattle.rules.proofs.Tests.{test, all→}
use Rattle.rules_disc.specs.declared.Entry.{Entry}
use Rattle.rules_disc.specs.Disc.{laid, contents_ok, entries_in, entry_of, count_in, table_size}
use Rattle.rules_disc.specs.declared.Contents.TheVariants.{Broken, Lists}
use Rattle.rules_disc.specs.declared.SlotEntry.{SlotEntry}
use Rattle.disc_load.specs.DiscLoad.{place_from, contents_from, contents_in}
use Rattle.disc_load.specs.Steps.{entry_in, Inside, Locates}

-- what the rule says of the first entry
pub record Laid (size s at : ℕ) (e : Entry) (es : List Entry) : Type 0 where
  pub here : e.offset ≡ at
  pub rest : laid size (e.slot + 1) (at + e.len) es ≡ true

laid→ : (size s at : ℕ) (e : Entry) (es : List Entry) → laid size s at (e ∷ es) ≡ true → Laid size s at e es
unfolding laid
laid→ size s at e es h = let g = all→ _ h in record { here = eqb-true e.offset at g.1.1.0; rest = g.1.1.1.0 }

pub none_laid : (size s at : ℕ) → laid size s at [] ≡ true → at ≡ size
unfolding laid
none_laid size s at h = eqb-true at size h

pub laid_below : (size s at : ℕ) (es : List Entry) → laid size s at es ≡ true → at ≤ size
laid_below size s at (e ∷ es) h = let g = laid_below size (e.slot + 1) (at + e.len) es (laid→ size s at e es h).rest in omega arith
laid_below size s at [] h = let g = none_laid size s at h in omega arith

pub laid_inside : (size s at k : ℕ) (es : List Entry) (e : Entry) → laid size s at es ≡ true → entry_of k es ≡ Some e → e.offset + e.len ≤ size
unfolding entry_of
laid_inside size s at k [] e h q = let z : ◌≡◌ {A = ℕ} 0 1 = cc in let f : ⊥ = omega arith in absurd f
laid_inside size s at k (d ∷ es) e h q =
    let g = laid→ size s at d es h in
    let b = laid_below size (d.slot + 1) (at + d.len) es g.rest in
    test (eqb d.slot k)
    (λ t. let w : Some d ≡ Some e = rw t at q in let p : d ≡ e = cc in rw (← p) (omega (arith, g.here, b)))
    (λ t. laid_inside size (d.slot + 1) (at + d.len) k es e g.rest (rw t at q))

entry_place : (o : Option Entry) → entry_in (place_from o) ≡ o
unfolding entry_in place_from
entry_place None = refl
entry_place (Some e) = refl

module _ (b : List ℕ) (ok : contents_ok b ≡ true) (k : ℕ) where
  contents_laid : laid (length b) 0 (table_size (count_in b)) (entries_in b) ≡ true
  unfolding contents_ok
  contents_laid = (all→ _ ok).1.1.1.0

  place_inside : (o : Option Entry) → entry_of k (entries_in b) ≡ o → Inside b (place_from o)
  unfolding place_from
  place_inside None e = tt
  place_inside (Some d) e = laid_inside (length b) 0 (table_size (count_in b)) k (entries_in b) d contents_laid e

pub locates : (b : List ℕ) {p q : SlotEntry} → Lists p q ≡ contents_in b → Locates b p q
unfolding contents_in contents_from
locates b {p} {q} e =
    test (contents_ok b)
    (λ h. let w : Lists p q ≡ Lists (place_from (entry_of 0 (entries_in b))) (place_from (entry_of 1 (entries_in b))) = rw h at e in
    let x : p ≡ place_from (entry_of 0 (entries_in b)) = cc in
    let y : q ≡ place_from (entry_of 1 (entries_in b)) = cc in
    record {
      contents = h;
      entry0 = rw x (entry_place (entry_of 0 (entries_in b)));
      entry1 = rw y (entry_place (entry_of 1 (entries_in b)));
      inside0 = rw x (place_inside b h 0 (entry_of 0 (entries_in b)) refl);
      inside1 = rw y (place_inside b h 1 (entry_of 1 (entries_in b)) refl);
    })
    (λ h. let w : Lists p q ≡ Broken = rw h at e in let z : ◌≡◌ {A = ℕ} 0 1 = cc in let f : ⊥ = omega arith in absurd f)

pub breaks : (b : List ℕ) → Broken ≡ contents_in b → contents_ok b ≡ false
unfolding contents_in contents_from
breaks b e =
    test (contents_ok b)
    (λ h. let w : Broken ≡ Lists (place_from (entry_of 0 (entries_in b))) (place_from (entry_of 1 (entries_in b))) = rw h at e in let z : ◌≡◌ {A = ℕ} 0 1 = cc in let f : ⊥ = omega arith in absurd f)
    (λ h. h)
