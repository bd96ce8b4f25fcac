-- Numbers one after another at the front of bytes. Assumes nothing.
use mathlib.Core.Path.{◌≡◌, refl, sym, ap, ◌∙◌}
use mathlib.Core.List.{List, [], ◌∷◌, ◌++◌}
use Prim.Native.Nat.{ℕ, ◌+◌, ◌≤◌}
use native.Mathlib.Omega.{arith}
use lib.ListN.{length, drop, take-append-drop}
use Rattle.field.specs.Records.{Bytes}
use Rattle.field.specs.Fields.{widths, fields_at, field_bytes, FieldsFit}
use Rattle.field.proofs.Number.{number_append}
use Rattle.field.proofs.Fields.{field_bytes_length, fields_at_bytes, field_bytes_at, fields_at_fit}

fields_at_front : (ws a r : List ℕ) (i : ℕ) → i + widths ws ≤ length a → fields_at ws (a ++ r) i ≡ fields_at ws a i
fields_at_front [] a r i h = refl
fields_at_front (w ∷ ws) a r i h = rw (number_append w a r i (omega arith), fields_at_front ws a r (i + w) (omega arith))

-- written and read again
pub fields_back : (ws vs r : List ℕ) → FieldsFit ws vs → fields_at ws (field_bytes ws vs ++ r) 0 ≡ vs
fields_back ws vs r f =
    fields_at_front ws (field_bytes ws vs) r 0 (rw field_bytes_length (omega arith)) ∙ fields_at_bytes ws vs f

-- read and written again
pub fields_forth : (ws b : List ℕ) → Bytes b → widths ws ≤ length b → field_bytes ws (fields_at ws b 0) ++ drop (widths ws) b ≡ b
fields_forth ws b h l = rw (field_bytes_at ws b 0 h (omega arith)) (take-append-drop (widths ws) b)

-- a type with those numbers
module _ {A : Type 0} (ws : List ℕ) {d : List ℕ → A} {e : A → List ℕ} (values : A → List ℕ) (make : List ℕ → A)
    (reads : (b : List ℕ) → values (d b) ≡ fields_at ws b 0)
    (writes : (x : A) → e x ≡ field_bytes ws (values x))
    (whole : (x : A) → make (values x) ≡ x) where
  pub front_back : (x : A) (r : List ℕ) → FieldsFit ws (values x) → d (e x ++ r) ≡ x
  front_back x r f = sym (whole (d (e x ++ r))) ∙ ap make (reads (e x ++ r) ∙ rw (writes x) (fields_back ws (values x) r f)) ∙ whole x

  pub front_forth : (b : List ℕ) → Bytes b → widths ws ≤ length b → e (d b) ++ drop (widths ws) b ≡ b
  front_forth b h l = rw (writes (d b), reads b) (fields_forth ws b h l)

  pub front_fit : (b : List ℕ) → Bytes b → FieldsFit ws (values (d b))
  front_fit b h = rw (reads b) (fields_at_fit ws b 0 h)
