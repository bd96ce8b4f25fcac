-- Question 4 asks what loading would accept. Assumes nothing.
use mathlib.Core.Path.{◌≡◌}
use mathlib.Core.Bool.{Bool, true, false, cond}
use mathlib.Core.List.{List, [], ◌∷◌}
use Prim.Native.Nat.{ℕ}
use native.Mathlib.Omega.{arith}
use lib.Dec.{leb}
use lib.ListN.{length}
use Rattle.field.specs.Number.{encode}
use Rattle.field.specs.Records.{bytes_of, Bytes}
use Rattle.field.specs.Fields.{field_bytes}
use Rattle.field.proofs.Bytes.{bytes_append}
use Rattle.field.proofs.Number.{encode_bytes}
use Rattle.field.proofs.Fields.{field_bytes_bytes}
use Rattle.field.proofs.Format.{Each, none, one, bytes_of_bytes}
use Rattle.fnv.specs.Fnv.{fnv64}
use Rattle.rules.specs.Values.{Index}
use Rattle.rules.specs.Sections.{marks_ok}
use Rattle.rules.specs.Hints.{unkept}
use Rattle.rules.specs.Questions.{hinting_ok, question4}
use Rattle.rules.specs.File.{header_bytes, header_of, encode_checkpoint, encode_frame, encode_held, encode_lsn, version_of, hint_section, confirmed_section, body_of, saved}
use Rattle.laws.proofs.hint_lists.Closure.{unmarked_stated}
use Rattle.laws.proofs.hint_lists.KeptHints.{unmarked_marks, unkept_unmarked}
use Rattle.laws.specs.Statements.{stripped}
use Rattle.laws.proofs.Marks.{unkept_length, unkept_ok}
use Rattle.laws.proofs.Layouts.{checkpoint_layout, lsn_layout, hint_layout, confirmation_layout, header_bytes_lemma, held_bytes, hint_widths, hint_values, hint_bytes}
use Rattle.laws.proofs.Readers.{frame_bytes}
use Rattle.laws.proofs.Facts.{SizeFacts}
use Rattle.laws.proofs.Saved.{hint_header_of, hint_bytes_lemma, confirmed_bytes_lemma}

-- ---- a saved list is bytes
bytes_each_of : {A : Type 0} {P : A → Type 0} (e : A → List ℕ) → ((x : A) → P x → Bytes (e x)) → {xs : List A} → Each P xs → Bytes (bytes_of e xs)
unfolding bytes_of
bytes_each_of e h none = λ i. omega arith
bytes_each_of e h (one {x = x} {xs = xs} p ps) = bytes_append (e x) (bytes_of e xs) (h x p) (bytes_each_of e h ps)

bytes_cond : (p : Bool) (s : List ℕ) → Bytes s → Bytes (cond p s [])
bytes_cond true s h = h
bytes_cond false s h = λ i. omega arith

pub saved_bytes : (x : Index) → SizeFacts x → Bytes (saved x)
unfolding saved body_of
saved_bytes x f =
    bytes_append (body_of x) (encode 8 (fnv64 (body_of x)))
    (bytes_append (header_bytes (header_of x)) _ (header_bytes_lemma (header_of x))
    (bytes_append (bytes_of encode_checkpoint x.scan.checkpoints) _ (bytes_of_bytes checkpoint_layout x.scan.checkpoints)
    (bytes_append (bytes_of encode_frame x.scan.frames) _ (bytes_each_of encode_frame frame_bytes f.frames)
    (bytes_append (bytes_of encode_held x.scan.parts) _ (bytes_each_of encode_held (λ p q. held_bytes p) f.parts)
    (bytes_append (bytes_of encode_lsn x.scan.malformed) _ (bytes_of_bytes lsn_layout x.scan.malformed)
    (bytes_append (hint_section x) (confirmed_section x)
    (rw (hint_bytes_lemma x) (bytes_cond (leb 2 (version_of x)) _ (bytes_append (hint_bytes (hint_header_of x)) _ (field_bytes_bytes hint_widths (hint_values (hint_header_of x))) (bytes_of_bytes hint_layout x.hinting.hints))))
    (rw (confirmed_bytes_lemma x) (bytes_cond (leb 3 (version_of x)) _ (bytes_append (field_bytes (4 ∷ 4 ∷ []) (length x.hinting.confirmed ∷ 0 ∷ [])) _ (field_bytes_bytes (4 ∷ 4 ∷ []) (length x.hinting.confirmed ∷ 0 ∷ [])) (bytes_of_bytes confirmation_layout x.hinting.confirmed))))))))))
    (encode_bytes 8 (fnv64 (body_of x)))

-- the checked mark and the image id do not matter to question 4, nor kept marks within the quarter
pub four_stripped : (x : Index) → marks_ok x.hinting.most x.hinting.hints ≡ true → question4 (stripped x) ≡ question4 x
unfolding question4 hinting_ok
four_stripped x m =
    let hs = x.hinting.hints in
    rw (unmarked_stated x.fingerprint, unkept_ok x.scan.area hs, unkept_length hs, m, unmarked_marks x.hinting.most (unkept hs) (unkept_unmarked hs))
