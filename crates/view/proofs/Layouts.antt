-- The layouts of a view's sections, and their lengths. Assumes nothing.
use Prim.Native.Nat.{ℕ, suc, ◌+◌, ◌*◌}
use mathlib.Core.Path.{◌≡◌, refl, sym, ap, ◌∙◌}
use mathlib.Core.List.{List, [], ◌∷◌, append-nil}
use native.Mathlib.Omega.{arith}
use lib.Dec.{eqb}
use lib.ListN.{length, get_or, length-append}
use Rattle.field.specs.Records.{bytes_of}
use Rattle.field.specs.Fields.{field_bytes, FieldsFit}
use Rattle.field.proofs.Number.{encode_length}
use Rattle.field.proofs.Fields.{of_fields, field_bytes_length}
use Rattle.field.proofs.Format.{Layout, bytes_of_length}
use Rattle.rules.specs.declared.Area.{Area}
use Rattle.rules.specs.declared.Checkpoint.{Checkpoint}
use Rattle.rules.specs.declared.Held.{Held}
use Rattle.rules.specs.declared.Hint.{Hint}
use Rattle.rules.specs.Values.{Index}
use Rattle.rules.proofs.Tests.{test}
use Rattle.laws.proofs.Layouts.{lsn_layout, hint_layout, confirmation_layout}
use Rattle.rules_view.specs.View.{listener, workshop, Seen, Listener, seen_from, listener_of, Backing, HeldLength, Workshop, backings_of, lengths_of, workshop_of, word_bytes, Head, head_words, head_of, encode_seen, decode_seen, seen_bytes, listener_bytes, Totals, total_words, totals_of, encode_backing, decode_backing, encode_held_length, decode_held_length, encode_mark, workshop_bytes, workshop_size, view_bytes, view_length}

-- ---- words
abbrev pub head_widths : List ℕ
head_widths = 8 ∷ 8 ∷ 8 ∷ 8 ∷ 8 ∷ 8 ∷ 8 ∷ 8 ∷ 8 ∷ 8 ∷ 8 ∷ []

pub head_writes : (h : Head) → word_bytes (head_words h) ≡ field_bytes head_widths (head_words h)
unfolding bytes_of
head_writes h = refl

pub head_length : (h : Head) → length (word_bytes (head_words h)) ≡ 88
head_length h = rw head_writes (field_bytes_length head_widths (head_words h))

abbrev pub count_widths : List ℕ
count_widths = 8 ∷ 8 ∷ 8 ∷ 8 ∷ 8 ∷ 8 ∷ []

pub counts_writes : (c : Totals) → word_bytes (total_words c) ≡ field_bytes count_widths (total_words c)
unfolding bytes_of
counts_writes c = refl

pub counts_length : (c : Totals) → length (word_bytes (total_words c)) ≡ 48
counts_length c = rw counts_writes (field_bytes_length count_widths (total_words c))

-- ---- records
abbrev pub SeenFits : Seen → Type 0
SeenFits s = FieldsFit (4 ∷ 4 ∷ []) (s.lsn ∷ s.threshold ∷ [])

pub seen_layout : Layout 8 decode_seen encode_seen SeenFits
unfolding decode_seen encode_seen
seen_layout =
    of_fields (4 ∷ 4 ∷ []) (λ s. s.lsn ∷ s.threshold ∷ []) (λ v. record { lsn = get_or v 0 0; threshold = get_or v 1 0 }) (λ b. refl) (λ s. simp append-nil) (λ s. refl)

abbrev pub BackingFits : Backing → Type 0
BackingFits c = FieldsFit (4 ∷ 8 ∷ []) (c.back ∷ c.digest ∷ [])

pub behind_layout : Layout 12 decode_backing encode_backing BackingFits
unfolding decode_backing encode_backing
behind_layout =
    of_fields (4 ∷ 8 ∷ []) (λ c. c.back ∷ c.digest ∷ []) (λ v. record { back = get_or v 0 0; digest = get_or v 1 0 }) (λ b. refl) (λ c. simp append-nil) (λ c. refl)

abbrev pub LengthFits : HeldLength → Type 0
LengthFits p = FieldsFit (4 ∷ 4 ∷ []) (p.at ∷ p.len ∷ [])

pub length_layout : Layout 8 decode_held_length encode_held_length LengthFits
unfolding decode_held_length encode_held_length
length_layout =
    of_fields (4 ∷ 4 ∷ []) (λ p. p.at ∷ p.len ∷ []) (λ v. record { at = get_or v 0 0; len = get_or v 1 0 }) (λ b. refl) (λ p. simp append-nil) (λ p. refl)

-- ---- as many as there are checkpoints, and parts
pub seen_count : (a : Area) (k j : ℕ) (cs : List Checkpoint) → length (seen_from a k j cs) ≡ length cs
unfolding seen_from
seen_count a k j [] = refl
seen_count a k j (c ∷ cs) = ap suc (seen_count a k (suc j) cs)

pub behind_count : (cs : List Checkpoint) → length (backings_of cs) ≡ length cs
unfolding backings_of
behind_count [] = refl
behind_count (c ∷ cs) = ap suc (behind_count cs)

pub lengths_count : (ps : List Held) → length (lengths_of ps) ≡ length ps
unfolding lengths_of
lengths_count [] = refl
lengths_count (p ∷ ps) = ap suc (lengths_count ps)

pub behind_size : (x : Index) → length (workshop_of x).behind ≡ length x.scan.checkpoints
unfolding workshop_of
behind_size x = behind_count x.scan.checkpoints

pub same_counts : (x : Index) → length (workshop_of x).behind ≡ length (workshop_of x).seen.checkpoints
unfolding workshop_of listener_of
same_counts x = behind_count x.scan.checkpoints ∙ sym (seen_count x.scan.area x.scan.interval 0 x.scan.checkpoints)

-- ---- lengths
pub mark_length : (h : Hint) → length (encode_mark h) ≡ 1
unfolding encode_mark
mark_length h = encode_length 1 h.mark

pub marks_length : (hs : List Hint) → length (bytes_of encode_mark hs) ≡ length hs
unfolding bytes_of
marks_length [] = refl
marks_length (h ∷ hs) = length-append (encode_mark h) (bytes_of encode_mark hs) ∙ rw (mark_length h, marks_length hs) (omega arith)

pub seen_length : (role : ℕ) (v : Listener) → length (seen_bytes role v) ≡ 88 + length v.checkpoints * 8
unfolding seen_bytes
seen_length role v = rw (length-append, head_length (head_of role v), bytes_of_length seen_layout v.checkpoints)

pub workshop_length : (w : Workshop) → length w.behind ≡ length w.seen.checkpoints
    → length (workshop_bytes w) ≡ workshop_size (length w.seen.checkpoints) (totals_of w)
unfolding workshop_bytes workshop_size totals_of
workshop_length w e =
    rw (length-append, seen_length workshop w.seen, length-append, counts_length (totals_of w), length-append, bytes_of_length behind_layout w.behind, length-append, bytes_of_length lsn_layout w.malformed, length-append, bytes_of_length length_layout w.parts, length-append, bytes_of_length hint_layout w.hints, length-append, marks_length w.hints, bytes_of_length confirmation_layout w.confirmed, e)
    (omega arith)

seen_size : (x : Index) → length (listener_bytes (listener_of x)) ≡ 88 + 8 * length x.scan.checkpoints
unfolding listener_bytes listener_of
seen_size x = seen_length listener (listener_of x) ∙ rw (seen_count x.scan.area x.scan.interval 0 x.scan.checkpoints) (omega arith)

whole_size : (x : Index) → length (workshop_bytes (workshop_of x)) ≡ workshop_size (length x.scan.checkpoints) (totals_of (workshop_of x))
whole_size x =
    workshop_length (workshop_of x) (same_counts x) ∙ ap (λ (n : ℕ). workshop_size n (totals_of (workshop_of x))) (sym (same_counts x) ∙ behind_size x)

pub view_length_lemma : (role : ℕ) (x : Index) → length (view_bytes role x) ≡ view_length role x
unfolding view_bytes view_length
view_length_lemma role x = test (eqb role listener) (λ t. rw t (seen_size x)) (λ t. rw t (whole_size x))
