-- The views of a list. Assumes nothing.
use Rattle.std.specs.Prelude.{Option, None, Some}
use Prim.Native.Nat.{ℕ, suc, ◌+◌, ◌*◌, ◌%◌, ◌≤◌, ◌<◌}
use mathlib.Core.Path.{◌≡◌, refl, sym, ap, ap₂, ◌∙◌}
use mathlib.Core.Bool.{Bool, true, false, cond}
use mathlib.Core.List.{List, [], ◌∷◌, ◌++◌, append-nil, append_assoc}
use native.Mathlib.Omega.{arith}
use lib.Dec.{eqb, leb}
use lib.ListN.{length, take, drop, get_or}
use lib.Seq.{take_at, drop_at}
use borrow.Author.Tests.{eqb-true, eq-eqb, leb-true, ltb-true}
use Rattle.field.specs.Number.{encode, decode}
use Rattle.field.specs.Records.{records, bytes_of}
use Rattle.field.specs.Fields.{fields_at, FieldsFit}
use Rattle.field.proofs.Number.{encode_length, decode_encode}
use Rattle.field.proofs.Format.{Layout, Each, none as nothing, one, bytes_of_length, records_bytes}
use Rattle.rules.specs.declared.Area.{Area}
use Rattle.rules.specs.declared.Checkpoint.{Checkpoint}
use Rattle.rules.specs.declared.Held.{Held}
use Rattle.rules.specs.declared.Hint.{Hint}
use Rattle.rules.specs.Tests.{all, is_some, Refused, Accepted, after, Ask, ask, first_no}
use Rattle.rules.specs.Values.{Index, Lengths, lim, boundaries, lsn_of, complete, stated}
use Rattle.rules.specs.Sections.{rising, hint_lsn, hint_ok, hints_ok, mark_ok, marks_ok}
use Rattle.rules.specs.Questions.{four}
use Rattle.rules.specs.Hints.{unkept}
use Rattle.rules.specs.Sizes.{sized}
use Rattle.rules.specs.File.{encode_lsn, encode_hint, decode_hint, encode_confirmation, decode_confirmation, bit, or_zero}
use Rattle.rules.proofs.Tests.{test, choose, all→, →all, each→, each_both, asked, accepted→, some_eq}
use Rattle.rules.proofs.Walk.{rising_each}
use Rattle.laws.proofs.Numbers.{front_back}
use Rattle.laws.proofs.Layouts.{CheckpointFits, lsn_layout, LsnFits, hint_layout, HintFits, confirmation_layout, ConfirmationFits, HeldFits}
use Rattle.laws.proofs.Marks.{unkept_length, unkept_bytes, unkept_each}
use Rattle.laws.proofs.Facts.{Facts, facts}
use Rattle.laws.proofs.Header.{scan_counts, few_boundaries}
use Rattle.laws.proofs.Ranges.{AreaFacts}
use Rattle.laws.proofs.scans.Scans.{in_boundary}
use Rattle.view.proofs.Layouts.{head_widths, head_writes, head_length, count_widths, counts_writes, counts_length, SeenFits, seen_layout, BackingFits, behind_layout, LengthFits, length_layout, seen_count, lengths_count, same_counts, marks_length, seen_length, workshop_length, view_length_lemma}
use Rattle.rules_view.specs.View.{listener, workshop, Listener, seen_from, listener_of, Workshop, backings_of, lengths_of, workshop_of, word_bytes, Head, head_words, read_head, head_of, encode_seen, seen_bytes, listener_bytes, Totals, total_words, read_totals, totals_of, encode_backing, encode_held_length, encode_mark, workshop_bytes, listener_from, seen_in, read_listener, with_marks, workshop_from, workshop_size, behind_seen, read_workshop, is_role, view_bytes, view_length, view, view_size}
use Rattle.rules_view.specs.Roles.{as_workshop}
use Rattle.theorems.specs.Terms.{Valid}
use Rattle.theorems.specs.View.{ListenerTold, WorkshopTold, ViewsTell, ListenerSees, WorkshopAdds, WorkshopIsBase, ListenerRefused, ViewNumber}
use Rattle.laws.proofs.Saved.{known_small}
use Rattle.index.proofs.Standing.{checkpoints_fits, parts_fits, malformed_fits, confirmed_fits}

-- ---- layouts
abbrev head_from : List ℕ → Head
head_from v =
    record {
      role = get_or v 0 0;
      slot = get_or v 1 0;
      channels = get_or v 2 0;
      key_start = get_or v 3 0;
      key_end = get_or v 4 0;
      sectors = get_or v 5 0;
      start = get_or v 6 0;
      end = get_or v 7 0;
      interval = get_or v 8 0;
      complete = get_or v 9 0;
      count = get_or v 10 0;
    }

head_reads : (b : List ℕ) → head_words (read_head b) ≡ fields_at head_widths b 0
unfolding read_head
head_reads b = refl

head_back : (h : Head) (r : List ℕ) → FieldsFit head_widths (head_words h) → read_head (word_bytes (head_words h) ++ r) ≡ h
head_back = front_back head_widths {d = read_head} {e = λ h. word_bytes (head_words h)} head_words head_from head_reads
    head_writes (λ h. refl)

abbrev counts_from : List ℕ → Totals
counts_from v = record {
  malformed = get_or v 0 0;
  parts = get_or v 1 0;
  hints = get_or v 2 0;
  known = get_or v 3 0;
  fingerprint = get_or v 4 0;
  confirmed = get_or v 5 0;
}

counts_reads : (b : List ℕ) → total_words (read_totals b) ≡ fields_at count_widths b 0
unfolding read_totals
counts_reads b = refl

counts_back : (c : Totals) (r : List ℕ) → FieldsFit count_widths (total_words c)
    → read_totals (word_bytes (total_words c) ++ r) ≡ c
counts_back = front_back count_widths {d = read_totals} {e = λ c. word_bytes (total_words c)} total_words counts_from
    counts_reads counts_writes (λ c. refl)

-- ---- what a listener sees
bit_back : (p : Bool) → eqb (bit p) 1 ≡ p
unfolding bit
bit_back true = refl
bit_back false = refl

pub record ListenerFits (v : Listener) : Type 0 where
  pub head : FieldsFit head_widths (head_words (head_of listener v))
  pub head' : FieldsFit head_widths (head_words (head_of workshop v))
  pub seen : Each SeenFits v.checkpoints

module _ (role : ℕ) (v : Listener) (r : List ℕ) where
  seen_split : seen_bytes role v ++ r ≡ word_bytes (head_words (head_of role v))
      ++ (bytes_of encode_seen v.checkpoints ++ r)
  unfolding seen_bytes
  seen_split = append_assoc (word_bytes (head_words (head_of role v))) (bytes_of encode_seen v.checkpoints) r

  head_told : FieldsFit head_widths (head_words (head_of role v)) → read_head (seen_bytes role v ++ r) ≡ head_of role v
  head_told f = ap read_head seen_split ∙ head_back (head_of role v) (bytes_of encode_seen v.checkpoints ++ r) f

  behind_head : drop 88 (seen_bytes role v ++ r) ≡ bytes_of encode_seen v.checkpoints ++ r
  behind_head =
      ap (drop 88) seen_split ∙ drop_at (word_bytes (head_words (head_of role v)))
      (bytes_of encode_seen v.checkpoints ++ r) 88 (head_length (head_of role v))

  from_told : Each SeenFits v.checkpoints → listener_from (head_of role v)
      (bytes_of encode_seen v.checkpoints ++ r) ≡ v
  unfolding listener_from head_of
  from_told s = rw (bit_back v.complete, records_bytes seen_layout r s)

  seen_told : FieldsFit head_widths (head_words (head_of role v)) → Each SeenFits v.checkpoints
      → seen_in (seen_bytes role v ++ r) ≡ v
  unfolding seen_in
  seen_told f s = ap₂ listener_from (head_told f) behind_head ∙ from_told s

head_role : (role : ℕ) (v : Listener) → (head_of role v).role ≡ role
unfolding head_of
head_role role v = refl

head_count : (role : ℕ) (v : Listener) → (head_of role v).count ≡ length v.checkpoints
unfolding head_of
head_count role v = refl

listener_told : (v : Listener) → ListenerFits v → read_listener (listener_bytes v) ≡ Some v
unfolding read_listener listener_bytes
listener_told v f =
    let h : read_head (seen_bytes listener v) ≡ head_of listener v = rw append-nil at
    (head_told listener v [] f.head) in
    let s : seen_in (seen_bytes listener v) ≡ v = rw append-nil at (seen_told listener v [] f.head f.seen) in
    let n : length (seen_bytes listener v) ≡ 88 + (read_head (seen_bytes listener v)).count * 8 = rw
    (h, head_count listener v) (seen_length listener v) in
    let t : all (eqb (read_head (seen_bytes listener v)).role listener
    ∷ eqb (length (seen_bytes listener v)) (88 + (read_head (seen_bytes listener v)).count * 8) ∷ []) ≡ true =
    →all _ (eq-eqb _ _ (ap (λ (h : Head). h.role) h ∙ head_role listener v), (eq-eqb _ _ n, tt)) in
    rw (t, s)

-- ---- the numbers of a list fit
bit_small : (p : Bool) → bit p ≤ 1
unfolding bit
bit_small true = omega arith
bit_small false = omega arith

module _ (a : Area) (k : ℕ) (l : 1 ≤ k) (f : AreaFacts a) where
  seen_fits : (j : ℕ) {cs : List Checkpoint} → j + length cs ≤ boundaries a k → Each CheckpointFits cs
      → Each SeenFits (seen_from a k j cs)
  unfolding seen_from
  seen_fits j h nothing = nothing
  seen_fits j h (one {x = c} {xs = cs} p ps) =
      let b = in_boundary a k j l (omega arith) in
      let s : SeenFits (record { lsn = lsn_of a k j; threshold = c.threshold }) = omega arith in
      one s (seen_fits (suc j) (omega arith) ps)

behind_fits : {cs : List Checkpoint} → Each CheckpointFits cs → Each BackingFits (backings_of cs)
unfolding backings_of
behind_fits nothing = nothing
behind_fits (one {x = c} p ps) = one (p.1.0, (p.1.1.1.0, tt)) (behind_fits ps)

module _ (x : Index) (f : Facts x) where
  head_fits : (role : ℕ) → role ≤ 2 → FieldsFit head_widths (head_words (head_of role (listener_of x)))
  unfolding head_of listener_of
  head_fits role r =
      let c = scan_counts x f in
      let b = few_boundaries x f in
      let p = bit_small (complete x.scan) in
      let n = seen_count x.scan.area x.scan.interval 0 x.scan.checkpoints in
      omega arith

  listener_fits : ListenerFits (listener_of x)
  listener_fits =
      record {
        head = head_fits listener (omega arith);
        head' = head_fits workshop (omega arith);
        seen =
            unfold listener_of in
            seen_fits x.scan.area x.scan.interval f.numbers.low f.area 0
            (let c = scan_counts x f in omega arith) (checkpoints_fits x f);
      }

-- ---- an accepted view
pub record Viewed (role : ℕ) (l : Lengths) (x : Index) (out : ℕ) (b : List ℕ) : Type 0 where
  pub is_role : is_role role ≡ true
  pub valid : Valid l x
  pub fits : view_length role x ≤ out
  pub is : view_bytes role x ≡ b

viewed : (role : ℕ) (l : Lengths) (x : Index) (out : ℕ) (b : List ℕ) → view role l x out ≡ Accepted b
    → Viewed role l x out b
unfolding view
viewed role l x out b e =
    let t = accepted→ _ (view_bytes role x) b e in let s = asked _ refl t.0 in
    record {
      is_role = s.0;
      valid = record { one = s.1.0; two = s.1.1.0; three = s.1.1.1.0; four = s.1.1.1.1.0 };
      fits = leb-true _ _ s.1.1.1.1.1.0;
      is = t.1;
    }

facts_of : {l : Lengths} (x : Index) → sized x ≡ true → Valid l x → Facts x
facts_of x z v = facts x (record { one = v.one; two = v.two; four = v.four; sizes = z })

listener_bytes_lemma : (x : Index) → view_bytes listener x ≡ listener_bytes (listener_of x)
unfolding view_bytes
listener_bytes_lemma x = refl

workshop_bytes_lemma : (x : Index) → view_bytes workshop x ≡ workshop_bytes (workshop_of x)
unfolding view_bytes
workshop_bytes_lemma x = refl

pub listener_tells : ListenerTold
listener_tells l x out b z e =
    let v = viewed listener l x out b e in
    ap read_listener (sym v.is ∙ listener_bytes_lemma x)
    ∙ listener_told (listener_of x) (listener_fits x (facts_of x z v.valid))

-- ---- non-interference
listener_size : (x : Index) → view_length listener x ≡ 88 + 8 * length (listener_of x).checkpoints
unfolding view_length listener_of
listener_size x = rw (seen_count x.scan.area x.scan.interval 0 x.scan.checkpoints)

module _ (l m : Lengths) (x y : Index) (v : Valid l x) (w : Valid m y) (e : listener_of x ≡ listener_of y) where
  same_size : view_length listener x ≡ view_length listener y
  same_size = listener_size x ∙ ap (λ (u : Listener). 88 + 8 * length u.checkpoints) e ∙ sym (listener_size y)

  same_view : (out : ℕ) → view listener l x out ≡ view listener m y out
  unfolding view is_role first_no
  same_view out = rw (
    v.one,
    v.two,
    v.three,
    v.four,
    w.one,
    w.two,
    w.three,
    w.four,
    same_size,
    listener_bytes_lemma x,
    listener_bytes_lemma y,
    e,
  )

  same_told : view_size listener l x ≡ view_size listener m y
  unfolding view_size is_role first_no
  same_told = rw (v.one, v.two, v.three, v.four, w.one, w.two, w.three, w.four, same_size)

pub listener_sees : ListenerSees
listener_sees = record { same = λ l m x y out v w e. same_view l m x y v w e out; size = same_told }

-- ---- what the workshop sees beside it
-- a hint's numbers fit their fields, and its mark a byte
abbrev HintShown : Hint → Type 0
HintShown h = FieldsFit (4 ∷ 4 ∷ []) (h.lsn ∷ h.number ∷ []) × (h.mark < 256)

-- the hints without their marks, and with them again
hints_told : (hs : List Hint) (r : List ℕ) → Each HintShown hs
    → records 8 decode_hint (length hs) (bytes_of encode_hint hs ++ r) ≡ unkept hs
hints_told hs r f =
    ap (λ (b : List ℕ). records 8 decode_hint (length hs) (b ++ r)) (sym (unkept_bytes hs))
    ∙ ap (λ (n : ℕ). records 8 decode_hint n (bytes_of encode_hint (unkept hs) ++ r)) (sym (unkept_length hs))
    ∙ records_bytes hint_layout r (unkept_each {Q = HintFits} (λ h p. (p.0, refl)) f)

marks_told : {hs : List Hint} (r : List ℕ) → Each HintShown hs → with_marks (unkept hs) (bytes_of encode_mark hs ++ r) ≡ hs
unfolding with_marks unkept bytes_of encode_mark encode
marks_told r nothing = refl
marks_told r (one {x = h} p ps) = let m : h.mark % 256 ≡ h.mark = omega arith in rw (m, marks_told r ps)

pub record WorkshopFits (w : Workshop) : Type 0 where
  pub seen : ListenerFits w.seen
  pub counts : FieldsFit count_widths (total_words (totals_of w))
  pub same : length w.behind ≡ length w.seen.checkpoints
  pub behind : Each BackingFits w.behind
  pub malformed : Each LsnFits w.malformed
  pub parts : Each LengthFits w.parts
  pub hints : Each HintShown w.hints
  pub confirmed : Each ConfirmationFits w.confirmed

known_back : (o : Option ℕ) → cond (eqb (bit (is_some o)) 1) (Some (or_zero o)) None ≡ o
unfolding bit is_some or_zero
known_back None = refl
known_back (Some v) = refl

-- the bytes behind a section
behind_section : {A : Type 0} {w : ℕ} {d : List ℕ → A} {e : A → List ℕ} {F : A → Type 0} (l : Layout w d e F)
    (xs : List A) (r : List ℕ)
    → drop (length xs * w) (bytes_of e xs ++ r) ≡ r
behind_section {w = w} {e = e} l xs r = drop_at (bytes_of e xs) r (length xs * w) (bytes_of_length l xs)

module _ (w : Workshop) where
  abbrev s6 : List ℕ
  s6 = bytes_of encode_confirmation w.confirmed

  abbrev s5 : List ℕ
  s5 = bytes_of encode_mark w.hints ++ s6

  abbrev s4 : List ℕ
  s4 = bytes_of encode_hint w.hints ++ s5

  abbrev s3 : List ℕ
  s3 = bytes_of encode_held_length w.parts ++ s4

  abbrev s2 : List ℕ
  s2 = bytes_of encode_lsn w.malformed ++ s3

  abbrev s1 : List ℕ
  s1 = bytes_of encode_backing w.behind ++ s2

  abbrev s0 : List ℕ
  s0 = word_bytes (total_words (totals_of w)) ++ s1

  workshop_split : workshop_bytes w ≡ seen_bytes workshop w.seen ++ s0
  unfolding workshop_bytes
  workshop_split = refl

  module _ (f : WorkshopFits w) where
    sections_told : workshop_from w.seen (length w.behind) (totals_of w) s1 ≡ w
    unfolding workshop_from totals_of
    sections_told =
        let last : records 16 decode_confirmation (length w.confirmed) s6
        ≡ w.confirmed = rw append-nil at (records_bytes confirmation_layout [] f.confirmed) in
        rw (
          behind_section behind_layout w.behind s2,
          behind_section lsn_layout w.malformed s3,
          behind_section length_layout w.parts s4,
          behind_section hint_layout w.hints s5,
          drop_at (bytes_of encode_mark w.hints) s6 (length w.hints) (marks_length w.hints),
          records_bytes behind_layout s2 f.behind,
          records_bytes lsn_layout s3 f.malformed,
          records_bytes length_layout s4 f.parts,
          hints_told w.hints s5 f.hints,
          marks_told s6 f.hints,
          last,
          known_back w.fingerprint,
        )

    abbrev all_bytes : List ℕ
    all_bytes = workshop_bytes w

    head_is : read_head all_bytes ≡ head_of workshop w.seen
    head_is = ap read_head workshop_split ∙ head_told workshop w.seen s0 f.seen.head'

    count_is : (read_head all_bytes).count ≡ length w.seen.checkpoints
    count_is = ap (λ (h : Head). h.count) head_is ∙ head_count workshop w.seen

    behind_is : behind_seen all_bytes ≡ s0
    behind_is =
        ap (λ (n : ℕ). drop (88 + n * 8) all_bytes) count_is
        ∙ ap (drop (88 + length w.seen.checkpoints * 8)) workshop_split
        ∙ drop_at (seen_bytes workshop w.seen) s0 (88 + length w.seen.checkpoints * 8)
        (seen_length workshop w.seen)

    counts_is : read_totals (behind_seen all_bytes) ≡ totals_of w
    counts_is = ap read_totals behind_is ∙ counts_back (totals_of w) s1 f.counts

    sections_is : drop 48 (behind_seen all_bytes) ≡ s1
    sections_is = ap (drop 48) behind_is ∙ drop_at (word_bytes (total_words (totals_of w))) s1 48
        (counts_length (totals_of w))

    seen_is : seen_in all_bytes ≡ w.seen
    seen_is = ap seen_in workshop_split ∙ seen_told workshop w.seen s0 f.seen.head' f.seen.seen

    workshop_told : read_workshop (workshop_bytes w) ≡ Some w
    unfolding read_workshop
    workshop_told =
        let n = count_is ∙ sym f.same in
        let t : all (eqb (read_head all_bytes).role workshop
        ∷ eqb (length all_bytes) (workshop_size (read_head all_bytes).count (read_totals (behind_seen all_bytes))) ∷ [])
        ≡ true =
        →all _ (
          eq-eqb _ _ (ap (λ (h : Head). h.role) head_is ∙ head_role workshop w.seen),
          (eq-eqb _ _ (workshop_length w f.same ∙ sym (ap₂ workshop_size count_is counts_is)), tt),
        ) in
        let v : workshop_from (seen_in all_bytes) (read_head all_bytes).count (read_totals (behind_seen all_bytes))
        (drop 48 (behind_seen all_bytes)) ≡ w =
        (λ i. workshop_from (seen_is i) (n i) (counts_is i) (sections_is i)) ∙ sections_told in
        rw (t, v)

lengths_fit : {ps : List Held} → Each HeldFits ps → Each LengthFits (lengths_of ps)
unfolding lengths_of
lengths_fit nothing = nothing
lengths_fit (one {x = p} h hs) = let n = h.numbers in one (n.0, (n.1.1.0, tt)) (lengths_fit hs)

module _ (x : Index) (f : Facts x) where
  each_hint : Each HintShown x.hinting.hints
  unfolding hints_ok rising marks_ok
  each_hint =
      each_both (λ h p q. let n = ltb-true h.number lim p.1 in let m = leb-true h.mark 1 q in omega arith)
      (rising_each hint_lsn hint_ok x.scan.area.end x.scan.area.start x.hinting.hints f.hinting.hints)
      (each→ mark_ok x.hinting.hints (all→ _ f.hinting.marks).0)

  counts_fit : FieldsFit count_widths (total_words (totals_of (workshop_of x)))
  unfolding totals_of workshop_of
  counts_fit =
      let c = scan_counts x f in
      let b = few_boundaries x f in
      let n = lengths_count x.scan.parts in
      let p = bit_small (is_some (stated x.fingerprint)) in
      let k = known_small (stated x.fingerprint) f.sizes.known in
      omega arith

  workshop_fits : WorkshopFits (workshop_of x)
  workshop_fits =
      record {
        seen = unfold workshop_of in listener_fits x f;
        counts = counts_fit;
        same = same_counts x;
        behind = unfold workshop_of in behind_fits (checkpoints_fits x f);
        malformed = unfold workshop_of in malformed_fits x f;
        parts = unfold workshop_of in lengths_fit (parts_fits x f);
        hints = unfold workshop_of in each_hint;
        confirmed = unfold workshop_of in confirmed_fits x f;
      }

pub workshop_tells : WorkshopTold
workshop_tells l x out b z e =
    let v = viewed workshop l x out b e in
    ap read_workshop (sym v.is ∙ workshop_bytes_lemma x)
    ∙ workshop_told (workshop_of x) (workshop_fits x (facts_of x z v.valid))

-- ---- the first word
abbrev later_words : Listener → List ℕ
later_words v =
    let h = head_of listener v in
    h.slot ∷ h.channels ∷ h.key_start ∷ h.key_end ∷ h.sectors ∷ h.start ∷ h.end ∷ h.interval ∷ h.complete
    ∷ h.count ∷ []

abbrev behind_role : Listener → List ℕ
behind_role v = word_bytes (later_words v) ++ bytes_of encode_seen v.checkpoints

role_split : (role : ℕ) (v : Listener) → seen_bytes role v ≡ encode 8 role ++ behind_role v
unfolding seen_bytes head_of bytes_of
role_split role v = append_assoc (encode 8 role) (word_bytes (later_words v)) (bytes_of encode_seen v.checkpoints)

behind_role_lemma : (role : ℕ) (v : Listener) → drop 8 (seen_bytes role v) ≡ behind_role v
behind_role_lemma role v = ap (drop 8) (role_split role v) ∙ drop_at (encode 8 role) (behind_role v) 8 (encode_length 8 role)

role_told : (role : ℕ) (v : Listener) (r : List ℕ) → role ≤ 2 → decode (take 8 (seen_bytes role v ++ r)) ≡ role
role_told role v r h =
    ap (λ (b : List ℕ). decode (take 8 (b ++ r))) (role_split role v)
    ∙ ap (λ (b : List ℕ). decode (take 8 b)) (append_assoc (encode 8 role) (behind_role v) r)
    ∙ ap decode (take_at (encode 8 role) (behind_role v ++ r) 8 (encode_length 8 role))
    ∙ decode_encode 8 role (omega arith)

pub workshop_adds : WorkshopAdds
unfolding listener_bytes workshop_of
workshop_adds x =
    let v = listener_of x in
    let w = workshop_of x in
    let l : length (seen_bytes workshop v) ≡ length (seen_bytes listener v) = seen_length workshop v
    ∙ sym (seen_length listener v) in
    ap (λ (b : List ℕ). drop 8 (take (length (seen_bytes listener v)) b)) (workshop_split w)
    ∙ ap (drop 8) (take_at (seen_bytes workshop v) (s0 w) (length (seen_bytes listener v)) l) ∙ behind_role_lemma workshop v
    ∙ sym (behind_role_lemma listener v)

-- ---- equal views
listener_role : (x : Index) → decode (take 8 (listener_bytes (listener_of x))) ≡ listener
unfolding listener_bytes
listener_role x = rw append-nil at (role_told listener (listener_of x) [] (omega arith))

workshop_role : (x : Index) → decode (take 8 (workshop_bytes (workshop_of x))) ≡ workshop
workshop_role x = ap (λ (b : List ℕ). decode (take 8 b)) (workshop_split (workshop_of x))
    ∙ role_told workshop (workshop_of x).seen (s0 (workshop_of x)) (omega arith)

pub views_tell : ViewsTell
views_tell =
    record {
      listeners = λ l m x y out out' b z z' e e'. some_eq
          (sym (listener_tells l x out b z e) ∙ listener_tells m y out' b z' e');
      workshops = λ l m x y out out' b z z' e e'. some_eq
          (sym (workshop_tells l x out b z e) ∙ workshop_tells m y out' b z' e');
      apart = λ l m x y out out' b c e e' q.
          let p : decode (take 8 b) ≡ 1 = ap (λ (b : List ℕ). decode (take 8 b))
          (sym (viewed listener l x out b e).is ∙ listener_bytes_lemma x) ∙ listener_role x in
          let p' : decode (take 8 c) ≡ 2 = ap (λ (b : List ℕ). decode (take 8 b))
          (sym (viewed workshop m y out' c e').is ∙ workshop_bytes_lemma y) ∙ workshop_role y in
          let r : ◌≡◌ {A = ℕ} 1 2 = sym p ∙ ap (λ (b : List ℕ). decode (take 8 b)) q ∙ p' in omega arith;
    }

-- ---- roles
pub workshop_is_base : WorkshopIsBase
unfolding as_workshop first_no after
workshop_is_base A r = refl

pub listener_refused : ListenerRefused
unfolding as_workshop first_no after
listener_refused A role r h = test (eqb role workshop) (λ t. absurd (h (eqb-true role workshop t))) (λ t. rw t)

-- ---- lengths and refusals
pub least_size : (role : ℕ) (x : Index) → 88 ≤ view_length role x
unfolding view_length workshop_size
least_size role x = test (eqb role listener) (λ t. rw t (omega arith)) (λ t. rw t (omega arith))

-- no number of a question is above m
abbrev few : ℕ → List Ask → Type 0
few m [] = Unit {0}
few m (q ∷ qs) = (q.number ≤ m) × few m qs

first_few : (m : ℕ) (qs : List Ask) → few m qs → first_no qs ≤ m
unfolding first_no
first_few m [] h = omega arith
first_few m (q ∷ qs) h = choose (λ n. n ≤ m) q.ok (first_no qs) q.number (λ t. first_few m qs h.1) (λ t. h.0)

refused_eq : {A : Type 0} (n k : ℕ) (a : A) → after n (Accepted a) ≡ Refused k → n ≡ k
unfolding after
refused_eq n k a e =
    test (eqb n 0) (λ t. let w : Accepted a ≡ Refused k = rw t at e in let z : ◌≡◌ {A = ℕ} 0 1 = cc
    in let f : ⊥ = omega arith in absurd f)
    (λ t. let w : Refused n ≡ Refused k = rw t at e in cc)

pub view_number : ViewNumber
view_number =
    record {
      length' = λ role l x out b e.
          let v = viewed role l x out b e in let n = ap length (sym v.is) ∙ view_length_lemma role x in
          (n, let m = least_size role x in omega arith, let m = v.fits in omega arith);
      refusal = λ role l x out n e.
          unfold view in
          let q = refused_eq _ n (view_bytes role x) e in
          let m = first_few 54 (ask (is_role role) 52 ∷ four l x (ask (leb (view_length role x) out) 40 ∷ []))
          (omega arith) in omega arith;
    }
