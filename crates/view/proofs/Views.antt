-- What 52 and questions 1 to 4 say to the writers, the sections of a view, and the answers. Assumes nothing.
use mathlib.Core.Path.{◌≡◌, refl, sym, ap, ◌∙◌}
use mathlib.Core.Bool.{true, false, cond}
use mathlib.Core.List.{List, [], ◌∷◌, ◌++◌}
use Prim.Native.Nat.{ℕ, ◌+◌, ◌*◌, ◌≤◌, ◌<◌}
use native.Mathlib.Omega.{arith}
use borrow.Author.Tests.{ne_eqb, eq-eqb, eqb-true, le-leb, lt-leb}
use lib.Dec.{eqb, leb}
use lib.ListN.{length}
use Rattle.field.specs.Records.{bytes_of}
use Rattle.field.proofs.Records.{records_length}
use Rattle.rules.specs.declared.AreaIndex.{AreaIndex}
use Rattle.rules.specs.Tests.{Answer, Refused, Accepted, each, after, ask, first_no}
use Rattle.rules.specs.Values.{Index, Lengths}
use Rattle.rules.specs.Questions.{four}
use Rattle.rules.specs.File.{over, decode_lsn, decode_confirmation, decode_checkpoint, decode_held}
use Rattle.rules.proofs.Tests.{test, never}
use Rattle.tables.specs.Tables.{checkpoints_in, parts_in, decode_kept}
use Rattle.index.specs.Steps.{Passes}
use Rattle.tables.specs.Index.{Tables, tables, index_in, room_of, refusal}
use Rattle.index.proofs.Four.{kinded_index}
use Rattle.index.proofs.Questions.{passes, passes_long, passes_hints, range}
use Rattle.save.specs.Output.{Put}
use Rattle.save.proofs.output.Stretches.{put_both, put_over}
use Rattle.rules_view.specs.View.{is_role, listener_of, workshop_of, head_of, encode_seen, totals_of, seen_bytes, listener_bytes, workshop_bytes, workshop_size, word_bytes, head_words, view_bytes, view_length, view, view_size}
use Rattle.view.specs.Sections.{head_in, seen_of, listener_in, behind_bytes, behind_size, Shown}
use Rattle.view.specs.View.{viewed, view_out, in_role, view_in, view_size_in}
use Rattle.view.specs.Steps.{asked}
use Rattle.view.proofs.write.Words.{sets_over}
use Rattle.view.proofs.Layouts.{head_length, seen_count, lengths_count, view_length_lemma}

-- ---- where 52 and 1 to 4 hold
module _ (role : ℕ) (x : AreaIndex) (t : Tables) where
  pub asked_role : is_role role ≡ true → asked role x t ≡ refusal x t
  unfolding asked
  asked_role h = rw h

  pub asked_52 : is_role role ≡ false → asked role x t ≡ 52
  unfolding asked
  asked_52 h = rw h

  module _ {n : ℕ} (e : n ≡ asked role x t) (z : n ≡ 0) where
    pub role_is : is_role role ≡ true
    role_is = test (is_role role) (λ h. h) (λ h. let w = asked_52 h in let f : ⊥ = omega arith in absurd f)

    pass : Passes x t
    pass = passes x t (sym (asked_role role_is) ∙ sym e ∙ z)

    pub shown : Shown x t.checkpoints t.parts t.malformed t.hints t.confirmed
    shown =
        let a = range x.area pass.roomy.area in
        let l = passes_long pass in
        let h = passes_hints pass in
        record {
          start = omega (arith, a.order, a.end);
          checkpoints = l.checkpoints;
          parts = l.parts;
          malformed = l.malformed;
          hints = h.hints;
          confirmed = h.confirmed;
        }

-- ---- lengths
module _ (role : ℕ) (x : AreaIndex) (t : Tables) where
  pub listener_size : role ≡ 1 → 88 + 8 * x.checkpoints ≡ view_length role (index_in x t)
  unfolding view_length
  listener_size h = rw (eq-eqb role 1 h, records_length 24 decode_checkpoint x.checkpoints t.checkpoints)

  pub workshop_size_lemma : (role ≡ 1 → ⊥)
      → 136 + 20 * x.checkpoints + 4 * x.malformed + 8 * x.parts + 9 * x.hints + 16 * x.confirmed ≡ view_length role (index_in x t)
  unfolding view_length workshop_size totals_of workshop_of
  workshop_size_lemma h =
      rw (ne_eqb role 1 h, records_length 24 decode_checkpoint x.checkpoints t.checkpoints, records_length 4 decode_lsn x.malformed t.malformed, lengths_count (parts_in x.parts t.parts), records_length 24 decode_held x.parts t.parts, records_length 8 decode_kept x.hints t.hints, records_length 16 decode_confirmation x.confirmed t.confirmed)

  -- the room of the sections
  pub listener_room : {k : ℕ} → view_length role (index_in x t) ≤ k → 88 + x.checkpoints * 8 ≤ k
  listener_room h = test (eqb role 1) (λ e. let l = listener_size (eqb-true role 1 e) in omega arith)
      (λ e. let l = workshop_size_lemma (λ q. never (eq-eqb role 1 q) e) in omega arith)

  pub workshop_room : {k : ℕ} → (role ≡ 1 → ⊥) → view_length role (index_in x t) ≤ k → 88 + x.checkpoints * 8 + behind_size x ≤ k
  workshop_room e h = let l = workshop_size_lemma e in omega arith

-- ---- sections
-- what lies over the start is put there
pub over_put : {o' : List ℕ} (s : List ℕ) (k : ℕ) (o : List ℕ) → length s ≡ k → k ≤ length o → o' ≡ over s o → Put s k o 0 k o'
over_put s k o l h e = record { size = l; ends = omega arith; bytes = e ∙ sym (sets_over s k o l h) }

pub seen_is : (role : ℕ) (x : AreaIndex) (t : List ℕ) → word_bytes (head_words (head_in role x)) ++ bytes_of encode_seen (seen_of x t) ≡ seen_bytes role (listener_in x t)
unfolding seen_bytes head_of listener_of
seen_is role x t = rw (seen_count x.area x.interval 0 (checkpoints_in x.checkpoints t), records_length 24 decode_checkpoint x.checkpoints t)

put_same : {s s' : List ℕ} {k : ℕ} {o : List ℕ} {a b : ℕ} {o' : List ℕ} → s ≡ s' → Put s k o a b o' → Put s' k o a b o'
put_same {k = k} {o} {a} {b} {o'} e p = rw e at p

pub head_behind : (role : ℕ) (x : AreaIndex) (t : List ℕ) {o o1 o2 : List ℕ} {n : ℕ} → o1 ≡ over (word_bytes (head_words (head_in role x))) o → 88 ≤ length o
    → Put (bytes_of encode_seen (seen_of x t)) (x.checkpoints * 8) o1 88 n o2 → Put (seen_bytes role (listener_in x t)) (88 + x.checkpoints * 8) o 0 n o2
head_behind role x t {o} e h p =
    put_same (seen_is role x t) (put_both (over_put (word_bytes (head_words (head_in role x))) 88 o (head_length (head_in role x)) h e) p)

module _ (role : ℕ) (x : AreaIndex) (t : Tables) where
  listener_is : role ≡ 1 → seen_bytes role (listener_in x t.checkpoints) ≡ view_bytes role (index_in x t)
  unfolding view_bytes listener_bytes listener_of
  listener_is h = rw h

  workshop_is : role ≡ 2 → seen_bytes role (listener_in x t.checkpoints) ++ behind_bytes x t.checkpoints t.parts t.malformed t.hints t.confirmed
      ≡ view_bytes role (index_in x t)
  unfolding view_bytes workshop_bytes workshop_of totals_of listener_of
  workshop_is h =
      rw (h, records_length 4 decode_lsn x.malformed t.malformed, lengths_count (parts_in x.parts t.parts), records_length 24 decode_held x.parts t.parts, records_length 8 decode_kept x.hints t.hints, records_length 16 decode_confirmation x.confirmed t.confirmed)

  other_role : is_role role ≡ true → (role ≡ 1 → ⊥) → role ≡ 2
  unfolding is_role
  other_role h e = let w : eqb role 2 ≡ true = rw (ne_eqb role 1 e) at h in eqb-true role 2 w

  pub listener_written : {o o' : List ℕ} {k n : ℕ} → role ≡ 1 → Put (seen_bytes role (listener_in x t.checkpoints)) k o 0 n o' → k ≤ length o
      → o' ≡ over (view_bytes role (index_in x t)) o
  listener_written h p l = put_over (put_same (listener_is h) p) l

  pub workshop_written : {o o1 o2 : List ℕ} {k m n r : ℕ} → is_role role ≡ true → (role ≡ 1 → ⊥) → Put (seen_bytes role (listener_in x t.checkpoints)) k o 0 n o1
      → Put (behind_bytes x t.checkpoints t.parts t.malformed t.hints t.confirmed) m o1 n r o2 → k + m ≤ length o
      → o2 ≡ over (view_bytes role (index_in x t)) o
  workshop_written h e p q l = put_over (put_same (workshop_is (other_role h e)) (put_both p q)) l

-- frames and their bytes are not shown
pub view_without : (role : ℕ) (x : AreaIndex) (t : Tables)
    → view_bytes role (index_in x (tables t.checkpoints [] [] t.parts t.malformed t.hints t.confirmed)) ≡ view_bytes role (index_in x t)
unfolding view_bytes listener_of workshop_of
view_without role x t = refl

-- ---- the answers
module _ (role : ℕ) (x : AreaIndex) (t : Tables) where
  abbrev size : ℕ
  size = view_length role (index_in x t)

  in_role_lemma : {A : Type 0} (r : Answer A) → is_role role ≡ true → in_role role r ≡ r
  unfolding in_role first_no after
  in_role_lemma r h = rw h

  in_none : {A : Type 0} (r : Answer A) → is_role role ≡ false → in_role role r ≡ Refused 52
  unfolding in_role first_no after
  in_none r h = rw h

  view_four : (l : Lengths) (y : Index) (k : ℕ) → is_role role ≡ true
      → view role l y k ≡ after (first_no (four l y (ask (leb (view_length role y) k) 40 ∷ []))) (Accepted (view_bytes role y))
  unfolding view first_no
  view_four l y k h = rw h

  size_four : (l : Lengths) (y : Index) → is_role role ≡ true → view_size role l y ≡ after (first_no (four l y [])) (Accepted (view_length role y))
  unfolding view_size first_no
  size_four l y h = rw h

  module _ {n : ℕ} (e : n ≡ asked role x t) where
    refusal_is : is_role role ≡ true → n ≡ refusal x t
    refusal_is h = e ∙ asked_role role x t h

    none_is : is_role role ≡ false → n ≡ 52
    none_is h = e ∙ asked_52 role x t h

    after_52 : {A : Type 0} (r : Answer A) → is_role role ≡ false → Refused 52 ≡ after n r
    unfolding after
    after_52 r h = rw (none_is h)

    -- the length told
    length_is : view_size_in role x t ≡ after n (Accepted size)
    unfolding view_size_in first_no after each
    length_is = test (is_role role)
        (λ h. in_role_lemma _ h ∙ rw (size_four (room_of t) (index_in x t) h) (kinded_index x t [] refl (refusal_is h) size))
        (λ h. in_none _ h ∙ after_52 (Accepted size) h)

    pub length_refused : (n ≡ 0 → ⊥) → Refused n ≡ view_size_in role x t
    unfolding after
    length_refused h = sym (length_is ∙ simp (ne_eqb n 0 h))

    pub length_told : n ≡ 0 → {k : ℕ} → k ≡ size → Accepted k ≡ view_size_in role x t
    unfolding after
    length_told z l = sym (length_is ∙ rw l (simp (eq-eqb n 0 z)))

    module _ (o : List ℕ) where
      view_is : view_in role x t o ≡ view_out (after n (after (cond (leb size (length o)) 0 40) (Accepted (view_bytes role (index_in x t))))) o
      unfolding view_in first_no each
      view_is = ap (λ (r : Answer (List ℕ)). view_out r o) (test (is_role role)
          (λ h. in_role_lemma _ h ∙ rw (view_four (room_of t) (index_in x t) (length o) h)
          (kinded_index x t (ask (leb size (length o)) 40 ∷ []) refl (refusal_is h) (view_bytes role (index_in x t))))
          (λ h. in_none _ h ∙ after_52 _ h))

      pub view_refused : (n ≡ 0 → ⊥) → viewed (Refused n) o ≡ view_in role x t o
      unfolding view_out after
      view_refused h = sym (view_is ∙ simp (ne_eqb n 0 h))

      module _ (z : n ≡ 0) {k : ℕ} (l : k ≡ size) where
        pub view_short : length o < k → viewed (Refused 40) o ≡ view_in role x t o
        unfolding view_out after
        view_short h = sym (view_is ∙ rw (← l) (simp (eq-eqb n 0 z, lt-leb k (length o) h)))

        pub view_done : {o' : List ℕ} → k ≤ length o → o' ≡ over (view_bytes role (index_in x t)) o → viewed (Accepted k) o' ≡ view_in role x t o
        unfolding view_out after
        view_done h c = rw (c, l, ← view_length_lemma role (index_in x t)) (sym (view_is ∙ simp (eq-eqb n 0 z, le-leb _ _ (let g : size ≤ length o = rw (← l) h in g))))
