-- Records read in order, against the walk over a table. Assumes nothing.
use mathlib.Core.Path.{◌≡◌, refl, sym, ap, ◌∙◌}
use mathlib.Core.Bool.{Bool, true, false, ◌&&◌, cond}
use mathlib.Core.List.{List, [], ◌∷◌, ◌++◌, append-nil}
use Prim.Native.Nat.{ℕ, zero, suc, ◌+◌, ◌*◌, ◌-◌, ◌<◌, ◌≤◌}
use native.Mathlib.Nat.{add-zero, zero-mul, suc-mul, zero-add, suc-add, add_comm}
use native.Mathlib.Omega.{arith}
use borrow.Author.Tests.{le-leb, lt-leb, eqb-false}
use lib.Dec.{eqb}
use lib.ListN.{length, take, drop, length-drop}
use lib.Seq.{drop-drop}
use Rattle.field.specs.Records.{records}
use Rattle.rules.specs.declared.Area.{Area}
use Rattle.rules.specs.declared.Checkpoint.{Checkpoint}
use Rattle.rules.specs.Values.{Frame}
use Rattle.rules.specs.File.{decode_held}
use Rattle.rules.specs.Tests.{walk, Answer, Refused, Accepted, ask, first_no, after, bind, number_of}
use Rattle.rules.specs.Load.{Read, read, read_each, read_record, read_frame, read_part}
use Rattle.tables.specs.Files.{each_read, behind_each, frame_here, frame_follows}

-- an answer behind xs
abbrev pub prefix : {A : Type 0} → List A → Answer (Read (List A)) → Answer (Read (List A))
prefix xs (Refused k) = Refused k
prefix xs (Accepted t) = read (xs ++ t.value) t.rest

prefix_none : {A : Type 0} (e : Answer (Read (List A))) → prefix [] e ≡ e
prefix_none (Refused k) = refl
prefix_none (Accepted t) = refl

bind_cond : {A B : Type 0} (p : Bool) (a : A) (k : ℕ) (g : A → Answer B) → bind (cond p (Accepted a) (Refused k)) g ≡ cond p (g a) (Refused k)
unfolding bind
bind_cond true a k g = refl
bind_cond false a k g = refl

cond_and : {A : Type 0} (p q : Bool) (y z : A) → cond p (cond q y z) z ≡ cond (p && q) y z
cond_and true q y z = refl
cond_and false q y z = refl

bind_prefix : {A : Type 0} (x : A) (xs : List A) (e : Answer (Read (List A)))
    → bind (prefix xs e) (λ u. read (x ∷ u.value) u.rest) ≡ prefix (x ∷ xs) e
unfolding bind
bind_prefix x xs (Refused k) = refl
bind_prefix x xs (Accepted t) = refl

bind_both : {A : Type 0} (x : A) (q : Bool) (xs : List A) (e : Answer (Read (List A))) (k : ℕ)
    → bind (cond q (prefix xs e) (Refused k)) (λ u. read (x ∷ u.value) u.rest) ≡ cond q (prefix (x ∷ xs) e) (Refused k)
unfolding bind
bind_both x true xs e k = bind_prefix x xs e
bind_both x false xs e k = refl

module _ {S A : Type 0} (w : ℕ) (d : List ℕ → A) (ok : S → A → Bool) (next : S → A → S) (k : ℕ) (other : eqb k 0 ≡ false) where
  -- a record that is there
  there : (p : Bool) (a : Read A) → after (first_no (ask true 20 ∷ ask p k ∷ [])) (Accepted a) ≡ cond p (Accepted a) (Refused k)
  unfolding after first_no
  there true a = refl
  there false a = rw other

  read_there : (s : S) (b : List ℕ) → w ≤ length b → read_record w d ok k s b ≡ cond (ok s (d (take w b))) (read (d (take w b)) (drop w b)) (Refused k)
  unfolding read_record
  read_there s b h = rw (le-leb w (length b) h) (there (ok s (d (take w b))) _)

  -- and one that is not
  pub read_missing : (s : S) (n : ℕ) (b : List ℕ) → length b < w → read_each (read_record w d ok k) next (suc n) s b ≡ Refused 20
  unfolding read_each read_record after first_no bind
  read_missing s n b h = rw (lt-leb w (length b) h)

  -- m records that are there, and n more
  read_first : (m n : ℕ) (s : S) (b : List ℕ) (e : Answer (Read (List A))) → m * w ≤ length b
      → ((s : S) → read_each (read_record w d ok k) next n s (drop (m * w) b) ≡ e)
      → read_each (read_record w d ok k) next (m + n) s b ≡ cond (walk ok next s (records w d m b)) (prefix (records w d m b) e) (Refused k)
  unfolding read_each walk records
  read_first zero n s b e l h =
      let q : read_each (read_record w d ok k) next n s b ≡ e = (rw zero-mul at (h s)) in
      rw zero-add (q ∙ sym (prefix_none e))
  read_first (suc m) n s b e l h =
      let l' : m * w + w ≤ length b = rw suc-mul at l in
      let l1 : w ≤ length b = omega arith in
      let l2 : m * w ≤ length (drop w b) = simp length-drop (omega arith) in
      let v = d (take w b) in
      let p = ok s v in
      let xs = records w d m (drop w b) in
      let q = walk ok next (next s v) xs in
      let i = read_first m n (next s v) (drop w b) e l2 (λ z. rw (drop-drop, add_comm w (m * w)) (rw suc-mul at (h z))) in
      rw suc-add
      (ap (λ z. bind z (λ t. bind (read_each (read_record w d ok k) next (m + n) (next s t.value) t.rest) (λ u. read (t.value ∷ u.value) u.rest))) (read_there s b l1)
      ∙ bind_cond p _ k _
      ∙ ap (λ z. cond p z (Refused k)) (ap (λ z. bind z (λ u. read (v ∷ u.value) u.rest)) i ∙ bind_both v q xs e k)
      ∙ cond_and p q _ _)

  -- a section that is there: 0 or k
  pub read_all : (n : ℕ) (s : S) (b : List ℕ) → n * w ≤ length b
      → read_each (read_record w d ok k) next n s b ≡ cond (walk ok next s (records w d n b)) (read (records w d n b) (drop (n * w) b)) (Refused k)
  unfolding read_each
  read_all n s b l =
      let f = read_first n 0 s b (read [] (drop (n * w) b)) l (λ z. refl) in
      rw (add-zero, append-nil) at f

  -- a section of which m records are there
  pub read_short : (m n : ℕ) (s : S) (b : List ℕ) → m < n → m * w ≤ length b → length b < m * w + w
      → read_each (read_record w d ok k) next n s b ≡ cond (walk ok next s (records w d m b)) (Refused 20) (Refused k)
  read_short m n s b h l g =
      let e : n ≡ m + suc (n - m - 1) = omega arith in
      let short : length (drop (m * w) b) < w = simp length-drop (omega arith) in
      rw e (read_first m (suc (n - m - 1)) s b (Refused 20) l (λ z. read_missing z (n - m - 1) (drop (m * w) b) short))

-- ---- what was read, where nothing refused
number_bind : {A : Type 0} (v : A) (e : Answer (Read (List A))) → number_of (bind e (λ u. read (v ∷ u.value) u.rest)) ≡ number_of e
unfolding bind number_of
number_bind v (Refused k) = refl
number_bind v (Accepted t) = refl

after_zero : {A : Type 0} (n : ℕ) (x : Answer A) → number_of (after n x) ≡ 0 → after n x ≡ x
unfolding after number_of
after_zero n x e = by (eqb n 0) refl e where
  by : (t : Bool) → eqb n 0 ≡ t → number_of (cond t x (Refused n)) ≡ 0 → cond t x (Refused n) ≡ x
  by true q g = refl
  by false q g = absurd (eqb-false n 0 q g)

-- a reader that reads v of the bytes and leaves what follows of them
pub record Steady {S A : Type 0} (r : S → List ℕ → Answer (Read A)) (v : List ℕ → A) (follows : List ℕ → List ℕ) : Type 0 where
  pub steady : (s : S) (b : List ℕ) → number_of (r s b) ≡ 0 → r s b ≡ read (v b) (follows b)

module _ {S A : Type 0} {r : S → List ℕ → Answer (Read A)} {v : List ℕ → A} {follows : List ℕ → List ℕ} (k : Steady r v follows) (next : S → A → S) where
  front_zero : {B : Type 0} (x : Answer (Read A)) (g : Read A → Answer B) → number_of (bind x g) ≡ 0 → number_of x ≡ 0
  unfolding bind number_of
  front_zero (Refused m) g e = e
  front_zero (Accepted t) g e = refl

  -- n things that were read
  pub read_each_lemma : (n : ℕ) (s : S) (b : List ℕ) → number_of (read_each r next n s b) ≡ 0 → read_each r next n s b ≡ read (each_read v follows n b) (behind_each follows n b)
  unfolding read_each bind each_read behind_each
  read_each_lemma zero s b e = refl
  read_each_lemma (suc n) s b e =
      let f = k.steady s b (front_zero (r s b) _ e) in
      let e' : number_of (read_each r next n (next s (v b)) (follows b)) ≡ 0 = sym (number_bind (v b) (read_each r next n (next s (v b)) (follows b))) ∙ (rw f at e) in
      rw (f, read_each_lemma n (next s (v b)) (follows b) e')

pub steady_record : {S A : Type 0} (w : ℕ) (d : List ℕ → A) (ok : S → A → Bool) (k : ℕ) → Steady (read_record w d ok k) (λ b. d (take w b)) (drop w)
unfolding read_record
steady_record w d ok k = record { steady = λ s b e. after_zero _ _ e }

pub steady_frame : (a : Area) (budget : ℕ) → Steady (read_frame a budget) frame_here frame_follows
unfolding read_frame
steady_frame a budget = record { steady = λ s b e. after_zero _ _ e }

pub steady_part : (a : Area) (k : ℕ) (cs : List Checkpoint) (fs : List Frame) → Steady (read_part a k cs fs) (λ b. decode_held (take 24 b)) (drop 24)
unfolding read_part
steady_part a k cs fs = record { steady = λ s b e. after_zero _ _ e }

-- records are listed so, and frames are
pub listed_records : {A : Type 0} (w : ℕ) (d : List ℕ → A) (n : ℕ) (b : List ℕ) → each_read (λ t. d (take w t)) (drop w) n b ≡ records w d n b
unfolding each_read records
listed_records w d zero b = refl
listed_records w d (suc n) b = rw (listed_records w d n (drop w b))
