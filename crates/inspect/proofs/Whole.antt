-- The sections from each one on are those of loading. Assumes nothing.
use mathlib.Core.Path.{◌≡◌, refl, sym, ap, subst, ◌∙◌}
use mathlib.Core.Bool.{Bool, true, false, cond}
use mathlib.Core.List.{List, []}
use Prim.Native.Nat.{ℕ, zero, suc, ◌-◌, ◌<◌, ◌≤◌}
use native.Mathlib.Omega.{arith}
use borrow.Author.Tests.{le-leb, lt-leb}
use lib.Dec.{eqb, leb}
use lib.ListN.{length, drop, length-drop}
use lib.Seq.{take_all}
use Rattle.field.specs.Number.{decode, number_at}
use Rattle.rules.specs.declared.Area.{Area}
use Rattle.rules.specs.declared.Checkpoint.{Checkpoint}
use Rattle.rules.specs.declared.Confirmation.{Confirmation}
use Rattle.rules.specs.declared.Header.{Header}
use Rattle.rules.specs.declared.Held.{Held}
use Rattle.rules.specs.Tests.{Answer, Refused, Accepted, after, bind, first_no}
use Rattle.rules.specs.Values.{Frame, Index, used}
use Rattle.rules.specs.File.{read_header}
use Rattle.rules.specs.Load.{Read, read_each, HintSection, no_hint_header, read_hint_section, read_sections, index_from, body_in, sum_in, file_number, from_bytes}
use Rattle.rules.proofs.Tests.{accepted_eq, after→, bind→}
use Rattle.inspect.specs.declared.Found.{Found}
use Rattle.inspect.specs.declared.Inspected.{Inspected}
use Rattle.inspect.specs.declared.Inspected.TheVariants as inspected
use Rattle.inspect.specs.Inspect.{inspection_of, inspection}
use Rattle.inspect.specs.Tails.{found_by, answered, at_end, from_confirmed, from_hints, from_malformed, from_end, from_parts, from_frames, from_checkpoints, from_body}

-- ---- counts
-- as many as are read in order
each_count : {S A : Type 0} (r : S → List ℕ → Answer (Read A)) (next : S → A → S) (n : ℕ) (s : S) (b : List ℕ) (t : Read (List A))
    → read_each r next n s b ≡ Accepted t → length t.value ≡ n
unfolding read_each
each_count {A = A} r next zero s b t e = ap (λ (z : Read (List A)). length z.value) (sym (accepted_eq _ _ e))
each_count {A = A} r next (suc n) s b t e =
    let u = bind→ (r s b) _ _ e in
    let v = bind→ (read_each r next n (next s u.value.value) u.value.rest) _ _ u.second in
    ap (λ (z : Read (List A)). length z.value) (sym (accepted_eq _ _ v.second)) ∙ ap suc (each_count r next n _ _ v.value v.first)

pick : {B P : Type 0} (p : Bool) (x y z : B) → (x ≡ z → P) → (y ≡ z → P) → cond p x y ≡ z → P
pick true x y z f g e = f e
pick false x y z f g e = g e

hint_count : (a : Area) (h : Header) (b : List ℕ) (t : Read HintSection) → read_hint_section a h b ≡ Accepted t
    → length t.value.hints ≡ t.value.header.count
unfolding read_hint_section
hint_count a h b t e =
    pick (leb 2 h.version) _ _ _
    (λ q.
    let u = after→ _ _ _ q in
    let v = bind→ _ _ _ u.1 in
    subst (λ (z : Read HintSection). length z.value.hints ≡ z.value.header.count) (accepted_eq _ _ v.second) (each_count _ _ _ _ _ _ v.first))
    (λ q.
    let r : record { value = record { header = no_hint_header; hints = [] }; rest = b } ≡ t = accepted_eq _ _ q in
    subst (λ (z : Read HintSection). length z.value.hints ≡ z.value.header.count) r refl)
    e

-- ---- the numbers of a list that was read
module _ (f : List ℕ) where
  carry : {A : Type 0} (x : Answer A) (p : A → Answer Index) (q : A → Answer Found) → ((t : A) → x ≡ Accepted t → inspection_of f (p t) ≡ answered (q t))
      → inspection_of f (bind x p) ≡ answered (bind x q)
  unfolding bind inspection_of answered
  carry (Refused n) p q h = refl
  carry (Accepted t) p q h = h t refl

  carry_after : (n : ℕ) (x : Answer Index) (y : Answer Found) → inspection_of f x ≡ answered y → inspection_of f (after n x) ≡ answered (after n y)
  unfolding after inspection_of answered
  carry_after n x y h = by (eqb n 0) where
    by : (t : Bool) → inspection_of f (cond t x (Refused n)) ≡ answered (cond t y (Refused n))
    by true = h
    by false = refl

  numbers : (a : Area) (h : Header) (cs : List Checkpoint) (fs : List Frame) (ps : List Held) (ms : List ℕ) (hs : HintSection) (qs : List Confirmation)
      → h ≡ read_header (body_in f) → length cs ≡ h.checkpoints → length fs ≡ h.frames → length ps ≡ h.parts → length ms ≡ h.malformed
      → length hs.hints ≡ hs.header.count
      → inspection_of f (Accepted (index_from a h cs fs ps ms hs qs)) ≡ answered (Accepted (found_by a h (used fs) hs.header (length qs)))
  unfolding inspection_of answered found_by
  numbers a h cs fs ps ms hs qs e l1 l2 l3 l4 l5 = rw (← e, l1, l2, l3, l4, l5)

  sections : (a : Area) (h : Header) (b : List ℕ) → h ≡ read_header (body_in f) → inspection_of f (read_sections a h b) ≡ answered (from_checkpoints a h b)
  unfolding read_sections from_checkpoints from_frames from_parts from_end from_malformed from_hints from_confirmed at_end
  sections a h b e =
      carry _ _ _ (λ cs p1. carry _ _ _ (λ fs p2. carry _ _ _ (λ ps p3. carry_after _ _ _ (carry _ _ _ (λ ms p4. carry _ _ _ (λ hs p5. carry _ _ _ (λ qs p6.
      carry_after _ _ _
      (numbers a h cs.value fs.value ps.value ms.value hs.value qs.value e (each_count _ _ _ _ _ cs p1) (each_count _ _ _ _ _ fs p2)
      (each_count _ _ _ _ _ ps p3) (each_count _ _ _ _ _ ms p4) (hint_count a h ms.rest hs p5)))))))))

-- ---- the whole file
pub whole_short : (a : Area) (b : List ℕ) → length b < 8 → inspected.Refused 20 ≡ inspection a b
unfolding from_bytes file_number first_no after inspection_of
whole_short a b h = rw (lt-leb 8 (length b) h)

pub sum_is : {v : ℕ} (b : List ℕ) → 8 ≤ length b → v ≡ number_at 8 b (length b - 8) → v ≡ sum_in b
unfolding number_at
sum_is b h e = e ∙ ap decode (take_all 8 (drop (length b - 8) b) (simp length-drop (omega arith)))

pub whole : {r : Inspected} (a : Area) (b : List ℕ) {sum : ℕ} {body : List ℕ} → 8 ≤ length b → body ≡ body_in b → sum ≡ sum_in b → r ≡ answered (from_body a sum body)
    → r ≡ inspection a b
unfolding from_bytes file_number from_body first_no
whole a b h e g q =
    q
    ∙ rw (e, g, le-leb 8 (length b) h)
    (sym (carry_after b _ _ _ (carry_after b _ _ _ (sections b a (read_header (body_in b)) (drop 80 (body_in b)) refl))))
