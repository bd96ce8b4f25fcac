-- The part rule keeps the rules of frames and parts, and stores a part's bytes. Assumes nothing.
use Rattle.std.specs.Prelude.{Option, None, Some}
use mathlib.Core.Path.{◌≡◌, refl, sym, ap, ◌∙◌, subst}
use mathlib.Core.Bool.{Bool, true, false, cond}
use mathlib.Core.Logic.{⊎_elim, ◌⊎◌, inl, inr}
use mathlib.Core.List.{List, [], ◌∷◌, ◌++◌, append_assoc, append-nil}
use Prim.Native.Nat.{ℕ, zero, suc, ◌+◌, ◌-◌, ◌*◌, ◌<◌, ◌≤◌}
use native.Mathlib.Nat.{eq-or-lt_of_le}
use native.Mathlib.Omega.{arith}
use lib.Dec.{eqb, ltb}
use lib.ListN.{length, take, drop, get_or, set, length-append, length-set, length-drop, get_or-append}
use lib.Seq.{take-length, take-append-le, get_or-append_seam, get_or-append-add, get_or-drop, get_or-set_same, get_or-set_other}
use borrow.Author.Tests.{eqb-true, eqb-false, leb-true, ltb-true, ltb-false}
use Rattle.rules.specs.declared.Area.{Area}
use Rattle.rules.specs.declared.Checkpoint.{Checkpoint}
use Rattle.rules.specs.declared.Held.{Held}
use Rattle.rules.specs.Tests.{walk, agrees, last_or}
use Rattle.rules.specs.Values.{Frame, lim, max_frame, no_frame, no_held, no_checkpoint, checkpoint_at, frame_at, used, lsn_of}
use Rattle.rules.specs.Sections.{unfilled, frames_ok, part_ok}
use Rattle.rules.specs.PartRule.{Stored, Piece, last_frame, last_part, opens, joins, growth, part_of, opened, grown, stores, add_part, piece, add_parts}
use Rattle.rules.specs.Run.{Content, content_of}
use Rattle.laws.specs.Kept.{Grow, content_in, Added, Keeps, Says}
use Rattle.rules.proofs.Tests.{test, never, all→, and_left, and_right, or_cases, or_none}
use Rattle.rules.proofs.Walk.{Snoc, ends, length_snoc, last_or_snoc, set_last, arrived, arrived_none, arrived_cons, arrived_snoc, walk_left, walk_snoc, walk_last, walk_at}
use Rattle.laws.proofs.scans.Parts.{frame_in, fill, frame→, →frame, frames_walk, fill_used, used_snoc, frame_at_lemma, keep, latest, at_after, frames_to, PartIs, part→, →part, follows→, follows_open, follows_same, latest_last, latest_none, HeldIs, part_at, latest_below, part_grow, walk_parts, held_append}

-- ---- frames that grow
grow_snoc : (fs : List Frame) (f : Frame) → Grow fs (fs ++ (f ∷ []))
grow_snoc fs f =
    let at : (i : ℕ) → i < length fs → frame_at (fs ++ (f ∷ [])) i ≡ frame_at fs i = λ i l. get_or-append fs (f ∷ []) no_frame i l in
    record {
      more = omega (arith, length_snoc fs f);
      start = λ i l. ap (λ (x : Frame). x.start) (at i l);
      long = λ i l. rw (at i l) (omega arith);
      bytes = λ i n l b. ap (λ (x : Frame). take n x.bytes) (at i l);
    }

-- frame f with more bytes at its end
abbrev pub longer : Frame → List ℕ → Frame
longer f more = record { start = f.start; bytes = f.bytes ++ more }

-- what holds of each frame and itself, and of frame i and g, holds of each and the one in its place
set_frame : (P : Frame → Frame → Type 0) (fs : List Frame) (i : ℕ) (g : Frame) → i < length fs → P (frame_at fs i) g → ((f : Frame) → P f f) → (j : ℕ)
    → P (frame_at fs j) (frame_at (set fs i g) j)
set_frame P fs i g l p r j =
    test (eqb j i) (λ e. let e' : j ≡ i = eqb-true _ _ e in rw (e', get_or-set_same fs i g no_frame l) p)
    (λ e. rw (get_or-set_other fs i j g no_frame (eqb-false j i e)) (r (frame_at fs j)))

grow_set : (fs : List Frame) (i : ℕ) (more : List ℕ) → i < length fs → Grow fs (set fs i (longer (frame_at fs i) more))
grow_set fs i more l =
    let g = longer (frame_at fs i) more in
    record {
      more = omega (arith, length-set fs i g);
      start = λ j w. set_frame (λ f g. g.start ≡ f.start) fs i g l refl (λ f. refl) j;
      long = λ j w.
          set_frame (λ f g. length f.bytes ≤ length g.bytes) fs i g l (omega (arith, length-append (frame_at fs i).bytes more)) (λ f. omega arith) j;
      bytes = λ j n w b.
          set_frame (λ f g. n ≤ length f.bytes → take n g.bytes ≡ take n f.bytes) fs i g l (λ h. take-append-le n (frame_at fs i).bytes more h) (λ f h. refl) j b;
    }

-- one more frame, past the last
frames_snoc : (a : Area) (budget : ℕ) (fs : List Frame) (f : Frame) → frames_ok a budget fs ≡ true → a.start ≤ f.start → (1 ≤ length fs → (last_or no_frame fs).start < f.start)
    → f.start < a.end → length f.bytes ≤ max_frame → used fs + length f.bytes ≤ budget → frames_ok a budget (fs ++ (f ∷ [])) ≡ true
frames_snoc a budget fs f e lo b hi l u =
    let low : (arrived fill (unfilled a) fs).floor ≤ f.start =
    ⊎_elim (λ (z : fs ≡ []). rw (z, arrived_none fill (unfilled a)) lo)
    (λ (s : Snoc fs).
    let w : last_or no_frame fs ≡ s.last = ap (last_or no_frame) s.is ∙ last_or_snoc no_frame s.init s.last in
    let n : length fs ≡ length s.init + 1 = ap length s.is ∙ length_snoc s.init s.last in
    let x = rw w at (b (omega arith)) in
    rw (s.is, arrived_snoc fill (unfilled a) s.init s.last) (omega arith))
    (ends fs) in
    rw (frames_walk a budget (fs ++ (f ∷ [])))
    (walk_snoc (frame_in a budget) fill (unfilled a) fs f (rw (frames_walk a budget fs) at e)
    (→frame a budget (arrived fill (unfilled a) fs) f (record { low = low; high = hi; long = l; fits = omega (arith, fill_used (unfilled a) fs) })))

-- more bytes in the last frame
frames_longer : (a : Area) (budget : ℕ) (fs : List Frame) (more : List ℕ) → frames_ok a budget fs ≡ true → 1 ≤ length fs
    → length ((last_or no_frame fs).bytes ++ more) ≤ max_frame → used fs + length more ≤ budget
    → frames_ok a budget (set fs (length fs - 1) (longer (last_or no_frame fs) more)) ≡ true
frames_longer a budget fs more e n l u =
    ⊎_elim (λ (z : fs ≡ []). let w : length fs ≡ 0 = ap length z in let y : ⊥ = omega arith in absurd y)
    (λ (s : Snoc fs).
    let f = s.last in let init = s.init in
    let w : last_or no_frame fs ≡ f = ap (last_or no_frame) s.is ∙ last_or_snoc no_frame init f in
    let g : set fs (length fs - 1) (longer (last_or no_frame fs) more) ≡ init ++ (longer f more ∷ []) =
    ap (λ (x : Frame). set fs (length fs - 1) (longer x more)) w ∙ ap (λ (x : List Frame). set x (length x - 1) (longer f more)) s.is ∙ set_last init f (longer f more) in
    let e' : walk (frame_in a budget) fill (unfilled a) (init ++ (f ∷ [])) ≡ true = rw s.is at (rw (frames_walk a budget fs) at e) in
    let h = frame→ a budget (arrived fill (unfilled a) init) f (walk_last (frame_in a budget) fill (unfilled a) init f e') in
    let u' : used fs ≡ used init + length f.bytes = ap used s.is ∙ used_snoc init f in
    let l' : length (f.bytes ++ more) ≤ max_frame = rw w at l in
    rw (g, frames_walk a budget (init ++ (longer f more ∷ [])))
    (walk_snoc (frame_in a budget) fill (unfilled a) init (longer f more) (walk_left (frame_in a budget) fill (unfilled a) init (f ∷ []) e')
    (→frame a budget (arrived fill (unfilled a) init) (longer f more)
    (record { low = h.low; high = h.high; long = l'; fits = omega (arith, fill_used (unfilled a) init, length-append f.bytes more) }))))
    (ends fs)

-- ---- a part that is handed over to checkpoints cs, of which first is the first number
pub record PieceIs (a : Area) (k first : ℕ) (cs : List Checkpoint) (p : Piece) : Type 0 where
  pub low : first ≤ p.at
  pub high : p.at < first + length cs
  pub back : 0 < (checkpoint_at cs (p.at - first)).back
  pub start : lsn_of a k p.at - (checkpoint_at cs (p.at - first)).back ≡ p.start
  pub begins : a.start ≤ p.start
  pub ends : p.start < a.end
  pub number : p.number < lim

-- one more part, and frames that only grow
held_more : (a : Area) (k budget first : ℕ) (cs : List Checkpoint) (fs gs : List Frame) (ps : List Held) (q : Held) → HeldIs a k budget first cs fs ps → Grow fs gs
    → frames_ok a budget gs ≡ true → part_ok a k first cs gs (latest ps) q ≡ true → suc q.frame ≡ length gs → HeldIs a k budget first cs gs (ps ++ (q ∷ []))
held_more a k budget first cs fs gs ps q h g f o r =
    record {
      frames = f;
      parts = walk_snoc (part_ok a k first cs gs) keep None ps q (walk_parts a k first cs cs fs gs (λ p. part_grow a k first cs fs gs p g) ps h.parts) o;
      reached = ap frames_to (arrived_snoc keep None ps q) ∙ r;
    }

-- a part that opens no frame comes after one
pub some_part : (h : Stored) (p : Piece) → opens h p ≡ false → 1 ≤ length h.parts
unfolding opens
some_part h p o =
    let w = eqb-false (length h.parts) 0 (or_none (eqb (length h.parts) 0) (ltb (last_frame h).start p.start) o).0 in omega arith

module _ (a : Area) (k budget first : ℕ) (cs : List Checkpoint) (h : Stored) (ok : HeldIs a k budget first cs h.frames h.parts) (p : Piece) (pok : PieceIs a k first cs p)
    (rises : at_after (latest h.parts) ≤ p.at) (short : length p.bytes ≤ max_frame) where
  opened_ok : opens h p ≡ true → used h.frames + length p.bytes ≤ budget → HeldIs a k budget first cs (opened h p).frames (opened h p).parts
  unfolding opens
  opened_ok o u =
      let fs = h.frames in let ps = h.parts in
      let f : Frame = record { start = p.start; bytes = p.bytes } in
      let q = part_of p (length fs) in let r = ok.reached in
      let last = get_or-append_seam fs f [] no_frame in
      let past : 1 ≤ length fs → (last_or no_frame fs).start < p.start =
      λ l. ⊎_elim (λ (z : eqb (length ps) 0 ≡ true). let x : frames_to (latest ps) ≡ 0 = ap frames_to (latest_none ps (eqb-true _ _ z)) in let y : ⊥ = omega arith in absurd y)
      (λ (z : ltb (last_frame h).start p.start ≡ true). ltb-true (last_frame h).start p.start z)
      (or_cases (eqb (length ps) 0) (ltb (last_frame h).start p.start) o) in
      held_more a k budget first cs fs (fs ++ (f ∷ [])) ps q ok (grow_snoc fs f)
      (frames_snoc a budget fs f ok.frames pok.begins past pok.ends short u)
      (→part a k first cs (fs ++ (f ∷ [])) (latest ps) q
      (record { low = pok.low; high = pok.high; frame = omega (arith, length_snoc fs f); back = pok.back; start = rw last pok.start; len = rw last (omega arith); number = pok.number })
      (follows_open (latest ps) q rises (sym r)))
      (omega (arith, length_snoc fs f))

  grown_ok : opens h p ≡ false → joins h p ≡ true → used h.frames + (length p.bytes - length (last_frame h).bytes) ≤ budget
      → HeldIs a k budget first cs (grown h p).frames (grown h p).parts
  unfolding joins last_or
  grown_ok o j u =
      let fs = h.frames in let ps = h.parts in let i = length fs - 1 in let q = part_of p i in
      let t = all→ _ j in let n = some_part h p o in
      let e : latest ps ≡ Some (last_part h) = latest_last ps n in
      let r : suc (last_part h).frame ≡ length fs = rw e at ok.reached in
      let v : suc (last_part h).at ≤ p.at = rw e at rises in
      let more = drop (length (last_frame h).bytes) p.bytes in
      let l : i < length fs = omega arith in
      let same = get_or-set_same fs i (longer (last_frame h) more) no_frame l in
      let lg = length-set fs i (longer (last_frame h) more) in
      let lm = length-drop (length (last_frame h).bytes) p.bytes in
      let la = length-append (last_frame h).bytes more in
      let s : (last_frame h).start ≡ p.start = eqb-true _ _ t.0 in
      let fl = (frame_at_lemma a budget fs i ok.frames l).2 in
      held_more a k budget first cs fs (grown h p).frames ps q ok (grow_set fs i more l)
      (frames_longer a budget fs more ok.frames (omega arith) (omega arith) (omega arith))
      (→part a k first cs (grown h p).frames (latest ps) q
      (record { low = pok.low; high = pok.high; frame = omega arith; back = pok.back; start = rw same (pok.start ∙ sym s); len = rw same (omega arith); number = pok.number })
      (rw e (follows_same (last_part h) q (omega arith) (omega arith) t.1.1.1.0 t.1.0 t.1.1.0)))
      (omega arith)

-- a part that is stored and opens no frame joins the last
stored_joins : (budget : ℕ) (h : Stored) (p : Piece) → stores budget h p ≡ true → opens h p ≡ false → joins h p ≡ true
unfolding stores
stored_joins budget h p s o = ⊎_elim (λ z. never z o) (λ z. z) (or_cases (opens h p) (joins h p) (all→ _ s).1.1.0)

-- PART: the part rule keeps the rules of frames and parts
pub add_part_ok : (a : Area) (k budget first : ℕ) (cs : List Checkpoint) (h : Stored) → HeldIs a k budget first cs h.frames h.parts → (p : Piece) → PieceIs a k first cs p
    → at_after (latest h.parts) ≤ p.at → HeldIs a k budget first cs (add_part budget h p).frames (add_part budget h p).parts
unfolding add_part stores growth
add_part_ok a k budget first cs h ok p pok rises =
    test (stores budget h p)
    (λ s.
    let t = all→ _ s in let short = leb-true (length p.bytes) max_frame t.0 in
    test (opens h p) (λ o. rw (s, o) (opened_ok a k budget first cs h ok p pok rises short o (leb-true _ _ (rw o at t.1.0))))
    (λ o. rw (s, o) (grown_ok a k budget first cs h ok p pok rises short o (stored_joins budget h p s o) (leb-true _ _ (rw o at t.1.0)))))
    (λ s. rw s ok)

-- ---- bytes
joined_bytes : (xs ys : List ℕ) → agrees eqb xs ys ≡ true → take (length ys) (xs ++ drop (length xs) ys) ≡ ys
unfolding agrees
joined_bytes [] ys e = take-length ys
joined_bytes (x ∷ xs) [] e = refl
joined_bytes (x ∷ xs) (y ∷ ys) e =
    let p : x ≡ y = eqb-true x y (and_left (eqb x y) (agrees eqb xs ys) e) in
    let q = joined_bytes xs ys (and_right (eqb x y) (agrees eqb xs ys) e) in λ i. p i ∷ q i

-- a part of frames fs that has p's bytes says what p says
says_piece : (fs : List Frame) (p : Piece) (i : ℕ) → take (length p.bytes) (frame_at fs i).bytes ≡ p.bytes → content_of fs (part_of p i) ≡ content_in p
says_piece fs p i b = λ j. record { bytes = b j; number = p.number; kind = p.kind; remaining = p.remaining }

opened_added : (h : Stored) (p : Piece) → Added h (opened h p) p
opened_added h p =
    let fs = h.frames in let f : Frame = record { start = p.start; bytes = p.bytes } in
    record {
      new = part_of p (length fs);
      parts = refl;
      at = refl;
      content =
          says_piece (opened h p).frames p (length fs)
          (ap (λ (x : Frame). take (length p.bytes) x.bytes) (get_or-append_seam fs f [] no_frame) ∙ take-length p.bytes);
      kept = grow_snoc fs f;
    }

grown_added : (h : Stored) (p : Piece) → 1 ≤ length h.frames → joins h p ≡ true → Added h (grown h p) p
unfolding joins last_or
grown_added h p l j =
    let fs = h.frames in let i = length fs - 1 in let more = drop (length (last_frame h).bytes) p.bytes in
    let l' : i < length fs = omega arith in
    record {
      new = part_of p i;
      parts = refl;
      at = refl;
      content =
          says_piece (grown h p).frames p i
          (ap (λ (x : Frame). take (length p.bytes) x.bytes) (get_or-set_same fs i (longer (last_frame h) more) no_frame l')
          ∙ joined_bytes (last_frame h).bytes p.bytes (all→ _ j).1.1.1.1.0);
      kept = grow_set fs i more l';
    }

-- a part is passed over
pub add_part_passed : (budget : ℕ) (h : Stored) (p : Piece) → stores budget h p ≡ false → add_part budget h p ≡ h
unfolding add_part
add_part_passed budget h p s = rw s

-- or stored with its bytes, and what was held stays
pub add_part_added : (budget : ℕ) (h : Stored) (p : Piece) → frames_to (latest h.parts) ≡ length h.frames → stores budget h p ≡ true → Added h (add_part budget h p) p
unfolding add_part
add_part_added budget h p r s =
    test (opens h p) (λ o. rw (s, o) (opened_added h p))
    (λ o.
    let e : latest h.parts ≡ Some (last_part h) = latest_last h.parts (some_part h p o) in
    let n : suc (last_part h).frame ≡ length h.frames = rw e at r in
    rw (s, o) (grown_added h p (omega arith) (stored_joins budget h p s o)))

pub add_part_bytes : (budget : ℕ) (h : Stored) (p : Piece) → frames_to (latest h.parts) ≡ length h.frames → (add_part budget h p ≡ h) ⊎ Added h (add_part budget h p) p
add_part_bytes budget h p r = test (stores budget h p) (λ s. inr (add_part_added budget h p r s)) (λ s. inl (add_part_passed budget h p s))

-- what holds of each number below n and of n holds of each below n + 1
one_more : (P : ℕ → Type 0) (n m : ℕ) → m ≡ n + 1 → ((i : ℕ) → i < n → P i) → P n → (i : ℕ) → i < m → P i
one_more P n m e h q i l = ⊎_elim (λ (w : i ≡ n). subst P (sym w) q) (λ (w : i < n). h i w) (eq-or-lt_of_le (let h' : i ≤ n = omega arith in h'))

-- an older part keeps what it says
pub content_kept : (fs gs : List Frame) (p : Held) → Grow fs gs → p.frame < length fs → p.len ≤ length (frame_at fs p.frame).bytes → content_of fs p ≡ content_of gs p
content_kept fs gs p g l b =
    let e = g.bytes p.frame p.len l b in λ j. record { bytes = sym e j; number = p.number; kind = p.kind; remaining = p.remaining }

pub added_says : (P : ℕ → Content → Type 0) (a : Area) (k budget first : ℕ) (cs : List Checkpoint) (h h' : Stored) (p : Piece) → HeldIs a k budget first cs h.frames h.parts
    → Says P h.frames h.parts → P p.at (content_in p) → Added h h' p → Says P h'.frames h'.parts
added_says P a k budget first cs h h' p ok old q s =
    let ps = h.parts in
    rw s.parts
    (one_more (λ i. P (get_or (ps ++ (s.new ∷ [])) i no_held).at (content_of h'.frames (get_or (ps ++ (s.new ∷ [])) i no_held))) (length ps) _ (length_snoc ps s.new)
    (λ i l. rw (get_or-append ps (s.new ∷ []) no_held i l)
    (let x = get_or ps i no_held in let f = part_at a k budget first cs h.frames ps i ok l in
    subst (P x.at) (content_kept h.frames h'.frames x s.kept f.frame f.len) (old i l)))
    (rw (get_or-append_seam ps s.new [] no_held) (subst (P s.new.at) (sym s.content) (subst (λ (n : ℕ). P n (content_in p)) (sym s.at) q))))

-- ---- what stays
grow_self : (fs : List Frame) → Grow fs fs
grow_self fs = record { more = omega arith; start = λ i l. refl; long = λ i l. omega arith; bytes = λ i n l b. refl }

grow_more : (fs gs hs : List Frame) → Grow fs gs → Grow gs hs → Grow fs hs
grow_more fs gs hs g g' =
    let m = g.more in let m' = g'.more in
    record {
      more = omega arith;
      start = λ i l. g'.start i (omega arith) ∙ g.start i l;
      long = λ i l. let x = g.long i l in let y = g'.long i (omega arith) in omega arith;
      bytes = λ i n l b. let x = g.long i l in g'.bytes i n (omega arith) (omega arith) ∙ g.bytes i n l b;
    }

pub keeps_self : (h : Stored) → Keeps h h
keeps_self h = record { more = []; parts = sym (append-nil h.parts); frames = grow_self h.frames }

keeps_added : (h₀ h h' : Stored) (p : Piece) → Keeps h₀ h → Added h h' p → Keeps h₀ h'
keeps_added h₀ h h' p k s =
    record {
      more = k.more ++ (s.new ∷ []);
      parts = s.parts ∙ ap (λ (l : List Held). l ++ (s.new ∷ [])) k.parts ∙ append_assoc h₀.parts k.more (s.new ∷ []);
      frames = grow_more h₀.frames h.frames h'.frames k.frames s.kept;
    }

pub added_keeps : (h h' : Stored) (p : Piece) → Added h h' p → Keeps h h'
added_keeps h h' p s = keeps_added h h h' p (keeps_self h) s

-- ---- the parts of another list
pub add_parts_none : (budget : ℕ) (gs : List Frame) (n : ℕ) (h : Stored) → add_parts budget gs n [] h ≡ h
unfolding add_parts
add_parts_none budget gs n h = refl

pub add_parts_skip : (budget : ℕ) (gs : List Frame) (n : ℕ) (p : Held) (ps : List Held) (h : Stored) → ltb p.at n ≡ true
    → add_parts budget gs n (p ∷ ps) h ≡ add_parts budget gs n ps h
unfolding add_parts
add_parts_skip budget gs n p ps h t = ap (λ (b : Bool). add_parts budget gs n ps (cond b h (add_part budget h (piece gs p)))) t

pub add_parts_add : (budget : ℕ) (gs : List Frame) (n : ℕ) (p : Held) (ps : List Held) (h : Stored) → ltb p.at n ≡ false
    → add_parts budget gs n (p ∷ ps) h ≡ add_parts budget gs n ps (add_part budget h (piece gs p))
unfolding add_parts
add_parts_add budget gs n p ps h t = ap (λ (b : Bool). add_parts budget gs n ps (cond b h (add_part budget h (piece gs p)))) t

-- what R says of each part and the one before it
abbrev Each : (Option Held → Held → Type 0) → Option Held → List Held → Type 0
Each R o ps = (i : ℕ) → i < length ps → R (arrived keep o (take i ps)) (get_or ps i no_held)

-- a property of what is held that each part passed over or added keeps
pub add_parts_keep : (Q : Option Held → Stored → Type 0) (R : Option Held → Held → Type 0) (budget : ℕ) (gs : List Frame) (n : ℕ)
    → ((o : Option Held) (p : Held) (h : Stored) → R o p → p.at < n → Q o h → Q (Some p) h)
    → ((o : Option Held) (p : Held) (h : Stored) → R o p → n ≤ p.at → Q o h → Q (Some p) (add_part budget h (piece gs p)))
    → (o : Option Held) (ps : List Held) (h : Stored) → Each R o ps → Q o h → Q (arrived keep o ps) (add_parts budget gs n ps h)
add_parts_keep Q R budget gs n skip add o [] h e x = rw (arrived_none keep o, add_parts_none budget gs n h) x
add_parts_keep Q R budget gs n skip add o (p ∷ ps) h e x =
    let w : R o p = rw (arrived_none keep o) at (e zero (omega arith)) in
    let v : Each R (Some p) ps = λ i l. rw (arrived_cons keep o p (take i ps)) at (e (suc i) (omega arith)) in
    test (ltb p.at n)
    (λ t. rw (arrived_cons keep o p ps, add_parts_skip budget gs n p ps h t) (add_parts_keep Q R budget gs n skip add (Some p) ps h v (skip o p h w (ltb-true p.at n t) x)))
    (λ t. rw (arrived_cons keep o p ps, add_parts_add budget gs n p ps h t)
    (add_parts_keep Q R budget gs n skip add (Some p) ps (add_part budget h (piece gs p)) v (add o p h w (ltb-false p.at n t) x)))

-- what is held, h₀ at first, after parts up to o came in: the rules hold, the parts say what P says, and the next part comes after all
pub record Taken (P : ℕ → Content → Type 0) (a : Area) (k budget first : ℕ) (cs : List Checkpoint) (n : ℕ) (h₀ : Stored) (o : Option Held) (h : Stored) : Type 0 where
  pub keeps : Keeps h₀ h
  pub held : HeldIs a k budget first cs h.frames h.parts
  pub says : Says P h.frames h.parts
  pub next : (j : ℕ) → n ≤ j → at_after o ≤ j → at_after (latest h.parts) ≤ j

module _ (P : ℕ → Content → Type 0) (a : Area) (k budget first : ℕ) (cs : List Checkpoint) (n : ℕ) (h₀ : Stored) (gs : List Frame) where
  take_skip : (o : Option Held) (p : Held) (h : Stored) → at_after o ≤ p.at → p.at < n → Taken P a k budget first cs n h₀ o h → Taken P a k budget first cs n h₀ (Some p) h
  take_skip o p h w l t = record { keeps = t.keeps; held = t.held; says = t.says; next = λ j x y. t.next j x (omega arith) }

  pub take_add : (o : Option Held) (p : Held) (h : Stored) → at_after o ≤ p.at → n ≤ p.at → PieceIs a k first cs (piece gs p) → P p.at (content_of gs p)
      → Taken P a k budget first cs n h₀ o h → Taken P a k budget first cs n h₀ (Some p) (add_part budget h (piece gs p))
  take_add o p h w l pok q t =
      let rises = t.next p.at l w in
      let h' = add_part budget h (piece gs p) in
      let b = add_part_bytes budget h (piece gs p) t.held.reached in
      let says' : Says P h'.frames h'.parts =
      ⊎_elim (λ e. rw e t.says) (λ s. added_says P a k budget first cs h h' (piece gs p) t.held t.says q s) b in
      let next' : at_after (latest h'.parts) ≤ suc p.at =
      ⊎_elim (λ e. rw e (omega arith)) (λ s. rw (s.parts, arrived_snoc keep None h.parts s.new, s.at) (omega arith)) b in
      let keeps' : Keeps h₀ h' = ⊎_elim (λ e. rw e t.keeps) (λ s. keeps_added h₀ h h' (piece gs p) t.keeps s) b in
      record { keeps = keeps'; held = add_part_ok a k budget first cs h t.held (piece gs p) pok rises; says = says'; next = λ j x y. omega arith }

-- the checkpoints cs and, from there on, ds, whose first number is first'
abbrev pub onward : ℕ → List Checkpoint → ℕ → List Checkpoint → List Checkpoint
onward first cs first' ds = cs ++ drop (first + length cs - first') ds

module _ (P : ℕ → Content → Type 0) (a : Area) (k budget budget' first first' : ℕ) (cs ds : List Checkpoint) (gs : List Frame) (qs : List Held) (h : Stored)
    (ok : HeldIs a k budget first cs h.frames h.parts) (ok' : HeldIs a k budget' first' ds gs qs) (joins : first' ≤ first + length cs) where
  -- a part from the next number on, handed over
  pub onward_piece : (p : Held) → PartIs a k first' ds gs p → first + length cs ≤ p.at → PieceIs a k first (onward first cs first' ds) (piece gs p)
  onward_piece p f l =
      let x = f.low in let y = f.high in let m = first + length cs - first' in
      let e : checkpoint_at (onward first cs first' ds) (p.at - first) ≡ checkpoint_at ds (p.at - first') =
      ap (checkpoint_at (onward first cs first' ds)) (let z : p.at - first ≡ length cs + (p.at - (first + length cs)) = omega arith in z)
      ∙ get_or-append-add cs (drop m ds) (p.at - (first + length cs)) no_checkpoint ∙ get_or-drop m ds (p.at - (first + length cs)) no_checkpoint
      ∙ ap (checkpoint_at ds) (let z : m + (p.at - (first + length cs)) ≡ p.at - first' = omega arith in z) in
      let r = frame_at_lemma a budget' gs p.frame ok'.frames f.frame in
      record {
        low = omega arith;
        high = omega (arith, length-append cs (drop m ds), length-drop m ds);
        back = rw e f.back;
        start = rw e f.start;
        begins = r.0;
        ends = r.1;
        number = f.number;
      }

  -- before the first part
  pub add_parts_start : Says P h.frames h.parts → Taken P a k budget first (onward first cs first' ds) (first + length cs) h None h
  add_parts_start s =
      record {
        keeps = keeps_self h;
        held = held_append a k budget first cs (drop (first + length cs - first') ds) h.frames h.parts ok;
        says = s;
        next = λ j x y. let z = latest_below a k first cs h.frames None h.parts (omega arith) ok.parts in omega arith;
      }

  -- a stretch ps of the other list, after o
  pub add_parts_on : (h₀ : Stored) (o : Option Held) (ps : List Held) (x : Stored) → walk (part_ok a k first' ds gs) keep o ps ≡ true
      → Says (λ at c. first + length cs ≤ at → P at c) gs ps → Taken P a k budget first (onward first cs first' ds) (first + length cs) h₀ o x
      → Taken P a k budget first (onward first cs first' ds) (first + length cs) h₀ (arrived keep o ps) (add_parts budget gs (first + length cs) ps x)
  add_parts_on h₀ o ps x w s t =
      let n = first + length cs in let cs' = onward first cs first' ds in
      add_parts_keep (λ o x. Taken P a k budget first cs' n h₀ o x) (λ o p. (part_ok a k first' ds gs o p ≡ true) × (n ≤ p.at → P p.at (content_of gs p))) budget gs n
      (λ o p x w l t. take_skip P a k budget first cs' n h₀ gs o p x (follows→ o p (part→ a k first' ds gs o p w.0).1).0 l t)
      (λ o p x w l t. let f = part→ a k first' ds gs o p w.0 in
      take_add P a k budget first cs' n h₀ gs o p x (follows→ o p f.1).0 l (onward_piece p f.0 l) (w.1 l) t)
      o ps x (λ i l. (walk_at (part_ok a k first' ds gs) keep no_held o ps i w l, s i l)) t

  -- the parts of another list keep the rules over the longer list
  pub add_parts_ok : Says P h.frames h.parts → Says (λ at c. first + length cs ≤ at → P at c) gs qs
      → Taken P a k budget first (onward first cs first' ds) (first + length cs) h (latest qs) (add_parts budget gs (first + length cs) qs h)
  add_parts_ok s s' = add_parts_on h None qs h ok'.parts s' (add_parts_start s)

-- a part for the next checkpoint
pub next_part : (a : Area) (k budget first : ℕ) (cs : List Checkpoint) (h : Stored) (c : Checkpoint) (p : Piece) → HeldIs a k budget first cs h.frames h.parts
    → p.at ≡ first + length cs → 0 < c.back → c.back ≤ (first + length cs) * k → lsn_of a k (first + length cs) < a.end → p.start ≡ lsn_of a k (first + length cs) - c.back
    → p.number < lim → HeldIs a k budget first (cs ++ (c ∷ [])) (add_part budget h p).frames (add_part budget h p).parts
next_part a k budget first cs h c p ok at b b' hi s n =
    let e : checkpoint_at (cs ++ (c ∷ [])) (p.at - first) ≡ c =
    ap (checkpoint_at (cs ++ (c ∷ []))) (let z : p.at - first ≡ length cs = omega arith in z) ∙ get_or-append_seam cs c [] no_checkpoint in
    let at' : lsn_of a k p.at ≡ lsn_of a k (first + length cs) = ap (lsn_of a k) at in
    add_part_ok a k budget first (cs ++ (c ∷ [])) h (held_append a k budget first cs (c ∷ []) h.frames h.parts ok) p
    (record {
      low = omega arith;
      high = omega (arith, length_snoc cs c);
      back = rw e b;
      start = rw (e, at') (sym s);
      begins = omega arith;
      ends = omega arith;
      number = n;
    })
    (let z = latest_below a k first cs h.frames None h.parts (omega arith) ok.parts in omega arith)
