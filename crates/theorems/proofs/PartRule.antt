-- What the part rule keeps: the statements of specs/PartRule.antt. Assumes nothing.
use Rattle.std.specs.Prelude.{Option, None, Some}
use mathlib.Core.Path.{◌≡◌, refl, sym, ap, ◌∙◌}
use mathlib.Core.Bool.{true, false}
use mathlib.Core.Logic.{◌≢◌}
use mathlib.Core.List.{List, [], ◌∷◌, ◌++◌}
use Prim.Native.Nat.{ℕ, suc, ◌+◌, ◌<◌, ◌≤◌}
use native.Mathlib.Omega.{arith}
use lib.ListN.{length, get_or, length-append, get_or-append}
use lib.Seq.{get_or-append_seam, get_or-append-add}
use borrow.Author.Tests.{le-ltb}
use Rattle.rules.specs.declared.Area.{Area}
use Rattle.rules.specs.declared.Checkpoint.{Checkpoint}
use Rattle.rules.specs.declared.Held.{Held}
use Rattle.rules.specs.Tests.{walk}
use Rattle.rules.specs.Values.{Frame, no_held}
use Rattle.rules.specs.Sections.{part_ok}
use Rattle.rules.specs.PartRule.{Stored, stores, add_part, piece, add_parts}
use Rattle.rules.specs.Run.{Content, content_of}
use Rattle.rules.proofs.Walk.{arrived, length_snoc, walk_head, walk_tail, walk_left, walk_right}
use Rattle.laws.specs.Kept.{Keeps, Says}
use Rattle.laws.proofs.scans.Parts.{keep, at_after, part→, follows→, HeldIs, held→, →held, part_at, parts_rise}
use Rattle.laws.proofs.scans.PartRule.{Taken, onward, content_kept, keeps_self, added_keeps, add_part_passed, add_part_added, add_parts_add, add_parts_start, add_parts_on, add_parts_ok, onward_piece, take_add, next_part}
use Rattle.theorems.specs.Terms.{Stays, Holds}
use Rattle.theorems.specs.PartRule.{PartClosed, PartStored, PartPassedOver, Admits, PartsAdmitted}

pub part_closed : PartClosed
part_closed a k budget first cs h c p e at b b' hi s n = →held _ _ _ _ _ _ _
    (next_part a k budget first cs h c p (held→ _ _ _ _ _ _ _ e) at b b' hi s n)

-- what is held stays where frames only grow and parts are only appended
stays : (a : Area) (k budget first : ℕ) (cs : List Checkpoint) (h h' : Stored)
    → HeldIs a k budget first cs h.frames h.parts → Keeps h h' → (i : ℕ) → i < length h.parts
    → Stays h h' i
stays a k budget first cs h h' ok s i l =
    let f = part_at a k budget first cs h.frames h.parts i ok l in
    let q : get_or h'.parts i no_held ≡ get_or h.parts i no_held = ap (λ (x : List _). get_or x i no_held) s.parts
    ∙ get_or-append h.parts s.more no_held i l in
    record {
      part = q;
      content = ap (content_of h'.frames) q ∙ sym
          (content_kept h.frames h'.frames (get_or h.parts i no_held) s.frames f.frame f.len);
    }

pub part_stored : PartStored
part_stored a k budget first cs h p e s =
    let ok = held→ a k budget first cs h.frames h.parts e in let h' = add_part budget h p in
    let t = add_part_added budget h p ok.reached s in
    let q : get_or h'.parts (length h.parts) no_held
    ≡ t.new = ap (λ (x : List _). get_or x (length h.parts) no_held) t.parts
    ∙ get_or-append_seam h.parts t.new [] no_held in
    record {
      count = ap length t.parts ∙ length_snoc h.parts t.new;
      older = stays a k budget first cs h h' ok (added_keeps h h' p t);
      checkpoint = ap (λ (x : Held). x.at) q ∙ t.at;
      content = ap (content_of h'.frames) q ∙ t.content;
    }

pub part_passed_over : PartPassedOver
part_passed_over = add_part_passed

-- ---- the parts of another list
-- a stretch, then another
add_parts_append : (budget : ℕ) (gs : List Frame) (n : ℕ) (xs ys : List Held) (h : Stored)
    → add_parts budget gs n (xs ++ ys) h ≡ add_parts budget gs n ys (add_parts budget gs n xs h)
unfolding add_parts
add_parts_append budget gs n [] ys h = refl
add_parts_append budget gs n (x ∷ xs) ys h = add_parts_append budget gs n xs ys _

module _ (a : Area) (k budget budget' first first' : ℕ) (cs ds : List Checkpoint) (gs : List Frame) (qs : List Held)
    (h : Stored)
    (ok : HeldIs a k budget first cs h.frames h.parts) (ok' : HeldIs a k budget' first' ds gs qs)
    (joins : first' ≤ first + length cs) where
  abbrev n : ℕ
  n = first + length cs

  abbrev cs' : List Checkpoint
  cs' = onward first cs first' ds

  abbrev On : (ℕ → Content → Type 0) → Stored → Option Held → Stored → Type 0
  On P h₀ o x = Taken P a k budget first cs' n h₀ o x

  -- what every part comes to hold
  abbrev Any : ℕ → Content → Type 0
  Any at c = Unit {0}

  held_after : HeldIs a k budget first cs' (add_parts budget gs n qs h).frames (add_parts budget gs n qs h).parts
  held_after = (add_parts_ok Any a k budget budget' first first' cs ds gs qs h ok ok' joins (λ i l. tt) (λ i l m. tt)
      ).held

  given_after : Says (λ at c. n ≤ at → Holds (record { frames = gs; parts = qs }) at c)
      (add_parts budget gs n qs h).frames (add_parts budget gs n qs h).parts
  given_after =
      (add_parts_ok (λ at c. n ≤ at → Holds (record { frames = gs; parts = qs }) at c) a k budget budget' first first'
      cs ds gs qs h ok ok' joins
      (λ i l m. let f = (part_at a k budget first cs h.frames h.parts i ok l).high in let z : ⊥ = omega arith
      in absurd z)
      (λ i l m m'. record { place = i; inside = l; checkpoint = refl; content = refl })).says

  -- ---- one of them, q, whose turn comes after xs
  module _ (xs ys : List Held) (q : Held) (e : qs ≡ xs ++ (q ∷ ys)) (late : n ≤ q.at) where
    -- what is held when its turn comes, and after it
    abbrev before : Stored
    before = add_parts budget gs n xs h

    abbrev behind : Stored
    behind = add_part budget before (piece gs q)

    -- where it stands among the others
    abbrev earlier : Option Held
    earlier = arrived keep None xs

    whole : walk (part_ok a k first' ds gs) keep None (xs ++ (q ∷ ys)) ≡ true
    whole = rw e at ok'.parts

    from_q : walk (part_ok a k first' ds gs) keep earlier (q ∷ ys) ≡ true
    from_q = walk_right (part_ok a k first' ds gs) keep None xs (q ∷ ys) whole

    in_turn : part_ok a k first' ds gs earlier q ≡ true
    in_turn = walk_head (part_ok a k first' ds gs) keep earlier q ys from_q

    in_order : at_after earlier ≤ q.at
    in_order = (follows→ earlier q (part→ a k first' ds gs earlier q in_turn).1).0

    result : add_parts budget gs n qs h ≡ add_parts budget gs n ys behind
    result =
        ap (λ (l : List Held). add_parts budget gs n l h) e ∙ add_parts_append budget gs n xs (q ∷ ys) h
        ∙ add_parts_add budget gs n q ys before (le-ltb q.at n late)

    admitted_after : stores budget before (piece gs q) ≡ true
        → Holds (add_parts budget gs n qs h) q.at (content_of gs q)
    admitted_after s =
        let x = add_parts_on Any a k budget budget' first first' cs ds gs qs h ok ok' joins h None xs h
        (walk_left (part_ok a k first' ds gs) keep None xs (q ∷ ys) whole) (λ i l m. tt)
        (add_parts_start Any a k budget budget' first first' cs ds gs qs h ok ok' joins (λ i l. tt)) in
        let t = add_part_added budget before (piece gs q) x.held.reached s in
        let y = take_add Any a k budget first cs' n h gs earlier q before in_order late
        (onward_piece Any a k budget budget' first first' cs ds gs qs h ok ok' joins q
        (part→ a k first' ds gs earlier q in_turn).0 late) tt x in
        let z = add_parts_on Any a k budget budget' first first' cs ds gs qs h ok ok' joins behind (Some q) ys behind
        (walk_tail (part_ok a k first' ds gs) keep earlier q ys from_q) (λ i l m. tt)
        (record { keeps = keeps_self behind; held = y.held; says = λ i l. tt; next = y.next }) in
        let i = length before.parts in
        let l : i < length behind.parts = omega
        (arith, ap length t.parts, length_snoc before.parts t.new) in
        let r : get_or behind.parts i no_held ≡ t.new = ap (λ (x : List _). get_or x i no_held) t.parts
        ∙ get_or-append_seam before.parts t.new [] no_held in
        let w = stays a k budget first cs' behind (add_parts budget gs n ys behind) y.held z.keeps i l in
        rw result
        (record {
          place = i;
          inside = omega (arith, ap length z.keeps.parts, length-append behind.parts z.keeps.more);
          checkpoint = ap (λ (x : Held). x.at) (w.part ∙ r) ∙ t.at;
          content = w.content ∙ ap (content_of behind.frames) r ∙ t.content;
        })

    -- the others are for other checkpoints
    abbrev Other : ℕ → Content → Type 0
    Other at c = at ≢ q.at

    rises : (i j : ℕ) → i < j → j < length (xs ++ (q ∷ ys))
        → (get_or (xs ++ (q ∷ ys)) i no_held).at < (get_or (xs ++ (q ∷ ys)) j no_held).at
    rises = parts_rise a k first' ds gs (xs ++ (q ∷ ys)) whole

    lengths : length (xs ++ (q ∷ ys)) ≡ length xs + suc (length ys)
    lengths = length-append xs (q ∷ ys)

    before_q : (i : ℕ) → i < length xs → (get_or xs i no_held).at < q.at
    before_q i l =
        rw (get_or-append xs (q ∷ ys) no_held i l, get_or-append_seam xs q ys no_held) at
        (rises i (length xs) l (omega (arith, lengths)))

    behind_q : (i : ℕ) → i < length ys → q.at < (get_or ys i no_held).at
    behind_q i l =
        rw (get_or-append_seam xs q ys no_held, get_or-append-add xs (q ∷ ys) (suc i) no_held) at
        (rises (length xs) (length xs + suc i) (omega arith) (omega (arith, lengths)))

    passed_after : stores budget before (piece gs q) ≡ false
        → Says Other (add_parts budget gs n qs h).frames (add_parts budget gs n qs h).parts
    passed_after s =
        let x = add_parts_on Other a k budget budget' first first' cs ds gs qs h ok ok' joins h None xs h
        (walk_left (part_ok a k first' ds gs) keep None xs (q ∷ ys) whole)
        (λ i l m w. let v = before_q i l in omega arith)
        (add_parts_start Other a k budget budget' first first' cs ds gs qs h ok ok' joins
        (λ i l w. let f = (part_at a k budget first cs h.frames h.parts i ok l).high in omega arith)) in
        let y : On Other h (Some q) before = record {
          keeps = x.keeps;
          held = x.held;
          says = x.says;
          next = λ j m m'. let o = in_order in x.next j m (omega arith);
        } in
        let z = add_parts_on Other a k budget budget' first first' cs ds gs qs h ok ok' joins h (Some q) ys before
        (walk_tail (part_ok a k first' ds gs) keep earlier q ys from_q)
        (λ i l m w. let v = behind_q i l in omega arith) y in
        rw (result, add_part_passed budget before (piece gs q) s) z.says

  pub admits : Admits budget gs n qs h (add_parts budget gs n qs h)
  admits =
      record {
        older = stays a k budget first cs h (add_parts budget gs n qs h) ok
            (add_parts_ok Any a k budget budget' first first' cs ds gs qs h ok ok' joins (λ i l. tt) (λ i l m. tt)
            ).keeps;
        given = given_after;
        admitted = admitted_after;
        passed = passed_after;
      }

pub parts_admitted : PartsAdmitted
parts_admitted a k budget budget' first first' cs ds gs qs h e e' l =
    let ok = held→ a k budget first cs h.frames h.parts e in let ok' = held→ a k budget' first' ds gs qs e' in (
      admits a k budget budget' first first' cs ds gs qs h ok ok' l,
      →held _ _ _ _ _ _ _ (held_after a k budget budget' first first' cs ds gs qs h ok ok' l),
    )
