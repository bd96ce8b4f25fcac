-- When disc files are refused, on values, over tables and in C. Assumes nothing.
use Rattle.std.specs.Prelude.{Option, Some}
use mathlib.Core.Path.{◌≡◌, refl, sym, ◌∙◌}
use mathlib.Core.Bool.{true, false, ◌&&◌}
use mathlib.Core.List.{List, [], ◌∷◌}
use mathlib.Core.Logic.{◌⊎◌, inl, inr}
use Prim.Native.Nat.{ℕ, ◌+◌, ◌<◌, ◌≤◌}
use native.Mathlib.Omega.{arith}
use borrow.Author.Tests.{ltb-true}
use lib.Dec.{ltb}
use lib.ListN.{length}
use Rattle.rules.specs.declared.Area.{Area}
use Rattle.rules.specs.Tests.{Refused, after, bind, ask, first_no}
use Rattle.rules.specs.Values.{Index, Lengths, max32}
use Rattle.rules.specs.Questions.{Four}
use Rattle.rules.specs.File.{saved, saved_length}
use Rattle.rules.specs.Load.{load}
use Rattle.rules.proofs.Tests.{test, both, →asked, →bind, refused_bind}
use Rattle.laws.proofs.Length.{saved_length_is}
use Rattle.blocks.specs.Blocks.{is_index}
use Rattle.rules_disc.specs.Disc.{slot_of, slot_area, contents_ok, contents_of, entries_ok, save_lists, save_one, by_slot, save_both, load_body, load_bodies, load_disc}
use Rattle.tables.specs.Index.{room_of, index_in, kinds_in}
use Rattle.save.specs.Save.{save_out}
use Rattle.disc_load.specs.DiscLoad.{disc_out_of, load_disc_in}
use Rattle.disc_save.specs.DiscSave.{save_one_in, save_both_in}
use Rattle.blocks.specs.Calls.{called, head_index, saved_number}
use Rattle.player_disc.specs.Block.{loaded_into}
use Rattle.player_disc.specs.PlayerDisc.{disc_save_call, disc_save_both_call}
use Rattle.theorems.specs.DiscRefusals.{DiscRefusals, DiscRefusalsIn, DiscRefusalsInC}
use Rattle.theorems.proofs.TableRun.{kinds_pass}
use Rattle.theorems.proofs.disc.Tables.{first→}
use Rattle.theorems.proofs.disc.DiscFile.{equal_slots}
use Rattle.theorems.proofs.disc.Accepts.{up}
use Rattle.theorems.proofs.disc.RoundTripInC.{→in_head, loads_c}

-- a body that is refused
body_refused : (l : Lengths) (a : Area) (limit : ℕ) (o : Option (List ℕ)) (c : List ℕ) (n : ℕ) → o ≡ Some c
    → load l a c limit ≡ Refused n → load_body l a limit o ≡ Refused n
unfolding load_body bind
body_refused l a limit o c n e f = rw (e, f) refl

-- lists that pass 1 to 4, and not 54
lists_refused : (p : Four) (xs : List Index) (out : ℕ) → p.one ≡ true → p.two ≡ true → p.three ≡ true → p.four
    ≡ true → entries_ok 0 (contents_of xs) ≡ false
    → save_lists p xs out ≡ Refused 54
unfolding save_lists after first_no
lists_refused p xs out a b c d e = rw (a, b, c, d, e) refl

-- an offset or a length above four bytes
too_wide : (x y : Index) → ((max32 < 28 + length (saved x)) ⊎ (max32 < length (saved y)))
    → entries_ok 0 (contents_of (x ∷ y ∷ [])) ≡ false
too_wide x y w =
    test (entries_ok 0 (contents_of (x ∷ y ∷ [])))
    (λ h.
    let f = first→ 0 28 x (y ∷ []) h in
    let g = first→ (slot_of x + 1) (28 + saved_length x) y [] f.rest in
    let z : ⊥ = not_both w g.offset g.len in absurd z)
    (λ h. h)
  where
    not_both : ((max32 < 28 + length (saved x)) ⊎ (max32 < length (saved y))) → 28 + saved_length x ≤ max32
        → saved_length y ≤ max32 → ⊥
    not_both (inl a) p q = omega (arith, a, p, (saved_length_is x).0)
    not_both (inr a) p q = omega (arith, a, q, (saved_length_is y).0)

too_wide_one : (x : Index) → max32 < length (saved x) → entries_ok 0 (contents_of (x ∷ [])) ≡ false
too_wide_one x w =
    test (entries_ok 0 (contents_of (x ∷ [])))
    (λ h. let f = first→ 0 16 x [] h in let z : ⊥ = omega (arith, f.len, w, (saved_length_is x).0) in absurd z) (λ h. h)

pub disc_refusals : DiscRefusals
unfolding load_disc load_bodies save_both save_one by_slot after first_no
disc_refusals =
    record {
      areas = λ l m a0 a1 b limit q. rw q refl;
      table = λ l m a0 a1 b limit p q c. let k : (slot_area 0 a0 && slot_area 1 a1) ≡ true = both p q in rw (k, c) refl;
      first = λ l m a0 a1 b limit c n p q k e f.
          →asked (ask (slot_area 0 a0 && slot_area 1 a1) 1 ∷ ask (contents_ok b) 54 ∷ []) (both p q, (k, tt))
          (refused_bind _ n (body_refused l a0 limit _ c n e f));
      second = λ l m a0 a1 b limit o d n p q k e f g.
          →asked (ask (slot_area 0 a0 && slot_area 1 a1) 1 ∷ ask (contents_ok b) 54 ∷ []) (both p q, (k, tt))
          (→bind _ e (refused_bind _ n (body_refused m a1 limit _ d n f g)));
      share = λ l m x y out v w e.
          let n : ltb (slot_of x) (slot_of y) ≡ false = same_slot x y e in
          rw n (lists_refused _ (y ∷ x ∷ []) out (both v.one w.one) (both v.two w.two)
          (both v.three w.three) (both v.four w.four) (equal_slots y x (sym e)));
      wide = λ l m x y out v w s t e.
          rw (up x y s t) (lists_refused _ (x ∷ y ∷ []) out (both v.one w.one) (both v.two w.two)
          (both v.three w.three) (both v.four w.four) (too_wide x y e));
      wide_one = λ l x out v e. lists_refused _ (x ∷ []) out v.one v.two v.three v.four (too_wide_one x e);
    }
  where
    same_slot : (x y : Index) → slot_of x ≡ slot_of y → ltb (slot_of x) (slot_of y) ≡ false
    same_slot x y e =
        test (ltb (slot_of x) (slot_of y)) (λ h. let z : ⊥ = omega (arith, ltb-true (slot_of x) (slot_of y) h, e)
        in absurd z) (λ h. h)

pub disc_refusals_in : DiscRefusalsIn
unfolding load_disc_in disc_out_of save_one_in save_both_in save_out
disc_refusals_in =
    record {
      loads = λ a0 a1 b limit t u n e. rw e refl;
      saves = λ x t old n v e. rw (
        kinds_pass (kinds_in x t) (save_one (room_of t) (index_in x t) (length old))
            v.kinds,
        e,
      ) refl;
      saves_both = λ x y t u old n v w e.
          let k : (kinds_in x t && kinds_in y u) ≡ true = both v.kinds w.kinds in
          rw (
            kinds_pass (kinds_in x t && kinds_in y u)
                (save_both (room_of t) (index_in x t) (room_of u) (index_in y u) (length old)) k,
            e,
          ) refl;
    }

pub disc_refusals_in_c : DiscRefusalsInC
unfolding disc_save_call disc_save_both_call loaded_into saved_number
disc_refusals_in_c =
    record {
      loads = λ head other answer a0 a1 b limit t u n d e. loads_c head other answer a0 a1 b limit t u d
          ∙ rw (disc_refusals_in.loads a0 a1 b limit t u n e) refl;
      saves = λ head t old n d v e. →in_head (is_index head) (called 3 old) _ _ d
          (rw (disc_refusals_in.saves (head_index head) t old n v e) refl);
      saves_both = λ head other t u old n d k v w e.
          →in_head (is_index head) (called 3 old) _ _ d
          (→in_head (is_index other) (called 3 old) _ _ k
          (rw (disc_refusals_in.saves_both (head_index head) (head_index other) t u old n v w e) refl));
    }
