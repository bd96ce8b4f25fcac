-- What shuts out programs that do nothing useful, about tables: the statements of specs/UsefulInTables.antt. Assumes nothing.
use Rattle.std.specs.Prelude.{None}
use mathlib.Core.Path.{◌≡◌, refl, sym, ap, subst, ◌∙◌}
use mathlib.Core.List.{List}
use Prim.Native.Nat.{ℕ, ◌<◌}
use native.Mathlib.Omega.{arith}
use lib.ListN.{length}
use Rattle.field.proofs.Records.{records_length}
use Rattle.rules.specs.Tests.{Answer, Refused, Accepted}
use Rattle.rules.specs.Values.{Index}
use Rattle.rules.specs.Plan.{plan}
use Rattle.rules_jump.specs.Names.{named_hint}
use Rattle.rules_jump.proofs.Values.{named_none}
use Rattle.tables.specs.Tables.{decode_kept, given_in}
use Rattle.rules.specs.File.{saved, save, over}
use Rattle.rules.proofs.Tests.{accepted→}
use Rattle.laws.proofs.Facts.{sized→}
use Rattle.laws.proofs.Length.{saved_length_is}
use Rattle.laws.proofs.Question4.{saved_bytes}
use Rattle.tables.specs.Index.{room_of, index_in, kinds_in, kinded, numbers_from, made_out_of}
use Rattle.index.proofs.Lent.{sized_in}
use Rattle.index.proofs.Standing.{stands}
use Rattle.plan.specs.Plan.{plan_in}
use Rattle.tables.specs.Recorder.{recorder_room, recorder_in}
use Rattle.hint.specs.Hint.{hint_in}
use Rattle.save.specs.Save.{SaveOut, save_out, save_in, made}
use Rattle.theorems.specs.Useful.{LoadOf, MergedOf, AbsorbedOf}
use Rattle.theorems.specs.UsefulInTables.{LoadKeepsIn, MergeTakesIn, AbsorbTakesIn, SaveOf, SaveTellsIn, PlanLooksIn, HintLooksIn}
use Rattle.theorems.proofs.MergeInTables.{kinded→, merge_left}
use Rattle.theorems.proofs.AbsorbInTables.{absorb_left}
use Rattle.theorems.proofs.TableRun.{kinds_pass}
use Rattle.theorems.proofs.Useful.{load_keeps, merge_takes, absorb_takes, plan_looks, hint_looks}
use Rattle.theorems.proofs.disc.AcceptsInTables.{load_savable}

-- ---- load
pub load_keeps_in : LoadKeepsIn
unfolding made_out_of
load_keeps_in x t a v limit t' q =
    let i = index_in x t in
    let s = sized_in x t a.typed a.bytes in
    let k = load_keeps (room_of t') i (record {
      one = v.valid.one;
      two = v.valid.two;
      three = q;
      four = v.valid.four;
    }) s limit in
    let w = load_savable (room_of t') x.area (saved i) limit k.0 (saved_bytes i (sized→ i s)) k.1 in
    rw k.1 (record {
      numbers = numbers_from k.0;
      answer = refl;
      list = subst (λ (z : Index). LoadOf limit i z) (sym (stands k.0 t' w)) k.2;
    })

-- ---- merge
pub merge_takes_in : MergeTakesIn
merge_takes_in x t y u z t' a b e =
    let l = merge_left x t y u z t' a b e in
    subst (λ (w : Index). MergedOf (index_in x t) (index_in y u) w) (sym l.stands)
    (merge_takes (room_of t) (room_of u) (index_in x t) (index_in y u) l.list l.accepted)

-- ---- absorb
pub absorb_takes_in : AbsorbTakesIn
absorb_takes_in x t image given r u a b e m =
    let l = absorb_left x t image given r u a b e in
    subst (λ (y : Index). AbsorbedOf (index_in x t) (recorder_in r u) image (given_in given) y) (sym l.list)
    (absorb_takes (room_of t) (index_in x t) (recorder_room u) (recorder_in r u) image (given_in given)
    l.accepted m)

-- ---- save
pub save_tells_in : SaveTellsIn
unfolding save_in save_out save
save_tells_in x t old n new e = told_of (kinded (kinds_in x t) (save (room_of t) (index_in x t) (length old))) refl e
  where
    told_of : (r : Answer (List ℕ)) → kinded (kinds_in x t) (save (room_of t) (index_in x t) (length old)) ≡ r
        → save_out r old ≡ made (Accepted n) new → SaveOf (index_in x t) old n new
    told_of (Refused m) q h = let a = ap (λ (o : SaveOut). o.answer) h in let z : ◌≡◌ {A = ℕ} 0 1 = cc
        in let f : ⊥ = omega arith in absurd f
    told_of (Accepted b) q h =
        let a : Accepted (length b) ≡ Accepted n = ap (λ (o : SaveOut). o.answer) h in
        let l : length b ≡ n = cc in
        let k = kinded→ (kinds_in x t) (save (room_of t) (index_in x t) (length old)) b q in
        let f : saved (index_in x t) ≡ b = (accepted→ _ (saved (index_in x t)) b k.1).1 in
        let d = saved_length_is (index_in x t) in
        let w : length (saved (index_in x t)) ≡ n = ap length f ∙ l in
        record {
          number = omega (arith, w, d.0);
          least = omega (arith, w, d.0, d.1);
          whole = w;
          bytes = sym (ap (λ (o : SaveOut). o.out) h) ∙ ap (λ (c : List ℕ). over c old) (sym f);
        }

-- ---- plan, hint
pub plan_looks_in : PlanLooksIn
unfolding plan_in
plan_looks_in =
    record {
      answers = λ x t f p e. plan_looks.answers (room_of t) (index_in x t) f p
          (kinded→ (kinds_in x t) (plan (room_of t) (index_in x t) f) p e).1;
      ends = λ x t f e v q l.
          kinds_pass (kinds_in x t) (plan (room_of t) (index_in x t) f) v.kinds
          ∙ plan_looks.ends (room_of t) (index_in x t) f e v.valid (rw q refl) l;
    }

pub hint_looks_in : HintLooksIn
unfolding hint_in
hint_looks_in x t first end playtime i e l =
    let n : i < length (index_in x t).hinting.hints = rw (records_length 8 decode_kept x.hints t.hints) l in
    hint_looks (room_of t) (index_in x t) first end playtime i
    (named_none (room_of t) (index_in x t) first end playtime
    (kinded→ (kinds_in x t) (named_hint (room_of t) (index_in x t) first end playtime) None e).1) n
