-- What an accepted call leaves in its tables, and that it is accepted. Assumes nothing.
use mathlib.Core.Path.{◌≡◌, refl, sym, ap, subst, ◌∙◌}
use Prim.Native.Nat.{ℕ}
use Rattle.rules.specs.declared.AreaIndex.{AreaIndex}
use Rattle.rules.specs.Tests.{Accepted, after}
use Rattle.rules.specs.Values.{Index}
use Rattle.rules.proofs.Tests.{asked→, asks, after→, →after, accepted_eq}
use Rattle.laws.specs.Statements.{Savable}
use Rattle.laws.proofs.Facts.{facts}
use Rattle.rules_coarsen.specs.Coarse.{coarser, coarse_number, coarse}
use Rattle.rules.specs.declared.Made.TheVariants as made
use Rattle.tables.specs.Index.{Tables, room_of, index_in, kinded_number, refusal, numbers_from, tables_from, made_out, made_out_of}
use Rattle.index.proofs.Lent.{sized_in}
use Rattle.index.proofs.Questions.{passes, passes_kinds}
use Rattle.index.proofs.Standing.{stands, kinds_from, within, room_from}
use Rattle.coarsen.specs.Coarsen.{coarse_in}
use Rattle.theorems.specs.TableRun.{LentIn}
use Rattle.theorems.specs.CoarseInTables.{CoarseLeft, CoarseLeaves, CoarseAccepts}
use Rattle.theorems.proofs.MergeInTables.{out→}
use Rattle.theorems.proofs.coarse.Valid.{coarse_valid}
use Rattle.theorems.proofs.coarse.Reading.{coarser_sized, coarse_of_reading}

module _ (x : AreaIndex) (t : Tables) (k : ℕ) (u : Tables) where
  abbrev fine : Index
  fine = index_in x t

  put_left : LentIn x t → refusal x t ≡ 0 → coarse (room_of t) fine k (room_of u) ≡ Accepted (coarser k fine)
      → CoarseLeft x t k u (numbers_from (coarser k fine)) (tables_from (coarser k fine) u)
  unfolding coarse coarse_number
  put_left a z e =
      let wide = coarser k fine in
      let q = (asked→ _ (Accepted wide) wide refl e).0 in
      let v = (coarse_valid (room_of t) (room_of u) fine wide k e).valid in
      let s : Savable wide = record {
        one = v.one;
        two = v.two;
        four = v.four;
        sizes = coarser_sized k fine (sized_in x t a.typed a.bytes);
      } in
      let h = stands wide u s in
      let m = room_from wide u (within wide u (facts wide s) v.three) in
      record {
        finer =
            record {
              valid = record { one = q.0; two = q.1.0; three = q.1.1.0; four = q.1.1.1.0 };
              kinds = passes_kinds (passes x t z);
            };
        stands = h;
        valid = record { valid = rw (h, m) v; kinds = kinds_from wide u s };
        room = m;
      }

  pub leaves : (y : AreaIndex) (u' : Tables) → LentIn x t → coarse_in x t k u ≡ made_out (made.Index y) u'
      → CoarseLeft x t k u y u'
  unfolding coarse
  leaves y u' a e =
      let r = out→ (λ z. tables_from z u) u x y u' (after (refusal x t) (coarse (room_of t) fine k (room_of u))) e in
      let p = after→ (refusal x t) (coarse (room_of t) fine k (room_of u)) r.0 r.1 in
      let w : coarser k fine ≡ r.0 = asked_is r.0 p.1 in
      let l = put_left a p.0 (p.1 ∙ ap Accepted (sym w)) in
      subst (λ (v : AreaIndex). CoarseLeft x t k u v u') (ap numbers_from w ∙ r.2)
      (subst (λ (v : Tables). CoarseLeft x t k u (numbers_from (coarser k fine)) v)
      (ap (λ (z : Index). tables_from z u) w ∙ r.3) l)
    where
      asked_is : (v : Index) → coarse (room_of t) fine k (room_of u) ≡ Accepted v → coarser k fine ≡ v
      asked_is v e = accepted_eq (coarser k fine) v (after→ _ (Accepted (coarser k fine)) v e).1

pub coarse_leaves : CoarseLeaves
coarse_leaves = leaves

pub coarse_accepts : CoarseAccepts
unfolding refusal kinded_number made_out_of
coarse_accepts R end rises x t k u c d q w v =
    let o = coarse_of_reading R end rises (room_of t) (room_of u) (index_in x t) k c q w v in
    let z : refusal x t ≡ 0 = rw d (asks _ (c.one, (c.two, (q, (c.four, tt))))) in
    ap (made_out_of (λ z. tables_from z u) u) (→after z o.accepted)
