-- The steps of coarsening, put together. Assumes nothing.
use Rattle.rules.specs.declared.EndState.{EndState}
use Rattle.std.specs.Prelude.{Option, None, Some, ℕ}
use mathlib.Core.Path.{◌≡◌, refl, sym, ap, ◌∙◌}
use mathlib.Core.Bool.{cond}
use mathlib.Core.List.{List, ◌++◌}
use Prim.Native.Nat.{ℕ, ◌*◌, ◌/◌, ◌≤◌, min}
use native.Mathlib.Omega.{arith}
use borrow.Author.Tests.{eq-eqb, ne_eqb}
use lib.Dec.{eqb}
use lib.ListN.{length, take, drop}
use Rattle.field.specs.Records.{Bytes, records, bytes_of}
use Rattle.field.proofs.Records.{records_length, take_records}
use Rattle.field.proofs.Format.{Layout, written, bytes_of_length}
use Rattle.rules.specs.declared.AreaIndex.{AreaIndex}
use Rattle.rules.specs.Tests.{Accepted, after}
use Rattle.rules.proofs.Tests.{test}
use Rattle.rules.specs.Values.{Index, max_malformed}
use Rattle.rules.specs.File.{encode_checkpoint, encode_lsn, decode_checkpoint, decode_lsn, decode_confirmation, over}
use Rattle.rules_coarsen.specs.Coarse.{every_nth, coarse_parts, unstored, coarser_scan, coarser, coarse_number, coarse}
use Rattle.laws.proofs.Layouts.{lsn_layout, confirmation_layout}
use Rattle.tables.proofs.Kept.{kept_layout}
use Rattle.tables.specs.Tables.{checkpoints_in, frames_in, parts_in, lsns_in, decode_kept}
use Rattle.tables.specs.Index.{Tables, tables, room_of, index_in, numbers_from, tables_from, refusal, MadeOut, made_out, made_out_of}
use Rattle.rules.specs.declared.Made.TheVariants as made
use Rattle.parts.specs.declared.Counts.{Counts}
use Rattle.parts.specs.Parts.{part_tables, Held, held, held_from}
use Rattle.coarsen.specs.Coarsen.{coarse_refusal, coarse_in}
use Rattle.coarsen.specs.Steps.{kept_of, counted_in, numbers_at, Coarsens, out_index, coarsened}
use Rattle.coarsen.proofs.Every.{every_length}
use Rattle.coarsen.proofs.Ready.{wider, taken_few}

-- ---- answer and tables
ends : {r r' : AreaIndex} {a a' b b' c c' d d' e e' f f' g g' : List ℕ} → r ≡ r' → a ≡ a' → b ≡ b' → c ≡ c' → d ≡ d' → e ≡ e' → f ≡ f' → g ≡ g'
    → out_index r (tables a b c d e f g) ≡ out_index r' (tables a' b' c' d' e' f' g')
ends p q0 q1 q2 q3 q4 q5 q6 = λ i. out_index (p i) (tables (q0 i) (q1 i) (q2 i) (q3 i) (q4 i) (q5 i) (q6 i))

end_back : (e : Option EndState) → e ≡ e
end_back None = refl
end_back (Some e) = refl

id_back : (i : Option ℕ) → i ≡ i
id_back None = refl
id_back (Some v) = refl

-- the first n records of a table, copied over another
copied : {A : Type 0} {w : ℕ} {d : List ℕ → A} {e : A → List ℕ} {F : A → Type 0} (l : Layout w d e F) (n : ℕ) (t o : List ℕ) {o' : List ℕ} → Bytes t → n * w ≤ length t
    → o' ≡ take (n * w) t ++ drop (n * w) o → o' ≡ over (bytes_of e (records w d n t)) o
copied {w = w} {d = d} l n t o b h c = written l n t o b h c ∙ rw (bytes_of_length l (records w d n t), records_length w d n t)

module _ (x : AreaIndex) (t : Tables) (k : ℕ) (u : Tables) (j : Coarsens x t k u) where
  abbrev fine : Index
  fine = index_in x t

  abbrev wide : Index
  wide = coarser k fine

  abbrev r : ℕ
  r = k / x.interval

  module _ {n m count : ℕ} {c : Counts} {y : AreaIndex} {cs fs st ps ms hs ks : List ℕ} (b4 : Bytes t.malformed) (b5 : Bytes t.hints) (b6 : Bytes t.confirmed)
      (en : n ≡ kept_of x.checkpoints r) (ec : count ≡ counted_in x r t.checkpoints) (em : m ≡ min count max_malformed)
      (l4 : m * 4 ≤ length t.malformed) (l5 : x.hints * 8 ≤ length t.hints) (l6 : x.confirmed * 16 ≤ length t.confirmed)
      (p0 : cs ≡ over (bytes_of encode_checkpoint (every_nth r (checkpoints_in x.checkpoints t.checkpoints))) u.checkpoints)
      (p1 : held c (part_tables fs st ps)
      ≡ held_from (coarse_parts r x.budget (frames_in x.frames t.frames t.store) (parts_in x.parts t.parts) unstored) (part_tables u.frames u.store u.parts))
      (p4 : ms ≡ take (m * 4) t.malformed ++ drop (m * 4) u.malformed)
      (p5 : hs ≡ take (x.hints * 8) t.hints ++ drop (x.hints * 8) u.hints)
      (p6 : ks ≡ take (x.confirmed * 16) t.confirmed ++ drop (x.confirmed * 16) u.confirmed)
      (p7 : y ≡ numbers_at x k n c m) where
    taken_is : m ≡ min (counted_in x r t.checkpoints) max_malformed
    taken_is = em ∙ rw ec

    malformed_are : lsns_in m t.malformed ≡ wide.scan.malformed
    unfolding coarser coarser_scan
    malformed_are =
        let e = taken_is in let f = taken_few j in
        sym (take_records 4 decode_lsn m x.malformed t.malformed (omega arith)) ∙ ap (λ (i : ℕ). take i (lsns_in x.malformed t.malformed)) e

    numbers_are : y ≡ numbers_from wide
    unfolding numbers_at coarser coarser_scan
    numbers_are =
        let e3 : n ≡ length (every_nth r (checkpoints_in x.checkpoints t.checkpoints)) =
        en ∙ sym (every_length r (wider j).ratio _ ∙ rw (records_length 24 decode_checkpoint x.checkpoints t.checkpoints)) in
        let e4 = ap (λ (h : Held). h.counts.frames) p1 in
        let e5 = ap (λ (h : Held). h.counts.parts) p1 in
        let e6 : m ≡ length wide.scan.malformed = sym (records_length 4 decode_lsn m t.malformed) ∙ ap length malformed_are in
        let e7 = sym (records_length 8 decode_kept x.hints t.hints) in
        let e8 = sym (records_length 16 decode_confirmation x.confirmed t.confirmed) in
        let e9 = end_back x.ending in
        let e10 = id_back x.image in
        p7 ∙ (λ i. record {
          area = x.area;
          interval = k;
          budget = x.budget;
          spacing = x.spacing;
          most = x.most;
          checkpoints = e3 i;
          frames = e4 i;
          parts = e5 i;
          malformed = e6 i;
          hints = e7 i;
          confirmed = e8 i;
          ending = e9 i;
          fingerprint = x.fingerprint;
          image = e10 i;
        })

    pub committed : out_index y (tables cs fs st ps ms hs ks) ≡ coarsened x t k u
    unfolding coarsened coarser coarser_scan
    committed =
        let e1 = ap (λ (h : Held). h.tables.frames) p1 in
        let e2 = ap (λ (h : Held). h.tables.store) p1 in
        let e3 = ap (λ (h : Held). h.tables.parts) p1 in
        let e4 : ms ≡ over (bytes_of encode_lsn wide.scan.malformed) u.malformed =
        copied lsn_layout m t.malformed u.malformed b4 l4 p4 ∙ ap (λ (l : List ℕ). over (bytes_of encode_lsn l) u.malformed) malformed_are in
        let e5 = copied kept_layout x.hints t.hints u.hints b5 l5 p5 in
        let e6 = copied confirmation_layout x.confirmed t.confirmed u.confirmed b6 l6 p6 in
        ends numbers_are p0 e1 e2 e3 e4 e5 e6

-- ---- the call
after_both : (a b : ℕ) (z : Index) → after a (after b (Accepted z)) ≡ after (cond (eqb a 0) b a) (Accepted z)
unfolding after
after_both a b z = test (eqb a 0) (λ e. rw e) (λ e. rw (e, e))

module _ (x : AreaIndex) (t : Tables) (k : ℕ) (u : Tables) {n : ℕ} (e : n ≡ coarse_refusal x t k u) where
  call_is : coarse_in x t k u ≡ made_out_of (λ z. tables_from z u) u (after n (Accepted (coarser k (index_in x t))))
  unfolding coarse coarse_refusal
  call_is =
      ap (made_out_of (λ z. tables_from z u) u)
      (after_both (refusal x t) (coarse_number (room_of t) (index_in x t) k (room_of u)) (coarser k (index_in x t)) ∙ rw (← e))

  pub coarse_refused : (n ≡ 0 → ⊥) → made_out (made.Refused n) u ≡ coarse_in x t k u
  unfolding after made_out_of
  coarse_refused h = sym (call_is ∙ rw (ne_eqb n 0 h))

  pub coarse_done : {o : MadeOut} → n ≡ 0 → o ≡ coarsened x t k u → o ≡ coarse_in x t k u
  unfolding after made_out_of coarsened
  coarse_done h q = q ∙ sym (call_is ∙ rw (eq-eqb n 0 h))
