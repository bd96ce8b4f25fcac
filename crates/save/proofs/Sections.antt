-- Sections with a header, and the whole file, as stretches of an output. Assumes nothing.
use mathlib.Core.Path.{◌≡◌, refl, ap, ◌∙◌}
use mathlib.Core.List.{List, ◌++◌}
use Prim.Native.Nat.{ℕ, ◌+◌, ◌*◌, ◌≤◌}
use native.Mathlib.Omega.{arith}
use lib.ListN.{length, drop, length-append}
use Rattle.field.specs.Number.{encode, put}
use Rattle.field.proofs.Number.{encode_length}
use Rattle.fnv.specs.Fnv.{fnv_from, fnv64, prime64}
use Rattle.rules.specs.declared.Header.{Header}
use Rattle.rules.specs.declared.HintHeader.{HintHeader}
use Rattle.rules.specs.File.{header_bytes, encode_hint, encode_confirmation, decode_confirmation, over}
use Rattle.tables.specs.Tables.{decode_kept}
use Rattle.laws.proofs.Layouts.{header_length, hint_layout, confirmation_layout}
use Rattle.save.specs.Output.{Filled, Summed, up_to, nothing_written}
use Rattle.save.specs.declared.output.Written.{Written}
use Rattle.save.proofs.write.Sections.{records_size}
use Rattle.save.proofs.output.Stretches.{put_both, put_one, put_copy, put_over}
use Rattle.save.specs.Steps.{hint_bytes, confirmed_bytes}

-- ---- sections with a header
pub hint_size : (h : HintHeader) (t : List ℕ) → length (hint_bytes h t) ≡ 24 + 8 * h.count
hint_size h t = simp (length-append, encode_length, records_size 8 decode_kept encode_hint hint_layout.size) (omega arith)

pub confirmed_size : (n : ℕ) (t : List ℕ) → length (confirmed_bytes n t) ≡ 8 + 16 * n
confirmed_size n t = simp (length-append, encode_length, records_size 16 decode_confirmation encode_confirmation confirmation_layout.size) (omega arith)

-- what is put at the start lies over it
pub filled : {s : List ℕ} {k : ℕ} {o : List ℕ} {u : ℕ} {r : Written} {o' : List ℕ} → Summed s k o (up_to 0 u) r o' → k ≤ length o → Filled s o u r.sum o'
filled x h = record { bytes = put_over x.put h; sum = x.sum }

-- a number of w bytes, and its hash
pub number_summed : (w : ℕ) (o : List ℕ) (at v u : ℕ) {r : ℕ} {o' : List ℕ} → o' ≡ put w o at v → r ≡ fnv_from 64 prime64 u (encode w v)
    → Summed (encode w v) w o (up_to at u) (up_to (at + w) r) o'
number_summed w o at v u e f = record { put = put_one w o at v e; sum = f }

-- ---- the whole
-- the header
pub header_summed : {h h' : Header} {o o' : List ℕ} {u : ℕ} → h ≡ h' → 80 ≤ length o → (o' ≡ header_bytes h ++ drop 80 o) × (u ≡ fnv64 (header_bytes h))
    → Summed (header_bytes h') 80 o nothing_written (up_to 80 u) o'
header_summed {h' = h'} {o} e g c = record { put = put_copy (header_bytes h') 80 o 0 (header_length h') g (rw e at c.0); sum = rw e at c.1 }

-- bytes said otherwise, with their own length
pub summed_same : {s s' : List ℕ} {k : ℕ} {o : List ℕ} {w r : Written} {o' : List ℕ} → s ≡ s' → Summed s k o w r o' → Summed s' (length s') o w r o'
summed_same {s} e x =
    rw (← e) (record { put = record { size = refl; ends = x.put.ends ∙ rw (← x.put.size); bytes = x.put.bytes }; sum = x.sum })

-- the sum behind a body
pub sum_behind : {b : List ℕ} {o : List ℕ} {r : Written} {o1 o2 : List ℕ} → Summed b (length b) o nothing_written r o1 → length b + 8 ≤ length o
    → o2 ≡ put 8 o1 r.next r.sum → o2 ≡ over (b ++ encode 8 (fnv64 b)) o
sum_behind {b} {r = r} {o1} x h e = put_over (put_both x.put (put_one 8 o1 r.next (fnv64 b) (e ∙ ap (put 8 o1 r.next) x.sum))) h
