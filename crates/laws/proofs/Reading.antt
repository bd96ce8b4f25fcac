-- Reading things in order, against writing them. Assumes nothing.
use mathlib.Core.Path.{◌≡◌, refl, sym, ap, subst, ◌∙◌}
use mathlib.Core.Bool.{Bool, true, not}
use mathlib.Core.List.{List, [], ◌∷◌, ◌++◌, append_assoc}
use Prim.Native.Nat.{ℕ, zero, suc, ◌≤◌}
use native.Mathlib.Omega.{arith}
use borrow.Author.Tests.{leb-true, le-leb}
use lib.Dec.{leb, eqb}
use lib.ListN.{length, take, drop, length-append, take-append-drop}
use lib.Seq.{take_at, drop_at, length-take-le, drop-append_seam}
use Rattle.field.specs.Records.{bytes_of, Bytes}
use Rattle.field.proofs.Bytes.{bytes_drop, bytes_take}
use Rattle.field.proofs.Format.{Layout, Each, none, one}
use Rattle.rules.specs.Tests.{walk, Answer, Accepted, ask, bind}
use Rattle.rules.specs.Load.{Read, read, read_each, read_record}
use Rattle.rules.proofs.Walk.{walk_head, walk_tail}
use Rattle.rules.proofs.Tests.{both, some_or, asked→, →asked, →bind, bind→, accepted_eq}

-- the bytes behind a front
pub bytes_behind : {b : List ℕ} (a r : List ℕ) → b ≡ a ++ r → Bytes b → Bytes r
bytes_behind a r e h =
    subst Bytes (drop-append_seam a r) (bytes_drop (a ++ r) (length a) (subst Bytes e h))

pub behind : (s : List ℕ) {t u : List ℕ} → t ≡ u → s ++ t ≡ s ++ u
behind s e = ap (λ (y : List ℕ). s ++ y) e

-- what was read from the bytes b in the state s
pub record Item {S A : Type 0} (e : A → List ℕ) (ok : S → A → Bool) (Fits : A → Type 0) (s : S) (b : List ℕ) (t : Read A) : Type 0 where
  pub bytes : b ≡ e t.value ++ t.rest
  pub holds : ok s t.value ≡ true
  pub fits : Fits t.value

-- r reads what e writes, where ok holds
pub record Reader {S A : Type 0} (r : S → List ℕ → Answer (Read A)) (e : A → List ℕ) (ok : S → A → Bool) (Fits : A → Type 0) : Type 0 where
  pub back : (s : S) (x : A) (b : List ℕ) → Fits x → ok s x ≡ true → r s (e x ++ b) ≡ read x b
  pub forth : (s : S) (b : List ℕ) (t : Read A) → Bytes b → r s b ≡ Accepted t → Item e ok Fits s b t

-- n things that were read
pub record Items {S A : Type 0} (e : A → List ℕ) (ok : S → A → Bool) (next : S → A → S) (Fits : A → Type 0) (n : ℕ) (s : S) (b : List ℕ) (t : Read (List A)) : Type 0 where
  pub bytes : b ≡ bytes_of e t.value ++ t.rest
  pub holds : walk ok next s t.value ≡ true
  pub fits : Each Fits t.value
  pub count : length t.value ≡ n

module _ {S A : Type 0} {r : S → List ℕ → Answer (Read A)} {e : A → List ℕ} {ok : S → A → Bool} {Fits : A → Type 0} (l : Reader r e ok Fits) (next : S → A → S) where
  pub each_back : (s : S) {xs : List A} (b : List ℕ) → Each Fits xs → walk ok next s xs ≡ true → read_each r next (length xs) s (bytes_of e xs ++ b) ≡ read xs b
  unfolding read_each bytes_of walk
  each_back s b none h = refl
  each_back s b (one {x = x} {xs = xs} f fs) h =
      →bind _ (ap (r s) (append_assoc (e x) (bytes_of e xs) b) ∙ l.back s x (bytes_of e xs ++ b) f (walk_head ok next s x xs h)) (→bind _ (each_back (next s x) b fs (walk_tail ok next s x xs h)) refl)

  pub each_forth : (n : ℕ) (s : S) (b : List ℕ) (t : Read (List A)) → Bytes b → read_each r next n s b ≡ Accepted t → Items e ok next Fits n s b t
  unfolding read_each bytes_of walk
  each_forth zero s b t h q =
      subst (Items e ok next Fits zero s b) (accepted_eq _ _ q) (record { bytes = refl; holds = refl; fits = none; count = refl })
  each_forth (suc n) s b t h q =
      let u = bind→ (r s b) (λ v. bind (read_each r next n (next s v.value) v.rest) (λ w. read (v.value ∷ w.value) w.rest)) t q in
      let i = l.forth s b u.value h u.first in
      let v = bind→ (read_each r next n (next s u.value.value) u.value.rest) (λ w. read (u.value.value ∷ w.value) w.rest) t u.second in
      let j = each_forth n (next s u.value.value) u.value.rest v.value (bytes_behind (e u.value.value) u.value.rest i.bytes h) v.first in
      subst (Items e ok next Fits (suc n) s b) (accepted_eq _ _ v.second) (record {
        bytes = i.bytes ∙ behind (e u.value.value) j.bytes ∙ sym (append_assoc (e u.value.value) (bytes_of e v.value.value) v.value.rest);
        holds = both i.holds j.holds;
        fits = one i.fits j.fits;
        count = ap suc j.count;
      })

-- a record of one layout
module _ {S A : Type 0} {w : ℕ} {d : List ℕ → A} {e : A → List ℕ} {Fits : A → Type 0} (l : Layout w d e Fits) (ok : S → A → Bool) (number : ℕ) where
  front : (x : A) (b : List ℕ) → take w (e x ++ b) ≡ e x
  front x b = take_at (e x) b w (l.size x)

  record_back : (s : S) (x : A) (b : List ℕ) → Fits x → ok s x ≡ true → read_record w d ok number s (e x ++ b) ≡ read x b
  unfolding read_record
  record_back s x b f h =
      let v : d (take w (e x ++ b)) ≡ x = ap d (front x b) ∙ l.back x f in
      →asked _ (le-leb w _ (rw (length-append, l.size x) (omega arith)), (rw v h, tt)) (rw (v, drop_at (e x) b w (l.size x)))

  record_forth : (s : S) (b : List ℕ) (t : Read A) → Bytes b → read_record w d ok number s b ≡ Accepted t → not (eqb number 0) ≡ true → Item e ok Fits s b t
  unfolding read_record
  record_forth s b t h q n =
      let g = asked→ (ask (leb w (length b)) 20 ∷ ask (ok s (d (take w b))) number ∷ []) (read (d (take w b)) (drop w b)) t (both (some_or number ∙ n) refl) q in
      let f : w ≤ length b = leb-true w (length b) g.0.0 in
      subst (Item e ok Fits s b) (accepted_eq _ _ g.1) (record {
        bytes = sym (ap (λ (y : List ℕ). y ++ drop w b) (l.forth (take w b) (length-take-le w b f) (bytes_take b w h)) ∙ take-append-drop w b);
        holds = g.0.1.0;
        fits = l.fit (take w b) (rw (length-take-le w b f) (omega arith)) (bytes_take b w h);
      })

  pub of_record : not (eqb number 0) ≡ true → Reader (read_record w d ok number) e ok Fits
  of_record n = record { back = record_back; forth = λ s b t h q. record_forth s b t h q n }
