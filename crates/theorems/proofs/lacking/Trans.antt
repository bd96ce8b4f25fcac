-- Covering goes on. Assumes nothing.
use Rattle.std.specs.Prelude.{Option, None, Some}
use mathlib.Core.Path.{◌≡◌, refl, sym, subst, ◌∙◌}
use mathlib.Core.Bool.{Bool, true, false, not, ◌&&◌}
use mathlib.Core.List.{List, [], ◌∷◌}
use Prim.Native.Nat.{ℕ, ◌-◌, ◌≤◌}
use native.Mathlib.Omega.{arith}
use lib.Dec.{eqb}
use lib.ListN.{length}
use borrow.Author.Tests.{eqb-true, eq-eqb}
use Rattle.rules.specs.Tests.{is_some, agree, agrees, Accepted}
use Rattle.rules.specs.Values.{Index, Lengths, no_held, no_hint, no_confirmation, count, complete, stated, same_checkpoint, same_end}
use Rattle.rules.specs.Questions.{question1, question2, question3, question4}
use Rattle.rules.specs.Merge.{question41, question42, question43, merge_number}
use Rattle.rules.proofs.Tests.{never, both, and_left, and_right, all→, →all, asked, asks, accepted→, →after}
use Rattle.rules.proofs.Same.{eqb_self, same_area_eq, same_checkpoint_eq, same_end_eq}
use Rattle.rules_lacks.specs.declared.Lacks.{Lacks}
use Rattle.rules_lacks.specs.Lacks.{covers, same_part, same_hint, confirms_also, lacking, holds_all, lacks}
use Rattle.rules_lacks.proofs.Laws.{covers_count, covers_self, covers_on, →same_part, same_part_on, same_hint_self, same_hint_on, eqb_on, →confirms, confirms_on}
use Rattle.theorems.specs.Lacks.{LacksSelf, LacksTrans, CountsTell}

-- ---- counts
pub counts_tell : CountsTell
counts_tell A stands xs ys = covers_count stands xs ys

-- ---- "nothing is lacking" as facts
pub record Nothing (own other : Index) : Type 0 where
  pub checkpoints : count other.scan ≤ count own.scan
  pub ending : complete other.scan ≡ true → complete own.scan ≡ true
  pub parts : covers (same_part own.scan.frames other.scan.frames) own.scan.parts other.scan.parts ≡ true
  pub malformed : covers eqb own.scan.malformed other.scan.malformed ≡ true
  pub hints : covers same_hint own.hinting.hints other.hinting.hints ≡ true
  pub confirmed : covers confirms_also own.hinting.confirmed other.hinting.confirmed ≡ true
  pub fingerprint : is_some (stated other.fingerprint) ≡ true → is_some (stated own.fingerprint) ≡ true

-- the other has it, so the own has it
known→ : (a b : Bool) → not (a && not b) ≡ true → a ≡ true → b ≡ true
known→ true true e h = refl
known→ true false e h = e
known→ false b e h = never {b = false} h refl

→known : (a b : Bool) → (a ≡ true → b ≡ true) → not (a && not b) ≡ true
→known true b f = rw (f refl)
→known false b f = refl

none_more : (n m : ℕ) → m ≤ n → eqb (m - n) 0 ≡ true
none_more n m l = eq-eqb (m - n) 0 (omega arith)

fewer : (n m : ℕ) → eqb (m - n) 0 ≡ true → m ≤ n
fewer n m e = let z = eqb-true (m - n) 0 e in omega arith

pub nothing→ : (own other : Index) → holds_all (lacking own other) ≡ true → Nothing own other
unfolding holds_all lacking
nothing→ own other e =
    let t = all→ _ e in
    record {
      checkpoints = fewer _ _ t.0;
      ending = known→ (complete other.scan) (complete own.scan) t.1.0;
      parts = covers_count _ _ _ ∙ t.1.1.0;
      malformed = covers_count _ _ _ ∙ t.1.1.1.0;
      hints = covers_count _ _ _ ∙ t.1.1.1.1.0;
      confirmed = covers_count _ _ _ ∙ t.1.1.1.1.1.0;
      fingerprint = known→ (is_some (stated other.fingerprint)) (is_some (stated own.fingerprint))
          t.1.1.1.1.1.1.0;
    }

pub →nothing : (own other : Index) → Nothing own other → holds_all (lacking own other) ≡ true
unfolding holds_all lacking
→nothing own other h =
    →all _ (
      none_more _ _ h.checkpoints,
      (
        →known (complete other.scan) (complete own.scan) h.ending,
        (
          sym (covers_count _ _ _) ∙ h.parts,
          (
            sym (covers_count _ _ _) ∙ h.malformed,
            (
              sym (covers_count _ _ _) ∙ h.hints,
              (
                sym (covers_count _ _ _) ∙ h.confirmed,
                (
                  →known (is_some (stated other.fingerprint)) (is_some (stated own.fingerprint)) h.fingerprint,
                  tt,
                ),
              ),
            ),
          ),
        ),
      ),
    )

-- ---- of a list itself
pub lacks_self : LacksSelf
lacks_self x =
    →nothing x x
    (record {
      checkpoints = omega arith;
      ending = λ h. h;
      parts = covers_self no_held (same_part x.scan.frames x.scan.frames)
          (λ p. →same_part x.scan.frames x.scan.frames p p refl refl) x.scan.parts;
      malformed = covers_self 0 eqb eqb_self x.scan.malformed;
      hints = covers_self no_hint same_hint same_hint_self x.hinting.hints;
      confirmed = covers_self no_confirmation confirms_also
          (λ c. →confirms c c (record { lsn = refl; digest = refl; threshold = omega arith }))
          x.hinting.confirmed;
      fingerprint = λ h. h;
    })

-- ---- on
pub nothing_on : (a b c : Index) → Nothing a b → Nothing b c → Nothing a c
nothing_on a b c p q =
    let l = p.checkpoints in let m = q.checkpoints in
    record {
      checkpoints = omega arith;
      ending = λ h. p.ending (q.ending h);
      parts =
          covers_on no_held (same_part a.scan.frames b.scan.frames)
          (same_part b.scan.frames c.scan.frames) (same_part a.scan.frames c.scan.frames)
          (same_part_on a.scan.frames b.scan.frames c.scan.frames) a.scan.parts b.scan.parts
          c.scan.parts p.parts q.parts;
      malformed = covers_on 0 eqb eqb eqb eqb_on a.scan.malformed b.scan.malformed c.scan.malformed
          p.malformed q.malformed;
      hints = covers_on no_hint same_hint same_hint same_hint same_hint_on a.hinting.hints b.hinting.hints
          c.hinting.hints p.hints q.hints;
      confirmed =
          covers_on no_confirmation confirms_also confirms_also confirms_also confirms_on a.hinting.confirmed
          b.hinting.confirmed c.hinting.confirmed p.confirmed
          q.confirmed;
      fingerprint = λ h. p.fingerprint (q.fingerprint h);
    }

-- ---- 41 to 43, on
-- known values: where the last is known the middle one is
agree_on : {A : Type 0} (same : A → A → Bool) → ((a b : A) → same a b ≡ true → a ≡ b) → (o p q : Option A)
    → (is_some q ≡ true → is_some p ≡ true)
    → agree same o p ≡ true → agree same p q ≡ true → agree same o q ≡ true
unfolding agree is_some
agree_on same eq None p q f a b = refl
agree_on same eq (Some x) p None f a b = refl
agree_on same eq (Some x) None (Some z) f a b = never {b = false} (f refl) refl
agree_on same eq (Some x) (Some y) (Some z) f a b = subst (λ w. same w z ≡ true) (sym (eq x y a)) b

-- lists that agree over the shorter length, the last being no longer than the middle one
agrees_on : {A : Type 0} (same : A → A → Bool) → ((a b : A) → same a b ≡ true → a ≡ b) → (xs ys zs : List A)
    → length zs ≤ length ys
    → agrees same xs ys ≡ true → agrees same ys zs ≡ true → agrees same xs zs ≡ true
unfolding agrees
agrees_on same eq [] ys zs l a b = refl
agrees_on same eq (x ∷ xs) ys [] l a b = refl
agrees_on same eq (x ∷ xs) [] (z ∷ zs) l a b = let w : ⊥ = omega arith in absurd w
agrees_on same eq (x ∷ xs) (y ∷ ys) (z ∷ zs) l a b =
    both (subst (λ w. same w z ≡ true) (sym (eq x y (and_left (same x y) (agrees same xs ys) a)))
    (and_left (same y z) (agrees same ys zs) b))
    (agrees_on same eq xs ys zs (omega arith) (and_right (same x y) (agrees same xs ys) a)
    (and_right (same y z) (agrees same ys zs) b))

-- what a call that is not refused knows
pub record Asked (l : Lengths) (own : Index) (m : Lengths) (other : Index) : Type 0 where
  pub one : (question1 own && question1 other) ≡ true
  pub two : (question2 own && question2 other) ≡ true
  pub three : (question3 l own && question3 m other) ≡ true
  pub four : (question4 own && question4 other) ≡ true
  pub q41 : question41 own other ≡ true
  pub q42 : question42 own other ≡ true
  pub q43 : question43 own other ≡ true

pub asked→ : (l m : Lengths) (own other : Index) → merge_number l own m other ≡ 0 → Asked l own m other
unfolding merge_number
asked→ l m own other e =
    let q = asked _ refl e in
    record {
      one = q.0;
      two = q.1.0;
      three = q.1.1.0;
      four = q.1.1.1.0;
      q41 = q.1.1.1.1.0;
      q42 = q.1.1.1.1.1.0;
      q43 = q.1.1.1.1.1.1.0;
    }

pub →asked : (l m : Lengths) (own other : Index) → Asked l own m other → merge_number l own m other ≡ 0
unfolding merge_number
→asked l m own other h = asks _ (h.one, (h.two, (h.three, (h.four, (h.q41, (h.q42, (h.q43, tt)))))))

q41_on : (a b c : Index) → question41 a b ≡ true → question41 b c ≡ true → question41 a c ≡ true
unfolding question41
q41_on a b c p q =
    let x = all→ _ p in let y = all→ _ q in
    let e : a.scan.area ≡ b.scan.area = same_area_eq _ _ x.0 in
    let k : a.scan.interval ≡ b.scan.interval = eqb-true _ _ x.1.0 in
    →all _ (rw e y.0, (rw k y.1.0, tt))

q42_on : (a b c : Index) → Nothing b c → agree eqb a.image c.image ≡ true → question42 a b ≡ true
    → question42 b c ≡ true → question42 a c ≡ true
unfolding question42
q42_on a b c h i p q =
    let x = all→ _ p in let y = all→ _ q in
    →all _ (
      i,
      (
        agree_on eqb eqb-true (stated a.fingerprint) (stated b.fingerprint) (stated c.fingerprint)
            h.fingerprint x.1.0 y.1.0,
        tt,
      ),
    )

q43_on : (a b c : Index) → Nothing b c → question43 a b ≡ true → question43 b c ≡ true → question43 a c ≡ true
unfolding question43
q43_on a b c h p q =
    let x = all→ _ p in let y = all→ _ q in
    →all _ (
      agrees_on same_checkpoint same_checkpoint_eq a.scan.checkpoints b.scan.checkpoints c.scan.checkpoints
          h.checkpoints x.0 y.0,
      (
        agree_on same_end same_end_eq a.scan.ending b.scan.ending c.scan.ending h.ending x.1.0
            y.1.0,
        tt,
      ),
    )

-- an accepted call that names nothing
pub lacks→ : (l m : Lengths) (own other : Index) (x : Lacks) → lacks l own m other ≡ Accepted x → holds_all x ≡ true
    → Asked l own m other × Nothing own other
unfolding lacks
lacks→ l m own other x e h =
    let r = accepted→ (merge_number l own m other) (lacking own other) x e in
    (asked→ l m own other r.0, nothing→ own other (rw r.1 h))

pub lacks_trans : LacksTrans
unfolding lacks
lacks_trans l m n a b c x y e h f k i =
    let p = lacks→ l m a b x e h in let q = lacks→ m n b c y f k in
    let s = p.0 in let t = q.0 in (
      lacking a c,
      →after
          (→asked l n a c
          (record {
            one = both (and_left (question1 a) (question1 b) s.one) (and_right (question1 b) (question1 c) t.one);
            two = both (and_left (question2 a) (question2 b) s.two) (and_right (question2 b) (question2 c) t.two);
            three = both (and_left (question3 l a) (question3 m b) s.three)
                (and_right (question3 m b) (question3 n c) t.three);
            four = both (and_left (question4 a) (question4 b) s.four)
                (and_right (question4 b) (question4 c) t.four);
            q41 = q41_on a b c s.q41 t.q41;
            q42 = q42_on a b c q.1 i s.q42 t.q42;
            q43 = q43_on a b c q.1 s.q43 t.q43;
          }))
          refl,
      →nothing a c (nothing_on a b c p.1 q.1),
    )
