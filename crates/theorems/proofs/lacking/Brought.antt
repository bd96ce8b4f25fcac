-- Where nothing is lacking, adds names nothing but the image id. Assumes nothing.
use mathlib.Core.Path.{◌≡◌, ap, subst}
use mathlib.Core.Bool.{Bool, true, not}
use lib.Dec.{eqb}
use Rattle.rules.specs.Values.{Index, same_checkpoint, same_end}
use Rattle.rules.specs.Questions.{question4}
use Rattle.rules.specs.Merge.{merged, merge_number}
use Rattle.rules.proofs.Tests.{both, and_left, →all, accepted→}
use Rattle.rules.proofs.Same.{eqb_self, same_checkpoint_self, same_end_self}
use Rattle.rules_lacks.specs.Lacks.{equal_hint}
use Rattle.rules_lacks.proofs.Laws.{equal_hint_self}
use Rattle.rules.specs.declared.Brings.{Brings}
use Rattle.adds.specs.Adds.{same_confirmation, same_frame, same_held, brings_of, brings}
use Rattle.adds.proofs.Same.{same_known_self, same_frame_self, same_held_self, same_fingerprint_self}
use Rattle.adds.proofs.compare.Same.{same_list_self, same_confirmation_self}
use Rattle.theorems.specs.Adds.{none_but_image}
use Rattle.theorems.specs.Lacks.{LacksBrings}
use Rattle.theorems.proofs.lacking.Trans.{lacks→}
use Rattle.theorems.proofs.lacking.Adds.{merged_same}

again : {a : Bool} → a ≡ true → not (not a) ≡ true
again e = rw e

same_brings : (own x : Index) → x.scan ≡ own.scan → x.hinting ≡ own.hinting → x.fingerprint ≡ own.fingerprint
    → none_but_image (brings_of own x) ≡ true
unfolding none_but_image brings_of
same_brings own x s h f =
    rw (s, h, f)
    (→all _ (
      again (same_list_self same_checkpoint same_checkpoint_self own.scan.checkpoints),
      (
        again (same_known_self same_end same_end_self own.scan.ending),
        (
          again (both (same_list_self same_frame same_frame_self own.scan.frames)
              (same_list_self same_held same_held_self own.scan.parts)),
          (
            again (same_list_self eqb eqb_self own.scan.malformed),
            (
              again (same_list_self equal_hint equal_hint_self own.hinting.hints),
              (
                again (same_list_self same_confirmation same_confirmation_self own.hinting.confirmed),
                (again (same_fingerprint_self own.fingerprint), tt),
              ),
            ),
          ),
        ),
      ),
    ))

pub lacks_brings : LacksBrings
unfolding brings
lacks_brings l m own other x b e h g =
    let p = lacks→ l m own other x e h in let s = p.0 in
    let r = accepted→ (merge_number l own m other) (brings_of own (merged own other)) b g in
    let q = merged_same own other (and_left (question4 own) (question4 other) s.four) p.1 in
    subst (λ (z : Brings). none_but_image z ≡ true) r.1
    (same_brings own (merged own other) (ap (λ (z : Index). z.scan) q) (ap (λ (z : Index). z.hinting) q)
    (ap (λ (z : Index). z.fingerprint) q))
