-- Change request 10: "Saving, loading and merging are workshop operations; only they and the views take a role."
use Rattle.std.specs.Prelude.{ℕ, cond, List, [], ◌∷◌}
use Rattle.rules.specs.declared.Area.{Area}
use Rattle.rules.specs.Tests.{Answer, after, ask, first_no}
use Rattle.rules.specs.Values.{Index, Lengths}
use Rattle.rules.specs.File.{save}
use Rattle.rules.specs.Load.{load}
use Rattle.rules.specs.Merge.{merge}
use Rattle.rules_drawer.specs.Drawer.{merge_all}
use Rattle.rules_disc.specs.Disc.{Disc, load_disc, save_one, save_both}
use Rattle.rules_view.specs.View.{is_workshop}

-- 52: is it the workshop's role? ("role 1 calls a workshop operation; it is asked before all others")
unfoldable pub as_workshop : {A : Type 0} → ℕ → Answer A → Answer A
as_workshop role r = after (first_no (ask (is_workshop role) 52 ∷ [])) r

abbrev pub load_as : ℕ → Lengths → Area → List ℕ → ℕ → Answer Index
load_as role l a b limit = as_workshop role (load l a b limit)

abbrev pub save_as : ℕ → Lengths → Index → ℕ → Answer (List ℕ)
save_as role l x out = as_workshop role (save l x out)

abbrev pub merge_as : ℕ → Lengths → Index → Lengths → Index → Answer Index
merge_as role l own m other = as_workshop role (merge l own m other)

abbrev pub merge_all_as : ℕ → Lengths → Index → Lengths → List ℕ → List ℕ → ℕ → Answer Index
merge_all_as role l x m ns b limit = as_workshop role (merge_all l x m ns b limit)

abbrev pub load_disc_as : ℕ → Lengths → Lengths → Area → Area → List ℕ → ℕ → Answer Disc
load_disc_as role l m a0 a1 b limit = as_workshop role (load_disc l m a0 a1 b limit)

abbrev pub save_one_as : ℕ → Lengths → Index → ℕ → Answer (List ℕ)
save_one_as role l x out = as_workshop role (save_one l x out)

abbrev pub save_both_as : ℕ → Lengths → Index → Lengths → Index → ℕ → Answer (List ℕ)
save_both_as role l x m y out = as_workshop role (save_both l x m y out)

-- a call for C: what is answered where the role is not the workshop's, asked before all else
unfoldable pub in_workshop : {A : Type 0} → ℕ → A → A → A
in_workshop role refused r = cond (is_workshop role) r refused
