-- The views of a list in its tables, and in C; roles of the calls. Assumes nothing.
use mathlib.Core.Path.{◌≡◌, refl, sym, ap, ◌∙◌}
use mathlib.Core.Logic.{◌≢◌}
use mathlib.Core.Bool.{true}
use mathlib.Core.List.{List}
use Prim.Native.Nat.{ℕ, ◌≤◌}
use lib.ListN.{length}
use borrow.Author.Tests.{ne_eqb}
use Rattle.rules.specs.declared.AreaIndex.{AreaIndex}
use Rattle.rules.specs.Tests.{Answer, Accepted, after, first_no}
use Rattle.rules.specs.File.{over}
use Rattle.rules_view.specs.View.{listener, workshop, is_role, view_bytes, view_length, view, view_size}
use Rattle.tables.specs.Index.{Tables, room_of, index_in, kinds_in, kinded}
use Rattle.view.specs.View.{ViewOut, view_out, in_role, view_in, view_size_in}
use Rattle.view.proofs.Layouts.{view_length_lemma}
use Rattle.blocks.specs.Calls.{head_index, in_head}
use Rattle.rules_view.specs.Roles.{in_workshop}
use Rattle.player.specs.Player.{load_call_as, save_call_as, merge_call_as, merge_all_call_as, view_into, length_number, view_call, view_length_call}
use Rattle.player_disc.specs.PlayerDisc.{disc_load_call_as, disc_save_call_as, disc_save_both_call_as}
use Rattle.theorems.specs.Terms.{ValidIn}
use Rattle.theorems.specs.View.{ViewLeaves, ListenerSeesInTables, ListenerSeesInC, WorkshopInC, ListenerRefusedInC}
use Rattle.theorems.proofs.Accepts.{refuses_nothing}
use Rattle.theorems.proofs.View.{listener_sees}

-- where the kinds are kinds and the role is one, the call is the rules'
module _ (role : ℕ) (x : AreaIndex) (t : Tables) (k : kinds_in x t ≡ true) (r : is_role role ≡ true) where
  plain : (out : List ℕ) → view_in role x t out ≡ view_out (view role (room_of t) (index_in x t) (length out)) out
  unfolding view_in in_role kinded first_no after
  plain out = rw (r, k)

  plain_size : view_size_in role x t ≡ view_size role (room_of t) (index_in x t)
  unfolding view_size_in in_role kinded first_no after
  plain_size = rw (r, k)

listener_role : is_role listener ≡ true
unfolding is_role
listener_role = refl

leaves : (role : ℕ) (x : AreaIndex) (t : Tables) (out : List ℕ) → ValidIn x t → is_role role ≡ true
    → view_length role (index_in x t) ≤ length out
    → ((view_in role x t out).answer ≡ Accepted (view_length role (index_in x t)))
    × ((view_in role x t out).out ≡ over (view_bytes role (index_in x t)) out)
unfolding view_out
leaves role x t out v r h =
    let e : view_in role x t out ≡ view_out (Accepted (view_bytes role (index_in x t))) out =
    plain role x t v.kinds r out ∙ ap (λ (b : Answer (List ℕ)). view_out b out)
    (refuses_nothing.views role (room_of t) (index_in x t) (length out) v.valid r h) in (
      ap (λ (o : ViewOut). o.answer) e ∙ ap Accepted (view_length_lemma role (index_in x t)),
      ap (λ (o : ViewOut). o.out) e,
    )

pub view_leaves : ViewLeaves
view_leaves =
    record {
      bytes = leaves;
      told = λ role x t v r. plain_size role x t v.kinds r
          ∙ refuses_nothing.lengths_of_views role (room_of t) (index_in x t) v.valid r;
    }

-- ---- non-interference
pub listener_sees_in_tables : ListenerSeesInTables
listener_sees_in_tables =
    record {
      same = λ x y t u out v w e.
          plain listener x t v.kinds listener_role out
          ∙ ap (λ (b : Answer (List ℕ)). view_out b out)
          (listener_sees.same (room_of t) (room_of u) (index_in x t) (index_in y u) (length out) v.valid w.valid e)
          ∙ sym (plain listener y u w.kinds listener_role out);
      size = λ x y t u v w e.
          plain_size listener x t v.kinds listener_role
          ∙ listener_sees.size (room_of t) (room_of u) (index_in x t) (index_in y u) v.valid w.valid e
          ∙ sym (plain_size listener y u w.kinds listener_role);
    }

pub listener_sees_in_c : ListenerSeesInC
unfolding view_call view_length_call in_head
listener_sees_in_c =
    record {
      same = λ head other t u out h g v w e. rw (h, g, listener_role)
          (ap view_into (listener_sees_in_tables.same (head_index head) (head_index other) t u out v w e));
      size = λ head other t u h g v w e. rw (h, g, listener_role)
          (ap length_number (listener_sees_in_tables.size (head_index head) (head_index other) t u v w e));
    }

-- ---- roles
pub workshop_in_c : WorkshopInC
unfolding load_call_as save_call_as merge_call_as merge_all_call_as disc_load_call_as disc_save_call_as disc_save_both_call_as in_workshop in_head
workshop_in_c =
    record {
      load = λ head a file limit t. refl;
      save = λ head t out. refl;
      merge = λ head other t u. refl;
      merge_all = λ head ls b limit t u. refl;
      load_disc = λ head other a0 a1 file limit answer t u. refl;
      save_one = λ head t out. refl;
      save_both = λ head other t u out. refl;
    }

pub listener_refused_in_c : (role : ℕ) → role ≢ workshop → ListenerRefusedInC role
unfolding load_call_as save_call_as merge_call_as merge_all_call_as disc_load_call_as disc_save_call_as disc_save_both_call_as in_workshop in_head
listener_refused_in_c role h =
    let n = ne_eqb role workshop h in
    record {
      load = λ head a file limit t. rw n;
      save = λ head t out. rw n;
      merge = λ head other t u. rw n;
      merge_all = λ head ls b limit t u. rw n;
      load_disc = λ head other a0 a1 file limit answer t u. rw n;
      save_one = λ head t out. rw n;
      save_both = λ head other t u out. rw n;
    }
