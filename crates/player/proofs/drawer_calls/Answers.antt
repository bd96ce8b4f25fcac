-- What the call answers where its head is one, from what the calls in it ensure. Assumes nothing.
use mathlib.Core.Path.{◌≡◌, ap, ◌∙◌}
use mathlib.Core.Bool.{true}
use mathlib.Core.List.{List}
use Prim.Native.Nat.{ℕ}
use Rattle.rules.specs.declared.AreaIndex.{AreaIndex}
use Rattle.blocks.specs.Blocks.{index_words, is_index}
use Rattle.tables.specs.Index.{Tables, made_out}
use Rattle.rules.specs.declared.Made.{Made}
use Rattle.index.specs.Index.{made_of}
use Rattle.drawer.specs.Drawer.{merge_all_in}
use Rattle.blocks.specs.Calls.{called, into, head_index}
use Rattle.player.specs.Player.{with_tables, called_over, out_into, merge_all_call}
use Rattle.blocks.proofs.calls.Blocks.{is_head_lemma}

pub merge_all_done : (b b' : List ℕ) (n : ℕ) → is_index b ≡ true → (x : AreaIndex) (ls files : List ℕ) (limit : ℕ) (t u t' : Tables) (r : Made)
    → called n b' ≡ into index_words b (made_of r) → made_out r t' ≡ merge_all_in x t ls files limit u → x ≡ head_index b
    → called_over n b' t' ≡ merge_all_call b ls files limit t u
unfolding merge_all_call
merge_all_done b b' n g x ls files limit t u t' r p e z =
    is_head_lemma _ _ _ g ((λ i. with_tables (p i) t') ∙ ap (out_into b) (e ∙ (λ i. merge_all_in (z i) t ls files limit u)))
