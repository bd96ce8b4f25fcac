-- What the calls for C answer on lists: a number, the block of an answer and the tables afterwards.
use Rattle.std.specs.Prelude.{ℕ, List, [], ◌∷◌}
use Rattle.rules.specs.declared.Area.{Area}
use Rattle.rules_lacks.specs.declared.Lacks.{Lacks}
use Rattle.rules.specs.FirstRecord.{first_record}
use Rattle.rules.specs.Tests.{Accepted, Answer, Refused}
use Rattle.rules.specs.File.{bit}
use Rattle.rules_view.specs.View.{is_role}
use Rattle.blocks.specs.Blocks.{index_words, is_index}
use Rattle.tables.specs.Index.{Tables, MadeOut}
use Rattle.index.specs.Index.{made_of, new_in, bound_in}
use Rattle.plan.specs.Plan.{plan_in}
use Rattle.load.specs.Load.{load_in}
use Rattle.merge.specs.Merge.{merge_in}
use Rattle.adds.specs.Adds.{adds_in}
use Rattle.add_hints.specs.AddHints.{add_hints_in}
use Rattle.save.specs.Save.{save_in}
use Rattle.sizes.specs.Sizes.{new_sizes, file_sizes, file_area, file_length}
use Rattle.blocks.specs.Calls.{Called, called, into, in_block, in_head, head_index, saved_into, one_word}
use Rattle.rules_view.specs.Roles.{in_workshop}
use Rattle.player.specs.Block.{plan_words, first_words, size_words, area_words, brings_words}
use Rattle.coarsen.specs.Coarsen.{coarse_in}
use Rattle.drawer.specs.Drawer.{merge_all_in}
use Rattle.lacks.specs.Lacks.{lacks_in}
use Rattle.short_sum.specs.declared.Folded.{Folded}
use Rattle.short_sum.specs.declared.Folded.TheVariants as folded
use Rattle.short_sum.specs.ShortSum.{fold}
use Rattle.view.specs.View.{ViewOut, view_in, view_size_in}

-- ---- sectors and sizes; the block is the answer's
unfoldable pub first_call : List ℕ → List ℕ → Called
first_call answer sector = in_block answer (called 3 answer) (into first_words answer (Accepted (first_record sector)))

unfoldable pub sizes_call : List ℕ → Area → ℕ → ℕ → ℕ → Called
sizes_call answer a k budget most = in_block answer (called 3 answer) (into size_words answer (new_sizes a k budget most))

unfoldable pub file_area_call : List ℕ → List ℕ → Called
file_area_call answer file = in_block answer (called 3 answer) (into area_words answer (file_area file))

unfoldable pub file_sizes_call : List ℕ → Area → List ℕ → ℕ → Called
file_sizes_call answer a file limit = in_block answer (called 3 answer) (into size_words answer (file_sizes a file limit))

-- ---- lists; the block is the head
unfoldable pub new_call : List ℕ → Area → ℕ → ℕ → ℕ → ℕ → Tables → Called
new_call head a k budget spacing most t = in_block head (called 3 head) (into index_words head (new_in t a k budget spacing most))

-- with the tables, where they are written
pub record CalledOver : Type 0 where
  pub call : Called
  pub tables : Tables

abbrev pub with_tables : Called → Tables → CalledOver
with_tables c t = record { call = c; tables = t }

abbrev pub called_over : ℕ → List ℕ → Tables → CalledOver
called_over n b t = with_tables (called n b) t

abbrev pub out_into : List ℕ → MadeOut → CalledOver
out_into head o = with_tables (into index_words head (made_of o.answer)) o.tables

unfoldable pub load_call : List ℕ → Area → List ℕ → ℕ → Tables → CalledOver
load_call head a file limit t = in_block head (called_over 3 head t) (out_into head (load_in a file limit t))

unfoldable pub fingerprint_call : List ℕ → ℕ → Tables → Called
fingerprint_call head v t = in_head (is_index head) (called 3 head) (into index_words head (bound_in (head_index head) t v))

-- the block is the answer's
unfoldable pub plan_call : List ℕ → ℕ → List ℕ → Tables → Called
plan_call head frame answer t =
    in_head (is_index head) (called 3 answer) (in_block answer (called 3 answer) (into plan_words answer (plan_in (head_index head) t frame)))

-- the length, or the refusal number
unfoldable pub length_call : List ℕ → Tables → ℕ
length_call head t = in_head (is_index head) 3 (file_length (head_index head) t)

-- with the output as block
unfoldable pub save_call : List ℕ → Tables → List ℕ → Called
save_call head t out =
    let o = save_in (head_index head) t out in
    in_head (is_index head) (called 3 out) (saved_into o.answer o.out)

-- ---- two lists
unfoldable pub merge_call : List ℕ → List ℕ → Tables → Tables → CalledOver
merge_call head other t u =
    in_head (is_index head) (called_over 3 head t) (in_head (is_index other) (called_over 3 head t) (out_into head (merge_in (head_index head) t (head_index other) u)))

-- the block is the answer's
unfoldable pub adds_call : List ℕ → List ℕ → List ℕ → Tables → Tables → Called
adds_call head other answer t u =
    in_head (is_index head) (called 3 answer)
    (in_head (is_index other) (called 3 answer) (in_block answer (called 3 answer) (into brings_words answer (adds_in (head_index head) t (head_index other) u))))

-- ---- hints
unfoldable pub add_hints_call : List ℕ → List ℕ → Tables → CalledOver
add_hints_call head list t = in_head (is_index head) (called_over 3 head t) (out_into head (add_hints_in (head_index head) t list))

-- ---- what the workshop alone may call (change request 10)
unfoldable pub load_call_as : ℕ → List ℕ → Area → List ℕ → ℕ → Tables → CalledOver
load_call_as role head a file limit t = in_workshop role (called_over 52 head t) (load_call head a file limit t)

unfoldable pub save_call_as : ℕ → List ℕ → Tables → List ℕ → Called
save_call_as role head t out = in_workshop role (called 52 out) (save_call head t out)

unfoldable pub merge_call_as : ℕ → List ℕ → List ℕ → Tables → Tables → CalledOver
merge_call_as role head other t u = in_workshop role (called_over 52 head t) (merge_call head other t u)

-- the block and the tables u are the coarser list's
unfoldable pub coarse_call : List ℕ → ℕ → List ℕ → Tables → Tables → CalledOver
coarse_call head k coarse t u =
    in_head (is_index head) (called_over 3 coarse u) (in_block coarse (called_over 3 coarse u) (out_into coarse (coarse_in (head_index head) t k u)))

-- the block and the tables t are the own list's; u are the working tables
unfoldable pub merge_all_call : List ℕ → List ℕ → List ℕ → ℕ → Tables → Tables → CalledOver
merge_all_call head ls b limit t u =
    in_head (is_index head) (called_over 3 head t) (out_into head (merge_all_in (head_index head) t ls b limit u))

-- what the workshop alone may call (change request 10)
unfoldable pub merge_all_call_as : ℕ → List ℕ → List ℕ → List ℕ → ℕ → Tables → Tables → CalledOver
merge_all_call_as role head ls b limit t u = in_workshop role (called_over 52 head t) (merge_all_call head ls b limit t u)

-- how many of each thing are lacking; 1 for each of what there is once at most
unfoldable pub lacks_words : Lacks → List ℕ
lacks_words l =
    l.checkpoints ∷ bit l.ending ∷ l.parts ∷ l.malformed ∷ l.hints ∷ l.confirmed ∷ bit l.fingerprint ∷ bit l.image ∷ bit l.budget ∷ bit l.most
    ∷ 0 ∷ 0 ∷ 0 ∷ 0 ∷ 0 ∷ 0 ∷ 0 ∷ 0 ∷ 0 ∷ 0 ∷ 0 ∷ 0 ∷ 0 ∷ 0 ∷ []

-- the block is the answer's
unfoldable pub lacks_call : List ℕ → List ℕ → List ℕ → Tables → Tables → Called
lacks_call head other answer t u =
    in_head (is_index head) (called 3 answer)
    (in_head (is_index other) (called 3 answer) (in_block answer (called 3 answer) (into lacks_words answer (lacks_in (head_index head) t (head_index other) u))))

unfoldable pub folded_of : Folded → Answer ℕ
folded_of (folded.Refused n) = Refused n
folded_of (folded.Sum s) = Accepted s

-- the answer's first word is the folded sum
unfoldable pub fold_call : ℕ → ℕ → ℕ → List ℕ → Called
fold_call w k s answer = in_block answer (called 3 answer) (into one_word answer (folded_of (fold w k s)))

-- the length, or the refusal number
unfoldable pub length_number : Answer ℕ → ℕ
length_number (Refused n) = n
length_number (Accepted n) = n

-- with the output as block
abbrev pub view_into : ViewOut → Called
view_into o = called (length_number o.answer) o.out

-- 52 where the role is neither, asked before the block's 3
unfoldable pub view_length_call : ℕ → List ℕ → Tables → ℕ
view_length_call role head t = in_head (is_role role) 52 (in_head (is_index head) 3 (length_number (view_size_in role (head_index head) t)))

-- the block is the output
unfoldable pub view_call : ℕ → List ℕ → Tables → List ℕ → Called
view_call role head t out = in_head (is_role role) (called 52 out) (in_head (is_index head) (called 3 out) (view_into (view_in role (head_index head) t out)))
