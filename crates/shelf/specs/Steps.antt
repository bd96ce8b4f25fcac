-- What the functions of a shelf need of each other.
use Rattle.std.specs.Prelude.{◌≡◌, List, [], ◌≤◌, ℕ, zero, suc, ◌+◌, length, take, get_or, set, Option, None, Some}
use Rattle.rules_shelf.specs.declared.ShelfRecord.{ShelfRecord}
use Rattle.rules_shelf.specs.declared.Shelf.{Shelf}
use Rattle.rules_shelf.specs.Shelf.{no_record}
use Rattle.rules.specs.Tests.{Answer, Refused, Accepted}
use Rattle.shelf.specs.declared.Kept.{Kept}
use Rattle.shelf.specs.declared.Change.{Change}
use Rattle.shelf.specs.declared.ShelfAnswer.{ShelfAnswer}
use Rattle.shelf.specs.Shelf.{answer}

abbrev pub list_of : Kept → List ShelfRecord
list_of a = take a.n a.all

pub record Sound (a : Kept) : Type 0 where
  pub few : a.n ≤ 64
  pub wide : length a.all ≡ 64

-- a has the records rs
pub record Stands (a : Kept) (rs : List ShelfRecord) : Type 0 where
  pub sound : Sound a
  pub same : list_of a ≡ rs

-- the first n of l over the start of t, one after the other
unfoldable pub written : ℕ → List ShelfRecord → List ShelfRecord → List ShelfRecord
written zero l t = t
written (suc n) l t = set (written n l t) n (get_or l n no_record)

-- the answer where r are the records present afterwards: a refusal and an absent area leave the shelf's numbers
unfoldable pub told : Shelf → Answer (Option (List ShelfRecord)) → ShelfAnswer
told x (Refused n) = answer n 0 x.present x.count
told x (Accepted None) = answer 0 1 x.present x.count
told x (Accepted (Some new)) = answer 0 0 (length new) (x.count + 1)

-- the records that are written: none for a refusal or an absent area
unfoldable pub new_of : Answer (Option (List ShelfRecord)) → List ShelfRecord
new_of (Refused n) = []
new_of (Accepted None) = []
new_of (Accepted (Some new)) = new

-- c is what a call brings that answers r
pub record Changes (c : Change) (x : Shelf) (r : Answer (Option (List ShelfRecord))) : Type 0 where
  pub answers : c.answer ≡ told x r
  pub few : c.n ≤ 64
  pub wide : length c.all ≡ 64
  pub new : take c.n c.all ≡ new_of r
