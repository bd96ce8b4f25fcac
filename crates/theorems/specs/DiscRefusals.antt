-- Change request 14: when loading and saving a disc file are refused, and with which number.
use Rattle.std.specs.Prelude.{◌≡◌, true, false, ◌&&◌, List, [], ◌∷◌, ◌⊎◌, ℕ, ◌+◌, ◌<◌, length, Option, Some}
use Rattle.rules.specs.declared.Area.{Area}
use Rattle.rules.specs.declared.AreaIndex.{AreaIndex}
use Rattle.rules.specs.Tests.{Refused, Accepted}
use Rattle.rules.specs.Values.{Index, Lengths, max32}
use Rattle.rules.specs.File.{saved}
use Rattle.rules.specs.Load.{load}
use Rattle.blocks.specs.Blocks.{is_index}
use Rattle.rules_disc.specs.Disc.{slot_of, slot_area, contents_ok, load_body, save_one, save_both, load_disc}
use Rattle.tables.specs.Index.{Tables, room_of, index_in}
use Rattle.save.specs.Save as saving
use Rattle.rules_disc.specs.declared.Loaded.TheVariants as loaded
use Rattle.disc_load.specs.DiscLoad.{disc_out, load_disc_in}
use Rattle.disc_save.specs.DiscSave.{save_one_in, save_both_in}
use Rattle.blocks.specs.Calls.{called, head_index}
use Rattle.player_disc.specs.Block.{called_lists}
use Rattle.player_disc.specs.PlayerDisc.{called_disc, disc_save_call, disc_save_both_call, disc_load_call}
use Rattle.theorems.specs.Terms.{Valid, ValidIn}
use Rattle.theorems.specs.Demand1InC.{long}
use Rattle.theorems.specs.DiscFile.{body_in}

-- on values
pub record DiscRefusals : Type 0 where
  -- loading: 1 of the areas, then 54 where the table breaks the rules, whatever its bodies are
  pub areas : (l m : Lengths) (a0 a1 : Area) (b : List ℕ) (limit : ℕ) → (slot_area 0 a0 && slot_area 1 a1) ≡ false
      → load_disc l m a0 a1 b limit ≡ Refused 1
  pub table : (l m : Lengths) (a0 a1 : Area) (b : List ℕ) (limit : ℕ) → slot_area 0 a0 ≡ true → slot_area 1 a1 ≡ true
      → contents_ok b ≡ false
      → load_disc l m a0 a1 b limit ≡ Refused 54
  -- after it the first failing body's own number
  pub first : (l m : Lengths) (a0 a1 : Area) (b : List ℕ) (limit : ℕ) (c : List ℕ) (n : ℕ) → slot_area 0 a0 ≡ true
      → slot_area 1 a1 ≡ true → contents_ok b ≡ true
      → body_in b 0 ≡ Some c → load l a0 c limit ≡ Refused n → load_disc l m a0 a1 b limit ≡ Refused n
  pub second : (l m : Lengths) (a0 a1 : Area) (b : List ℕ) (limit : ℕ) (o : Option Index) (d : List ℕ) (n : ℕ)
      → slot_area 0 a0 ≡ true → slot_area 1 a1 ≡ true
      → contents_ok b ≡ true → load_body l a0 limit (body_in b 0) ≡ Accepted o → body_in b 1 ≡ Some d → load m a1 d limit
      ≡ Refused n
      → load_disc l m a0 a1 b limit ≡ Refused n
  -- saving lists that pass 1 to 4: 54 where two share a slot, or an offset or a length needs more than four bytes, whatever the output's length is
  pub share : (l m : Lengths) (x y : Index) (out : ℕ) → Valid l x → Valid m y → slot_of x ≡ slot_of y
      → save_both l x m y out ≡ Refused 54
  pub wide : (l m : Lengths) (x y : Index) (out : ℕ) → Valid l x → Valid m y → slot_of x ≡ 0 → slot_of y ≡ 1
      → ((max32 < 28 + length (saved x)) ⊎ (max32 < length (saved y))) → save_both l x m y out ≡ Refused 54
  pub wide_one : (l : Lengths) (x : Index) (out : ℕ) → Valid l x → max32 < length (saved x) → save_one l x out
      ≡ Refused 54

-- in tables: the calls refuse with the same number, and nothing changes
pub record DiscRefusalsIn : Type 0 where
  pub loads : (a0 a1 : Area) (b : List ℕ) (limit : ℕ) (t u : Tables) (n : ℕ)
      → load_disc (room_of t) (room_of u) a0 a1 b limit ≡ Refused n
      → load_disc_in a0 a1 b limit t u ≡ disc_out (loaded.Refused n) t u
  pub saves : (x : AreaIndex) (t : Tables) (old : List ℕ) (n : ℕ) → ValidIn x t
      → save_one (room_of t) (index_in x t) (length old) ≡ Refused n
      → save_one_in x t old ≡ saving.made (Refused n) old
  pub saves_both : (x y : AreaIndex) (t u : Tables) (old : List ℕ) (n : ℕ) → ValidIn x t → ValidIn y u
      → save_both (room_of t) (index_in x t) (room_of u) (index_in y u) (length old) ≡ Refused n → save_both_in x t y u old
      ≡ saving.made (Refused n) old

-- in C: of heads that are saved, and of blocks to load into that are long enough
pub record DiscRefusalsInC : Type 0 where
  pub loads : (head other answer : List ℕ) (a0 a1 : Area) (b : List ℕ) (limit : ℕ) (t u : Tables) (n : ℕ)
      → long (head ∷ other ∷ answer ∷ []) ≡ true
      → load_disc (room_of t) (room_of u) a0 a1 b limit ≡ Refused n
      → disc_load_call head other a0 a1 b limit answer t u ≡ called_disc (called_lists n head other answer) t u
  pub saves : (head : List ℕ) (t : Tables) (old : List ℕ) (n : ℕ) → is_index head ≡ true → ValidIn (head_index head) t
      → save_one (room_of t) (index_in (head_index head) t) (length old) ≡ Refused n → disc_save_call head t old
      ≡ called n old
  pub saves_both : (head other : List ℕ) (t u : Tables) (old : List ℕ) (n : ℕ) → is_index head ≡ true → is_index other
      ≡ true → ValidIn (head_index head) t
      → ValidIn (head_index other) u → save_both (room_of t) (index_in (head_index head) t) (room_of u)
      (index_in (head_index other) u) (length old) ≡ Refused n
      → disc_save_both_call head other t u old ≡ called n old
