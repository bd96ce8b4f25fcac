-- Demand 2's round trips of the calls, and question 4 as loading asks it. Assumes nothing.
use mathlib.Core.Path.{◌≡◌, refl, sym, ap, ◌∙◌}
use mathlib.Core.Bool.{true}
use mathlib.Core.List.{List}
use Prim.Native.Nat.{ℕ, ◌-◌}
use native.Mathlib.Omega.{arith}
use lib.Dec.{leb}
use lib.ListN.{length, drop}
use Rattle.field.specs.Records.{Bytes}
use Rattle.field.proofs.Bytes.{bytes_drop, bytes_take}
use Rattle.rules.specs.declared.Area.{Area}
use Rattle.rules.specs.Tests.{Accepted, after}
use Rattle.rules.specs.Values.{Index, Lengths}
use Rattle.rules.specs.Questions.{question3}
use Rattle.rules.specs.Sizes.{sized}
use Rattle.rules.specs.File.{read_header, saved, saved_length, save, body_of, header_of, hint_section, confirmed_section, version_of, has_hinting}
use Rattle.rules.specs.Load.{body_in, from_bytes, file_number, header_number, read_sections, limited, load}
use Rattle.rules.proofs.Tests.{accepted_eq, after→}
use Rattle.laws.proofs.hint_lists.Closure.{unmarked_stated}
use Rattle.laws.proofs.hint_lists.Calls.{Answered, four→}
use Rattle.laws.specs.Statements.{stripped, Savable}
use Rattle.laws.proofs.Parsed.{sections_forth}
use Rattle.laws.proofs.Saved.{load_of_save}
use Rattle.laws.proofs.Limit.{limited_load, large_limit}
use Rattle.laws.proofs.Loaded.{own_bytes, loaded_valid}
use Rattle.laws.proofs.Length.{saved_length_is}
use Rattle.laws.proofs.Facts.{sized→}
use Rattle.laws.proofs.Marks.{unkept_length, unkept_bytes}
use Rattle.laws.proofs.Question4.{saved_bytes, four_stripped}
use Rattle.theorems.specs.Terms.{Ample}
use Rattle.theorems.specs.Questions.{Question4IsLoading}
use Rattle.theorems.specs.RoundTrip.{SavedLoads, LimitedLoads, LoadedSaves}
use Rattle.theorems.proofs.Closure.{load→, closure}
use Rattle.theorems.proofs.Accepts.{refuses_nothing}

-- what is not saved does not matter to room or to bytes
room_stripped : (l : Lengths) (x : Index) → question3 l (stripped x) ≡ question3 l x
unfolding question3
room_stripped l x = refl

bytes_stripped : (x : Index) → saved (stripped x) ≡ saved x
unfolding saved body_of header_of hint_section confirmed_section version_of has_hinting
bytes_stripped x = rw (
  unmarked_stated x.fingerprint,
  unkept_length x.hinting.hints,
  unkept_bytes x.hinting.hints,
)

-- an accepted save
save→ : (l : Lengths) (x : Index) (out : ℕ) (b : List ℕ) → save l x out ≡ Accepted b
    → Answered l x (leb (saved_length x) out) (saved x) b
unfolding save
save→ l x out b e = four→ l x (leb (saved_length x) out) 40 (saved x) b (omega arith) e

savable : (l : Lengths) (x : Index) (out : ℕ) (b : List ℕ) → sized x ≡ true → save l x out ≡ Accepted b → Savable x
savable l x out b z e = let t = save→ l x out b e in record { one = t.one; two = t.two; four = t.four; sizes = z }

pub limited_loads : LimitedLoads
limited_loads l m x out limit b z e q =
    ap (λ (b : List ℕ). load m x.scan.area b limit) (sym (save→ l x out b e).is)
    ∙ limited_load m limit x (savable l x out b z e) q

-- under a limit that drops nothing
whole_load : (m : Lengths) (limit : ℕ) (x : Index) → Savable x → question3 m x ≡ true → Ample limit x
    → load m x.scan.area (saved x) limit ≡ Accepted (stripped x)
whole_load m limit x s r a =
    let e = large_limit limit x s.four a.budget a.hints in
    let q : question3 m (limited limit x) ≡ true = ap (question3 m) e ∙ room_stripped m x ∙ r in
    limited_load m limit x s q ∙ ap (λ (y : Index). Accepted y) e

pub saved_loads : SavedLoads
saved_loads l m x out limit b z e r a =
    ap (λ (b : List ℕ). load m x.scan.area b limit) (sym (save→ l x out b e).is)
    ∙ whole_load m limit x (savable l x out b z e) r a

-- a file's list is of the area asked for, and has no mark and no id
pub loaded_area : (a : Area) (b : List ℕ) (x : Index) → Bytes b → from_bytes a b ≡ Accepted x → x.scan.area ≡ a
unfolding from_bytes
loaded_area a b x g e =
    let h = read_header (body_in b) in
    let r = drop 80 (body_in b) in
    let p = after→ (file_number b) (after (header_number a h (length r)) (read_sections a h r)) x e in
    let q = after→ (header_number a h (length r)) (read_sections a h r) x p.1 in
    let s = sections_forth a h r x (bytes_drop (body_in b) 80 (bytes_take b (length b - 8) g)) q.1 in
    sym (ap (λ (i : Index). i.scan.area) s.is)

pub unstripped : (a : Area) (b : List ℕ) (x : Index) → Bytes b → Savable x → from_bytes a b ≡ Accepted x → stripped x ≡ x
unstripped a b x g v e =
    accepted_eq (stripped x) x
    (sym (load_of_save x v) ∙ ap (λ (c : Area). from_bytes c (saved x)) (loaded_area a b x g e)
    ∙ ap (from_bytes a) (own_bytes a b x g e) ∙ e)

pub loaded_saves : LoadedSaves
loaded_saves l a b limit out x y h e m d w =
    let t = load→ l a b limit y d in
    let same : t.whole ≡ x = accepted_eq t.whole x (sym t.read ∙ e) in
    let v = loaded_valid a b x h t.area e in
    let own : saved y ≡ b =
    ap saved (sym t.is ∙ ap (limited limit) same ∙ large_limit limit x v.four m.budget m.hints)
    ∙ bytes_stripped x ∙ own_bytes a b x h e in
    refuses_nothing.saves l y out (closure.loaded l a b limit y h d)
    (omega (arith, (saved_length_is y).0, ap length own)) ∙ ap (λ (z : List ℕ). Accepted z) own

pub question4_is_loading : Question4IsLoading
question4_is_loading l limit x q1 q2 q3 z a k = (
  (λ q4. whole_load l limit x (record { one = q1; two = q2; four = q4; sizes = z }) q3 a),
  (λ e. sym (four_stripped x k) ∙ (closure.loaded l x.scan.area (saved x) limit (stripped x)
      (saved_bytes x (sized→ x z)) e).four),
)
