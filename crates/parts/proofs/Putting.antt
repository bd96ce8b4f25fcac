-- A part put into the tables is the part that the rule stores. Assumes nothing.
use mathlib.Core.Path.{◌≡◌, sym, ◌∙◌}
use mathlib.Core.List.{List, ◌++◌, append_assoc}
use Prim.Native.Nat.{ℕ, ◌+◌, ◌-◌, ◌*◌, ◌≤◌}
use native.Mathlib.Omega.{arith}
use lib.ListN.{length, take, drop, length-drop}
use lib.Seq.{sets, sets-eq, take_all}
use Rattle.field.specs.Number.{encode}
use Rattle.rules.specs.PartRule.{Piece, part_of}
use Rattle.rules.specs.File.{encode_held}
use Rattle.parts.specs.declared.Counts.{Counts}
use Rattle.parts.specs.declared.Placed.{Placed}
use Rattle.parts.specs.Parts.{PartTables, part_tables, held}
use Rattle.parts.specs.Steps.{Puts, put_in}

-- bytes copied to a place are set there
copied_sets : (o b : List ℕ) (at from : ℕ) → from ≤ length b → at + (length b - from) ≤ length o
    → take at o ++ (take (length b - from) (drop from b) ++ drop (at + (length b - from)) o) ≡ sets o at (drop from b)
copied_sets o b at from h g =
    let l = length-drop from b in
    let e : take (length b - from) (drop from b)
    ≡ drop from b = take_all (length b - from) (drop from b) (omega arith) in
    rw e (sym (sets-eq (drop from b) o at (omega arith) ∙ rw (append_assoc, l)))

pub put_is : {c : Counts} {to : Placed} {t : PartTables} (p : Piece) {a b d : List ℕ} → Puts c to (length p.bytes) t
    → a ≡ sets t.frames (to.frame * 8) (encode 4 p.start ++ encode 4 to.len)
    → b ≡ take c.used t.store ++ (take (length p.bytes - to.from) (drop to.from p.bytes)
    ++ drop (c.used + (length p.bytes - to.from)) t.store)
    → d ≡ sets t.parts (c.parts * 24) (encode_held (part_of p to.frame))
    → held (record { frames = to.frames; parts = c.parts + 1; used = c.used + (length p.bytes - to.from) })
    (part_tables a b d) ≡ put_in c to p t
unfolding put_in
put_is {c} {to} {t} p r ea eb ed =
    rw (ea, eb, ed, copied_sets t.store p.bytes c.used to.from r.from r.store, length-drop)
