-- What the functions of the header need of each other.
use Rattle.std.specs.Prelude.{ℕ, ◌&&◌, cond, List, [], ◌∷◌, eqb, leb}
use Rattle.rules.specs.declared.Area.{Area}
use Rattle.rules.specs.declared.Header.{Header}
use Rattle.rules.specs.Tests.{Ask, ask}
use Rattle.rules.specs.Values.{max_interval, max32, same_key, boundaries}
use Rattle.rules.specs.Sections.{counts_ok}
use Rattle.rules.specs.Load.{is_complete, key_of, fixed_size}

abbrev pub key_questions : Area → Header → List Ask
key_questions a h =
    ask (leb 1 h.version && leb h.version 4) 23 ∷ ask (leb h.slot 1) 24
    ∷ ask (leb h.flags (cond (leb 2 h.version) 3 1) && eqb h.zero15 0) 25 ∷ ask (same_key (key_of h) a.key) 26 ∷ []

abbrev pub size_questions : Area → Header → ℕ → List Ask
size_questions a h left =
    ask (leb 1 h.interval && leb h.interval max_interval) 27 ∷ ask (eqb h.zero52 0) 28 ∷ ask (leb h.budget max32) 29
    ∷ ask (eqb h.zero68 0) 28
    ∷ ask (counts_ok (boundaries a h.interval) h.checkpoints (is_complete h) h.frames h.parts h.malformed && leb (fixed_size h) left) 30 ∷ []
