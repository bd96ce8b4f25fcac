-- What inspecting a file answers.
use Rattle.std.specs.Prelude.{List, ℕ}
use Rattle.rules.specs.declared.Area.{Area}
use Rattle.rules.specs.Tests.{Answer, Refused, Accepted}
use Rattle.rules.specs.Values.{Index, used}
use Rattle.rules.specs.File.{read_header}
use Rattle.rules.specs.Load.{body_in, from_bytes}
use Rattle.tables.specs.Index.{numbers_from}
use Rattle.inspect.specs.declared.Found.{Found}
use Rattle.inspect.specs.declared.Inspected.{Inspected}
use Rattle.inspect.specs.declared.Inspected.TheVariants as inspected

-- the numbers of the list x in the file b
abbrev pub found_in : List ℕ → Index → Found
found_in b x = record { index = numbers_from x; used = used x.scan.frames; version = (read_header (body_in b)).version }

unfoldable pub inspection_of : List ℕ → Answer Index → Inspected
inspection_of b (Refused n) = inspected.Refused n
inspection_of b (Accepted x) = inspected.Passed (found_in b x)

-- the refusal number of the file b for the area a, 20 to 38, or what it says
abbrev pub inspection : Area → List ℕ → Inspected
inspection a b = inspection_of b (from_bytes a b)
