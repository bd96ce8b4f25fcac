-- What another list holds and the own one does not, in tables.
use Rattle.std.specs.Prelude.{◌&&◌}
use Rattle.rules.specs.declared.AreaIndex.{AreaIndex}
use Rattle.rules.specs.Tests.{Answer}
use Rattle.tables.specs.Index.{Tables, room_of, index_in, kinds_in, kinded}
use Rattle.rules_lacks.specs.declared.Lacks.{Lacks}
use Rattle.rules_lacks.specs.Lacks.{lacks}

-- lacks
abbrev pub lacks_in : AreaIndex → Tables → AreaIndex → Tables → Answer Lacks
lacks_in x t y u = kinded (kinds_in x t && kinds_in y u) (lacks (room_of t) (index_in x t) (room_of u) (index_in y u))
