-- What the functions of sizes need of each other.
use Rattle.std.specs.Prelude.{ℕ, ◌/◌, min}
use Rattle.rules.specs.declared.AreaIndex.{AreaIndex}
use Rattle.rules.specs.declared.TableSizes.{TableSizes}
use Rattle.sizes.specs.Sizes.{sizes_of}

-- the sizes for what a limit leaves
unfoldable pub limited_sizes : AreaIndex → ℕ → TableSizes
limited_sizes x limit = sizes_of x.area x.interval (min x.budget limit) (min x.most (limit / 8))
