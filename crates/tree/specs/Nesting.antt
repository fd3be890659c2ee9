-- Whether a nested tree is a join.
use Rattle.std.specs.Prelude.{Bool, true, false}
use Rattle.cells.specs.Nests.{Nest, empty, timed_leaf, work_leaf, join}

abbrev pub is_joined : Nest → Bool
is_joined (empty p) = false
is_joined (timed_leaf t) = false
is_joined (work_leaf w) = false
is_joined (join k q a b) = true
