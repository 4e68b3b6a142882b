-- The words that say where they come from.
use Rattle.std.specs.Prelude.{Bool, true, false, ◌&&◌, ◌==◌}
use Rattle.memory.specs.declared.origin.Origin.{Origin}
use Rattle.memory.specs.declared.origin.Origin.TheVariants.{Initial, Store}

-- the test of sameness: both are initial, or both are of one card's same entry
abbrev pub origin_alike : Origin → Origin → Bool
origin_alike Initial Initial = true
origin_alike Initial (Store d f) = false
origin_alike (Store c e) Initial = false
origin_alike (Store c e) (Store d f) = c == d && e == f
