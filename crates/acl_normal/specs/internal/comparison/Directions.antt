-- The directions in which two lists are compared (this library's own).
use Rattle.std.specs.Prelude.{Bool, true, false, not, ◌&&◌}
use Rattle.acl_normal.specs.declared.comparison.direction.Direction.{Direction}
use Rattle.acl_normal.specs.declared.comparison.direction.Direction.TheVariants.{Either, Over}

-- of two answers just one is true
abbrev pub differ : Bool → Bool → Bool
differ true b = not b
differ false b = b

-- two answers differ in a direction: just one of them is true, or the first is true and the second is not
abbrev pub differ_in : Direction → Bool → Bool → Bool
differ_in Either x y = differ x y
differ_in Over x y = x && not y
