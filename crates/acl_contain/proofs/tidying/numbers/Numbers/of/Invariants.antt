use Rattle.std.specs.Prelude.{◌≡◌, map, take}
use Rattle.acl_contain.proofs.tidying.numbers.Numbers.of.Given as goal
use Rattle.acl_contain.specs.internal.Joining.{number_of}

-- the numbers of the ACEs so far
abbrev pub invariant-loop-whom : goal.invariant-loop-whom
invariant-loop-whom l = l.numbers.items ≡ map (number_of l.others) (take l.whom-index l.whom-items)
