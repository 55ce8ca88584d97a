use Rattle.std.specs.Prelude.{take}
use Rattle.acl_normal.proofs.comparison.inversions.table.Given as goal
use Rattle.acl_normal.proofs.comparison.PlaceTableLemmas.{IsSummed}
use Rattle.acl_normal.specs.internal.comparison.PlaceTables.{IsScattered}

abbrev pub invariant-loop-placing : goal.invariant-loop-placing
invariant-loop-placing l = IsScattered l.selection l.side l.size (take l.placing-index l.placings) l.table.items

abbrev pub invariant-loop-k : goal.invariant-loop-k
invariant-loop-k l = IsSummed l.fn.selection l.fn.side l.size l.k l.placings l.table.items
