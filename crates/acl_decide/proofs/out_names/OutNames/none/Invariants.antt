use Rattle.std.specs.Prelude.{take}
use Rattle.std.specs.BTreeMap.{btree_map_len}
use Rattle.std.specs.List.{AllZip}
use Rattle.acl_decide.specs.internal.OutNames.{HaveNameNumbers, HasNameNumber}
use Rattle.acl_decide.proofs.out_names.OutNames.none.Given as goal

-- the names so far have their numbers
abbrev pub invariant-loop-ace : goal.invariant-loop-ace
invariant-loop-ace l = HaveNameNumbers l.known (btree_map_len l.known)
    × AllZip (HasNameNumber l.known) (take l.ace-index l.aces) l.numbers.items
