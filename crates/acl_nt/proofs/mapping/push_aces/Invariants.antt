use Rattle.std.proofs.Common.{◌≡◌, ◌++◌, take}
use Rattle.std.specs.Prelude.{map, option_map}
use Rattle.acl_nt.specs.Descriptor.{nt_ace}
use Rattle.acl_nt.specs.NtList.{object_aces}
use Rattle.acl_nt.specs.Sid.{sid}
use Rattle.acl_nt.proofs.mapping.push_aces.Given as goal

-- the list has the ACEs so far
abbrev pub invariant-loop-ace : goal.invariant-loop-ace
invariant-loop-ace l = l.list ≡ l.fn.list
    ++ object_aces (map sid l.users) (option_map sid l.owner) (map nt_ace (take l.ace-index l.aces))
