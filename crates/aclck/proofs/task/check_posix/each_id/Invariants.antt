use Rattle.std.proofs.Common.{◌≡◌, ◌++◌, drop, map}
use Rattle.std.specs.Option.{option_map}
use Rattle.acl_posix.specs.Check.{ids}
use Rattle.aclck.specs.Values.{each_value, id_value}
use Rattle.aclck.proofs.task.check_posix.each_id.Given as goal

abbrev pub invariant-loop-item : goal.invariant-loop-item
invariant-loop-item l = each_value id_value (map (λ s. s.now) l.items)
    ≡ option_map (λ more. ids l.all.items ++ more) (each_value id_value (map (λ s. s.now) (drop l.item-index l.items)))
