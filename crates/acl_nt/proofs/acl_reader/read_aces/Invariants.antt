use Rattle.std.proofs.Common.{◌≡◌, ◌++◌, ◌-◌, ◌≤◌}
use Rattle.acl_nt.specs.AclAt.{aces_conditions, deciding_aces, other_nt_aces, places}
use Rattle.acl_nt.specs.Conditions.{first_unmet}
use Rattle.acl_nt.specs.internal.Parts.{aces}
use Rattle.acl_nt.proofs.acl_reader.read_aces.Given as goal

-- the ACEs so far, with those that are left, are all ACEs, and the first fault is among those that are left
abbrev pub invariant-loop : goal.invariant-loop
invariant-loop l = record {
  within : l.at ≤ l.fn.end;
  fault : first_unmet (aces_conditions l.fn.role l.fn.bytes l.fn.end (places (l.count - l.counter) l.fn.bytes l.at))
      ≡ first_unmet (aces_conditions l.fn.role l.fn.bytes l.fn.end (places l.count l.fn.bytes l.fn.from));
  deciding : (aces l.list).0 ++ deciding_aces l.fn.role l.fn.bytes (places (l.count - l.counter) l.fn.bytes l.at)
      ≡ deciding_aces l.fn.role l.fn.bytes (places l.count l.fn.bytes l.fn.from);
  others : (aces l.list).1 ++ other_nt_aces l.fn.role l.fn.bytes (places (l.count - l.counter) l.fn.bytes l.at)
      ≡ other_nt_aces l.fn.role l.fn.bytes (places l.count l.fn.bytes l.fn.from);
}
