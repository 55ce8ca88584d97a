use Rattle.std.specs.Prelude.{◌≡◌, All, None, map, take}
use Rattle.acl_perm.specs.Profile.{full, profile_of}
use Rattle.acl_nfs4.specs.Spelling.{IsAccepted}
use Rattle.aclck_c.specs.Build.{ace_given, number_fault}
use Rattle.aclck_c.proofs.nfs4.build.list_of.Given as goal

-- the list has the ACEs so far, of which no number is refused
abbrev pub invariant-loop-item : goal.invariant-loop-item
invariant-loop-item l = record {
  is : l.list ≡ map ace_given (take l.item-index l.aces);
  numbers : All (λ a. number_fault (profile_of l.profile) a ≡ None) (take l.item-index l.aces);
  accepted : IsAccepted full l.list;
}
