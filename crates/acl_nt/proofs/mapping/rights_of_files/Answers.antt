use Rattle.std.proofs.Common.{refl, subst}
use Rattle.std.proofs.lemmas.Nat.{and_comm}
use Rattle.acl_perm.proofs.Sets.{IsMask-and}
use Rattle.acl_perm.specs.Bits.{IsMask}
use Rattle.acl_nt.specs.NtCheck.{file_rights}
use Rattle.acl_nt.proofs.mapping.rights_of_files.Goals as goal

pub invariant_of-result : goal.invariant_of-result
invariant_of-result c =
    record { within = subst IsMask (and_comm file_rights c.args.mask) (IsMask-and file_rights c.args.mask refl) }
