use Rattle.acl_posix.proofs.sorting.ValidLists.{no_fault, one_fault}
use Rattle.acl_posix.proofs.laws.one_fault.Goals as goal

pub returns : goal.returns
returns c = record { one = one_fault; none = no_fault }
