use Rattle.acl_posix.proofs.Common.{pair_of, sym}
use Rattle.acl_posix.proofs.entry_set.Halves.{perm_there}
use Rattle.acl_posix.proofs.entry_set.EntrySet.find.Goals as goal

pub returns-in-Some : goal.returns-in-Some
returns-in-Some g c = λ tag is_rank is_qualifier.
    sym (perm_there _ _ (pair_of c.entry_at.result) tag (c.in-Some.ensures.found tag is_rank is_qualifier)
    c.entry_at.ensures)
