use Rattle.aclck_c.specs.Restricting.{MakesRestricted}
use Rattle.aclck_c.proofs.Endings.{writes_bytes}
use Rattle.aclck_c.proofs.nfs4.restricted.aclck_restricted.Goals as goal

pub returns-clause-bytes : goal.returns-clause-bytes
returns-clause-bytes c =
    writes_bytes (MakesRestricted _ _ _) _ (rw c.in-Some.ensures.value at c.restricted_bytes.ensures.ok)
    c.answer.ensures
