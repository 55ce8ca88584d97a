use Rattle.aclck_c.specs.Restricting.{MakesRestrictedEverywhere}
use Rattle.aclck_c.proofs.Endings.{writes_bytes}
use Rattle.aclck_c.proofs.nfs4.everywhere.aclck_restricted_everywhere.Goals as goal

pub returns-clause-bytes : goal.returns-clause-bytes
returns-clause-bytes c =
    writes_bytes (MakesRestrictedEverywhere _ _ _) _ (rw c.in-Some.ensures.value at c.everywhere_bytes.ensures.ok)
    c.answer.ensures
