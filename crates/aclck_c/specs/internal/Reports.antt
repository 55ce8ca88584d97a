-- The first difference of two lists, as the code reports it (this library's own; only the code needs it).
use Rattle.std.specs.Prelude.{◌≡◌, ℕ, Bool, length}
use Rattle.acl_perm.specs.Situation.{Situation}
use Rattle.aclck_c.specs.Compare.{names_text, raw_difference}
use Rattle.aclck_c.specs.declared.nfs4.compare.RawDifference.{RawDifference}
use Rattle.aclck_c.specs.declared.out.Made.{Made}

-- the situation's names, the right, and what the first list grants
pub record IsReportOf (s : Situation) (right : ℕ) (first_grants : Bool)
    (found : Made RawDifference ℕ) : Type 0 where
  pub at : found.value ≡ raw_difference (length found.items.items) right first_grants
  pub names : found.items.items ≡ names_text s
