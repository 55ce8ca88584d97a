use Rattle.acl_normal.proofs.Common.{IfOk-weaker, inverts_any}
use Rattle.acl_normal.proofs.comparison.FirstInverting.{first_of_four}
use Rattle.acl_normal.proofs.comparison.inversions.first_inverting.Goals as goal
use Rattle.acl_normal.specs.internal.comparison.FirstPlaces.{IsFirstBelow}
use Rattle.acl_normal.specs.internal.comparison.PlaceTables.{IsFirstOf, selection_of}
use Rattle.acl_perm.specs.declared.kind.Kind.TheVariants.{Deny}
use Rattle.acl_normal.specs.declared.principal_class.Class.TheVariants.{Others}

pub returns : goal.returns
returns c =
    IfOk-weaker c.first_of-4.result
    (IsFirstOf (selection_of c.args.direction Deny Others) c.args.placings.now c.in_ok-users.users)
    (IsFirstBelow (λ r. inverts_any c.args.direction r c.args.placings.now) c.args.placings.now c.args.limit)
    (λ first last. first_of_four c.args.direction c.args.placings.now c.args.limit
    c.in_ok-allowed_users.allowed_users c.in_ok-allowed.allowed c.in_ok-users.users first c.requires.limit
    c.requires.alone c.in_ok-allowed_users.ensures c.in_ok-allowed.ensures c.in_ok-users.ensures last)
    c.first_of-4.ensures
