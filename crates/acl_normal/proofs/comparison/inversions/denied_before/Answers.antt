use Rattle.acl_normal.proofs.Common.{IfOk-weaker, ◌∙◌}
use Rattle.acl_normal.proofs.comparison.GreatestPlaces.{denied_is}
use Rattle.acl_normal.proofs.comparison.inversions.denied_before.Goals as goal
use Rattle.acl_normal.specs.internal.comparison.PlaceTables.{IsDeniedTable, IsPlaceTable, selection_of}
use Rattle.acl_normal.specs.declared.comparison.direction.Direction.TheVariants.{Over}
use Rattle.acl_normal.specs.declared.comparison.inversions.Side.TheVariants.{There}
use Rattle.acl_perm.specs.declared.kind.Kind.TheVariants.{Allow}

pub returns : goal.returns
returns c = IfOk-weaker c.table.result
    (λ v. IsPlaceTable (selection_of Over Allow c.args.class) There c.args.size c.args.placings.now v.items)
    (λ v. IsDeniedTable c.args.class c.args.size c.args.placings.now v.items)
    (λ v is. record { count = is.count; each = λ k l. is.each k l ∙ denied_is c.args.class k c.args.placings.now })
    c.table.ensures
