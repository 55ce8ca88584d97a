use Rattle.acl_to_posix.specs.internal.ShapeBody.{entry_shape_of}
use Rattle.acl_to_posix.proofs.shapes.ShapeBuilding.{three_best}
use Rattle.acl_to_posix.proofs.posix_shape.best_of_columns.Goals as goal

pub returns-then-is_within : goal.returns-then-is_within
returns-then-is_within c = λ list columns.
    three_best list (entry_shape_of c.args.shape.now) c.in_ok-acl.acl (c.in_ok-acl.ensures.three list columns)
    (c.is_within.ensures.0 c.if-is_within.true) c.in_ok-acl.ensures.valid
