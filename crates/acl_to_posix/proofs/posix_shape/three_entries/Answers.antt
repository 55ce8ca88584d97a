use Rattle.acl_to_posix.specs.internal.ShapeBody.{entry_shape_of}
use Rattle.acl_to_posix.proofs.shapes.ShapeBuilding.{three}
use Rattle.acl_to_posix.proofs.posix_shape.three_entries.Goals as goal

pub returns-clause-three : goal.returns-clause-three
returns-clause-three c =
    λ list columns. three list (entry_shape_of c.args.shape.now) c.in_ok-acl.acl c.from_parts.result.bits
    c.entry_perm-owner.result.bits c.entry_perm-group.result.bits c.entry_perm-others.result.bits c.in_ok-acl.ensures
    c.from_parts.ensures c.entry_perm-owner.result.within c.entry_perm-group.result.within
    c.entry_perm-others.result.within (c.entry_perm-owner.ensures.just list columns)
    (c.entry_perm-group.ensures.just list columns) (c.entry_perm-others.ensures.just list columns)
