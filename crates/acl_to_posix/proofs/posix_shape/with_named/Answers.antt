use Rattle.acl_to_posix.specs.internal.ShapeBody.{entry_shape_of}
use Rattle.acl_to_posix.proofs.shapes.ShapeBuilding.{finished, first_mask}
use Rattle.acl_to_posix.proofs.posix_shape.with_named.Goals as goal

pub returns : goal.returns
returns c = λ list columns three.
    let shape = entry_shape_of c.args.shape.now in
    let first = first_mask list shape c.args.acl c.calc_mask.new.self three c.in_ok-calc_mask.ensures.ok in
    let users = c.in_ok-add_users.ensures list columns first in
    let groups = c.in_ok-add_groups.ensures list columns users in
    finished list shape c.add_groups.new.acl c.calc_mask-2.new.self c.requires.some groups
    c.in_ok-calc_mask-2.ensures.ok c.mask_leaves_all.ensures c.mask_stays.ensures
    (record { valid = c.entries.ensures.valid; within = c.entries.ensures.within })
