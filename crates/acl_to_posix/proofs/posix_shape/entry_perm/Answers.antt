use Rattle.std.proofs.Common.{◌∙◌, refl}
use Rattle.acl_posix.specs.Tag.{tag_of}
use Rattle.acl_to_posix.specs.internal.ShapeBody.{entry_shape_of}
use Rattle.acl_to_posix.proofs.shapes.ShapeRights.{answered, just, shape_ids}
use Rattle.acl_to_posix.proofs.posix_shape.entry_perm.Goals as goal

pub returns-clause-answers : goal.returns-clause-answers
returns-clause-answers c =
    let shape = entry_shape_of c.args.shape.now in
    let entry = tag_of c.args.entry in
    let read = answered shape entry c.deref.result.now c.args.columns.now.read.items _
    c.is_always_allowed-may_read.ensures c.deref.ensures.value in
    let write = answered shape entry c.deref-2.result.now c.args.columns.now.write.items _
    c.is_always_allowed-may_write.ensures c.deref-2.ensures.value in
    let append = answered shape entry c.deref-3.result.now c.args.columns.now.append.items _
    c.is_always_allowed-may_append.ensures c.deref-3.ensures.value in
    let execute = answered shape entry c.deref-4.result.now c.args.columns.now.execute.items _
    c.is_always_allowed-may_execute.ensures c.deref-4.ensures.value in
    record {
      of_read = c.perm_of.ensures.read ∙ read;
      of_write = c.perm_of.ensures.write ∙ rw (write, append) refl;
      of_execute = c.perm_of.ensures.execute ∙ execute;
    }

pub returns-clause-just : goal.returns-clause-just
returns-clause-just c = λ list columns.
    let shape = entry_shape_of c.args.shape.now in
    let entry = tag_of c.args.entry in
    let read = answered shape entry c.deref.result.now c.args.columns.now.read.items _
    c.is_always_allowed-may_read.ensures c.deref.ensures.value in
    let write = answered shape entry c.deref-2.result.now c.args.columns.now.write.items _
    c.is_always_allowed-may_write.ensures c.deref-2.ensures.value in
    let append = answered shape entry c.deref-3.result.now c.args.columns.now.append.items _
    c.is_always_allowed-may_append.ensures c.deref-3.ensures.value in
    let execute = answered shape entry c.deref-4.result.now c.args.columns.now.execute.items _
    c.is_always_allowed-may_execute.ensures c.deref-4.ensures.value in
    just list c.args.columns.now shape entry c.perm_of.result.bits columns (shape_ids c.args.shape.now) c.requires.few
    c.requires.there (c.perm_of.ensures.read ∙ read) (c.perm_of.ensures.write ∙ rw (write, append) refl)
    (c.perm_of.ensures.execute ∙ execute)
