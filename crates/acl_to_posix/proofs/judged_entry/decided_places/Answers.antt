use Rattle.std.proofs.Common.{◌∙◌}
use Rattle.acl_posix.specs.Tag.{tag_of}
use Rattle.acl_to_posix.proofs.prunings.JudgedEntries.{execute_bit, place_in, read_bit, write_bit}
use Rattle.acl_to_posix.proofs.judged_entry.decided_places.Goals as goal

pub returns : goal.returns
returns c =
    let entry = tag_of c.args.entry in
    let may_read = c.contains.ensures.value ∙ read_bit c.args.perm.bits c.args.perm.within in
    let may_write = c.contains-may_write.ensures.value ∙ write_bit c.args.perm.bits c.args.perm.within in
    let may_execute = c.contains-2.ensures.value ∙ execute_bit c.args.perm.bits c.args.perm.within in
    record {
      of_read = place_in entry _ _ _ _ _ c.decided_if.ensures may_read c.deref.ensures.value;
      of_write = place_in entry _ _ _ _ _ c.decided_if-2.ensures may_write c.deref-2.ensures.value;
      of_append = place_in entry _ _ _ _ _ c.decided_if-3.ensures may_write c.deref-3.ensures.value;
      of_execute = place_in entry _ _ _ _ _ c.decided_if-4.ensures may_execute c.deref-4.ensures.value;
    }
