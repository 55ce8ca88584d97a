use Rattle.acl_posix.proofs.Common.{group_class, other, tag_of, user_obj}
use Rattle.acl_posix.proofs.sorted.OneEntry.{class_present, complete_from_valid, present-insert, valid_mode}
use Rattle.acl_posix.proofs.sorted.SortedEntries.set_mode.Goals as goal

pub set-requires : goal.set-requires
set-requires c = (complete_from_valid c.args.self.now c.requires).owner

pub set-requires-2 : goal.set-requires-2
set-requires-2 c = rw (c.set.ensures, c.group_class-class.ensures)
    (present-insert c.args.self.now user_obj (group_class c.args.self.now) _ (class_present c.args.self.now c.requires))

pub set-requires-3 : goal.set-requires-3
set-requires-3 c = rw (c.set-2.ensures, c.set.ensures)
    (present-insert _ (tag_of c.group_class-class.result) other _ (present-insert c.args.self.now user_obj other _
    (complete_from_valid c.args.self.now c.requires).others))

pub returns-clause-valid : goal.returns-clause-valid
returns-clause-valid c = rw (c.set-3.ensures, c.set-2.ensures, c.set.ensures, c.group_class-class.ensures)
    (valid_mode c.args.self.now c.owner.result.bits c.group.result.bits c.others.result.bits c.requires)
