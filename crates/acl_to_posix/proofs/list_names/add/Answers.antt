use Rattle.std.proofs.Common.{List, ap, sym, ◌∙◌}
use Rattle.acl_posix.specs.Check.{ids, is_member}
use Rattle.acl_posix.specs.declared.id.Id.{Id}
use Rattle.acl_to_posix.proofs.ListNames.{once_more}
use Rattle.acl_to_posix.proofs.list_names.add.Goals as goal

pub returns-clause-once : goal.returns-clause-once
returns-clause-once c = once_more c.args.among.now.items c.push.new.self.items c.in-Some.id
    (ap (λ (xs : List Id). is_member c.in-Some.id.value (ids xs)) (sym c.deref.ensures.value)
    ∙ sym c.is_among.ensures ∙ c.if-is_among.false) c.in_ok-push.ensures.items
