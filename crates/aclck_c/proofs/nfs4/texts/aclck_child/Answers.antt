use Rattle.std.proofs.Common.{rules}
use Rattle.acl_nfs4.specs.Programs.{MakesText}
use Rattle.aclck_c.specs.Lists.{created_bytes}
use Rattle.aclck_c.specs.Options.{child_kind_from, has_option, mark_option}
use Rattle.aclck_c.proofs.Endings.{writes_of_list}
use Rattle.aclck_c.proofs.nfs4.texts.aclck_child.Goals as goal

pub returns : goal.returns
returns c =
    let kind = child_kind_from c.args.options in
    let is_marked = has_option mark_option c.args.options in
    writes_of_list (λ p. MakesText p (created_bytes kind is_marked) c.args.acl.now)
    c.in-Some.ensures.profile (search rules)
    (rw (c.in-Some.ensures.kind, c.in-Some.ensures.marked) at c.child_of.ensures.ok)
    c.child_of.ensures.err c.answer.ensures
