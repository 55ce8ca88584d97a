use Rattle.std.proofs.Common.{subst, sym}
use Rattle.acl_eval.specs.internal.GroupOrder.{IsSortedCopy}
use Rattle.acl_eval.proofs.sorted_requester.SortedRequester.requester.Goals as goal

pub with_copy-requires-clause-copied : goal.with_copy-requires-clause-copied
with_copy-requires-clause-copied c =
    subst (IsSortedCopy c.args.self.now.requester.groups.names.now) (sym c.deref.ensures.value)
    (c.args.self.now.copied c.in-Some.copy c.in-Some.is)
