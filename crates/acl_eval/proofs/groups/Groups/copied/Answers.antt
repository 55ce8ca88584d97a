use Rattle.std.proofs.Common.{ap, rules, subst, List, [], ℕ}
use Rattle.std.specs.Borrow.{Bor}
use Rattle.acl_eval.specs.internal.GroupOrder.{IsSortedCopy}
use Rattle.acl_eval.specs.declared.groups.Order.{Order}
use Rattle.acl_eval.specs.declared.groups.Order.TheVariants.{Copied, Known, Said, Unknown}
use Rattle.acl_eval.proofs.groups.Groups.copied.Goals as goal

-- the copy that a value of the order has
abbrev copy_of : Order → List (Bor (List ℕ))
copy_of Unknown = []
copy_of Known = []
copy_of (Copied copy) = copy.now
copy_of Said = []

pub invariant_of-result : goal.invariant_of-result
invariant_of-result c = record {
  known = search rules;
  copied = λ copy e. subst (IsSortedCopy c.args.names.now) (ap copy_of e) c.requires;
}
