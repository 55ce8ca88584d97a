use Rattle.std.proofs.Common.{◌≤◌, ap, subst, sym, arith, ◌∙◌}
use Rattle.std.proofs.lemmas.Result.{IfOk-weaker}
use Rattle.acl_to_posix.specs.internal.ListNamesBody.{named_shape}
use Rattle.acl_to_posix.specs.Pruning.{PrunesTo}
use Rattle.acl_to_posix.specs.ToPosix.{EntryShape, size_of}
use Rattle.acl_to_posix.specs.internal.PruningBody.{shape_left}
use Rattle.acl_to_posix.specs.internal.ShapeBody.{most_names, entry_shape_of}
use Rattle.acl_to_posix.proofs.prunings.PruneSteps.{whole_judged}
use Rattle.acl_to_posix.proofs.pruning.pruned.Goals as goal

pub returns-clause-pruned : goal.returns-clause-pruned
returns-clause-pruned c = λ list columns.
    let shape = entry_shape_of c.args.shape.now in
    let a = c.in_ok-left.ensures in
    let steps = subst (λ (s : EntryShape). PrunesTo list s (shape_left c.prune.new.left.items)) a.named
    (c.prune.ensures.pruned list c.args.columns.now columns
    (whole_judged c.args.columns.now shape c.in_ok-left.left.items a c.requires.few)) in
    IfOk-weaker c.named_in.result _ (λ rest. PrunesTo list shape (named_shape rest))
    (λ rest is. subst (PrunesTo list shape) (sym (is ∙ ap shape_left c.deref.ensures.value)) steps) c.named_in.ensures

pub returns-clause-few : goal.returns-clause-few
returns-clause-few c =
    let shape = entry_shape_of c.args.shape.now in
    let less = c.prune.ensures.few in
    let few : size_of (shape_left c.prune.new.left.items) ≤ most_names =
    let named = ap size_of c.in_ok-left.ensures.named in omega (arith, less, named, c.requires.few) in
    IfOk-weaker c.named_in.result _ (λ rest. size_of (named_shape rest) ≤ most_names)
    (λ rest is. subst (λ (s : EntryShape). size_of s ≤ most_names) (sym (is ∙ ap shape_left c.deref.ensures.value)) few)
    c.named_in.ensures
