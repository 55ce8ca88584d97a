use Rattle.std.proofs.Common.{◌+◌, arith, rules}
use Rattle.acl_to_posix.specs.internal.ListNamesBody.{relevant_id, names_id}
use Rattle.acl_to_posix.proofs.NameCounts.{all_below, more_below, none_below, one_more_below}
use Rattle.acl_to_posix.proofs.list_names.count_of.Goals as goal

pub loop-id-init : goal.loop-id-init
loop-id-init c = (none_below (names_id c.args.kind c.args.names.now c.args.list.now), search rules)

pub loop-id-preserved : goal.loop-id-preserved
loop-id-preserved c = (
  one_more_below (names_id c.args.kind c.args.names.now c.args.list.now) c.loop-id.from c.loop-id.count
      c.in-Some.id.value c.loop-id.invariant.0 c.in-Some.ensures,
  search rules,
)

pub returns-then-count-most-clause-more : goal.returns-then-count-most-clause-more
returns-then-count-most-clause-more c = λ _.
    more_below c.args.most (relevant_id c.args.kind c.args.names.now) c.args.list.now (c.in-Some.id.value + 1)
    (c.loop-id.count + 1)
    (one_more_below (names_id c.args.kind c.args.names.now c.args.list.now) c.loop-id.from c.loop-id.count
    c.in-Some.id.value c.loop-id.invariant.0 c.in-Some.ensures) (omega (arith, c.if-count-most.true))

pub returns-clause-counted : goal.returns-clause-counted
returns-clause-counted c =
    all_below (names_id c.args.kind c.args.names.now c.args.list.now) c.loop-id.from c.loop-id.count
    c.loop-id.invariant.0 c.in_default.ensures
