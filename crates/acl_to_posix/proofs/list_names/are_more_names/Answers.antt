use Rattle.std.proofs.Common.{◌-◌, refl}
use Rattle.acl_to_posix.proofs.ListNames.{more_users}
use Rattle.acl_to_posix.proofs.NameCounts.{few_if_counted, more_if_not_counted}
use Rattle.acl_to_posix.proofs.list_names.are_more_names.Goals as goal

pub returns-in_default-clause-more : goal.returns-in_default-clause-more
returns-in_default-clause-more c = λ _.
    more_users c.args.names.now c.args.list.now c.args.most (c.in_default.ensures.more refl)

pub returns-clause-more : goal.returns-clause-more
returns-clause-more c =
    more_if_not_counted c.args.names.now c.args.list.now c.args.most c.in-Some.users (c.args.most - c.in-Some.users)
    c.in-Some.ensures.counted c.in-Some.ensures.few refl c.count_of-2.result c.count_of-2.ensures.more c.is_none.result
    c.is_none.ensures

pub returns-clause-few : goal.returns-clause-few
returns-clause-few c =
    few_if_counted c.args.names.now c.args.list.now c.args.most c.in-Some.users (c.args.most - c.in-Some.users)
    c.in-Some.ensures.counted c.in-Some.ensures.few refl c.count_of-2.result c.count_of-2.ensures.counted
    c.count_of-2.ensures.few c.is_none.result c.is_none.ensures
