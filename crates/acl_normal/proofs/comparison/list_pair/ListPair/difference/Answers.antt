use Rattle.acl_normal.proofs.comparison.list_pair.ListPair.difference.Goals as goal
use Rattle.acl_normal.proofs.comparison.FirstSet.{differs_there, found_is, situation_there, none_compared, some_compared}

pub returns-in-None : goal.returns-in-None
returns-in-None c = none_compared c.args.self.now (found_is c.args.self.now _ _ c.requires.found c.in-None.is)

pub difference_at-requires-clause-differ : goal.difference_at-requires-clause-differ
difference_at-requires-clause-differ c =
    differs_there c.args.self.now _ (found_is c.args.self.now _ _ c.requires.found c.in-Some.is)

pub difference_at-requires-clause-named : goal.difference_at-requires-clause-named
difference_at-requires-clause-named c = situation_there c.args.self.now _ c.requires.named
    (found_is c.args.self.now _ _ c.requires.found c.in-Some.is)

pub returns-in_ok-difference_at-in-Some : goal.returns-in_ok-difference_at-in-Some
returns-in_ok-difference_at-in-Some c = some_compared c.args.self.now _ _ c.requires.named
    (found_is c.args.self.now _ _ c.requires.found c.in-Some.is)
    c.in_ok-difference_at-in-Some.ensures.situation c.in_ok-difference_at-in-Some.ensures.bit
