use Rattle.acl_normal.proofs.comparison.SmallSetLemmas as sets
use Rattle.acl_normal.proofs.laws.small_situations_suffice.Goals as goal

pub returns-clause-same : goal.returns-clause-same
returns-clause-same c = sets.small_situations_suffice

pub returns-clause-any : goal.returns-clause-any
returns-clause-any c = sets.answers_suffice
