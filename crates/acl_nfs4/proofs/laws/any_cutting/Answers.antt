use Rattle.acl_nfs4.proofs.feed.Exactly.{any_cutting, each_is, nothing_cut}
use Rattle.acl_nfs4.proofs.laws.any_cutting.Goals as goal

pub returns-clause-together : goal.returns-clause-together
returns-clause-together c = λ p pieces answers new h. each_is p _ pieces answers new (nothing_cut p) h

pub returns-clause-once : goal.returns-clause-once
returns-clause-once c = λ p pieces ok answers new once now h g. any_cutting p pieces answers new once now ok h g
