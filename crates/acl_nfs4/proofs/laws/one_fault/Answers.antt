use Rattle.acl_nfs4.proofs.xdr.OneFault.{one_fault, value_or_fault}
use Rattle.acl_nfs4.proofs.laws.one_fault.Goals as goal

pub returns-clause-one : goal.returns-clause-one
returns-clause-one c = λ p bytes o q t u r s is f g. one_fault p bytes o q t u r s is f g

pub returns-clause-none : goal.returns-clause-none
returns-clause-none c = λ p bytes list text rest o r is x e f. value_or_fault p bytes list text rest o r is x e f
