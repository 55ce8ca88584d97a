use Rattle.acl_eval.proofs.Same.{by_bits, by_columns}
use Rattle.acl_eval.proofs.laws.same_grants_bit_by_bit.Goals as goal

pub returns-clause-bits : goal.returns-clause-bits
returns-clause-bits c = by_bits

pub returns-clause-columns : goal.returns-clause-columns
returns-clause-columns c = by_columns
