use Rattle.acl_normal.proofs.Common.{Allow, Deny, false, true}
use Rattle.acl_normal.proofs.unique.Bits.{no_bits_of_zero}
use Rattle.acl_normal.proofs.reduce.needless.no_later.Goals as goal

pub returns : goal.returns
returns c Deny true b = no_bits_of_zero b
returns c Deny false b = no_bits_of_zero b
returns c Allow true b = no_bits_of_zero b
returns c Allow false b = no_bits_of_zero b
