use Rattle.std.proofs.Common.{List, ap}
use Rattle.acl_nt.specs.Descriptor.{Descriptor}
use Rattle.acl_nt.specs.declared.ace.OtherAce.{OtherAce}
use Rattle.acl_nt.proofs.ConditionLemmas.{exit_is}
use Rattle.acl_nt.proofs.reader.read_whole.Goals as goal

pub returns-in_err-part : goal.returns-in_err-part
returns-in_err-part c =
    rw (exit_is c.from_residual.result c.from_residual.ensures.1) c.in_err-part.ensures

pub returns : goal.returns
returns c =
    (c.in_ok-part.ensures.0, ap (λ (z : Descriptor × List OtherAce). z.0) c.in_ok-part.ensures.1)
