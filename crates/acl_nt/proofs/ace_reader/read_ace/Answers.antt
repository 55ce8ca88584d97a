use Rattle.std.proofs.Common.{inr, sym}
use Rattle.acl_nt.specs.AceAt.{ace_head_conditions, ace_sid_conditions, nt_ace_at}
use Rattle.acl_nt.specs.Descriptor.{nt_ace}
use Rattle.acl_nt.proofs.ConditionLemmas.{fault_before, reads_after}
use Rattle.acl_nt.proofs.ace_reader.read_ace.Goals as goal

pub returns-in-Some-clause-exact : goal.returns-in-Some-clause-exact
returns-in-Some-clause-exact c =
    inr (fault_before (ace_head_conditions c.args.role c.args.bytes.now c.args.end c.args.at)
    (ace_sid_conditions c.args.role c.args.bytes.now c.args.at) c.in-Some.fault (sym c.in-Some.ensures.exact))

pub returns-in-None-clause-exact : goal.returns-in-None-clause-exact
returns-in-None-clause-exact c =
    reads_after nt_ace c.read_after_head.result
    (ace_head_conditions c.args.role c.args.bytes.now c.args.end c.args.at)
    (ace_sid_conditions c.args.role c.args.bytes.now c.args.at) (nt_ace_at c.args.bytes.now c.args.at)
    (sym c.in-None.ensures.exact) c.read_after_head.ensures
