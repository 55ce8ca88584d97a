use Rattle.std.proofs.Common.{inr, sym}
use Rattle.acl_nt.specs.Ntacl.{head_conditions, ntacl_base, tail_conditions}
use Rattle.acl_nt.proofs.ConditionLemmas.{fault_before, reads_after}
use Rattle.acl_nt.proofs.frame.ntacl_base.Goals as goal

pub returns-in-Some-clause-exact : goal.returns-in-Some-clause-exact
returns-in-Some-clause-exact c = inr (fault_before (head_conditions c.args.bytes.now)
    (tail_conditions c.args.bytes.now) c.in-Some.fault (sym c.in-Some.ensures.exact))

pub returns-in-None-clause-exact : goal.returns-in-None-clause-exact
returns-in-None-clause-exact c =
    reads_after (λ x. x) c.base_after_head.result (head_conditions c.args.bytes.now)
    (tail_conditions c.args.bytes.now) (ntacl_base c.args.bytes.now) (sym c.in-None.ensures.exact)
    c.base_after_head.ensures.exact
