use Rattle.std.proofs.Common.{inr, sym}
unfoldable use Rattle.acl_nt.specs.AclAt.{acl_conditions}
use Rattle.acl_nt.specs.AclAt.{ace_places, acl_end, acl_header_conditions, nt_aces_at, aces_conditions}
use Rattle.acl_nt.specs.internal.Parts.{aces}
use Rattle.acl_nt.proofs.ConditionLemmas.{fault_before, reads_after}
use Rattle.acl_nt.proofs.acl_reader.read_acl.Goals as goal

pub returns-in-Some : goal.returns-in-Some
unfolding acl_conditions
returns-in-Some c = inr (fault_before (acl_header_conditions c.args.bytes.now c.args.at)
    (aces_conditions c.args.role c.args.bytes.now (acl_end c.args.bytes.now c.args.at)
    (ace_places c.args.bytes.now c.args.at)) c.in-Some.fault (sym c.in-Some.ensures.exact))

pub returns-in-None : goal.returns-in-None
unfolding acl_conditions
returns-in-None c = reads_after aces c.read_aces.result (acl_header_conditions c.args.bytes.now c.args.at)
    (aces_conditions c.args.role c.args.bytes.now (acl_end c.args.bytes.now c.args.at)
    (ace_places c.args.bytes.now c.args.at))
    (nt_aces_at c.args.role c.args.bytes.now (ace_places c.args.bytes.now c.args.at)) (sym c.in-None.ensures.exact)
    (rw (c.half.ensures, c.half-in-None.ensures) at c.read_aces.ensures)
