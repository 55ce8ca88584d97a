use Rattle.acl_nfs4.proofs.Common.{ace, ap, arith, IfOk, IfSome, profile_of, subst, sym, ℕ, ◌∙◌}
use Rattle.acl_nfs4.specs.AceAt.{ace_offset, IsAceFrom}
use Rattle.acl_nfs4.proofs.list.Within.{code_profile}
use Rattle.acl_nfs4.proofs.xdr.AcesAt.{fault_inside, first_next, first_none, first_spelled, gives_fault, gives_next, gives_none, gives_spelled, none_at_end, offset_is}
use Rattle.acl_nfs4.proofs.xdr.ace_at.ace_at.Goals as goal

pub returns-then-offset-eq0-clause-of_list : goal.returns-then-offset-eq0-clause-of_list
returns-then-offset-eq0-clause-of_list c = λ front back a x here.
    first_next (profile_of c.args.profile) c.args.bytes.now (code_profile c.args.profile (omega arith))
    (λ i. omega (arith, c.type_inv.bytes i)) front back a c.first_ace.result x
    (sym (ap ace_offset c.if-offset-eq0.true) ∙ here) c.first_ace.ensures.read c.first_ace.ensures.fault

pub returns-then-offset-eq0-clause-end : goal.returns-then-offset-eq0-clause-end
returns-then-offset-eq0-clause-end c = λ list x here.
    first_none (profile_of c.args.profile) c.args.bytes.now (code_profile c.args.profile (omega arith))
    (λ i. omega (arith, c.type_inv.bytes i)) list c.first_ace.result x
    (sym (ap ace_offset c.if-offset-eq0.true) ∙ here) c.first_ace.ensures.read c.first_ace.ensures.fault

pub returns-then-offset-eq0-clause-found : goal.returns-then-offset-eq0-clause-found
returns-then-offset-eq0-clause-found c =
    subst (λ (n : ℕ). IfOk c.first_ace.result (λ x. IfSome x (λ a.
    IsAceFrom (profile_of c.args.profile) c.args.bytes.now n a.end (ace a.ace))))
    (sym (ap ace_offset c.if-offset-eq0.true))
    (first_spelled (profile_of c.args.profile) c.args.bytes.now (code_profile c.args.profile (omega arith))
    (λ i. omega (arith, c.type_inv.bytes i)) c.first_ace.result c.first_ace.ensures.read)

pub returns-clause-of_list : goal.returns-clause-of_list
returns-clause-of_list c = λ front back a x here.
    gives_next (profile_of c.args.profile) c.args.bytes.now (code_profile c.args.profile (omega arith))
    (λ i. omega (arith, c.type_inv.bytes i)) front back a c.args.offset c.ace_from.result x
    (sym (offset_is c.args.offset c.if-offset-eq0.false) ∙ here) c.ace_from.ensures

pub returns-clause-end : goal.returns-clause-end
returns-clause-end c = λ list x here.
    gives_none (profile_of c.args.profile) c.args.bytes.now (code_profile c.args.profile (omega arith))
    (λ i. omega (arith, c.type_inv.bytes i)) list c.args.offset c.ace_from.result x
    (sym (offset_is c.args.offset c.if-offset-eq0.false) ∙ here) c.ace_from.ensures

pub returns-clause-found : goal.returns-clause-found
returns-clause-found c =
    subst (λ (n : ℕ). IfOk c.ace_from.result (λ x. IfSome x (λ a.
    IsAceFrom (profile_of c.args.profile) c.args.bytes.now n a.end (ace a.ace))))
    (sym (offset_is c.args.offset c.if-offset-eq0.false))
    (gives_spelled (profile_of c.args.profile) c.args.bytes.now (code_profile c.args.profile (omega arith))
    (λ i. omega (arith, c.type_inv.bytes i)) c.args.offset c.ace_from.result c.ace_from.ensures)

pub returns-clause-none : goal.returns-clause-none
returns-clause-none c =
    rw (offset_is c.args.offset c.if-offset-eq0.false)
    (none_at_end (profile_of c.args.profile) c.args.bytes.now (code_profile c.args.profile (omega arith))
    (λ i. omega (arith, c.type_inv.bytes i)) c.args.offset c.ace_from.result c.ace_from.ensures)

pub returns-clause-fault : goal.returns-clause-fault
returns-clause-fault c =
    fault_inside (profile_of c.args.profile) c.args.bytes.now c.args.offset c.ace_from.result c.if-offset-eq0.false
    (gives_fault (profile_of c.args.profile) c.args.bytes.now (code_profile c.args.profile (omega arith))
    (λ i. omega (arith, c.type_inv.bytes i)) c.args.offset c.ace_from.result c.ace_from.ensures)
