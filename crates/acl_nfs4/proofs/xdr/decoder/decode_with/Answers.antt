use Rattle.acl_nfs4.proofs.Common.{arith, profile_of, refl}
use Rattle.acl_nfs4.proofs.list.Within.{code_profile}
use Rattle.acl_nfs4.proofs.xdr.Decoding.{only_that_list, refused_with_that_fault}
use Rattle.acl_nfs4.proofs.xdr.decoder.decode_with.Goals as goal

pub returns-clause-only : goal.returns-clause-only
returns-clause-only g c = let h = c.read_value.ensures.given in
    λ list text rest x e. only_that_list (profile_of c.args.profile)
    _ _ h.0 _ (code_profile c.args.profile (omega arith)) h.1 h.2 list text rest x e

pub returns-clause-again : goal.returns-clause-again
returns-clause-again g c = let h = c.read_value.ensures.given in
    λ list rest is e. only_that_list (profile_of c.args.profile) _ _
    h.0 _ (code_profile c.args.profile (omega arith)) h.1 h.2 list _ rest (record { accepted = is; spelled = refl }) e

pub returns-clause-refused : goal.returns-clause-refused
returns-clause-refused g c = let h = c.read_value.ensures.given in
    λ input o r e f. refused_with_that_fault (profile_of c.args.profile)
    _ _ h.0 _ (code_profile c.args.profile (omega arith)) h.1 h.2 input o r e f
