use Rattle.acl_nfs4.proofs.Common.{eq-eqb, eqb-true, None, Some, sym, ℕ, ◌∙◌}
use Rattle.std.proofs.lemmas.Slice.Eq.{strip_suffix_is}
use Rattle.acl_nfs4.proofs.xdr.UnknownNames.{stands_in, stands_not}
use Rattle.acl_nfs4.proofs.xdr.unknown_groups.has_stand_in.Goals as goal

pub returns-in-Some : goal.returns-in-Some
returns-in-Some c = λ list has.
    c.contains.ensures
    ∙ stands_in c.args.names.now list c.args.name.now c.args.suffix.now c.in-Some.front.now
    (strip_suffix_is (λ (x y : ℕ). (eqb-true x y, eq-eqb x y)) c.args.name.now c.args.suffix.now (Some c.in-Some.front)
    c.in-Some.ensures.cases) has

pub returns-in-None : goal.returns-in-None
returns-in-None c = λ list has.
    sym (stands_not list c.args.name.now c.args.suffix.now
    (strip_suffix_is (λ (x y : ℕ). (eqb-true x y, eq-eqb x y)) c.args.name.now c.args.suffix.now None
    c.in-None.ensures.cases))
