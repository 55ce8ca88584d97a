use Rattle.acl_nfs4.proofs.Common.{subst, sym, take_rest, ◌+◌, ◌∙◌}
use Rattle.acl_perm.proofs.Cuts.{Says, place}
use Rattle.acl_nfs4.proofs.names.SetFields.{cut_none, cut_some, is_bar}
use Rattle.acl_nfs4.proofs.names.bit_names.cut.Goals as goal

pub returns-in-Some : goal.returns-in-Some
returns-in-Some c =
    cut_some c.args.field.now _ c.in-Some.place (subst (Says is_bar c.args.field.now) (sym c.place_of.ensures
    ∙ c.in-Some.is) (place is_bar c.args.field.now)) (take_rest c.args.field.now (c.in-Some.place + 1))

pub returns-in-None : goal.returns-in-None
returns-in-None c =
    cut_none c.args.field.now (subst (Says is_bar c.args.field.now) (sym c.place_of.ensures ∙ c.in-None.is)
    (place is_bar c.args.field.now))
