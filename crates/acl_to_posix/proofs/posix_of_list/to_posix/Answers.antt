use Rattle.std.proofs.Common.{arith, refl}
use Rattle.acl_nfs4.proofs.Exits.{exit_is}
use Rattle.acl_ids.specs.Ids.{with_ids}
use Rattle.acl_to_posix.specs.internal.ListNamesBody.{named_shape}
use Rattle.acl_to_posix.proofs.ListNames.{names_fault}
use Rattle.acl_to_posix.proofs.losses.LossSearches.{exact_of}
use Rattle.acl_to_posix.proofs.shapes.ShapeChecks.{best_greatest_of_shape, best_sound}
use Rattle.acl_to_posix.proofs.posix_of_list.to_posix.Goals as goal

pub returns-clause-sound : goal.returns-clause-sound
returns-clause-sound c =
    let rule = c.in_ok-made_of_names.ensures.rule c.in_ok-named.ensures.named in
    best_sound (with_ids c.args.names.now c.args.list.now) rule.end c.in_ok-made_of_names.field-0.acl rule.best

pub returns-clause-greatest : goal.returns-clause-greatest
returns-clause-greatest c =
    let rule = c.in_ok-made_of_names.ensures.rule c.in_ok-named.ensures.named in
    best_greatest_of_shape (with_ids c.args.names.now c.args.list.now)
    rule.end c.in_ok-made_of_names.field-0.acl rule.best

pub returns-clause-exact : goal.returns-clause-exact
returns-clause-exact c =
    let list = with_ids c.args.names.now c.args.list.now in
    let made = c.in_ok-made_of_names.field-0 in
    let rule = c.in_ok-made_of_names.ensures.rule c.in_ok-named.ensures.named in
    exact_of list made.acl made.lost (best_sound list rule.end made.acl rule.best) c.in_ok-made_of_names.ensures.lost
    c.in_ok-made_of_names.ensures.kept

pub returns-clause-few : goal.returns-clause-few
returns-clause-few c = record {
  named = named_shape c.in_ok-named.named;
  names = c.in_ok-named.ensures.named;
  few = omega (arith, c.from.ensures, c.in_ok-named.ensures.few);
}

pub returns-in_err-named-clause-fault : goal.returns-in_err-named-clause-fault
returns-in_err-named-clause-fault c =
    rw (exit_is c.from_residual.result c.from_residual.ensures.1)
    (names_fault c.args.names.now c.args.list.now c.args.most c.from.result _ c.from.ensures
    (c.in_default.ensures.known refl) c.in_err-named.ensures.fault)
