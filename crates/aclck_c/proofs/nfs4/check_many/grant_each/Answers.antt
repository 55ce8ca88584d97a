use Rattle.std.proofs.Common.{◌∙◌, arith}
use Rattle.std.proofs.lemmas.List.{length-set}
use Rattle.std.proofs.lemmas.Option.{slice_get_within}
use Rattle.acl_eval.specs.Situation.{owner_of, owning_group_of}
use Rattle.aclck_c.specs.Requests.{AreGranted, asked_by}
use Rattle.aclck_c.proofs.ManyRequesters.{right_up_to}
use Rattle.aclck_c.proofs.nfs4.check_many.grant_each.Goals as goal

pub loop-place-preserved : goal.loop-place-preserved
loop-place-preserved c =
    let request = c.args.request.now in
    let count = c.loop-place.invariant.count in
    record {
      count = length-set c.loop-place.rights c.loop-place.place c.granted_to.result ∙ count;
      rights = right_up_to
          (λ who granted. AreGranted c.args.view.now
          (asked_by (owner_of request.object) (owning_group_of request.object) who) request.mask.bits granted)
          c.args.requesters.now c.loop-place.rights c.loop-place.place c.granted_to.result 0 _ c.granted_to.ensures
          (omega (arith, count, c.loop-place-test.true)) c.loop-place.invariant.rights;
    }

pub returns-clause-rights : goal.returns-clause-rights
returns-clause-rights c = λ k who get bit.
    let within = slice_get_within c.args.requesters.now k who get in
    c.loop-place.invariant.rights k who (omega (arith, within, c.loop-place-test.false)) get bit
