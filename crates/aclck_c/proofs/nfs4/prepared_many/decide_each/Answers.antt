use Rattle.std.proofs.Common.{◌∙◌, arith}
use Rattle.std.proofs.lemmas.List.{length-set}
use Rattle.std.proofs.lemmas.Option.{slice_get_within}
use Rattle.acl_eval.specs.Situation.{owner_of, owning_group_of}
use Rattle.aclck_c.specs.Prepared.{AreDecidedIn, asked_prepared_by}
use Rattle.aclck_c.specs.Requests.{nothing_decided}
use Rattle.aclck_c.proofs.ManyRequesters.{right_up_to}
use Rattle.aclck_c.proofs.nfs4.prepared_many.decide_each.Goals as goal

pub loop-place-preserved : goal.loop-place-preserved
loop-place-preserved c =
    let call = c.args.call.now in
    let count = c.loop-place.invariant.count in
    record {
      count = length-set c.loop-place.decided c.loop-place.place c.in-Some.found ∙ count;
      rights = λ list is. right_up_to
          (λ who. AreDecidedIn
          (asked_prepared_by (owner_of call.object) (owning_group_of call.object) call.is_in_order who)
          call.mask.bits list)
          c.args.requesters.now c.loop-place.decided c.loop-place.place c.in-Some.found nothing_decided _
          (c.in-Some.ensures.rights list is) (omega (arith, count, c.loop-place-test.true))
          (c.loop-place.invariant.rights list is);
    }

pub returns-clause-rights : goal.returns-clause-rights
returns-clause-rights c = λ list is k who get.
    let within = slice_get_within c.args.requesters.now k who get in
    c.loop-place.invariant.rights list is k who (omega (arith, within, c.loop-place-test.false)) get
