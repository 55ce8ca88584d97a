use Rattle.std.proofs.Common.{ap, inr, refl, subst}
use Rattle.acl_nfs4.specs.Spelling.{spelling}
use Rattle.acl_eval.specs.Bridge.{IsBridgeFault, bridge_list}
use Rattle.aclck.specs.commands.Bridge.{BridgeAnswer}
use Rattle.aclck.proofs.WritingLemmas.{past_limits, written_answer}
use Rattle.aclck.proofs.task.bridge.run_bridge.Goals as goal

pub returns-in-Ok : goal.returns-in-Ok
returns-in-Ok g c =
    written_answer (BridgeAnswer c.args.names.now) c.write_list_answer.result c.write_list_answer.ensures
    c.in_ok-file.ensures.found
    (λ input reads. (
      refl,
      record {
        file = c.in_ok-file.file;
        read = reads;
        spelled = record { accepted = c.in-Ok.ensures.accepted; spelled = ap spelling c.in-Ok.ensures.list };
      },
    )) c.in_ok-file.ensures.whole c.in_ok-file.ensures.reads

pub returns-in-Err-Limits : goal.returns-in-Err-Limits
returns-in-Err-Limits g c =
    past_limits (BridgeAnswer c.args.names.now) c.in_ok-file.ensures.found (λ input reads. inr (
      refl,
      record {
        file = c.in_ok-file.file;
        read = reads;
        past = subst (λ f. IsBridgeFault (bridge_list c.in_ok-file.file.access) f)
            c.in-Err-Limits.field-0-is c.in-Err-Limits.ensures.fault;
      },
    )) c.in_ok-file.ensures.whole c.in_ok-file.ensures.reads
