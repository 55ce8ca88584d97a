use Rattle.std.proofs.Common.{◌^◌, subst}
use Rattle.std.specs.Prelude.{◌↔◌, IsTrue}
use Rattle.acl_eval.specs.Grant.{Grant}
use Rattle.acl_eval.specs.Situation.{situation}
use Rattle.acl_eval_tests.proofs.decide.may.Goals as goal

pub returns : goal.returns
returns c =
    let s = situation c.args.object.now c.args.requester.now in
    let one = c.one_right.ensures in
    let grant : IsTrue c.grants.result ↔ Grant c.args.aces s (2 ^ c.args.right.bit) =
    subst (λ m. IsTrue c.grants.result ↔ Grant c.args.aces s m) c.from.ensures c.grants.ensures in
    let alone = one.alone c.args.aces s c.args.right.bit in
    let decided = one.decided c.args.aces s c.args.right.bit in
    (λ h. decided.0 (alone.0 (grant.0 h)), λ e. grant.1 (alone.1 (decided.1 e)))
