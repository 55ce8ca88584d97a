use Rattle.std.proofs.Common.{◌↔◌, ◌∙◌, ap, Bool, IsTrue, subst, sym}
use Rattle.acl_perm.specs.Situation.{Situation}
use Rattle.acl_eval.specs.Grant.{Grant}
use Rattle.acl_eval.specs.Scan.{scan}
use Rattle.acl_eval.specs.Situation.{situation}
use Rattle.acl_eval.proofs.Scans.{scan_is}
use Rattle.acl_eval.proofs.whole_request.grants.Goals as goal

pub returns : goal.returns
returns c =
    let s = situation c.args.object.now c.args.requester.now in
    let same = c.scan.ensures ∙ ap (λ (asked : Situation). scan c.args.aces asked c.bits.result) c.new-matcher.ensures
    ∙ ap (scan c.args.aces s) c.bits.ensures.value in
    subst (λ (b : Bool). IsTrue b ↔ Grant c.args.aces s c.args.mask.bits) (sym same)
    (scan_is c.args.aces s c.args.mask.bits c.args.mask.within)
