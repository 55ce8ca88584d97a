use Rattle.std.proofs.Common.{◌∙◌, ap, refl}
use Rattle.std.specs.Prelude.{filter}
use Rattle.std.proofs.lemmas.Bool.{false≢true}
use Rattle.acl_perm.specs.Bits.{has_bit}
use Rattle.acl_perm.specs.declared.mask.Mask.{Mask}
use Rattle.acl_eval.specs.Column.{takes_part}
use Rattle.acl_ids.specs.Ids.{with_ids}
use Rattle.acl_prepared.specs.PreparedIds.{id_situation}
use Rattle.acl_eval.proofs.Deciders.{allows_decide, denies_decide}
use Rattle.acl_prepared.proofs.IdParts.{all_id_parts}
use Rattle.acl_prepared.proofs.PreparedLists.{decided_list}
use Rattle.acl_prepared.proofs.prepared_ids.PreparedIds.decided.Goals as goal

pub returns-in_err-so_far-clause-answer : goal.returns-in_err-so_far-clause-answer
returns-in_err-so_far-clause-answer c = λ table list from.
    absurd (false≢true (c.in_err-so_far.ensures (filter takes_part (with_ids table list))
    (all_id_parts table list from.accepted.each from.known) from.aces).0)

pub returns-clause-allowed : goal.returns-clause-allowed
returns-clause-allowed c = λ table list from.
    let s = id_situation c.args.object c.args.requester.now in
    let d = decided_list (with_ids table list) s s c.args.mask.bits c.in_ok-so_far.so_far refl
    (c.in_ok-so_far.ensures (filter takes_part (with_ids table list))
    (all_id_parts table list from.accepted.each from.known) from.aces).1 in
    allows_decide (with_ids table list) s c.args.mask.bits c.decided.result.allowed.bits
    (λ bit. ap (λ (m : Mask). has_bit m.bits bit) c.decided.ensures.allowed ∙ d.granted bit)

pub returns-clause-denied : goal.returns-clause-denied
returns-clause-denied c = λ table list from.
    let s = id_situation c.args.object c.args.requester.now in
    let d = decided_list (with_ids table list) s s c.args.mask.bits c.in_ok-so_far.so_far refl
    (c.in_ok-so_far.ensures (filter takes_part (with_ids table list))
    (all_id_parts table list from.accepted.each from.known) from.aces).1 in
    denies_decide (with_ids table list) s c.args.mask.bits c.in_ok-so_far.so_far.granted.bits
    c.in_ok-so_far.so_far.left.bits c.decided.result.denied.bits d.granted d.left c.decided.ensures.denied
