use Rattle.std.proofs.Common.{◌∙◌, ap, refl}
use Rattle.std.specs.Prelude.{filter}
use Rattle.std.specs.List.{list_any}
use Rattle.std.specs.Str.{bytes_eq}
use Rattle.std.proofs.lemmas.Bool.{false≢true}
use Rattle.acl_perm.specs.Bits.{has_bit}
use Rattle.acl_perm.specs.declared.mask.Mask.{Mask}
use Rattle.acl_eval.specs.Column.{takes_part}
use Rattle.acl_eval.specs.Situation.{given_groups_of, situation}
use Rattle.acl_eval.proofs.Deciders.{allows_decide, denies_decide}
use Rattle.acl_eval.proofs.GroupSearches.{counted_among}
use Rattle.acl_prepared.proofs.PreparedLists.{all_parts, decided_list}
use Rattle.acl_prepared.proofs.prepared_names.Prepared.decided.Goals as goal

pub returns-in_err-so_far-clause-answer : goal.returns-in_err-so_far-clause-answer
returns-in_err-so_far-clause-answer c = λ list from.
    absurd (false≢true (c.in_err-so_far.ensures (filter takes_part list) (all_parts list from.accepted.each)
    from.aces).0)

pub returns-clause-allowed : goal.returns-clause-allowed
returns-clause-allowed c = λ list from.
    let s = situation c.args.object.now c.args.requester.now in
    let d = decided_list list _ s c.args.mask.bits c.in_ok-so_far.so_far
    (c.new-matcher.ensures ∙ rw (c.for_look_ups-requester.ensures.user, c.for_look_ups-requester.ensures.groups) refl)
    (c.in_ok-so_far.ensures (filter takes_part list) (all_parts list from.accepted.each) from.aces).1 in
    allows_decide list s c.args.mask.bits c.decided.result.allowed.bits
    (λ bit. ap (λ (m : Mask). has_bit m.bits bit) c.decided.ensures.allowed ∙ d.granted bit)

pub returns-clause-denied : goal.returns-clause-denied
returns-clause-denied c = λ list from.
    let s = situation c.args.object.now c.args.requester.now in
    let d = decided_list list _ s c.args.mask.bits c.in_ok-so_far.so_far
    (c.new-matcher.ensures ∙ rw (c.for_look_ups-requester.ensures.user, c.for_look_ups-requester.ensures.groups) refl)
    (c.in_ok-so_far.ensures (filter takes_part list) (all_parts list from.accepted.each) from.aces).1 in
    denies_decide list s c.args.mask.bits c.in_ok-so_far.so_far.granted.bits c.in_ok-so_far.so_far.left.bits
    c.decided.result.denied.bits d.granted d.left c.decided.ensures.denied

pub new-matcher-requires : goal.new-matcher-requires
new-matcher-requires c = λ name h.
    let requester = c.for_look_ups-requester.result in
    c.hashes_of-group_hashes.ensures name (ap (list_any (bytes_eq name)) c.groups.ensures
    ∙ counted_among requester.groups.order (given_groups_of requester) name h)
