use Rattle.acl_posix.proofs.Common.{answers_always, map-map, nat_lt, rules, unpacked, ◌/◌}
use Rattle.acl_posix.proofs.sorting.ValidLists.{in_order}
use Rattle.acl_posix.proofs.packed.Packings.{keys_less}
use Rattle.acl_posix.proofs.packed.rises.Goals as goal

pub returns : goal.returns
returns c =
    let answer = c.is_sorted_by.ensures.cases (λ a b. nat_lt (a / 8) (b / 8))
    (answers_always _ _ _ (λ f a r g called. search rules)) in
    rw (map-map (λ p. p.0) unpacked c.args.keys.now)
    (in_order (λ key. (unpacked key).0) (λ a b. nat_lt (a / 8) (b / 8)) c.args.keys.now
    c.is_sorted_by.result (keys_less c.args.keys.now c.requires)
    answer)
