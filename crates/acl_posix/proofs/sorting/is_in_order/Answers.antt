use Rattle.acl_posix.proofs.Common.{answers_always, code_cmp, Entry, is_lt, map-map, pair_of, refl, rules, tag_of}
use Rattle.acl_posix.proofs.sorting.ValidLists.{in_order}
use Rattle.acl_posix.proofs.sorting.is_in_order.Goals as goal

pub returns : goal.returns
returns c =
    let answer = c.is_sorted_by.ensures.cases (λ (a b : Entry). is_lt (code_cmp a.tag b.tag))
    (answers_always _ _ _ (λ f a r g called. search rules)) in
    rw (map-map (λ p. p.0) pair_of c.args.entries.now)
    (in_order (λ (e : Entry). tag_of e.tag) (λ a b. is_lt (code_cmp a.tag b.tag)) c.args.entries.now
    c.is_sorted_by.result (λ k d lt. refl) answer)
