use Rattle.acl_posix.proofs.Common.{answers_always, arith, Entry, IsGap, IsTagAt, List, MatchResult, rules, subst, Tag, tag_of, tags, ℕ}
use Rattle.acl_posix.specs.declared.tag.Tag.TheVariants.{Other}
use Rattle.acl_posix.proofs.sorted.Lists.{searched}
use Rattle.acl_posix.proofs.sorted.SortedEntries.place_of.Goals as goal

pub returns : goal.returns
returns c =
    let facts = c.binary_search_by_key.ensures in
    let by_key = facts.position (λ (e : Entry). e.tag) (answers_always _ _ _ (λ f a r g called. search rules)) in
    let d : Entry = record { tag = Other; perm = record { bits = 0; within = omega arith } } in
    let t : Tag = tag_of c.args.tag in
    subst
    (λ (ps : List (Tag × ℕ)). MatchResult c.binary_search_by_key.result (IsTagAt (tags ps) t) (IsGap (tags ps) t))
    c.as_slice.ensures.entries
    (searched c.as_slice.result.now c.args.tag d c.binary_search_by_key.result c.as_slice.ensures.sorted
    facts.bound by_key)
