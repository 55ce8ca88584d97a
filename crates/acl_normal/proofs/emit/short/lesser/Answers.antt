use Rattle.std.specs.declared.cmp.Ordering.{Ordering}
use Rattle.acl_normal.proofs.Common.{Ace, Emitted, List, ace_key, ap, compare_keys, emitted_ace, plain_key, sym, ◌∙◌, ◌≡◌}
use Rattle.acl_normal.specs.internal.emit.Ready.{emitted}
use Rattle.acl_normal.specs.internal.emit.Short.{IsLeftOf, lesser_by}
use Rattle.acl_normal.proofs.emit.ShortTurns.{left_key, rows_compare}
use Rattle.acl_normal.proofs.emit.short.lesser.Goals as goal

-- the keys of what is left are in the order of the keys
same_order : (xs : List Ace) (e f : Emitted) (o : Ordering) → IsLeftOf xs e → IsLeftOf xs f
    → o ≡ compare_keys (plain_key e.key) (plain_key f.key)
    → o ≡ compare_keys (ace_key (emitted_ace e)) (ace_key (emitted_ace f))
same_order xs e f o h k is =
    is ∙ ap (λ v. compare_keys v (plain_key f.key)) (sym (left_key e h))
    ∙ ap (compare_keys (ace_key (emitted_ace e))) (sym (left_key f k))

pub returns-in-Less-clause-list : goal.returns-in-Less-clause-list
returns-in-Less-clause-list c =
    let xs = c.requires.0 in
    let first = c.in-Some.first in
    let next = c.args.next in
    let h : IsLeftOf xs first = rw c.in-Some.is at c.requires.1 in
    let o = same_order xs first next c.then.result h c.requires.2
    (c.then.ensures ∙ rw (c.cmp.ensures, c.kinds_compared-kinds.ensures) (rows_compare first next xs h c.requires.2)) in
    rw c.in-Some.is (ap (λ v. lesser_by v (emitted_ace first) (emitted_ace next)) (sym c.in-Less.is ∙ o))

pub returns-in-Equal-clause-list : goal.returns-in-Equal-clause-list
returns-in-Equal-clause-list c =
    let xs = c.requires.0 in
    let first = c.in-Some.first in
    let next = c.args.next in
    let h : IsLeftOf xs first = rw c.in-Some.is at c.requires.1 in
    let o = same_order xs first next c.then.result h c.requires.2
    (c.then.ensures ∙ rw (c.cmp.ensures, c.kinds_compared-kinds.ensures) (rows_compare first next xs h c.requires.2)) in
    rw c.in-Some.is (ap (emitted (plain_key first.key)) c.union.ensures.value
    ∙ ap (λ v. lesser_by v (emitted_ace first) (emitted_ace next)) (sym c.in-Equal.is ∙ o))

pub returns-in-Greater-clause-list : goal.returns-in-Greater-clause-list
returns-in-Greater-clause-list c =
    let xs = c.requires.0 in
    let first = c.in-Some.first in
    let next = c.args.next in
    let h : IsLeftOf xs first = rw c.in-Some.is at c.requires.1 in
    let o = same_order xs first next c.then.result h c.requires.2
    (c.then.ensures ∙ rw (c.cmp.ensures, c.kinds_compared-kinds.ensures) (rows_compare first next xs h c.requires.2)) in
    rw c.in-Some.is (ap (λ v. lesser_by v (emitted_ace first) (emitted_ace next)) (sym c.in-Greater.is ∙ o))
