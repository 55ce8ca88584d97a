use Rattle.acl_nfs4.proofs.Common.{[], Ace, ace, aces_of, ap, arith, List, ◌++◌, ◌+◌, ◌∙◌, ◌∷◌}
use Rattle.acl_nfs4.proofs.list.Push.{pushed_item}
use Rattle.acl_nfs4.proofs.list.acl.Acl.append.Goals as goal

pub invariant_of-self-2 : goal.invariant_of-self-2
invariant_of-self-2 c =
    let p = pushed_item c.args.item c.self.invariant c.self.view_is (omega arith) c.requires.who c.requires.room
    c.requires.light in
    rw (c.bits.ensures.value, c.in_ok-append_piece.ensures) p.owned

pub returns-clause-ok : goal.returns-clause-ok
returns-clause-ok c =
    let p = pushed_item c.args.item c.self.invariant c.self.view_is (omega arith) c.requires.who c.requires.room
    c.requires.light in
    ap (aces_of (c.self.inside.count + 1)) c.in_ok-append_piece.ensures ∙ p.list
    ∙ ap (λ (l : List Ace). l ++ ace c.args.item ∷ []) c.self.view_is
