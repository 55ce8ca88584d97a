use Rattle.acl_nfs4.proofs.Common.{[], Ace, ace, full, IsAccepted, List, map, subst, sym, ℕ, ◌++◌, ◌∷◌}
use Rattle.acl_nfs4.specs.Renamed.{ace_by}
use Rattle.acl_nfs4.specs.internal.NameMap.{name_for}
use Rattle.acl_nfs4.proofs.list.RenamedLists.{exchange_fits, exchange_more}
use Rattle.acl_nfs4.proofs.list.renaming.exchanged.Goals as goal

pub push_accepted-requires : goal.push_accepted-requires
push_accepted-requires c =
    let f = ace_by (name_for c.args.names.now) in
    let a : Ace = ace c.in-Some.ace in
    subst (λ (w : List ℕ). IsAccepted full (c.loop-ace.list
    ++ record { kind = a.kind; flags = a.flags; mask = a.mask; who = w } ∷ [])) (sym c.who.ensures)
    (exchange_fits (c.loop-ace.list ++ f a ∷ []) (map f c.next.new.self) (map f c.args.aces)
    (exchange_more (name_for c.args.names.now) c.loop-ace.list c.loop-ace.ace-iterator c.next.new.self c.args.aces a
    c.in-Some.ensures.steps.0 c.loop-ace.invariant.2) c.requires)
