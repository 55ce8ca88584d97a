use Rattle.acl_nfs4.proofs.Exports.{front_accepted}
use Rattle.acl_eval.proofs.Children.{moved}
use Rattle.acl_normal.proofs.Common.{Ace, AceRef, IsAccepted, List, [], ace, aces_in, ap, drop, full, length, map-append, slice_index_or, subst, sym, take, ℕ, ◌++◌, ◌+◌, ◌<◌, ◌∙◌, ◌∷◌, ◌≡◌}
use Rattle.acl_normal.proofs.Each.{split_there}
use Rattle.acl_contain.proofs.restricting.written.Goals as goal

-- the ACEs before a place and the one at the place are accepted
next_accepted : (aces : List AceRef) (i : ℕ) (x : AceRef) (list : List Ace) → IsAccepted full (aces_in aces)
    → i < length aces → list ≡ aces_in (take i aces) → x ≡ slice_index_or aces i x
    → IsAccepted full (list ++ ace x ∷ [])
next_accepted aces i x list ok l so is =
    front_accepted full (list ++ ace x ∷ []) (aces_in (drop (i + 1) aces))
    (subst (IsAccepted full) (ap aces_in (split_there aces i x l)
    ∙ map-append ace (take i aces) (slice_index_or aces i x ∷ drop (i + 1) aces)
    ∙ ap (λ v. v ++ ace (slice_index_or aces i x) ∷ aces_in (drop (i + 1) aces)) (sym so)
    ∙ ap (λ v. list ++ ace v ∷ aces_in (drop (i + 1) aces)) (sym is)
    ∙ sym (moved list (aces_in (drop (i + 1) aces)) (ace x))) ok)

pub push_accepted-requires : goal.push_accepted-requires
push_accepted-requires c = next_accepted c.args.aces.now c.loop-item.item-index c.item-item.result c.loop-item.list
    c.requires c.loop-item-test.true c.loop-item.invariant c.item-item.is
