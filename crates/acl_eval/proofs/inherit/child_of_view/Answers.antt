use Rattle.std.proofs.Common.{List, subst, ◌≡◌}
use Rattle.std.specs.Prelude.{IfOk, IsTrue}
use Rattle.acl_perm.specs.Bits.{has_bit, inherit_only}
use Rattle.acl_perm.specs.Profile.{Profile}
use Rattle.acl_nfs4.specs.Ace.{Ace}
use Rattle.acl_nfs4.specs.Spelling.{Fits}
use Rattle.acl_eval.specs.Inheritance.{children}
use Rattle.acl_eval.proofs.Children.{child_fits}
use Rattle.acl_eval.proofs.MarkedChildren.{none_flagged, IfOk-same}
use Rattle.acl_eval.proofs.inherit.child_of_view.Goals as goal

pub returns-clause-ok : goal.returns-clause-ok
returns-clause-ok c = subst (λ (l : List Ace). IfOk c.child_with.result (λ list. list ≡ l))
    (none_flagged (children c.args.kind c.args.parent.now)) c.child_with.ensures

pub returns-clause-fits : goal.returns-clause-fits
returns-clause-fits c = IfOk-same c.child_with.result (children c.args.kind c.args.parent.now)
    (λ list. (p : Profile) → IsTrue (has_bit p.flags inherit_only) → Fits p c.args.parent.now → Fits p list)
    (subst (λ (l : List Ace). IfOk c.child_with.result (λ list. list ≡ l))
    (none_flagged (children c.args.kind c.args.parent.now)) c.child_with.ensures)
    (λ p h fits. child_fits p c.args.kind c.args.parent.now h fits)
