use Rattle.acl_nfs4.proofs.Common.{Ace, aces_of, ap, arith, IsBody, length, List, refl, subst, sym, ℕ, ◌-◌, ◌∷◌, ◌≡◌}
use Rattle.acl_nfs4.proofs.xdr.Body.{Splits, body_splits}
use Rattle.acl_nfs4.proofs.list.aces.AcesIterator.next.Goals as goal

-- a list is its first ACE and the list that is left
list_steps : {left : ℕ} {rest after : List ℕ} {a : Ace} {list : List Ace} (s : Splits left rest)
    → aces_of left rest ≡ list → a ≡ s.first → after ≡ s.more → list ≡ a ∷ aces_of (left - 1) after
list_steps s view first more = rw (← view, s.list, first, more, s.others_are) refl

pub first_ace-first-requires : goal.first_ace-first-requires
first_ace-first-requires c =
    let s = body_splits c.self.inside.left c.self.inside.rest.now (omega arith) c.self.invariant in
    (s.first, s.more, s.is, s.parts)

pub invariant_of-self : goal.invariant_of-self
invariant_of-self c =
    let s = body_splits c.self.inside.left c.self.inside.rest.now (omega arith) c.self.invariant in
    let e = c.first_ace-first.ensures s.first s.more s.is s.parts in
    subst (λ (b : List ℕ). IsBody (c.self.inside.left - 1) b) (sym e.1) s.body

pub returns-clause-steps : goal.returns-clause-steps
returns-clause-steps c =
    let s = body_splits c.self.inside.left c.self.inside.rest.now (omega arith) c.self.invariant in
    let e = c.first_ace-first.ensures s.first s.more s.is s.parts in
    (list_steps s c.self.view_is e.0 e.1, rw e.0 s.is)

pub returns-clause-goes : goal.returns-clause-goes
returns-clause-goes c =
    let s = body_splits c.self.inside.left c.self.inside.rest.now (omega arith) c.self.invariant in
    let e = c.first_ace-first.ensures s.first s.more s.is s.parts in
    let steps = list_steps s c.self.view_is e.0 e.1 in
    record { on = λ _. (tt, tt, omega (arith, ap length steps)); keeps = tt; rests = λ _. tt }
