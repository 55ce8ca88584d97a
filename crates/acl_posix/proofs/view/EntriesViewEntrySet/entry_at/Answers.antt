use Rattle.acl_posix.proofs.Common.{arith, get_or, List, pair_of, subst, Tag, ℕ, ◌≡◌}
use Rattle.acl_posix.proofs.view.Views.{entries_of_raws, raws_length}
use Rattle.acl_posix.proofs.view.EntriesViewEntrySet.entry_at.Goals as goal

pub entry_in-requires-clause-in_range : goal.entry_in-requires-clause-in_range
entry_in-requires-clause-in_range c = omega (
  arith,
  c.requires,
  raws_length c.args.self.now c.self.inside.raws.now c.self.view_is c.self.invariant,
)

pub returns : goal.returns
returns c =
    let entry = pair_of c.entry_in.result in
    subst (λ (ps : List (Tag × ℕ)). get_or ps c.args.place entry ≡ entry)
    (entries_of_raws c.args.self.now c.self.inside.raws.now c.self.view_is c.self.invariant) c.entry_in.ensures
