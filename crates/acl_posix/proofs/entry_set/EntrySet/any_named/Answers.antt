use Rattle.std.specs.FinMap as set
use Rattle.acl_posix.proofs.Common.{is_named, pair_of, rules, sym, ◌∙◌}
use Rattle.acl_posix.proofs.entry_set.Places.{any_here, any_nowhere}
use Rattle.acl_posix.proofs.entry_set.EntrySet.any_named.Goals as goal

pub returns-then-is_named : goal.returns-then-is_named
returns-then-is_named g c = sym (any_here is_named (set.entries (g.Self.EntrySet.entries c.args.self.now))
    c.loop-place.place (pair_of c.entry_at.result) (search rules) c.entry_at.ensures c.loop-place.invariant
    (sym c.is_named.ensures ∙ c.if-is_named.true))

pub returns : goal.returns
returns g c = sym (any_nowhere is_named (set.entries (g.Self.EntrySet.entries c.args.self.now)) c.loop-place.place
    (search rules) c.loop-place.invariant)
