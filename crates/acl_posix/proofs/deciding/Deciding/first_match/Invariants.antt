use Rattle.std.specs.FinMap as set
use Rattle.acl_posix.proofs.Common.{contains, map, tag_matches, ◌&&◌}
use Rattle.acl_posix.proofs.entry_set.Places.{FirstLeft}
use Rattle.acl_posix.proofs.deciding.Deciding.first_match.Given as goal

-- the first entry that passes is the first of those that are left
abbrev pub invariant-loop-place : goal.invariant-loop-place
invariant-loop-place g l = FirstLeft (λ entry. tag_matches l.owning_group.value
    (map g.G.GroupNumber.number l.groups) entry.0 && contains entry.1 l.want.bits)
    (set.entries (g.Self.EntrySet.entries l.self)) l.place
