-- When one requester can match two principals (RFC 8881, section 6.2.1.5).
use Rattle.std.specs.Prelude.{Bool, true, IsTrue}
use Rattle.std.specs.Str.{bytes_eq}
use Rattle.acl_perm.specs.Principal.{Principal, owner, user, group, group_named, everyone}
use Rattle.acl_perm.specs.Situation.{Situation, matches}

-- some situation matches both; its names may be empty
abbrev pub Overlap : Principal → Principal → Type 0
Overlap p q = (s : Situation) × IsTrue (matches s p) × IsTrue (matches s q)

-- whether two principals overlap, by cases: two user names if they are one name, and any other two always
abbrev pub may_overlap : Principal → Principal → Bool
may_overlap owner q = true
may_overlap (user name) owner = true
may_overlap (user name) (user other) = bytes_eq name other
may_overlap (user name) group = true
may_overlap (user name) (group_named other) = true
may_overlap (user name) everyone = true
may_overlap group q = true
may_overlap (group_named name) q = true
may_overlap everyone q = true
