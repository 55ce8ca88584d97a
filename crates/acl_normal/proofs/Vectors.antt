-- Worked lists: what the definitions make of them.
use Rattle.std.specs.Prelude.{codes}
use Rattle.acl_normal.proofs.Common.{[], Ace, ace_key, Allow, column, conflicts, Deny, everyone, false, flags_for, group, group_named, is_free, owner, principal_of, reduced, refl, true, user, ◌∷◌, ◌≡◌}

-- DENY bob, ALLOW alice: the denial isn't needed
two_users : reduced ((user (codes "bob"), Deny) ∷ (user (codes "alice"), Allow) ∷ [])
    ≡ (user (codes "alice"), Allow) ∷ []
two_users = refl

-- ALLOW alice, DENY bob: the denial isn't needed in this order either
two_users_turned : reduced ((user (codes "alice"), Allow) ∷ (user (codes "bob"), Deny) ∷ [])
    ≡ (user (codes "alice"), Allow) ∷ []
two_users_turned = refl

-- DENY bob, ALLOW EVERYONE@: both keys are needed
all_but_one : reduced ((user (codes "bob"), Deny) ∷ (everyone, Allow) ∷ [])
    ≡ (user (codes "bob"), Deny) ∷ (everyone, Allow) ∷ []
all_but_one = refl

-- what an earlier key of the principal decides, a later one doesn't
owner_twice : reduced ((owner, Allow) ∷ (owner, Deny) ∷ []) ≡ (owner, Allow) ∷ []
owner_twice = refl

-- a trailing DENY EVERYONE@ goes, and with it nothing else
trailing : reduced ((owner, Allow) ∷ (owner, Deny) ∷ (everyone, Deny) ∷ (user (codes "alice"), Allow) ∷ [])
    ≡ (owner, Allow) ∷ []
trailing = refl

-- ALLOW the user ops, DENY the group ops: the denial isn't needed
user_first : reduced ((user (codes "ops"), Allow) ∷ (group_named (codes "ops"), Deny) ∷ [])
    ≡ (user (codes "ops"), Allow) ∷ []
user_first = refl

-- DENY the group ops, ALLOW the user ops: the denial is needed, since it comes first
group_first : reduced ((group_named (codes "ops"), Deny) ∷ (user (codes "ops"), Allow) ∷ [])
    ≡ (group_named (codes "ops"), Deny) ∷ (user (codes "ops"), Allow) ∷ []
group_first = refl

-- the ACE ALLOW READ_DATA GROUP@ with IDENTIFIER_GROUP
marked_group : Ace
marked_group = record { kind = Allow; flags = 0x40; mask = 1; who = codes "GROUP@" }

-- the flag does not make GROUP@ the name of a group
group_names_itself : principal_of marked_group ≡ group
unfolding marked_group
group_names_itself = refl

-- GROUP@ needs no flag
group_flags : flags_for group ≡ 0
group_flags = refl

-- the ACE DENY WRITE_DATA bob
bob : Ace
bob = record { kind = Deny; flags = 0; mask = 2; who = codes "bob" }

-- the ACE ALLOW READ_DATA|WRITE_DATA OWNER@
mine : Ace
mine = record { kind = Allow; flags = 0; mask = 3; who = codes "OWNER@" }

-- the column of WRITE_DATA has the keys of both ACEs
write_column : column (bob ∷ mine ∷ []) 1 ≡ (user (codes "bob"), Deny) ∷ (owner, Allow) ∷ []
unfolding bob mine
write_column = refl

-- the two keys conflict, since bob may be the owner
owner_conflicts : conflicts (ace_key bob) (ace_key mine) ≡ true
unfolding bob mine
owner_conflicts = refl

-- at WRITE_DATA the key of the owner is not free after the denial
write_held : is_free (column (bob ∷ mine ∷ []) 1) (owner, Allow) ≡ false
unfolding bob mine
write_held = refl

-- at READ_DATA, which the denial lacks, the key of the owner is free
read_free : is_free (column (bob ∷ mine ∷ []) 0) (owner, Allow) ≡ true
unfolding bob mine
read_free = refl

-- the ACE ALLOW READ_DATA alice
reads : Ace
reads = record { kind = Allow; flags = 0; mask = 1; who = codes "alice" }

-- the ACE ALLOW WRITE_DATA alice
writes : Ace
writes = record { kind = Allow; flags = 0; mask = 2; who = codes "alice" }

-- at WRITE_DATA, which the second ACE has, the key of the first ACE is free: it is the same key
both_free : is_free (column (reads ∷ writes ∷ []) 1) (ace_key reads) ≡ true
unfolding reads writes
both_free = refl

-- ALLOW of every right to EVERYONE@ twice: once is enough
everyone_twice : reduced ((everyone, Allow) ∷ (everyone, Allow) ∷ []) ≡ (everyone, Allow) ∷ []
everyone_twice = refl
