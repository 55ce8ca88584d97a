-- Worked lists: which rights of their ALLOWs stay under a bound.
use Rattle.std.specs.Prelude.{codes}
use Rattle.acl_normal.proofs.Common.{Ace, Allow, Deny, Kind, List, [], everyone_name, refl, ℕ, ◌∷◌, ◌≡◌}
use Rattle.acl_contain.proofs.restriction.Chosen.{restricted}

-- an ACE of a user, or of everyone, with these rights
abbrev of_user : Kind → List ℕ → ℕ → Ace
of_user kind who mask = record { kind = kind; flags = 0; mask = mask; who = who }

-- an ACE of a group with these rights
abbrev of_group : Kind → List ℕ → ℕ → Ace
of_group kind who mask = record { kind = kind; flags = 0x40; mask = mask; who = who }

-- a DENY after an ALLOW does not count, and stays: bob loses READ_DATA and keeps WRITE_DATA
denied_later : restricted (of_user Allow (codes "bob") 3 ∷ of_user Deny (codes "bob") 1 ∷ [])
    (of_user Allow (codes "bob") 2 ∷ [])
    ≡ of_user Allow (codes "bob") 2 ∷ of_user Deny (codes "bob") 1 ∷ []
denied_later = refl

-- who is in both groups is denied by the bound, so the group loses its right
in_both_groups : restricted (of_group Allow (codes "staff") 1 ∷ [])
    (of_group Deny (codes "temps") 1 ∷ of_user Allow everyone_name 1 ∷ [])
    ≡ of_group Allow (codes "staff") 0 ∷ []
in_both_groups = refl

-- if the list denies that group before, nobody is left who would get more
denied_before : restricted (of_group Deny (codes "temps") 1 ∷ of_group Allow (codes "staff") 1 ∷ [])
    (of_group Deny (codes "temps") 1 ∷ of_user Allow everyone_name 1 ∷ [])
    ≡ of_group Deny (codes "temps") 1 ∷ of_group Allow (codes "staff") 1 ∷ []
denied_before = refl

-- nobody is two users
two_users : restricted (of_user Allow (codes "amy") 1 ∷ [])
    (of_user Deny (codes "bob") 1 ∷ of_user Allow everyone_name 1 ∷ [])
    ≡ of_user Allow (codes "amy") 1 ∷ []
two_users = refl

-- what the bound allows everyone, no later DENY takes
everyone_first : restricted (of_group Allow (codes "staff") 1 ∷ [])
    (of_user Allow everyone_name 1 ∷ of_group Deny (codes "temps") 1 ∷ [])
    ≡ of_group Allow (codes "staff") 1 ∷ []
everyone_first = refl

-- one user whom the bound denies is enough for everyone to lose the right
all_but_one : restricted (of_user Allow everyone_name 1 ∷ [])
    (of_user Deny (codes "bob") 1 ∷ of_user Allow everyone_name 1 ∷ [])
    ≡ of_user Allow everyone_name 0 ∷ []
all_but_one = refl
