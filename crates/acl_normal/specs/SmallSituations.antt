-- Situations that match exactly some given principals, and everyone (this library's own; which principals match is of
-- RFC 8881, section 6.2.1.5).
use Rattle.std.specs.Prelude.{⊤, ℕ, Bool, false, if◌then◌else◌, ◌||◌, List, [], ◌∷◌, Option, Some, None, unwrap_or, length, replicate, max}
use Rattle.acl_perm.specs.Principal.{Principal, owner, user, group, group_named, everyone}
use Rattle.acl_perm.specs.Situation.{Situation, IsName}
use Rattle.acl_perm.specs.Order.{principal_name}
use Rattle.acl_normal.specs.Keys.{principal_eq}

-- the first user name among some principals
abbrev pub first_user : List Principal → Option (List ℕ)
first_user [] = None
first_user (owner ∷ ps) = first_user ps
first_user (user name ∷ ps) = Some name
first_user (group ∷ ps) = first_user ps
first_user (group_named name ∷ ps) = first_user ps
first_user (everyone ∷ ps) = first_user ps

-- the group names among some principals
abbrev pub group_names : List Principal → List (List ℕ)
group_names [] = []
group_names (owner ∷ ps) = group_names ps
group_names (user name ∷ ps) = group_names ps
group_names (group ∷ ps) = group_names ps
group_names (group_named name ∷ ps) = name ∷ group_names ps
group_names (everyone ∷ ps) = group_names ps

-- the principal is one of the list
abbrev pub is_among : Principal → List Principal → Bool
is_among p [] = false
is_among p (q ∷ ps) = principal_eq p q || is_among p ps

-- the first name, or a given one if there is no name
abbrev pub first_or : List (List ℕ) → List ℕ → List ℕ
first_or [] name = name
first_or (x ∷ names) name = x

-- the names, or a given one alone if there is no name
abbrev pub names_or : List (List ℕ) → List ℕ → List (List ℕ)
names_or [] name = name ∷ []
names_or (x ∷ names) name = x ∷ names

-- the situation that matches, of the principals with names below n bytes, exactly these, and everyone; other names that
-- it needs are n times `o`, `u` and `g`
abbrev pub small_situation : ℕ → List Principal → Situation
small_situation n ps =
    let stranger = replicate n 0x67 in
    let asking = unwrap_or (first_user ps) (replicate n 0x75) in
    record {
      owner_name = if is_among owner ps then asking else replicate n 0x6f;
      owning_group = if is_among group ps then first_or (group_names ps) stranger else stranger;
      user_name = asking;
      groups = if is_among group ps then names_or (group_names ps) stranger else group_names ps;
    }

-- the number of bytes of the longest name, or 0 if there is no name
abbrev pub longest : List Principal → ℕ
longest [] = 0
longest (p ∷ ps) = max (length (principal_name p)) (longest ps)

-- a user name and a group name are names that a situation may have
abbrev pub HasName : Principal → Type 0
HasName owner = ⊤
HasName (user name) = IsName name
HasName group = ⊤
HasName (group_named name) = IsName name
HasName everyone = ⊤
