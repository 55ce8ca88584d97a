-- ACEs and keys by their places in a list, and the numbers of the sets of places (this library's own).
use Rattle.std.specs.Prelude.{◌≡◌, ◌<◌, ◌≤◌, ℕ, ◌+◌, ◌*◌, zero, suc, Bool, true, false, not, ◌&&◌, ◌||◌, List, [], ◌∷◌, if◌then◌else◌}
use Rattle.acl_perm.specs.Kind.{other_kind}
use Rattle.acl_perm.specs.Principal.{Principal, owner, user, group, group_named, everyone}
use Rattle.acl_perm.specs.declared.kind.Kind.{Kind}
use Rattle.acl_perm.specs.declared.kind.Kind.TheVariants.{Deny, Allow}
use Rattle.std.specs.Str.{bytes_eq}
use Rattle.acl_nfs4.specs.Ace.{Ace}
use Rattle.acl_nfs4.specs.Who.{owner_name, group_name, everyone_name}
use Rattle.acl_normal.specs.Keys.{ColumnKey, ace_key}
use Rattle.acl_normal.specs.Places.{is_waiting}
use Rattle.acl_normal.specs.internal.Limits.{index_limit}

-- the principal of a who, with IDENTIFIER_GROUP or without it
abbrev pub principal_named : List ℕ → Bool → Principal
principal_named who is_group = if bytes_eq who owner_name then owner
    else (if bytes_eq who group_name then group
    else (if bytes_eq who everyone_name then everyone
    else (if is_group then group_named who else user who)))

-- some key before a place waits
abbrev pub waits_before : Kind → Bool → ℕ → List Ace → ℕ → Bool
waits_before k users b [] i = false
waits_before k users b (a ∷ xs) zero = false
waits_before k users b (a ∷ xs) (suc i) = is_waiting k users b a || waits_before k users b xs i

-- a key of the other kind, in a class that overlaps, waits before a place
abbrev pub is_blocked : Kind → Bool → ℕ → List Ace → ℕ → Bool
is_blocked k of_user b xs i =
    waits_before (other_kind k) false b xs i || (not of_user && waits_before (other_kind k) true b xs i)

-- no key waits before a place up to this one
abbrev pub NoneWaitsTo : Kind → Bool → ℕ → List Ace → ℕ → Type 0
NoneWaitsTo k users b xs last = (place : ℕ) → place ≤ last → waits_before k users b xs place ≡ false

-- some key waits before each place past this one
abbrev pub SomeWaitsPast : Kind → Bool → ℕ → List Ace → ℕ → Type 0
SomeWaitsPast k users b xs last = (place : ℕ) → last < place → place < index_limit
    → waits_before k users b xs place ≡ true

-- no place up to this one is blocked
abbrev pub IsClearTo : Kind → Bool → ℕ → List Ace → ℕ → Type 0
IsClearTo k of_user b xs last = (place : ℕ) → place ≤ last → is_blocked k of_user b xs place ≡ false

-- each place past this one is blocked
abbrev pub IsBlockedPast : Kind → Bool → ℕ → List Ace → ℕ → Type 0
IsBlockedPast k of_user b xs last = (place : ℕ) → last < place → place < index_limit
    → is_blocked k of_user b xs place ≡ true

-- the key of the ACE at a place
abbrev pub key_here : List Ace → ℕ → ColumnKey
key_here [] i = (everyone, Deny)
key_here (a ∷ xs) zero = ace_key a
key_here (a ∷ xs) (suc i) = key_here xs i

-- the principal of the key at a place
abbrev pub principal_here : List Ace → ℕ → Principal
principal_here xs i = (key_here xs i).0

-- the kind of the key at a place
abbrev pub kind_here : List Ace → ℕ → Kind
kind_here xs i = (key_here xs i).1

-- the bit of each right is below this number
abbrev pub bit_count : ℕ
bit_count = 21

-- one set of places for each of two kinds, two classes, and each right
abbrev pub slot_count : ℕ
slot_count = 4 * bit_count

-- the set of a kind, a class and a right
abbrev pub slot_of : Kind → Bool → ℕ → ℕ
slot_of Deny false b = 4 * b + 0 + 0
slot_of Deny true b = 4 * b + 0 + 1
slot_of Allow false b = 4 * b + 2 + 0
slot_of Allow true b = 4 * b + 2 + 1

-- the mask of the key at a place
abbrev pub mask_here : List Ace → ℕ → ℕ
mask_here [] i = 0
mask_here (a ∷ xs) zero = a.mask
mask_here (a ∷ xs) (suc i) = mask_here xs i
