-- Heads of principals (this library's own): each principal has a number, and two numbers are compared in place of two
-- names.
use Rattle.std.specs.Prelude.{◌≡◌, ℕ, ◌+◌, ◌*◌, ◌%◌, ◌<◌, zero, suc, Bool, nat_lt, List, [], ◌∷◌, drop, get_or, length, take, Option, Some, None}
use Rattle.acl_perm.specs.Order.{principal_name, principal_rank}
use Rattle.acl_perm.specs.Principal.{Principal, owner, user, group, group_named, everyone, principal}
use Rattle.acl_perm.specs.declared.principal.Principal.{Principal as PrincipalRef}
use Rattle.acl_nfs4.specs.Ace.{Ace}
use Rattle.acl_nfs4.specs.internal.Progress.{IsBytes}
use Rattle.acl_normal.specs.internal.Places.{principal_here}

-- how many bytes of a name a head has
abbrev pub head_bytes : ℕ
head_bytes = 6

-- the count of bytes that stands for more bytes than a head has
abbrev pub more_bytes : ℕ
more_bytes = 7

-- the length of a list, or the number if that is less
abbrev pub count_to : ℕ → List ℕ → ℕ
count_to zero bytes = 0
count_to (suc n) [] = 0
count_to (suc n) (b ∷ bytes) = suc (count_to n bytes)

-- a number, after it this many bytes, the first of them the highest, with zeros past the last, and after them a count
abbrev pub head_from : ℕ → ℕ → List ℕ → ℕ → ℕ
head_from before zero bytes count = before * 256 + count
head_from before (suc n) bytes count = head_from (before * 256 + get_or bytes 0 0) n (drop 1 bytes) count

-- the rank, after it six bytes of the name, without the first ones, and how many bytes the rest of the name has
abbrev pub principal_head : ℕ → Principal → ℕ
principal_head common p =
    head_from (principal_rank p) head_bytes (drop common (principal_name p))
    (count_to more_bytes (drop common (principal_name p)))

-- the head has the whole name
abbrev pub is_whole : ℕ → Bool
is_whole head = nat_lt (head % 256) more_bytes

-- the number is the head of the principal, whose name is of bytes
pub record IsHeadOf (common head : ℕ) (p : Principal) : Type 0 where
  pub is : head ≡ principal_head common p
  pub bytes : IsBytes (principal_name p)

-- the number is the head of the principal of the code, with the whole name
abbrev pub HasHead : ℕ → PrincipalRef → Type 0
HasHead head p = IsHeadOf 0 head (principal p)

-- the name of a user or of a group
abbrev pub given_name : Principal → Option (List ℕ)
given_name (user name) = Some name
given_name (group_named name) = Some name
given_name owner = None
given_name group = None
given_name everyone = None

-- the name of a user or of a group begins with these bytes
abbrev pub BeginsWith : List ℕ → Principal → Type 0
BeginsWith start p = (name : List ℕ) → given_name p ≡ Some name → start ≡ take (length start) name

-- the name of each principal that an ACE names begins with these bytes
abbrev pub AllBegin : List ℕ → List Ace → Type 0
AllBegin start xs = (i : ℕ) → i < length xs → BeginsWith start (principal_here xs i)
