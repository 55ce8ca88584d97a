-- Whether one set of entries grants more than another (this library's own relation on the access check of acl(5),
-- "ACCESS CHECK ALGORITHM").
use Rattle.std.specs.Prelude.{ℕ, ◌≡◌, ◌<◌, true, false, List, [], ◌∷◌}
use Rattle.acl_perm.specs.Bits.{IsPerm}
use Rattle.acl_posix.specs.declared.difference.FewGroups.{FewGroups}
use Rattle.acl_posix.specs.declared.difference.FewGroups.TheVariants as few
use Rattle.acl_posix.specs.declared.difference.PosixDifference.{PosixDifference}
use Rattle.acl_posix.specs.Check.{grants, Object, Requester}
use Rattle.acl_posix.specs.Entries.{Entries}
use Rattle.acl_posix.specs.Id.{IsId}

-- the owner and the owning group of the object and the user are ids; the groups of the user can be any numbers
pub record AreParties (object : Object) (requester : Requester) : Type 0 where
  pub owner : IsId object.user
  pub group : IsId object.group
  pub user : IsId requester.user

-- if the first set grants this request to a requester on an object, the second set grants it too
abbrev pub GrantsNothingMoreOf : Entries → Entries → ℕ → Type 0
GrantsNothingMoreOf first second request =
    (object : Object) (requester : Requester) → AreParties object requester
    → grants first object requester request ≡ true → grants second object requester request ≡ true

-- each request that the first set grants to a requester on an object, a set of permissions, the second set grants too
abbrev pub GrantsNothingMore : Entries → Entries → Type 0
GrantsNothingMore first second = (request : ℕ) → IsPerm request → GrantsNothingMoreOf first second request

-- two sets answer every request of every requester on every object alike
abbrev pub AnswerAlike : Entries → Entries → Type 0
AnswerAlike one two =
    (request : ℕ) → IsPerm request → (object : Object) (requester : Requester) → AreParties object requester
    → grants one object requester request ≡ grants two object requester request

-- the numbers of the groups, in their order
abbrev pub group_numbers : FewGroups → List ℕ
group_numbers few.None = []
group_numbers (few.One group) = group.value ∷ []
group_numbers (few.Two first second) = first.value ∷ (second.value ∷ [])

-- the object that a difference names
abbrev pub difference_object : PosixDifference → Object
difference_object d = record { user = d.owner.value; group = d.group.value }

-- the requester that a difference names
abbrev pub difference_requester : PosixDifference → Requester
difference_requester d = record { user = d.user.value; groups = group_numbers d.groups }

-- the first set grants the request of the difference to its requester on its object, and the second set denies it
pub record IsPosixExcess (first second : Entries) (d : PosixDifference) : Type 0 where
  pub granted : grants first (difference_object d) (difference_requester d) d.request.bits ≡ true
  pub denied : grants second (difference_object d) (difference_requester d) d.request.bits ≡ false

-- for each request that is a smaller number, the first set grants no more than the second
abbrev pub IsLowestRequest : Entries → Entries → PosixDifference → Type 0
IsLowestRequest first second d = (request : ℕ) → request < d.request.bits → GrantsNothingMoreOf first second request
