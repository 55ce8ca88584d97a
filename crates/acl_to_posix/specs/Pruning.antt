-- POSIX ACLs of a list with fewer entries of users and groups, and what is lost by them (this library's own).
use Rattle.std.specs.Prelude.{◌≡◌, ◌≤◌, ◌↔◌, ◌⊎◌, ℕ, ◌==◌, not, Bool, false, true, List, filter}
use Rattle.acl_perm.specs.Bits.{IsPerm}
use Rattle.acl_posix.specs.Check.{Object, Requester, is_member}
use Rattle.acl_posix.specs.Id.{IsId}
use Rattle.acl_posix.specs.Tag.{Tag, user_obj, user, group_obj, group, mask, other, is_named}
use Rattle.acl_nfs4.specs.Ace.{Ace}
use Rattle.acl_eval.specs.BridgeLaws.{IsAsked}
use Rattle.acl_to_posix.specs.ToPosix.{AlwaysHas, EntryShape, is_in_shape, looks_at, size_of}

-- the ACL of a shape grants some permissions: the check looks at an entry that has all of them
pub record ShapeGrants (list : List Ace) (shape : EntryShape) (object : Object) (requester : Requester) (want : ℕ)
    : Type 0 where
  pub entry : Tag
  pub looks : looks_at shape object requester entry ≡ true
  pub has : AlwaysHas list shape entry want

-- the ACL of the second shape grants whatever that of the first one grants
abbrev pub LosesNothing : List Ace → EntryShape → EntryShape → Type 0
LosesNothing list one two = (object : Object) (requester : Requester) → IsAsked object requester
    → (want : ℕ) → IsPerm want → ShapeGrants list one object requester want → ShapeGrants list two object requester want

-- the numbers without one of them
abbrev pub shape_without : ℕ → List ℕ → List ℕ
shape_without id ids = filter (λ n. not (n == id)) ids

-- the shape without a user or a group
abbrev pub taken_out : Tag → EntryShape → EntryShape
taken_out user_obj shape = shape
taken_out (user id) shape = record { users = shape_without id shape.users; groups = shape.groups }
taken_out group_obj shape = shape
taken_out (group id) shape = record { users = shape.users; groups = shape_without id shape.groups }
taken_out mask shape = shape
taken_out other shape = shape

-- an entry for requesters without an entry of their own: GROUP_OBJ, GROUP or OTHER
abbrev pub is_shared : Tag → Bool
is_shared user_obj = false
is_shared (user id) = false
is_shared group_obj = true
is_shared (group id) = true
is_shared mask = false
is_shared other = true

-- after a user or a group is taken out, each GROUP_OBJ, GROUP and OTHER entry has what it had, and what the entry that
-- was taken out had
abbrev pub KeepsEntries : List Ace → EntryShape → Tag → Type 0
KeepsEntries list shape name = (entry : Tag) → is_shared entry ≡ true → is_in_shape (taken_out name shape) entry ≡ true
    → (want : ℕ) → IsPerm want → AlwaysHas list shape entry want ⊎ AlwaysHas list shape name want
    → AlwaysHas list (taken_out name shape) entry want

-- a user or a group of a shape, whose users and groups are ids, and not too many
pub record IsNameOf (shape : EntryShape) (name : Tag) : Type 0 where
  pub named : is_named name ≡ true
  pub there : is_in_shape shape name ≡ true
  pub users : (id : ℕ) → is_member id shape.users ≡ true → IsId id
  pub groups : (id : ℕ) → is_member id shape.groups ≡ true → IsId id
  pub few : size_of shape ≤ 65535

-- nothing is lost if and only if the other entries keep what they had and have what the entry had
abbrev pub EntriesDecideLoss : Type 0
EntriesDecideLoss = (list : List Ace) (shape : EntryShape) (name : Tag) → IsNameOf shape name
    → LosesNothing list shape (taken_out name shape) ↔ KeepsEntries list shape name

-- names are taken out one after the other, and each time nothing is lost
pub data Prunes (list : List Ace) : EntryShape → EntryShape → Type 0 where
  none : (shape : EntryShape) → Prunes list shape shape
  next : (one two : EntryShape) (name : Tag) → is_named name ≡ true → is_in_shape one name ≡ true
      → LosesNothing list one (taken_out name one) → Prunes list (taken_out name one) two → Prunes list one two

-- names are taken out until none can be taken out without loss
pub record PrunesTo (list : List Ace) (one two : EntryShape) : Type 0 where
  pub steps : Prunes list one two
  pub last : (name : Tag) → is_named name ≡ true → is_in_shape two name ≡ true
      → LosesNothing list two (taken_out name two) → ⊥
