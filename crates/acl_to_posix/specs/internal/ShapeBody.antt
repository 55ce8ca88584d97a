-- How the ACL of a shape is made: the columns of a list by tags, and the pass that decides whether an entry has a
-- right. This library's own.
use Rattle.std.specs.Prelude.{◌≡◌, ◌≤◌, ◌↔◌, ⊤, ℕ, ◌+◌, ◌==◌, ◌&&◌, ◌||◌, not, Bool, false, true, IsTrue, List, [], ◌∷◌, length, Option, Some, option_map, filter, map, if◌then◌else◌}
use Rattle.std.specs.List.{list_any}
use Rattle.std.specs.FinMap as set
use Rattle.std.specs.Ordering.{eq_by_cmp}
use Rattle.acl_perm.specs.Bits.{IsPerm, has_bit}
use Rattle.acl_perm.specs.Kind.{is_allow}
use Rattle.acl_perm.specs.Principal.{Principal, owner, user, group, group_named, everyone}
use Rattle.acl_perm.specs.declared.kind.Kind.{Kind}
use Rattle.acl_posix.specs.Check.{Object, Requester, contains, ids, is_member}
use Rattle.acl_posix.specs.Entries.{Entries}
use Rattle.acl_posix.specs.Names.{Table}
use Rattle.acl_posix.specs.Tag as tag
use Rattle.acl_posix.specs.Tag.{Tag, tag_cmp, tag_of}
use Rattle.acl_nfs4.specs.Ace.{Ace}
use Rattle.acl_nfs4.specs.Limits.{most_aces}
use Rattle.acl_eval.specs.BridgeLaws.{IsAsked, by_name}
use Rattle.acl_eval.specs.Grant.{grants_bit}
use Rattle.acl_ids.specs.Ids.{id_of_name}
use Rattle.acl_eval.specs.Permissions.{append_data, execute, execute_right, read, read_data, write, write_data}
use Rattle.acl_to_posix.specs.ToPosix.{AlwaysHas, EntryShape, is_in_shape}
use Rattle.acl_to_posix.specs.declared.posix_shape.PosixShape.{PosixShape}
use Rattle.acl_to_posix.specs.declared.tag_column.TagColumns.{TagColumns}
use Rattle.acl_to_posix.specs.declared.tag_column.TagKey.{TagKey}
use Rattle.acl_to_posix.specs.declared.tag_column.TaggedAce.{TaggedAce}

-- ---- the users and the groups that have entries

-- the ids that a shape of the code has
abbrev pub entry_shape_of : PosixShape → EntryShape
entry_shape_of s = record { users = ids s.users.now; groups = ids s.groups.now }

-- ---- tags of principals

-- the tag of a principal: USER_OBJ for `OWNER@`, USER, GROUP_OBJ for `GROUP@`, GROUP, and OTHER for `EVERYONE@`
abbrev pub principal_tag : Table → Principal → Option Tag
principal_tag table owner = Some tag.user_obj
principal_tag table (user name) = option_map (λ id. tag.user id) (id_of_name table.users name)
principal_tag table group = Some tag.group_obj
principal_tag table (group_named name) = option_map (λ id. tag.group id) (id_of_name table.groups name)
principal_tag table everyone = Some tag.other

-- the ACEs of a tag match the requester
abbrev pub tag_meets : Object → Requester → Tag → Bool
tag_meets object requester tag.user_obj = requester.user == object.user
tag_meets object requester (tag.user id) = requester.user == id
tag_meets object requester tag.group_obj = is_member object.group requester.groups
tag_meets object requester (tag.group id) = is_member id requester.groups
tag_meets object requester tag.mask = false
tag_meets object requester tag.other = true

-- ---- columns by tags

-- tags with kinds, in order
abbrev pub TagColumn : Type 0
TagColumn = List (Tag × Kind)

-- the keys of the code, in order
abbrev pub keys_of : List TagKey → TagColumn
keys_of keys = map (λ key. (tag_of key.whom, key.kind)) keys

-- the first key whose tag passes the test decides, and without one the rest does
abbrev pub column_decided_by : (Tag → Bool) → TagColumn → Bool → Bool
column_decided_by test [] rest = rest
column_decided_by test ((t, kind) ∷ keys) rest = if test t then is_allow kind else column_decided_by test keys rest

-- the tag is one of the tags of a column
abbrev pub has_tag : Tag → TagColumn → Bool
has_tag t keys = list_any (λ key. eq_by_cmp tag_cmp t key.0) keys

-- no tag is there twice
abbrev pub AreFirst : TagColumn → Type 0
AreFirst [] = ⊤
AreFirst ((t, kind) ∷ keys) = (has_tag t keys ≡ false) × AreFirst keys

-- the keys of those ACEs with tags that have the bit
abbrev pub tagged_column : List TaggedAce → ℕ → TagColumn
tagged_column aces bit =
    map (λ a. (tag_of a.whom, a.kind)) (filter (λ a. has_bit a.mask.bits bit) aces)

-- ---- the pass

-- the principal of the tag matches whenever the check looks at an entry: that of the entry itself, or EVERYONE@
abbrev pub is_certain : Tag → Tag → Bool
is_certain entry t = eq_by_cmp tag_cmp t tag.other || eq_by_cmp tag_cmp t entry

-- when the check looks at an entry of the shape, the requester may be this user, who is not the entry's own
abbrev pub may_be_user : EntryShape → ℕ → Tag → Bool
may_be_user shape id tag.user_obj = true
may_be_user shape id (tag.user own) = false
may_be_user shape id tag.group_obj = not (is_member id shape.users)
may_be_user shape id (tag.group own) = not (is_member id shape.users)
may_be_user shape id tag.mask = false
may_be_user shape id tag.other = not (is_member id shape.users)

-- when the check looks at an entry of the shape, the requester may be in the owning group: unless it is OTHER
abbrev pub may_own : Tag → Bool
may_own entry = not (eq_by_cmp tag_cmp entry tag.other)

-- when the check looks at an entry of the shape, the principal of the tag may match
abbrev pub may_match : EntryShape → Tag → Tag → Bool
may_match shape entry tag.user_obj = false
may_match shape entry (tag.user id) = may_be_user shape id entry
may_match shape entry tag.group_obj = may_own entry
may_match shape entry (tag.group id) = may_own entry || not (is_member id shape.groups)
may_match shape entry tag.mask = false
may_match shape entry tag.other = false

-- of the keys of a right: the first that is certain decides, and a DENY that is possible denies; the end denies
abbrev pub always : (Tag → Bool) → (Tag → Bool) → TagColumn → Bool
always certain possible [] = false
always certain possible ((t, kind) ∷ keys) = if certain t then is_allow kind
    else (if is_allow kind || not (possible t) then always certain possible keys else false)

-- the answer of the pass of an entry over one column
abbrev pub answer : EntryShape → Tag → List TagKey → Bool
answer shape entry keys = always (is_certain entry) (may_match shape entry) (keys_of keys)

-- the permissions of an entry are the answers of the pass
pub record HasPassAnswers (columns : TagColumns) (shape : EntryShape) (entry : Tag) (perm : ℕ) : Type 0 where
  pub of_read : has_bit perm read ≡ answer shape entry columns.read.items
  pub of_write : has_bit perm write
      ≡ (answer shape entry columns.write.items && answer shape entry columns.append.items)
  pub of_execute : has_bit perm execute ≡ answer shape entry columns.execute.items

-- ---- what is known while the ACL is made

-- the column decides one bit as the list does, in every situation
abbrev pub DecidesColumnAs : List Ace → ℕ → TagColumn → Type 0
DecidesColumnAs list bit column = (object : Object) (requester : Requester) → IsAsked object requester
    → grants_bit list (by_name object requester) bit ≡ column_decided_by (tag_meets object requester) column false

-- the most keys of a column: as many as a list can have ACEs, and one more
abbrev pub most_keys : ℕ
most_keys = most_aces + 1

-- the keys of one bit of the list, each tag once
pub record IsColumnOf (list : List Ace) (bit : ℕ) (keys : List TagKey) : Type 0 where
  pub decides : DecidesColumnAs list bit (keys_of keys)
  pub first : AreFirst (keys_of keys)
  pub few : length keys ≤ most_keys

-- the columns of the four rights
pub record AreColumns (list : List Ace) (columns : TagColumns) : Type 0 where
  pub read : IsColumnOf list read_data columns.read.items
  pub write : IsColumnOf list write_data columns.write.items
  pub append : IsColumnOf list append_data columns.append.items
  pub execute : IsColumnOf list execute_right columns.execute.items

-- the columns have at most as many keys as a list can have ACEs
pub record HaveFewKeys (columns : TagColumns) : Type 0 where
  pub read : length columns.read.items ≤ most_aces
  pub write : length columns.write.items ≤ most_aces
  pub append : length columns.append.items ≤ most_aces
  pub execute : length columns.execute.items ≤ most_aces

-- the permissions are those of which the list grants the rights in every situation in which the check looks at the
-- entry
abbrev pub HasJust : List Ace → EntryShape → Tag → ℕ → Type 0
HasJust list shape t perm = (want : ℕ) → IsPerm want → IsTrue (contains perm want) ↔ AlwaysHas list shape t want

-- the most users and groups of a shape
abbrev pub most_names : ℕ
most_names = 65535

-- no users and no groups
abbrev pub empty_shape : EntryShape
empty_shape = record { users = []; groups = [] }

-- the users of a shape without its groups
abbrev pub users_of : EntryShape → EntryShape
users_of shape = record { users = shape.users; groups = [] }

-- the three entries without names, and no others
pub record HasThree (list : List Ace) (shape : EntryShape) (entries : Entries) : Type 0 where
  pub there : (t : Tag) → set.contains_key entries t ≡ is_in_shape empty_shape t
  pub just : (t : Tag) (perm : ℕ) → is_in_shape empty_shape t ≡ true → set.get entries t ≡ Some perm
      → HasJust list shape t perm

-- the entries of a shape for those users and groups that are done so far, with a MASK
pub record IsEntryPut (list : List Ace) (shape done : EntryShape) (entries : Entries) : Type 0 where
  pub there : (t : Tag) → eq_by_cmp tag_cmp t tag.mask ≡ false → set.contains_key entries t ≡ is_in_shape done t
  pub just : (t : Tag) (perm : ℕ) → is_in_shape done t ≡ true → set.get entries t ≡ Some perm
      → HasJust list shape t perm
  pub masked : set.contains_key entries tag.mask ≡ true
