-- How a lost grant is searched: three tags are chosen, and only their principals match. This library's own.
use Rattle.std.specs.Prelude.{◌≡◌, ◌≤◌, ◌<◌, ◌⊎◌, ℕ, ◌+◌, ◌==◌, ◌&&◌, ◌||◌, not, Bool, false, true, List, [], ◌∷◌, ◌++◌, filter, length, map, Option, None, Some, if◌then◌else◌, is_some, nat_lt}
use Rattle.std.specs.List.{AllByRecursion, position_or_len}
use Rattle.std.specs.FinMap as set
use Rattle.acl_posix.specs.Check.{Object, Requester, contains, entry_contains, grants, is_member}
use Rattle.acl_posix.specs.Entries.{Entries}
use Rattle.acl_posix.specs.Names.{Table}
use Rattle.acl_posix.specs.Tag.{Tag, user_obj, user, group_obj, group, mask, other, qualifier, tag_of}
use Rattle.acl_nfs4.specs.Ace.{Ace}
use Rattle.acl_to_posix.specs.LostGrants.{AreAtMost, AreMoreThan, lost_object, lost_requester}
use Rattle.acl_to_posix.specs.internal.ShapeBody.{TagColumn, column_decided_by, has_tag, is_certain, keys_of, most_keys, most_names, tag_meets}
use Rattle.acl_to_posix.specs.declared.losing.tags.JudgedTag.{JudgedTag}
use Rattle.acl_to_posix.specs.declared.losing.LostGrant.{LostGrant}
use Rattle.acl_to_posix.specs.declared.losing.unused.Unused.{Unused}
use Rattle.acl_to_posix.specs.declared.losing.Wanted.{Wanted}
use Rattle.acl_to_posix.specs.declared.posix_shape.ShapeFault.{ShapeFault}
use Rattle.acl_to_posix.specs.declared.posix_shape.ShapeFault.TheVariants as faults
use Rattle.acl_to_posix.specs.declared.tag_column.TagColumns.{TagColumns}
-- the tag is that of the owner
pub use Rattle.acl_posix.specs.internal.GroupAnswers.{is_owner_tag}

-- ---- the situation of three tags

-- the user of a tag, or another user if it has none
abbrev pub user_or : Tag → ℕ → ℕ
user_or user_obj rest = rest
user_or (user id) rest = id
user_or group_obj rest = rest
user_or (group id) rest = rest
user_or mask rest = rest
user_or other rest = rest

-- the group of a tag, if the owning group is this one
abbrev pub groups_for : ℕ → Tag → List ℕ
groups_for own user_obj = []
groups_for own (user id) = []
groups_for own group_obj = own ∷ []
groups_for own (group id) = id ∷ []
groups_for own mask = []
groups_for own other = []

-- the user of the first of three tags that has one, or a user whom nothing names
abbrev pub chosen_user : ℕ → Tag → Tag → Tag → ℕ
chosen_user one a b c = user_or a (user_or b (user_or c one))

-- the owner is this user if one of the tags is that of OWNER@, and otherwise a second user whom nothing names
abbrev pub chosen_object : ℕ → ℕ → Tag → Tag → Tag → Object
chosen_object one next a b c = record {
  user = if is_owner_tag a || is_owner_tag b || is_owner_tag c then chosen_user one a b c else next;
  group = one;
}

-- the user is in the groups of the tags
abbrev pub chosen_requester : ℕ → Tag → Tag → Tag → Requester
chosen_requester one a b c = record {
  user = chosen_user one a b c;
  groups = (groups_for one a ++ groups_for one b) ++ groups_for one c;
}

-- ---- the search

-- what is searched: two columns, whose rights belong to a permission; the entries of an ACL; and two unused ids
pub record LossSearch : Type 0 where
  pub first : TagColumn
  pub second : TagColumn
  pub want : ℕ
  pub entries : Entries
  pub one : ℕ
  pub next : ℕ

-- the search for what is wanted, with two unused ids
abbrev pub search_of : Wanted → Entries → Unused → LossSearch
search_of wanted entries unused = record {
  first = keys_of wanted.first.now;
  second = keys_of wanted.second.now;
  want = wanted.perm.bits;
  entries = entries;
  one = unused.one.value;
  next = unused.next.value;
}

-- both columns grant, and the ACL does not
abbrev pub is_lost : TagColumn → TagColumn → Entries → ℕ → Object → Requester → Bool
is_lost first second entries want object requester = column_decided_by (tag_meets object requester) first false
    && (column_decided_by (tag_meets object requester) second false && not (grants entries object requester want))

-- the principal of a tag matches in the situation of a loss
abbrev pub is_met : LostGrant → Tag → Bool
is_met lost t = tag_meets (lost_object lost) (lost_requester lost) t

-- nothing is lost in the situation of three tags
abbrev pub IsKeptWith : LossSearch → Tag → Tag → Tag → Type 0
IsKeptWith s a b c =
    is_lost s.first s.second s.entries s.want (chosen_object s.one s.next a b c) (chosen_requester s.one a b c) ≡ false

-- ---- which three tags the search tries

-- the place of the first key that decides wherever only the principal of the tag matches: its own, or EVERYONE@
abbrev pub certain_place : Tag → TagColumn → ℕ
certain_place t keys = position_or_len (λ key. is_certain t key.0) keys

-- this key is an ALLOW
abbrev pub is_allowed_in : Tag → TagColumn → Bool
is_allowed_in t keys = column_decided_by (is_certain t) keys false

-- how early the check decides by the entry of a tag: USER_OBJ, then USER, then GROUP_OBJ and GROUP, and last OTHER,
-- which also decides for a tag without an entry
abbrev pub level : Entries → Tag → ℕ
level entries user_obj = 3
level entries (user id) = if is_some (set.get entries (user id)) then 2 else 0
level entries group_obj = 1
level entries (group id) = if is_some (set.get entries (group id)) then 1 else 0
level entries mask = 0
level entries other = 0

-- MASK does not take the permission away
abbrev pub is_left_by : Option ℕ → ℕ → Bool
is_left_by None want = true
is_left_by (Some perm) want = contains perm want

-- an entry that MASK limits has the permission, and keeps it
abbrev pub has_masked : Entries → ℕ → Tag → Bool
has_masked entries want t = entry_contains entries t want && is_left_by (set.get entries mask) want

-- the tag has no entry with the permission, or MASK takes it away; MASK itself denies nobody
abbrev pub lacks : Entries → ℕ → Tag → Bool
lacks entries want user_obj = not (entry_contains entries user_obj want)
lacks entries want (user id) = not (has_masked entries want (user id))
lacks entries want group_obj = not (has_masked entries want group_obj)
lacks entries want (group id) = not (has_masked entries want (group id))
lacks entries want mask = false
lacks entries want other = not (entry_contains entries other want)

-- the tag is that of a user other than this one
abbrev pub is_user_but : ℕ → Tag → Bool
is_user_but id user_obj = false
is_user_but id (user one) = not (id == one)
is_user_but id group_obj = false
is_user_but id (group one) = false
is_user_but id mask = false
is_user_but id other = false

-- both tags are those of users, and not of the same one: no requester is both
abbrev pub are_two_users : Tag → Tag → Bool
are_two_users user_obj b = false
are_two_users (user id) b = is_user_but id b
are_two_users group_obj b = false
are_two_users (group id) b = false
are_two_users mask b = false
are_two_users other b = false

-- what is known of a tag: its places in both columns, and what the ACL has for it
pub record IsJudgedTag (wanted : Wanted) (entries : Entries) (one : JudgedTag) : Type 0 where
  pub first : one.first ≡ certain_place (tag_of one.tag) (keys_of wanted.first.now)
  pub second : one.second ≡ certain_place (tag_of one.tag) (keys_of wanted.second.now)
  pub level : one.level ≡ level entries (tag_of one.tag)
  pub lacks : one.lacks ≡ lacks entries wanted.perm.bits (tag_of one.tag)

-- where both principals match, the check denies by the entry of the second, and does not grant by that of the first
abbrev pub is_passed : JudgedTag → JudgedTag → Bool
is_passed one denied = nat_lt one.level denied.level || ((one.level == denied.level) && one.lacks)

-- where both principals match, the key of the first decides the first column
abbrev pub is_first : JudgedTag → JudgedTag → Bool
is_first one denied = not (nat_lt denied.first one.first)
    && (is_passed one denied && not (are_two_users (tag_of one.tag) (tag_of denied.tag)))

-- the same in the second column
abbrev pub is_second : JudgedTag → JudgedTag → Bool
is_second two denied = not (nat_lt denied.second two.second)
    && (is_passed two denied && not (are_two_users (tag_of two.tag) (tag_of denied.tag)))

-- where both principals match, that of the first decides the first column, and that of the second the second column
abbrev pub are_together : JudgedTag → JudgedTag → Bool
are_together one two = not (nat_lt two.first one.first)
    && (not (nat_lt one.second two.second) && not (are_two_users (tag_of one.tag) (tag_of two.tag)))

-- nothing is lost with any of the second tags
abbrev pub AreKeptWithOne : LossSearch → JudgedTag → JudgedTag → List JudgedTag → Type 0
AreKeptWithOne s denied one seconds = AllByRecursion (λ two. is_second two denied ≡ true → are_together one two ≡ true
    → IsKeptWith s (tag_of one.tag) (tag_of two.tag) (tag_of denied.tag)) seconds

-- nor with any of the first tags
abbrev pub AreKeptWith : LossSearch → JudgedTag → List JudgedTag → List JudgedTag → Type 0
AreKeptWith s denied firsts seconds =
    AllByRecursion (λ one. is_first one denied ≡ true → AreKeptWithOne s denied one seconds) firsts

-- the tags of those keys of a column that can decide, and then allow
abbrev pub allowed_tags : TagColumn → TagColumn → List Tag
allowed_tags column keys = map (λ key. key.0) (filter (λ key. is_allowed_in key.0 column) keys)

-- where both principals match, the check denies by the entry of the second tag rather than grant by that of the first
abbrev pub IsPassed : LossSearch → Tag → Tag → Type 0
IsPassed s t c = (level s.entries t < level s.entries c)
    ⊎ ((level s.entries t ≡ level s.entries c) × (lacks s.entries s.want t ≡ true))

-- two tags of keys, and one of an entry that lacks the permission, which can all match at once, so that the two keys
-- decide the columns and the entry denies
pub record IsLossCandidate (s : LossSearch) (a b c : Tag) : Type 0 where
  pub first : has_tag a s.first ≡ true
  pub first_allows : is_allowed_in a s.first ≡ true
  pub second : has_tag b s.second ≡ true
  pub second_allows : is_allowed_in b s.second ≡ true
  pub lacking : lacks s.entries s.want c ≡ true
  pub first_denied : certain_place a s.first ≤ certain_place c s.first
  pub second_denied : certain_place b s.second ≤ certain_place c s.second
  pub first_second : certain_place a s.first ≤ certain_place b s.first
  pub second_first : certain_place b s.second ≤ certain_place a s.second
  pub passed_first : IsPassed s a c
  pub passed_second : IsPassed s b c
  pub one_user : are_two_users a b ≡ false
  pub one_user_first : are_two_users a c ≡ false
  pub one_user_second : are_two_users b c ≡ false

-- nothing is lost with the tag of an entry, whatever the other two tags are
abbrev pub IsKeptFor : LossSearch → Tag → Type 0
IsKeptFor s c = (a b : Tag) → IsLossCandidate s a b c → IsKeptWith s a b c

-- nor with that of any entry
abbrev pub AreKept : LossSearch → List (Tag × ℕ) → Type 0
AreKept s entries = AllByRecursion (λ entry. IsKeptFor s entry.0) entries

-- the loss is one of the permission, and its requester is in at most three groups
pub record IsFound (s : LossSearch) (lost : LostGrant) : Type 0 where
  pub perm : lost.perm.bits ≡ s.want
  pub here : is_lost s.first s.second s.entries s.want (lost_object lost) (lost_requester lost) ≡ true
  pub few : length lost.groups.items ≤ 3

-- a search has found a loss, or there is none
abbrev pub IsFoundOr : LossSearch → Type 0 → Option LostGrant → Type 0
IsFoundOr s kept None = kept
IsFoundOr s kept (Some lost) = IsFound s lost

-- ---- ids that nothing names

-- the numbers of the tags of keys
abbrev pub key_numbers : TagColumn → List ℕ
key_numbers keys = map (λ key. qualifier key.0) keys

-- the numbers of the tags of entries
abbrev pub entry_numbers : List (Tag × ℕ) → List ℕ
entry_numbers entries = map (λ entry. qualifier entry.0) entries

-- the numbers of the tags of columns and of entries
abbrev pub used_numbers : TagColumns → Entries → List ℕ
used_numbers columns entries = (((key_numbers (keys_of columns.read.items)
    ++ key_numbers (keys_of columns.write.items))
    ++ key_numbers (keys_of columns.append.items))
    ++ key_numbers (keys_of columns.execute.items))
    ++ entry_numbers (set.entries entries)

-- the most entries of an ACL: those of users and groups, and USER_OBJ, GROUP_OBJ, MASK and OTHER
abbrev pub most_loss_entries : ℕ
most_loss_entries = most_names + 4

-- no column has more keys than a column can have, and there are not too many entries
pub record AreSmall (columns : TagColumns) (entries : Entries) : Type 0 where
  pub read : length columns.read.items ≤ most_keys
  pub write : length columns.write.items ≤ most_keys
  pub append : length columns.append.items ≤ most_keys
  pub execute : length columns.execute.items ≤ most_keys
  pub listed : length (set.entries entries) ≤ most_loss_entries

-- at most so many are used: four columns of as many keys as a column can have, the entries, and one that is unused
abbrev pub most_used : ℕ
most_used = 327688

-- two ids that are not among the numbers
pub record AreUnused (used : List ℕ) (unused : Unused) : Type 0 where
  pub differ : (unused.one.value == unused.next.value) ≡ false
  pub one : is_member unused.one.value used ≡ false
  pub next : is_member unused.next.value used ≡ false

-- ---- the bound

-- why the names of a list and the entries of an ACL are not within a bound: they are more, or memory ran out and they
-- are not more
abbrev pub IsCountFault : Table → List Ace → Entries → ℕ → ShapeFault → Type 0
IsCountFault table list entries most (faults.NoId place) = ⊥
IsCountFault table list entries most faults.TooManyNames = AreMoreThan most table list entries
IsCountFault table list entries most faults.Memory = AreAtMost most table list entries
