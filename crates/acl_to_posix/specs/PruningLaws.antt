-- What holds of the ACL of a shape whose names are taken out as long as nothing is lost (this library's own).
use Rattle.std.specs.Prelude.{⊤, ◌≡◌, ◌≤◌, ◌↔◌, ℕ, true, List, length, IsTrue}
use Rattle.std.specs.FinMap as set
use Rattle.std.specs.Fmt.{decimal}
use Rattle.std.specs.List.{AllByRecursion}
use Rattle.acl_perm.specs.Bits.{IsPerm}
use Rattle.acl_perm.specs.Principal.{Principal, owner, user, group, group_named, everyone}
use Rattle.acl_posix.specs.Check.{Object, Requester, grants, is_member}
use Rattle.acl_posix.specs.Entries.{Entries}
use Rattle.acl_posix.specs.Excess.{AnswerAlike, GrantsNothingMore, GrantsNothingMoreOf}
use Rattle.acl_posix.specs.Id.{IsId}
use Rattle.acl_posix.specs.Names.{Table}
use Rattle.acl_posix.specs.Tag as tag
use Rattle.acl_posix.specs.Tag.{Tag}
use Rattle.acl_posix.specs.Texts.{IsAcl}
use Rattle.acl_nfs4.specs.Ace.{Ace}
use Rattle.acl_nfs4.specs.Limits.{most_aces}
use Rattle.acl_nfs4.specs.Who.{principal_of}
use Rattle.acl_eval.specs.Bridge.{bridge_list, image}
use Rattle.acl_eval.specs.BridgeLaws.{IsAsked, IsSingle, by_name}
use Rattle.acl_eval.specs.Grant.{Grant}
use Rattle.acl_ids.specs.Ids.{HaveIds, with_ids}
use Rattle.acl_to_posix.specs.ListNames.{AreNamesOf, is_ace_relevant}
use Rattle.acl_to_posix.specs.Pruning.{LosesNothing, Prunes, PrunesTo}
use Rattle.acl_to_posix.specs.ToPosix.{AlwaysHas, EntryShape, IsBest, IsSound, is_in_shape, size_of}

-- the users and the groups of a shape are ids, and not too many
pub record HasFewIds (shape : EntryShape) : Type 0 where
  pub users : (id : ℕ) → is_member id shape.users ≡ true → IsId id
  pub groups : (id : ℕ) → is_member id shape.groups ≡ true → IsId id
  pub few : size_of shape ≤ 65535

-- ---- along a pruning

-- what the ACL of the first shape grants, the ACL of the last one grants
abbrev pub PruningLosesNothing : Type 0
PruningLosesNothing = (list : List Ace) (one two : EntryShape) → Prunes list one two → LosesNothing list one two

-- an entry that stays has the permissions that it had
abbrev pub PruningKeepsEntries : Type 0
PruningKeepsEntries = (list : List Ace) (one two : EntryShape) → HasFewIds one → Prunes list one two
    → (entry : Tag) → is_in_shape two entry ≡ true → (want : ℕ) → IsPerm want
    → AlwaysHas list one entry want ↔ AlwaysHas list two entry want

-- ---- where a pruning ends

-- the users and the groups with entries are users and groups of the shape
pub record IsAmong (shape : EntryShape) (entries : Entries) : Type 0 where
  pub users : (id : ℕ) → set.contains_key entries (tag.user id) ≡ true → is_member id shape.users ≡ true
  pub groups : (id : ℕ) → set.contains_key entries (tag.group id) ≡ true → is_member id shape.groups ≡ true

-- no sound ACL with entries for some of the users and groups with which the pruning began, and for no others, grants
-- read, write and execute alone wherever the ACL of the last shape grants them, and anything that this one does not
-- grant
abbrev pub EndIsMaximal : Type 0
EndIsMaximal = (list : List Ace) (one two : EntryShape) (best : Entries) → length list ≤ most_aces → HasFewIds one
    → PrunesTo list one two → IsBest list two best → (acl : Entries) → IsAcl acl → IsAmong one acl → IsSound list acl
    → ((want : ℕ) → IsSingle want → GrantsNothingMoreOf best acl want) → GrantsNothingMore acl best

-- ---- if some ACL agrees with the list

-- in every situation the ACL and the list both grant or both deny read, write and execute alone
abbrev pub IsExactFor : List Ace → Entries → Type 0
IsExactFor list entries =
    (object : Object) (requester : Requester) (want : ℕ) → IsAsked object requester → IsSingle want
    → IsTrue (grants entries object requester want) ↔ Grant list (by_name object requester) (image want)

-- if the principal is a user or a group whose name is the digits of an id, the shape has the id
abbrev pub IsNameIn : EntryShape → Principal → Type 0
IsNameIn shape owner = ⊤
IsNameIn shape (user name) = (id : ℕ) → IsId id → name ≡ decimal id → is_member id shape.users ≡ true
IsNameIn shape group = ⊤
IsNameIn shape (group_named name) = (id : ℕ) → IsId id → name ≡ decimal id → is_member id shape.groups ≡ true
IsNameIn shape everyone = ⊤

-- the shape has each user and each group that a relevant ACE names
abbrev pub HasNamesOf : EntryShape → List Ace → Type 0
HasNamesOf shape list = AllByRecursion (λ a. is_ace_relevant a ≡ true → IsNameIn shape (principal_of a)) list

-- if any ACL agrees with the list, with entries for any users and groups, the ACL of the last shape does, if the
-- pruning began with all names of the list
abbrev pub EndAgrees : Type 0
EndAgrees = (list : List Ace) (one two : EntryShape) (best : Entries) → length list ≤ most_aces → HasFewIds one
    → HasNamesOf one list → PrunesTo list one two → IsBest list two best → (acl : Entries) → IsAcl acl
    → length (set.entries acl) ≤ 65535 → IsExactFor list acl → IsExactFor list best

-- ---- the order of a pruning, and lists that grant the same

-- all prunings from one shape end in one shape, in whatever order names are taken out
abbrev pub PruningHasOneEnd : Type 0
PruningHasOneEnd = (list : List Ace) (one two three : EntryShape) → length list ≤ most_aces → HasFewIds one
    → PrunesTo list one two → PrunesTo list one three → two ≡ three

-- in every situation whose names are ids, both lists grant or both deny the rights of each set of permissions
abbrev pub GrantSamePermissions : List Ace → List Ace → Type 0
GrantSamePermissions list second =
    (object : Object) (requester : Requester) (want : ℕ) → IsAsked object requester → IsPerm want
    → Grant list (by_name object requester) (image want) ↔ Grant second (by_name object requester) (image want)

-- if two lists grant the same, prunings from one shape end in one shape, and the two ACLs of this shape answer alike
pub record EndsAlike (two three : EntryShape) (best one_more : Entries) : Type 0 where
  pub shape : two ≡ three
  pub answers : AnswerAlike best one_more

-- this holds for all lists that grant the same
abbrev pub GrantsDecideTheEnd : Type 0
GrantsDecideTheEnd = (list second : List Ace) (one two three : EntryShape) (best one_more : Entries)
    → length second ≤ most_aces → HasFewIds one → GrantSamePermissions list second → PrunesTo list one two
    → IsBest list two best
    → PrunesTo second one three → IsBest second three one_more → EndsAlike two three best one_more

-- if two lists grant the same, and each pruning began with all names of its list, what they grant decides the ACL,
-- whatever users and groups the lists name
abbrev pub GrantsGiveOneAcl : Type 0
GrantsGiveOneAcl = (list second : List Ace) (one two three four : EntryShape) (best one_more : Entries)
    → length list ≤ most_aces → length second ≤ most_aces → HasFewIds one → HasFewIds three
    → HasNamesOf one list → HasNamesOf three second → GrantSamePermissions list second
    → PrunesTo list one two → IsBest list two best → PrunesTo second three four → IsBest second four one_more
    → best ≡ one_more

-- ---- from the list of a POSIX ACL back

-- from the list of a POSIX ACL, a pruning that began with its users and groups leads back to an ACL that answers alike
abbrev pub BridgeAndBack : Type 0
BridgeAndBack = (entries : Entries) (one two : EntryShape) (back : Entries) → IsAcl entries
    → length (bridge_list entries) ≤ most_aces → HasFewIds one → IsAmong one entries
    → PrunesTo (bridge_list entries) one two → IsBest (bridge_list entries) two back → AnswerAlike entries back

-- the users and the groups of a list by a table are the names of the list with the digits of their ids
abbrev pub NamesByTableAreAll : Type 0
NamesByTableAreAll = (table : Table) (list : List Ace) (shape : EntryShape) → HaveIds table list
    → AreNamesOf table list shape → HasNamesOf shape (with_ids table list)
