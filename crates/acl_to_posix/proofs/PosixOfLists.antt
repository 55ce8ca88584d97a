-- The ACL of a list is maximal, exact if any POSIX ACL is, and decided by what the list grants.
use Rattle.std.proofs.Common.{◌≤◌, List, ◌∙◌, arith, length}
use Rattle.std.proofs.lemmas.List.{length-map}
use Rattle.acl_posix.specs.Entries.{Entries}
use Rattle.acl_posix.specs.Names.{Table}
use Rattle.acl_nfs4.specs.Ace.{Ace}
use Rattle.acl_nfs4.specs.Limits.{most_aces}
use Rattle.acl_ids.specs.Ids.{HaveIds, with_id, with_ids}
use Rattle.acl_to_posix.specs.ListNames.{AreNamesOf}
use Rattle.acl_to_posix.specs.PosixOfList.{GrantsDecidePosix, IsExactIfAny, IsMaximal}
use Rattle.acl_to_posix.specs.Pruning.{PrunesTo}
use Rattle.acl_to_posix.specs.ToPosix.{EntryShape, IsBest, size_of}
use Rattle.acl_to_posix.specs.internal.ListNamesBody.{named_shape}
use Rattle.acl_to_posix.specs.declared.list_names.NamedIds.{NamedIds}
use Rattle.acl_to_posix.proofs.prunings.PruningExact.{end_agrees}
use Rattle.acl_to_posix.proofs.prunings.PruningGrants.{grants_give_one}
use Rattle.acl_to_posix.proofs.prunings.PruningMaximal.{end_is_maximal}
use Rattle.acl_to_posix.proofs.prunings.PruningNames.{all_names}
use Rattle.acl_to_posix.proofs.shapes.ShapeRights.{few_ids}

-- with ids in place of names the list is as long
short_list : (table : Table) (list : List Ace) → length list ≤ most_aces → length (with_ids table list) ≤ most_aces
short_list table list short = let same = length-map list (with_id table) in omega (arith, same, short)

-- the ACL of the last shape is maximal
pub maximal_of : (table : Table) (list : List Ace) (named : NamedIds) (end : EntryShape) (best : Entries)
    → length list ≤ most_aces → size_of (named_shape named) ≤ 65535 → AreNamesOf table list (named_shape named)
    → PrunesTo (with_ids table list) (named_shape named) end → IsBest (with_ids table list) end best
    → IsMaximal table list best
maximal_of table list named end best short few names p is acl valid only sound singles =
    end_is_maximal (with_ids table list) (named_shape named) end best (short_list table list short)
    (few_ids named few) p is acl valid (record {
      users = λ id h. names.users id ∙ only.users id h;
      groups = λ id h. names.groups id ∙ only.groups id h;
    }) sound singles

-- the ACL of the last shape is exact if any POSIX ACL is
pub exact_if_any : (table : Table) (list : List Ace) (named : NamedIds) (end : EntryShape) (best : Entries)
    → length list ≤ most_aces → size_of (named_shape named) ≤ 65535 → HaveIds table list
    → AreNamesOf table list (named_shape named) → PrunesTo (with_ids table list) (named_shape named) end
    → IsBest (with_ids table list) end best → IsExactIfAny (with_ids table list) best
exact_if_any table list named end best short few known names p is acl valid small agrees object requester want asked
    single =
    let two = end_agrees (with_ids table list) (named_shape named) end best (short_list table list short)
    (few_ids named few) (all_names table list (named_shape named) known names) p is acl valid small
    (λ o q w parties one. let both = agrees o q w parties one in (both.1, both.0)) object requester want asked single in
    (two.1, two.0)

-- lists that grant the same have one ACL
pub grants_decide : GrantsDecidePosix
grants_decide table other list second entries one_more short brief same is other_is =
    grants_give_one (with_ids table list) (with_ids other second) is.start is.end other_is.start other_is.end entries
    one_more (short_list table list short) (short_list other second brief) is.few other_is.few
    (all_names table list is.start is.known is.names)
    (all_names other second other_is.start other_is.known other_is.names) same is.pruned is.best other_is.pruned
    other_is.best
