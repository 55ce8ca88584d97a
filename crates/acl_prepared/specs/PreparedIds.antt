-- Prepared lists of ids, and who asks them (this library's own): the bytes are a start, and then a number of eight
-- bytes for each ACE that takes part in what the list grants, in order.
use Rattle.std.specs.Prelude.{◌≡◌, ℕ, ◌+◌, ◌*◌, ◌^◌, List, ◌++◌, codes, filter}
use Rattle.std.specs.Int.{to_le_bytes, w64}
use Rattle.std.specs.List.{flat_map}
use Rattle.std.specs.Str.Parse.{digits_value}
use Rattle.acl_perm.specs.Order.{principal_name}
use Rattle.acl_perm.specs.Principal.{Principal}
use Rattle.acl_perm.specs.Profile.{full}
use Rattle.acl_perm.specs.Situation.{Situation}
use Rattle.acl_perm.specs.declared.kind.Kind.{Kind}
use Rattle.acl_posix.specs.Names.{Table}
use Rattle.acl_nfs4.specs.Ace.{Ace}
use Rattle.acl_nfs4.specs.Spelling.{IsAccepted}
use Rattle.acl_nfs4.specs.Who.{principal_of}
use Rattle.acl_eval.specs.Column.{takes_part}
use Rattle.acl_ids.specs.Ids.{HaveIds, situation_of_ids, with_ids}
use Rattle.acl_prepared.specs.Prepared.{sort_number}
use Rattle.acl_prepared.specs.declared.id_request.IdObject.{IdObject}
use Rattle.acl_prepared.specs.declared.id_request.IdRequester.{IdRequester}
use Rattle.acl_prepared.specs.declared.prepared_ids.PreparedIds.{PreparedIds}

-- the id of the requester
abbrev pub user_id_of : IdRequester → ℕ
user_id_of requester = requester.user

-- the ids of the requester's groups
abbrev pub group_ids_of : IdRequester → List ℕ
group_ids_of requester = requester.groups.now

-- the situation in which the requester requests access to the object
abbrev pub id_situation : IdObject → IdRequester → Situation
id_situation object requester =
    situation_of_ids object.owner object.group (user_id_of requester) (group_ids_of requester)

-- the bytes that each prepared list of ids begins with; the last of them is the number of this form
abbrev pub ids_start : List ℕ
ids_start = codes "aclpids1"

-- the number of an ACE whose name is the digits of an id: its mask and its sort in four bytes, and the id in four more
abbrev pub id_ace_number : Principal → Kind → ℕ → ℕ
id_ace_number p kind mask = mask + 2 ^ 28 * sort_number p kind + 2 ^ 32 * digits_value 10 (principal_name p)

-- the bytes of an ACE, the least byte first
abbrev pub id_ace : Ace → List ℕ
id_ace a = to_le_bytes w64 (id_ace_number (principal_of a) a.kind a.mask)

-- the bytes of those ACEs that take part
abbrev pub id_aces : List Ace → List ℕ
id_aces list = flat_map id_ace (filter takes_part list)

-- the list is accepted, each name in it has an id, and these are its bytes when it is prepared
pub record IsPreparedIds (table : Table) (list : List Ace) (bytes : List ℕ) : Type 0 where
  pub accepted : IsAccepted full list
  pub known : HaveIds table list
  pub made : bytes ≡ ids_start ++ id_aces (with_ids table list)

-- the list is accepted, each name in it has an id, and the value was read from its bytes
pub record AreIdsReadFrom (table : Table) (list : List Ace) (prepared : PreparedIds) : Type 0 where
  pub accepted : IsAccepted full list
  pub known : HaveIds table list
  pub aces : prepared.aces.now ≡ id_aces (with_ids table list)
