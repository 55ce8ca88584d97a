-- Groups that stand for unknown special identifiers (RFC 8881, section 6.2.1.5): a requester whom an identifier matches
-- is in the group that stands for it. This library's own.
use Rattle.std.specs.Prelude.{◌≡◌, ◌&&◌, ◌++◌, ℕ, false, List, filter, map}
use Rattle.std.specs.List.{list_any}
use Rattle.acl_perm.specs.Situation.{Situation}
use Rattle.acl_nfs4.specs.Ace.{Ace}
use Rattle.acl_nfs4.specs.UnknownGroups.{is_stand_in}
use Rattle.acl_nfs4.specs.Who.{is_unknown_special}
use Rattle.acl_decide.specs.Unknown.{Assignment}

-- the groups that stand for the identifiers of the list that the assignment matches
abbrev pub matched_groups : Assignment → List ℕ → List Ace → List (List ℕ)
matched_groups v suffix list = map (λ a. a.who ++ suffix) (filter (λ a. is_unknown_special a.who && v a.who) list)

-- the situation in which the requester is in these groups too
abbrev pub joining : Assignment → List ℕ → List Ace → Situation → Situation
joining v suffix list s = record {
  owner_name = s.owner_name;
  owning_group = s.owning_group;
  user_name = s.user_name;
  groups = s.groups ++ matched_groups v suffix list;
}

-- neither the owning group nor a group of the requester has the name of a group that stands for an identifier
pub record IsApart (suffix : List ℕ) (list : List Ace) (s : Situation) : Type 0 where
  pub owning_group : is_stand_in suffix list s.owning_group ≡ false
  pub groups : list_any (is_stand_in suffix list) s.groups ≡ false
