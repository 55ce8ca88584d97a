-- The ACEs of a list in the bytes of a prepared list of ids.
use Rattle.std.proofs.Common.{◌≡◌, ℕ, ◌+◌, ◌*◌, ◌<◌, ◌^◌, Bool, true, false, cond, List, [], ◌∷◌, Option, Some, None, refl, sym, subst, arith}
use Rattle.std.proofs.lemmas.Fmt.{decimal_is_IsNumeral}
use Rattle.std.specs.Prelude.{filter}
use Rattle.std.specs.Fmt.{decimal}
use Rattle.std.specs.List.{AllByRecursion}
use Rattle.std.specs.Str.Parse.{digits_value}
use Rattle.acl_perm.specs.Order.{principal_name, principal_rank}
use Rattle.acl_perm.specs.Principal.{Principal, owner, user, group, group_named, everyone}
use Rattle.acl_perm.specs.Profile.{full}
use Rattle.acl_posix.specs.Id.{IsId}
use Rattle.acl_posix.specs.Names.{Table}
use Rattle.acl_nfs4.specs.Ace.{Ace}
use Rattle.acl_nfs4.specs.Spelling.{IsAce}
use Rattle.acl_nfs4.specs.Who.{principal_of}
use Rattle.acl_eval.specs.Column.{takes_part}
use Rattle.acl_ids.specs.Ids.{HasId, HaveIds, IsSomeId, by_id, digits_or, id_of_name, principal_id, with_id, with_ids}
use Rattle.acl_prepared.specs.Prepared.{sort_number}
use Rattle.acl_prepared.specs.PreparedIds.{id_ace_number}
use Rattle.acl_prepared.specs.internal.IdsBody.{AreIdParts, IsIdPart, id_or_zero, principal_from}
use Rattle.acl_ids.proofs.IdNames.{with_id_names}

-- ---- the number of the digits

-- digits spell the id whose digits they are
digits_spell : (id : ℕ) → IsId id → digits_value 10 (decimal id) ≡ id
digits_spell id h = (decimal_is_IsNumeral id (omega (arith, h))).1

-- the rank and the id of a principal
pub record IsKept (p : Principal) (i : ℕ) (q : Principal) : Type 0 where
  pub rank : principal_rank q ≡ principal_rank p
  pub id : digits_value 10 (principal_name q) ≡ i
  pub below : i < 2 ^ 32
  pub named : principal_from (principal_rank p) i ≡ q

-- the principal by its id has the rank and the id of the principal
pub kept : (table : Table) (p : Principal) → HasId table p
    → IsKept p (id_or_zero (principal_id table p)) (by_id table p)
kept table owner h = record { rank = refl; id = refl; below = omega arith; named = refl }
kept table (user name) h = by (id_of_name table.users name) h
  where
    by : (o : Option ℕ) → IsSomeId o → IsKept (user name) (id_or_zero o) (user (digits_or o name))
    by (Some id) h = record { rank = refl; id = digits_spell id h; below = omega (arith, h); named = refl }
    by None h = absurd h
kept table group h = record { rank = refl; id = refl; below = omega arith; named = refl }
kept table (group_named name) h = by (id_of_name table.groups name) h
  where
    by : (o : Option ℕ) → IsSomeId o → IsKept (group_named name) (id_or_zero o) (group_named (digits_or o name))
    by (Some id) h = record { rank = refl; id = digits_spell id h; below = omega (arith, h); named = refl }
    by None h = absurd h
kept table everyone h = record { rank = refl; id = refl; below = omega arith; named = refl }

-- the number of an ACE with the digits of its id, from the sort of the ACE and the id
pub number_with_id : (table : Table) (a : Ace) (mask sort id : ℕ) → HasId table (principal_of a) → mask ≡ a.mask
    → sort ≡ sort_number (principal_of a) a.kind → id ≡ id_or_zero (principal_id table (principal_of a))
    → mask + 2 ^ 28 * sort + 2 ^ 32 * id ≡ id_ace_number (principal_of (with_id table a)) a.kind a.mask
number_with_id table a mask sort id known mask_is sort_is id_is =
    let k = kept table (principal_of a) known in
    let same = with_id_names table a known in
    rw (same, k.id, k.rank, mask_is, sort_is, id_is) refl

-- ---- the ACEs of a list

-- a valid ACE that takes part, with the digits of its id
id_part : (table : Table) (a : Ace) → IsAce full a → HasId table (principal_of a) → takes_part a ≡ true
    → IsIdPart (with_id table a)
id_part table a is known part =
    let k = kept table (principal_of a) known in
    let same = with_id_names table a known in
    record {
      mask = is.mask;
      part = part;
      id = rw (same, k.id) k.below;
      named = rw (same, k.id, k.rank) k.named;
    }

-- the valid ACEs that take part, with the digits of their ids
pub all_id_parts : (table : Table) (list : List Ace) → AllByRecursion (IsAce full) list → HaveIds table list
    → AreIdParts (filter takes_part (with_ids table list))
all_id_parts table [] each known = tt
all_id_parts table (a ∷ list) each known = by (all_id_parts table list each.1 known.1) (takes_part a) refl
  where
    parts : List Ace
    parts = filter takes_part (with_ids table list)

    by : AreIdParts parts → (t : Bool) → takes_part a ≡ t
        → AreIdParts (filter takes_part (with_ids table (a ∷ list)))
    by rest true e = subst (λ (t : Bool). AreIdParts (cond t (with_id table a ∷ parts) parts)) (sym e)
        (id_part table a each.0 known.0 e, rest)
    by rest false e = subst (λ (t : Bool). AreIdParts (cond t (with_id table a ∷ parts) parts)) (sym e) rest
