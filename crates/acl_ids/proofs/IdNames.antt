-- The digits of an id in place of a name: whom the ACE names then.
use Rattle.std.proofs.Common.{◌≡◌, ℕ, Bool, true, false, List, Option, Some, None, refl, ap, sym, ◌∙◌}
use Rattle.std.specs.Prelude.{⊤, if◌then◌else◌}
use Rattle.std.proofs.lemmas.Iterator.Adapters.{position_from-zero}
use Rattle.std.specs.Fmt.{decimal}
use Rattle.std.specs.List.{position, position_from}
use Rattle.std.specs.Str.{bytes_eq}
use Rattle.acl_perm.specs.Bits.{has_bit, identifier_group}
use Rattle.acl_perm.specs.Principal.{Principal, owner, user, group, group_named, everyone}
use Rattle.acl_posix.specs.Id.{IsId}
use Rattle.acl_posix.specs.Names.{Table}
use Rattle.acl_nfs4.specs.Ace.{Ace}
use Rattle.acl_nfs4.specs.Who.{everyone_name, group_name, owner_name, principal_of}
use Rattle.acl_ids.specs.Ids.{HasId, IsSomeId, by_id, digits_or, id_of_name, principal_id, with_id}
use Rattle.acl_eval.proofs.BridgeNames.{not_everyone, not_group, not_owner}

-- an ACE that names a user does not have the flag IDENTIFIER_GROUP, and one that names a group has it
abbrev IsFlagOf : Ace → Principal → Type 0
IsFlagOf a owner = ⊤
IsFlagOf a (user name) = has_bit a.flags identifier_group ≡ false
IsFlagOf a group = ⊤
IsFlagOf a (group_named name) = has_bit a.flags identifier_group ≡ true
IsFlagOf a everyone = ⊤

-- each ACE has this flag, or lacks it, as its principal wants
flag_of : (a : Ace) → IsFlagOf a (principal_of a)
flag_of a = by (bytes_eq a.who owner_name) (bytes_eq a.who group_name) (bytes_eq a.who everyone_name)
    (has_bit a.flags identifier_group) refl refl refl refl
  where
    by : (o g e i : Bool) → bytes_eq a.who owner_name ≡ o → bytes_eq a.who group_name ≡ g
        → bytes_eq a.who everyone_name ≡ e → has_bit a.flags identifier_group ≡ i → IsFlagOf a (principal_of a)
    by true g e i p q r t = rw p tt
    by false true e i p q r t = rw (p, q) tt
    by false false true i p q r t = rw (p, q, r) tt
    by false false false true p q r t = rw (p, q, r, t) t
    by false false false false p q r t = rw (p, q, r, t) t

-- the ACE with this name
abbrev named : Ace → List ℕ → Ace
named a name = record { kind = a.kind; flags = a.flags; mask = a.mask; who = name }

-- an ACE whose name is the digits of an id names a user or a group
of_id : (a : Ace) (id : ℕ) → IsId id → principal_of (named a (decimal id))
    ≡ (if has_bit a.flags identifier_group then group_named (decimal id) else user (decimal id))
of_id a id h = rw (not_owner id h, not_group id h, not_everyone id h) refl

-- the ACE with the digits of its id names the same principal by these digits
pub with_id_names : (table : Table) (a : Ace) → HasId table (principal_of a)
    → principal_of (with_id table a) ≡ by_id table (principal_of a)
with_id_names table a known = at (principal_of a) refl known (flag_of a)
  where
    of_user : (o : Option ℕ) (name : List ℕ) → IsSomeId o → has_bit a.flags identifier_group ≡ false
        → principal_of (named a (digits_or o a.who)) ≡ user (digits_or o name)
    of_user (Some id) name h flag = of_id a id h
        ∙ ap (λ (b : Bool). if b then group_named (decimal id) else user (decimal id)) flag
    of_user None name h flag = absurd h

    of_group : (o : Option ℕ) (name : List ℕ) → IsSomeId o → has_bit a.flags identifier_group ≡ true
        → principal_of (named a (digits_or o a.who)) ≡ group_named (digits_or o name)
    of_group (Some id) name h flag = of_id a id h
        ∙ ap (λ (b : Bool). if b then group_named (decimal id) else user (decimal id)) flag
    of_group None name h flag = absurd h

    at : (p : Principal) → principal_of a ≡ p → HasId table p → IsFlagOf a p
        → principal_of (named a (digits_or (principal_id table p) a.who)) ≡ by_id table p
    at owner e h flag = e
    at (user name) e h flag = of_user (id_of_name table.users name) name h flag
    at group e h flag = e
    at (group_named name) e h flag = of_group (id_of_name table.groups name) name h flag
    at everyone e h flag = e

-- the first place of a list that begins at the place 0 is that of the list
pub position_from_start : {X : Type 0} (test : X → Bool) (xs : List X)
    → position_from test 0 xs ≡ position test xs
position_from_start test xs = sym (position_from-zero test xs)
