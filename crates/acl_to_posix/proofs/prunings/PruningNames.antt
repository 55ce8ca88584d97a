-- The users and the groups that a list names by a table are those that it names by the digits of their ids.
use Rattle.std.proofs.Common.{◌≡◌, ℕ, Bool, true, List, [], ◌∷◌, Option, None, Some, refl, sym, ap, subst, ◌∙◌, arith}
use Rattle.std.proofs.lemmas.Bool.{eq-eqb}
use Rattle.std.proofs.lemmas.Fmt.{decimal_injective}
use Rattle.std.specs.Prelude.{◌||◌}
use Rattle.acl_perm.proofs.Bools.{or_true_right}
use Rattle.acl_perm.specs.Principal.{Principal, owner, user, group, group_named, everyone}
use Rattle.acl_posix.specs.Check.{is_member}
use Rattle.acl_posix.specs.Names.{Table}
use Rattle.acl_nfs4.specs.Ace.{Ace}
use Rattle.acl_nfs4.specs.Who.{principal_of}
use Rattle.acl_ids.specs.Ids.{HasId, HaveIds, IsSomeId, by_id, digits_or, id_of_name, with_ids}
use Rattle.acl_to_posix.specs.ListNames.{AreNamesOf, relevant_group, relevant_user, group_id_in, is_ace_relevant, is_number_of, names_group, names_user, user_id_in}
use Rattle.acl_to_posix.specs.PruningLaws.{HasNamesOf, IsNameIn}
use Rattle.acl_to_posix.specs.ToPosix.{EntryShape}
use Rattle.acl_ids.proofs.IdNames.{with_id_names}

-- the users and the groups of a shape are at least those that some ACEs name
record AreNamed (table : Table) (list : List Ace) (shape : EntryShape) : Type 0 where
  users : (id : ℕ) → names_user table list id ≡ true → is_member id shape.users ≡ true
  groups : (id : ℕ) → names_group table list id ≡ true → is_member id shape.groups ≡ true

-- a relevant ACE that names a user
counted_is : (table : Table) (a : Ace) (id : ℕ) → is_ace_relevant a ≡ true
    → user_id_in table (principal_of a) ≡ Some id → is_number_of (relevant_user table a) id ≡ true
counted_is table a id counts is = rw (counts, is) (eq-eqb id id refl)

-- or a group
counted_group_is : (table : Table) (a : Ace) (id : ℕ) → is_ace_relevant a ≡ true
    → group_id_in table (principal_of a) ≡ Some id → is_number_of (relevant_group table a) id ≡ true
counted_group_is table a id counts is = rw (counts, is) (eq-eqb id id refl)

-- the name of its id is in the shape
name_in : (table : Table) (shape : EntryShape) (a : Ace) (p : Principal) → principal_of a ≡ p → HasId table p
    → is_ace_relevant a ≡ true
    → ((id : ℕ) → is_number_of (relevant_user table a) id ≡ true → is_member id shape.users ≡ true)
    → ((id : ℕ) → is_number_of (relevant_group table a) id ≡ true → is_member id shape.groups ≡ true)
    → IsNameIn shape (by_id table p)
name_in table shape a owner is known counts users groups = tt
name_in table shape a (user name) is known counts users groups = by (id_of_name table.users name) refl known
  where
    by : (o : Option ℕ) → id_of_name table.users name ≡ o → IsSomeId o → IsNameIn shape (user (digits_or o name))
    by None e h = absurd h
    by (Some n) e h = λ id small same.
        subst (λ (k : ℕ). is_member k shape.users ≡ true)
        (decimal_injective n id (omega (arith, h)) (omega (arith, small)) same)
        (users n (counted_is table a n counts (ap (user_id_in table) is ∙ e)))
name_in table shape a group is known counts users groups = tt
name_in table shape a (group_named name) is known counts users groups = by (id_of_name table.groups name) refl known
  where
    by : (o : Option ℕ) → id_of_name table.groups name ≡ o → IsSomeId o
        → IsNameIn shape (group_named (digits_or o name))
    by None e h = absurd h
    by (Some n) e h = λ id small same.
        subst (λ (k : ℕ). is_member k shape.groups ≡ true)
        (decimal_injective n id (omega (arith, h)) (omega (arith, small)) same)
        (groups n (counted_group_is table a n counts (ap (group_id_in table) is ∙ e)))
name_in table shape a everyone is known counts users groups = tt

-- a shape with the users and the groups that a list names has those of the list with digits for its names
names_in : (table : Table) (list : List Ace) (shape : EntryShape) → HaveIds table list → AreNamed table list shape
    → HasNamesOf shape (with_ids table list)
names_in table [] shape known n = tt
names_in table (a ∷ list) shape known n = (
  λ counts. subst (IsNameIn shape) (sym (with_id_names table a known.0))
      (name_in table shape a (principal_of a) refl known.0 counts
      (λ id h. n.users id (ap (λ (b : Bool). b || names_user table list id) h))
      (λ id h. n.groups id (ap (λ (b : Bool). b || names_group table list id) h))),
  names_in table list shape known.1 (record {
    users = λ id h. n.users id (ap (λ (b : Bool). is_number_of (relevant_user table a) id || b) h
        ∙ or_true_right (is_number_of (relevant_user table a) id));
    groups = λ id h. n.groups id (ap (λ (b : Bool). is_number_of (relevant_group table a) id || b) h
        ∙ or_true_right (is_number_of (relevant_group table a) id));
  }),
)

-- a shape with the names of a list by a table has the names of the list with ids in place of names
pub all_names : (table : Table) (list : List Ace) (shape : EntryShape) → HaveIds table list
    → AreNamesOf table list shape → HasNamesOf shape (with_ids table list)
all_names table list shape known names = names_in table list shape known (record {
  users = λ id h. names.users id ∙ h;
  groups = λ id h. names.groups id ∙ h;
})
