-- The ids that a list names, ACE by ACE, and up to a bound.
use Rattle.std.proofs.Common.{◌≡◌, ◌≤◌, ◌<◌, ◌+◌, ◌-◌, ℕ, Bool, true, false, List, [], ◌∷◌, ◌++◌, Option, None, Some, refl, sym, ap, subst, ◌∙◌, arith, length}
use Rattle.std.specs.Prelude.{◌==◌, ◌||◌, if◌then◌else◌}
use Rattle.std.specs.FinMap as set
use Rattle.std.specs.List.{list_any}
use Rattle.std.proofs.lemmas.Bool.{eqb-true, or_parts}
use Rattle.std.proofs.lemmas.List.{length-append, length-map, map-append}
use Rattle.std.proofs.lemmas.List.Folds.{list_any-append}
use Rattle.acl_perm.proofs.Bools.{or_false_right, or_regroup}
use Rattle.acl_posix.specs.Check.{ids, is_member}
use Rattle.acl_posix.specs.Entries.{Entries}
use Rattle.acl_posix.specs.Names.{Table}
use Rattle.acl_posix.specs.declared.id.Id.{Id}
use Rattle.acl_nfs4.specs.Ace.{Ace}
use Rattle.acl_ids.specs.Ids.{HaveIds}
use Rattle.acl_to_posix.specs.ListNames.{AreMoreNames, AreNamesOf, AreOnce, relevant_group, relevant_user, is_number_of, names_group, names_user}
use Rattle.acl_to_posix.specs.LostGrants.{AreAtMost, IsLossFault}
use Rattle.acl_to_posix.specs.PosixOfList.{IsToPosixFault}
use Rattle.acl_to_posix.specs.ToPosix.{EntryShape, size_of}
use Rattle.acl_to_posix.specs.declared.posix_shape.ShapeFault.{ShapeFault}
use Rattle.acl_to_posix.specs.declared.posix_shape.ShapeFault.TheVariants as faults
use Rattle.acl_to_posix.specs.internal.ListNamesBody.{AreJust, AreMore, AreNamesAbove, IsIdsAbove, IsNamesFault}
use Rattle.acl_to_posix.specs.internal.LossBody.{IsCountFault}
use Rattle.acl_to_posix.proofs.no_greatest.FreeIds.{eqb_comm}

-- one more ACE
pub named_more : (of : Ace → Option ℕ) (old new : List Id) (a : Ace) (list rest : List Ace) (id : ℕ) (found : Option ℕ)
    (whole : Bool) → list ≡ a ∷ rest → found ≡ of a
    → is_member id (ids new) ≡ (is_member id (ids old) || is_number_of found id)
    → (is_member id (ids old) || list_any (λ x. is_number_of (of x) id) list) ≡ whole
    → (is_member id (ids new) || list_any (λ x. is_number_of (of x) id) rest) ≡ whole
named_more of old new a list rest id found whole next is added before =
    let test = λ (x : Ace). is_number_of (of x) id in
    ap (λ (b : Bool). b || list_any test rest)
    (added ∙ ap (λ (o : Option ℕ). is_member id (ids old) || is_number_of o id) is)
    ∙ or_regroup (is_member id (ids old)) (test a) (list_any test rest)
    ∙ ap (λ (l : List Ace). is_member id (ids old) || list_any test l) (sym next)
    ∙ before

-- after the last ACE
pub named_all : (of : Ace → Option ℕ) (so_far : List Id) (rest : List Ace) (id : ℕ) (whole : Bool) → rest ≡ []
    → (is_member id (ids so_far) || list_any (λ x. is_number_of (of x) id) rest) ≡ whole
    → is_member id (ids so_far) ≡ whole
named_all of so_far rest id whole none before =
    sym (or_false_right (is_member id (ids so_far)))
    ∙ ap (λ (l : List Ace). is_member id (ids so_far) || list_any (λ x. is_number_of (of x) id) l) (sym none)
    ∙ before

-- a number that is not there is not there after another one is added
still_lacks : (n m : ℕ) (xs : List ℕ) → is_member m xs ≡ false → (n == m) ≡ false → is_member m (xs ++ n ∷ []) ≡ false
still_lacks n m [] lacking differ = rw differ refl
still_lacks n m (x ∷ xs) lacking differ =
    let two = or_parts (x == m) (is_member m xs) lacking in rw (two.0, still_lacks n m xs two.1 differ) refl

-- a number that is not there leaves each number once
still_once : (n : ℕ) (xs : List ℕ) → is_member n xs ≡ false → AreOnce xs → AreOnce (xs ++ n ∷ [])
still_once n [] lacking once = (refl, tt)
still_once n (x ∷ xs) lacking once =
    let two = or_parts (x == n) (is_member n xs) lacking in
    (still_lacks n x xs once.0 (eqb_comm n x ∙ two.0), still_once n xs two.1 once.1)

-- the same for ids
pub once_more : (old new : List Id) (id : Id) → is_member id.value (ids old) ≡ false → new ≡ old ++ id ∷ []
    → AreOnce (ids old) → AreOnce (ids new)
once_more old new id lacking pushed once = rw pushed (subst AreOnce
    (sym (map-append (λ (i : Id). i.value) old (id ∷ []))) (still_once id.value (ids old) lacking once))

-- ---- the ids that are left when the bound is passed

-- numbers with one more, unless it is there
abbrev with_number : List ℕ → Option ℕ → List ℕ
with_number xs None = xs
with_number xs (Some n) = if is_member n xs then xs else xs ++ n ∷ []

-- numbers with those of more ACEs
abbrev pub with_numbers : (Ace → Option ℕ) → List ℕ → List Ace → List ℕ
with_numbers of xs [] = xs
with_numbers of xs (a ∷ list) = with_numbers of (with_number xs (of a)) list

-- what is among the numbers with one more
member_with : (id : ℕ) (xs : List ℕ) (o : Option ℕ)
    → is_member id (with_number xs o) ≡ (is_member id xs || is_number_of o id)
member_with id xs None = sym (or_false_right (is_member id xs))
member_with id xs (Some n) = by (is_member n xs) (n == id) refl refl
  where
    by : (there same : Bool) → is_member n xs ≡ there → (n == id) ≡ same
        → is_member id (if there then xs else xs ++ n ∷ []) ≡ (is_member id xs || same)
    by true true t s = rw (ap (λ (m : ℕ). is_member m xs) (sym (eqb-true n id s)) ∙ t) refl
    by true false t s = sym (or_false_right (is_member id xs))
    by false same t s = list_any-append (λ one. one == id) xs (n ∷ [])
        ∙ ap (λ (b : Bool). is_member id xs || b) (or_false_right (n == id) ∙ s)

-- each number is there once
once_with : (xs : List ℕ) (o : Option ℕ) → AreOnce xs → AreOnce (with_number xs o)
once_with xs None once = once
once_with xs (Some n) once = by (is_member n xs) refl
  where
    by : (there : Bool) → is_member n xs ≡ there → AreOnce (if there then xs else xs ++ n ∷ [])
    by true t = once
    by false t = still_once n xs t once

-- the numbers grow
grows_with : (xs : List ℕ) (o : Option ℕ) → length xs ≤ length (with_number xs o)
grows_with xs None = omega arith
grows_with xs (Some n) = by (is_member n xs)
  where
    by : (there : Bool) → length xs ≤ length (if there then xs else xs ++ n ∷ [])
    by true = omega arith
    by false = let more = length-append xs (n ∷ []) in omega (arith, more)

-- the same for the ACEs of a list
pub grow : (of : Ace → Option ℕ) (xs : List ℕ) (list : List Ace) → length xs ≤ length (with_numbers of xs list)
grow of xs [] = omega arith
grow of xs (a ∷ list) =
    let first = grows_with xs (of a) in
    let rest = grow of (with_number xs (of a)) list in
    omega (arith, first, rest)

-- numbers with those of a list are those that are among them or that an ACE names, each once
pub all_just : (of : Ace → Option ℕ) (xs : List ℕ) (list : List Ace) → AreOnce xs
    → AreJust (λ id. is_member id xs || list_any (λ a. is_number_of (of a) id) list) (with_numbers of xs list)
all_just of xs [] once = record { members = λ id. sym (or_false_right (is_member id xs)); once = once }
all_just of xs (a ∷ list) once =
    let rest = all_just of (with_number xs (of a)) list (once_with xs (of a) once) in record {
      members = λ id. rest.members id
          ∙ ap (λ (b : Bool). b || list_any (λ x. is_number_of (of x) id) list) (member_with id xs (of a))
          ∙ or_regroup (is_member id xs) (is_number_of (of a) id) (list_any (λ x. is_number_of (of x) id) list);
      once = rest.once;
    }

-- where the ids so far are more than the bound, all of them are
pub more_above : (most : ℕ) (of : Ace → Option ℕ) (so_far : List Id) (rest : List Ace) (test : ℕ → Bool)
    → AreOnce (ids so_far)
    → ((id : ℕ) → (is_member id (ids so_far) || list_any (λ a. is_number_of (of a) id) rest) ≡ test id)
    → most < length so_far → AreMore most test
more_above most of so_far rest test once before above =
    let just = all_just of (ids so_far) rest once in
    let same = length-map so_far (λ (id : Id). id.value) in
    let longer = grow of (ids so_far) rest in record {
      all = with_numbers of (ids so_far) rest;
      just = record { members = λ id. just.members id ∙ before id; once = just.once };
      more = omega (arith, same, longer, above);
    }

-- ---- users and groups

-- the names of a list are its users and its groups
pub names_are : (table : Table) (list : List Ace) (users groups : List ℕ) → AreJust (names_user table list) users
    → AreJust (names_group table list) groups → AreNamesOf table list (record { users = users; groups = groups })
names_are table list users groups u g =
    record { users = u.members; groups = g.members; users_once = u.once; groups_once = g.once }

-- with more users than the bound, the names are more
pub more_users : (table : Table) (list : List Ace) (most : ℕ) → AreMore most (names_user table list)
    → AreMoreNames most table list
more_users table list most h =
    let groups = with_numbers (relevant_group table) [] list in record {
      named = record { users = h.all; groups = groups };
      names = names_are table list h.all groups h.just (all_just (relevant_group table) [] list tt);
      more = omega (arith, h.more);
    }

-- with more groups than the users leave of the bound, the names are more
pub more_groups : (table : Table) (list : List Ace) (most left : ℕ) (users : List ℕ)
    → AreJust (names_user table list) users → length users ≤ most → left ≡ most - length users
    → AreMore left (names_group table list) → AreMoreNames most table list
more_groups table list most left users u few is h = record {
  named = record { users = users; groups = h.all };
  names = names_are table list users h.all u h.just;
  more = omega (arith, few, is, h.more);
}

-- the users alone are more than the bound, or memory ran out
pub users_above : (table : Table) (list : List Ace) (most : ℕ) (f : ShapeFault)
    → IsIdsAbove most (names_user table list) f → AreNamesAbove table list most f
users_above table list most (faults.NoId place) h = absurd h
users_above table list most faults.Memory h = tt
users_above table list most faults.TooManyNames h = more_users table list most h

-- with some users the groups are more than the rest of the bound, or memory ran out
pub groups_above : (table : Table) (list : List Ace) (most left : ℕ) (users : List Id) (f : ShapeFault)
    → AreJust (names_user table list) (ids users) → length users ≤ most → left ≡ most - length users
    → IsIdsAbove left (names_group table list) f → AreNamesAbove table list most f
groups_above table list most left users (faults.NoId place) u few is h = absurd h
groups_above table list most left users faults.Memory u few is h = tt
groups_above table list most left users faults.TooManyNames u few is h =
    let same = length-map users (λ (id : Id). id.value) in
    more_groups table list most left (ids users) u (omega (arith, same, few)) (omega (arith, same, is)) h

-- why the names are not returned is why a list has no ACL
pub names_fault : (table : Table) (list : List Ace) (most bound : ℕ) (f : ShapeFault) → bound ≡ most
    → HaveIds table list → IsNamesFault table list bound f → IsToPosixFault table list most f
names_fault table list most bound (faults.NoId place) is known h = absurd h
names_fault table list most bound faults.TooManyNames is known h =
    (known, record { named = h.named; names = h.names; more = omega (arith, is, h.more) })
names_fault table list most bound faults.Memory is known h =
    (known, record { named = h.named; names = h.names; few = omega (arith, is, h.few) })

-- why the names and the entries are not within the bound is why no loss is sought
pub loss_fault : (table : Table) (list : List Ace) (entries : Entries) (most : ℕ) (f : ShapeFault) → HaveIds table list
    → IsCountFault table list entries most f → IsLossFault table list entries most f
loss_fault table list entries most (faults.NoId place) known h = absurd h
loss_fault table list entries most faults.TooManyNames known h = (known, h)
loss_fault table list entries most faults.Memory known h = (known, h)

-- the names of a list
pub all_names : (table : Table) (list : List Ace) → AreNamesOf table list (record {
  users = with_numbers (relevant_user table) [] list;
  groups = with_numbers (relevant_group table) [] list;
})
all_names table list = names_are table list _ _ (all_just (relevant_user table) [] list tt)
    (all_just (relevant_group table) [] list tt)

-- the names are as many as the entries leave of the bound
pub few_beside : (table : Table) (list : List Ace) (entries : Entries) (most left : ℕ) (named : EntryShape)
    → left + length (set.entries entries) ≡ most → AreNamesOf table list named → size_of named ≤ left
    → AreAtMost most table list entries
few_beside table list entries most left named is names few =
    record { named = named; names = names; few = omega (arith, is, few) }

-- why the names are not returned, where the entries leave so much of the bound
pub count_fault : (table : Table) (list : List Ace) (entries : Entries) (most left : ℕ) (f : ShapeFault)
    → left + length (set.entries entries) ≡ most → IsNamesFault table list left f
    → IsCountFault table list entries most f
count_fault table list entries most left (faults.NoId place) is h = absurd h
count_fault table list entries most left faults.TooManyNames is h =
    let more = h.more in record { named = h.named; names = h.names; more = omega (arith, is, more) }
count_fault table list entries most left faults.Memory is h =
    few_beside table list entries most left h.named is h.names h.few
