-- What is known of a search of a loss: its answer is a loss, and without an answer nothing is lost.
use Rattle.std.proofs.Common.{◌≡◌, ◌≤◌, ℕ, true, false, List, ◌++◌, Option, None, Some, refl, sym, ap, ◌∙◌, arith, inl, inr, length}
use Rattle.std.proofs.lemmas.Bool.{false≢true, true≢false}
use Rattle.std.specs.Prelude.{◌↔◌, IfSome}
use Rattle.std.specs.List.{AllByRecursion}
use Rattle.std.specs.FinMap as fin
use Rattle.acl_perm.proofs.Bools.{and_true, not_true}
use Rattle.acl_perm.specs.Bits.{IsPerm, has_bit}
use Rattle.acl_perm.specs.Situation.{Situation}
use Rattle.acl_posix.specs.Check.{Object, Requester, grants, is_member}
use Rattle.acl_posix.specs.Entries.{Entries}
use Rattle.acl_posix.specs.Tag.{Tag, qualifier}
use Rattle.acl_posix.specs.Valid.{IsValid}
use Rattle.acl_nfs4.specs.Ace.{Ace}
use Rattle.acl_eval.specs.Bridge.{image}
use Rattle.acl_eval.specs.BridgeLaws.{IsAsked, by_name}
use Rattle.acl_eval.specs.Grant.{Grant, grants_bit}
use Rattle.acl_to_posix.specs.LostGrants.{IsExact, IsLossOf, KeepsSingles, lost_object, lost_requester}
use Rattle.acl_to_posix.specs.ToPosix.{IsSound}
use Rattle.acl_to_posix.specs.internal.LossBody.{AreKept, AreUnused, IsFound, entry_numbers, key_numbers, search_of, used_numbers}
use Rattle.acl_to_posix.specs.internal.ShapeBody.{IsColumnOf, has_tag, keys_of}
use Rattle.acl_to_posix.specs.declared.losing.LostGrant.{LostGrant}
use Rattle.acl_to_posix.specs.declared.losing.unused.Unused.{Unused}
use Rattle.acl_to_posix.specs.declared.losing.Wanted.{Wanted}
use Rattle.acl_to_posix.specs.declared.tag_column.TagColumns.{TagColumns}
use Rattle.acl_to_posix.proofs.losses.ChosenSituations.{nothing_lost}
use Rattle.acl_eval.proofs.Images.{image_right, rights}
use Rattle.acl_to_posix.proofs.shapes.ShapeChecks.{all_contain}
use Rattle.acl_eval.proofs.Singles.{single_execute, single_read, single_small, single_write}
use Rattle.acl_to_posix.proofs.losses.UnusedIds.{entries_named}
use Rattle.acl_to_posix.proofs.no_greatest.FreeIds.{is_member-numbers, is_member-append_left, is_member-append_right}
use Rattle.acl_eval.proofs.BridgeLaws.{All-ids}

-- ---- the rights of a permission

-- the rights of a permission are granted if each of them is
grant_of : (list : List Ace) (s : Situation) (want : ℕ) → IsPerm want
    → (has_bit want 2 ≡ true → grants_bit list s 0 ≡ true)
    → (has_bit want 1 ≡ true → (grants_bit list s 1 ≡ true) × (grants_bit list s 2 ≡ true))
    → (has_bit want 0 ≡ true → grants_bit list s 5 ≡ true)
    → Grant list s (image want)
grant_of list s want few r w x bit has = elim (image_right want bit few has) [
  | inl at ↦ rw at.0 (r at.1)
  | inr more ↦ elim more [
    | inl at ↦ rw at.0 (w at.1).0
    | inr rest ↦ elim rest [
      | inl at ↦ rw at.0 (w at.1).1
      | inr at ↦ rw at.0 (x at.1)
    ]
  ]
]

-- if READ_DATA is granted, the rights of r are granted
pub grant_read : (list : List Ace) (s : Situation) → grants_bit list s 0 ≡ true → Grant list s (image 4)
grant_read list s h =
    grant_of list s 4 (omega arith) (λ has. h) (λ has. absurd (false≢true has)) (λ has. absurd (false≢true has))

-- if WRITE_DATA and APPEND_DATA are granted, the rights of w are granted
pub grant_write : (list : List Ace) (s : Situation) → grants_bit list s 1 ≡ true → grants_bit list s 2 ≡ true
    → Grant list s (image 2)
grant_write list s h g =
    grant_of list s 2 (omega arith) (λ has. absurd (false≢true has)) (λ has. (h, g)) (λ has. absurd (false≢true has))

-- if EXECUTE is granted, the rights of x are granted
pub grant_execute : (list : List Ace) (s : Situation) → grants_bit list s 5 ≡ true → Grant list s (image 1)
grant_execute list s h =
    grant_of list s 1 (omega arith) (λ has. absurd (false≢true has)) (λ has. absurd (false≢true has)) (λ has. h)

-- if the rights of r are granted, READ_DATA is granted
pub read_granted : (list : List Ace) (s : Situation) → Grant list s (image 4) → grants_bit list s 0 ≡ true
read_granted list s g = g 0 (rights.read_data.same 4 (omega arith))

-- if the rights of w are granted, WRITE_DATA is granted
pub write_granted : (list : List Ace) (s : Situation) → Grant list s (image 2) → grants_bit list s 1 ≡ true
write_granted list s g = g 1 (rights.write_data.same 2 (omega arith))

-- if the rights of w are granted, APPEND_DATA is granted
pub append_granted : (list : List Ace) (s : Situation) → Grant list s (image 2) → grants_bit list s 2 ≡ true
append_granted list s g = g 2 (rights.append_data.same 2 (omega arith))

-- if the rights of x are granted, EXECUTE is granted
pub execute_granted : (list : List Ace) (s : Situation) → Grant list s (image 1) → grants_bit list s 5 ≡ true
execute_granted list s g = g 5 (rights.execute.same 1 (omega arith))

-- ---- what is known of a search

-- its two columns are those of two rights of the list, and its ids are unused
pub record IsSearchOf (list : List Ace) (E : Entries) (bit second : ℕ) (want : ℕ) (wanted : Wanted) : Type 0 where
  pub one : IsColumnOf list bit wanted.first.now
  pub two : IsColumnOf list second wanted.second.now
  pub perm : wanted.perm.bits ≡ want
  pub valid : IsValid E

-- the object and the requester of a loss are given by ids
asked_of : (lost : LostGrant) → IsAsked (lost_object lost) (lost_requester lost)
asked_of lost = record {
  owner = lost.owner.within;
  owning_group = lost.group.within;
  asker = lost.user.within;
  groups = All-ids lost.groups.items;
}

-- a loss that was found: both rights are granted, and the permission is not
pub record IsRefused (list : List Ace) (E : Entries) (bit second want : ℕ) (lost : LostGrant) : Type 0 where
  pub asked : IsAsked (lost_object lost) (lost_requester lost)
  pub perm : lost.perm.bits ≡ want
  pub one : grants_bit list (by_name (lost_object lost) (lost_requester lost)) bit ≡ true
  pub two : grants_bit list (by_name (lost_object lost) (lost_requester lost)) second ≡ true
  pub denied : grants E (lost_object lost) (lost_requester lost) lost.perm.bits ≡ false
  pub few : length lost.groups.items ≤ 3

-- what a search finds is a situation in which the list grants both rights and the ACL denies the permission
pub found : (list : List Ace) (E : Entries) (bit second want : ℕ) (wanted : Wanted) (unused : Unused) (lost : LostGrant)
    → IsSearchOf list E bit second want wanted → IsFound (search_of wanted E unused) lost
    → IsRefused list E bit second want lost
found list E bit second want wanted unused lost is f =
    let asked = asked_of lost in
    let more = and_true _ _ f.here in
    let last = and_true _ _ more.1 in
    record {
      asked = asked;
      perm = f.perm ∙ is.perm;
      one = is.one.decides (lost_object lost) (lost_requester lost) asked ∙ more.0;
      two = is.two.decides (lost_object lost) (lost_requester lost) asked ∙ last.0;
      denied = ap (grants E (lost_object lost) (lost_requester lost)) f.perm ∙ not_true _ last.1;
      few = f.few;
    }

-- such a situation for READ_DATA and r is a loss
pub found_read : (list : List Ace) (E : Entries) (lost : LostGrant) → IsRefused list E 0 0 4 lost → IsLossOf list E lost
found_read list E lost r = record {
  asked = r.asked;
  single = single_read lost.perm.bits r.perm;
  granted = rw r.perm (grant_read list (by_name (lost_object lost) (lost_requester lost)) r.one);
  denied = r.denied;
  few = r.few;
}

-- such a situation for WRITE_DATA, APPEND_DATA and w is a loss
pub found_write : (list : List Ace) (E : Entries) (lost : LostGrant) → IsRefused list E 1 2 2 lost
    → IsLossOf list E lost
found_write list E lost r = record {
  asked = r.asked;
  single = single_write lost.perm.bits r.perm;
  granted = rw r.perm (grant_write list (by_name (lost_object lost) (lost_requester lost)) r.one r.two);
  denied = r.denied;
  few = r.few;
}

-- such a situation for EXECUTE and x is a loss
pub found_execute : (list : List Ace) (E : Entries) (lost : LostGrant) → IsRefused list E 5 5 1 lost
    → IsLossOf list E lost
found_execute list E lost r = record {
  asked = r.asked;
  single = single_execute lost.perm.bits r.perm;
  granted = rw r.perm (grant_execute list (by_name (lost_object lost) (lost_requester lost)) r.one);
  denied = r.denied;
  few = r.few;
}

-- without an answer, the ACL grants the permission wherever the list grants both rights
pub kept : (list : List Ace) (E : Entries) (bit second want : ℕ) (wanted : Wanted) (unused : Unused) (used : List ℕ)
    → IsSearchOf list E bit second want wanted → AreUnused used unused
    → ((t : Tag) → has_tag t (keys_of wanted.first.now) ≡ true → is_member (qualifier t) used ≡ true)
    → ((t : Tag) → has_tag t (keys_of wanted.second.now) ≡ true → is_member (qualifier t) used ≡ true)
    → AllByRecursion (λ entry. is_member (qualifier entry.0) used ≡ true) (fin.entries E)
    → AreKept (search_of wanted E unused) (fin.entries E)
    → (object : Object) (requester : Requester) → IsAsked object requester
    → grants_bit list (by_name object requester) bit ≡ true → grants_bit list (by_name object requester) second ≡ true
    → grants E object requester want ≡ true
kept list E bit second want wanted unused used is u first two entries all object requester asked g h =
    ap (grants E object requester) (sym is.perm)
    ∙ nothing_lost (search_of wanted E unused) used is.valid (all_contain wanted.perm.bits wanted.perm.within)
    (record {
      first = first;
      second = two;
      entries = entries;
      one_free = u.one;
      next_free = u.next;
      differ = u.differ;
    }) all object requester (sym (is.one.decides object requester asked) ∙ g)
    (sym (is.two.decides object requester asked) ∙ h)

-- ---- exact

-- a sound ACL is exact if and only if it grants each single permission that the list grants
pub sound_is_exact : (list : List Ace) (E : Entries) → IsSound list E → KeepsSingles list E ↔ IsExact list E
sound_is_exact list E sound = (
  λ keeps object requester want asked single.
      (keeps object requester want asked single, sound object requester asked want (single_small want single)),
  λ exact object requester want asked single. (exact object requester want asked single).0,
)

-- a loss of a sound ACL is found if and only if the two are not exact
pub exact_of : (list : List Ace) (E : Entries) (lost : Option LostGrant) → IsSound list E
    → IfSome lost (IsLossOf list E) → (lost ≡ None → KeepsSingles list E) → lost ≡ None ↔ IsExact list E
exact_of list E lost sound found kept =
    (λ none. (sound_is_exact list E sound).0 (kept none), λ exact. by exact lost found)
  where
    by : IsExact list E → (lost : Option LostGrant) → IfSome lost (IsLossOf list E) → lost ≡ None
    by exact None found = refl
    by exact (Some l) found =
        let granted = (exact (lost_object l) (lost_requester l) l.perm.bits found.asked found.single).0 found.granted in
        absurd (true≢false (sym granted ∙ found.denied))

-- ---- the numbers of the columns and of the entries

-- the parts of the numbers that are used
record AreParts (r w a x e : List ℕ) : Type 0 where
  read : (n : ℕ) → is_member n r ≡ true → is_member n ((((r ++ w) ++ a) ++ x) ++ e) ≡ true
  write : (n : ℕ) → is_member n w ≡ true → is_member n ((((r ++ w) ++ a) ++ x) ++ e) ≡ true
  append : (n : ℕ) → is_member n a ≡ true → is_member n ((((r ++ w) ++ a) ++ x) ++ e) ≡ true
  execute : (n : ℕ) → is_member n x ≡ true → is_member n ((((r ++ w) ++ a) ++ x) ++ e) ≡ true
  entries : (n : ℕ) → is_member n e ≡ true → is_member n ((((r ++ w) ++ a) ++ x) ++ e) ≡ true

-- the numbers of each of five lists are among those of all five
parts : (r w a x e : List ℕ) → AreParts r w a x e
parts r w a x e = record {
  read = λ n h. is_member-append_left n (((r ++ w) ++ a) ++ x) e
      (is_member-append_left n ((r ++ w) ++ a) x (is_member-append_left n (r ++ w) a (is_member-append_left n r w h)));
  write = λ n h. is_member-append_left n (((r ++ w) ++ a) ++ x) e
      (is_member-append_left n ((r ++ w) ++ a) x (is_member-append_left n (r ++ w) a (is_member-append_right n r w h)));
  append = λ n h. is_member-append_left n (((r ++ w) ++ a) ++ x) e
      (is_member-append_left n ((r ++ w) ++ a) x (is_member-append_right n (r ++ w) a h));
  execute = λ n h. is_member-append_left n (((r ++ w) ++ a) ++ x) e (is_member-append_right n ((r ++ w) ++ a) x h);
  entries = λ n h. is_member-append_right n (((r ++ w) ++ a) ++ x) e h;
}

-- the tags of the columns and of the entries have these numbers
pub record AreTagsOf (columns : TagColumns) (E : Entries) : Type 0 where
  pub read : (t : Tag) → has_tag t (keys_of columns.read.items) ≡ true
      → is_member (qualifier t) (used_numbers columns E) ≡ true
  pub write : (t : Tag) → has_tag t (keys_of columns.write.items) ≡ true
      → is_member (qualifier t) (used_numbers columns E) ≡ true
  pub append : (t : Tag) → has_tag t (keys_of columns.append.items) ≡ true
      → is_member (qualifier t) (used_numbers columns E) ≡ true
  pub execute : (t : Tag) → has_tag t (keys_of columns.execute.items) ≡ true
      → is_member (qualifier t) (used_numbers columns E) ≡ true
  pub entries : AllByRecursion (λ entry. is_member (qualifier entry.0) (used_numbers columns E) ≡ true) (fin.entries E)

-- the tags of the columns and of the entries have used numbers
pub tags_used : (columns : TagColumns) (E : Entries) → AreTagsOf columns E
tags_used columns E =
    let p = parts (key_numbers (keys_of columns.read.items)) (key_numbers (keys_of columns.write.items))
    (key_numbers (keys_of columns.append.items)) (key_numbers (keys_of columns.execute.items))
    (entry_numbers (fin.entries E)) in
    record {
      read = λ t h. p.read (qualifier t) (is_member-numbers t (keys_of columns.read.items) h);
      write = λ t h. p.write (qualifier t) (is_member-numbers t (keys_of columns.write.items) h);
      append = λ t h. p.append (qualifier t) (is_member-numbers t (keys_of columns.append.items) h);
      execute = λ t h. p.execute (qualifier t) (is_member-numbers t (keys_of columns.execute.items) h);
      entries = entries_named (fin.entries E) (used_numbers columns E) p.entries;
    }
