-- The list for one object: it is accepted, and it grants what the list grants for that object.
use Rattle.std.proofs.Common.{◌≡◌, ℕ, ◌+◌, Bool, true, false, cond, List, [], ◌∷◌, ◌++◌, refl, sym, ap, subst, ◌∙◌, append_assoc, arith}
use Rattle.std.specs.Prelude.{count_ones, not, ◌&&◌, ◌↔◌, Option, None, Some, unwrap_or}
use Rattle.std.specs.List.{AllByRecursion, position_from}
use Rattle.std.specs.Option.{is_none}
use Rattle.std.specs.Str.{bytes_eq}
use Rattle.std.proofs.lemmas.Bool.{and_parts, not-false}
use Rattle.std.proofs.lemmas.List.{length-map}
use Rattle.acl_perm.proofs.Bools.{and_true_right, or_true_right, or_false_right}
use Rattle.acl_perm.proofs.Sets.{has_bit-or}
use Rattle.acl_perm.specs.Bits.{has_bit, identifier_group, identifier_group_alone, IsDifference}
use Rattle.acl_perm.specs.Principal.{Principal, owner, user, group, group_named, everyone}
use Rattle.acl_perm.specs.Profile.{full}
use Rattle.acl_perm.specs.Situation.{IsName, IsSituation, Situation, matches}
use Rattle.acl_perm.specs.declared.kind.Kind.{Kind}
use Rattle.acl_perm.specs.declared.kind.Kind.TheVariants.{Deny}
use Rattle.acl_nfs4.specs.Ace.{Ace}
use Rattle.acl_nfs4.specs.Renamed.{is_account}
use Rattle.acl_nfs4.specs.Spelling.{IsAccepted, IsAce, weight}
use Rattle.acl_nfs4.specs.Who.{is_special, owner_name, group_name, everyone_name, principal_of, who_fault}
use Rattle.acl_nfs4.proofs.Exports.{account_is_who, front_accepted, weight-cons}
use Rattle.acl_eval.proofs.Children.{union_within}
use Rattle.acl_change.proofs.ListChmod.{difference_without, without_within}
use Rattle.acl_eval.proofs.Scans.{has_bit-without}
use Rattle.acl_eval.specs.Column.{column, first_kind, takes_part}
use Rattle.acl_eval.specs.Grant.{Grant, GrantsAtMost, grants_bit, is_allow, SameGrants}
use Rattle.acl_change.specs.Resolved.{GrantsAtMostFor, SameGrantsFor, first_nameless, for_group, for_user, lacks_name, resolved_ace, resolved_by, resolved_list}
use Rattle.acl_eval.specs.Situation.{named_situation}

-- ---- names

-- whom an ACE with such a name names
account_named : (a : Ace) → is_account a.who ≡ true
    → principal_of a ≡ cond (has_bit a.flags identifier_group) (group_named a.who) (user a.who)
account_named a e =
    by (bytes_eq a.who owner_name) (bytes_eq a.who group_name) (bytes_eq a.who everyone_name) refl refl refl
    (and_parts (is_none (who_fault a.who)) (not (is_special a.who)) e).1
  where
    by : (o g v : Bool) → bytes_eq a.who owner_name ≡ o → bytes_eq a.who group_name ≡ g
        → bytes_eq a.who everyone_name ≡ v → not (is_special a.who) ≡ true
        → principal_of a ≡ cond (has_bit a.flags identifier_group) (group_named a.who) (user a.who)
    by false false false p q r h = rw (p, q, r) refl
    by true g v p q r h = let no : not (is_special a.who) ≡ false = rw p refl in absurd cc
    by false true v p q r h = let no : not (is_special a.who) ≡ false = rw (p, q) refl in absurd cc
    by false false true p q r h = let no : not (is_special a.who) ≡ false = rw (p, q, r) refl in absurd cc

-- ---- one ACE

-- the new ACE has the mask of the ACE
mask_stays : (o g : List ℕ) (a : Ace) → (resolved_ace o g a).mask ≡ a.mask
mask_stays o g a = by (principal_of a)
  where
    by : (p : Principal) → (resolved_by o g p a).mask ≡ a.mask
    by owner = refl
    by (user name) = refl
    by group = refl
    by (group_named name) = refl
    by everyone = refl

-- the new ACE has the kind of the ACE
kind_stays : (o g : List ℕ) (a : Ace) → (resolved_ace o g a).kind ≡ a.kind
kind_stays o g a = by (principal_of a)
  where
    by : (p : Principal) → (resolved_by o g p a).kind ≡ a.kind
    by owner = refl
    by (user name) = refl
    by group = refl
    by (group_named name) = refl
    by everyone = refl

-- the new ACE takes part if and only if the ACE does
part_stays : (o g : List ℕ) (a : Ace) → takes_part (resolved_ace o g a) ≡ takes_part a
part_stays o g a = by (principal_of a)
  where
    by : (p : Principal) → takes_part (resolved_by o g p a) ≡ takes_part a
    by owner = ap not (has_bit-without a.flags identifier_group_alone 3 ∙ and_true_right (has_bit a.flags 3))
    by (user name) = refl
    by group = ap not (has_bit-or a.flags identifier_group_alone 3 ∙ or_false_right (has_bit a.flags 3))
    by (group_named name) = refl
    by everyone = refl

-- the new ACE is one, if no name lacks
ace_stays : (o g : List ℕ) (a : Ace) → lacks_name o g (principal_of a) ≡ false → IsAce full a
    → IsAce full (resolved_ace o g a)
ace_stays o g a has is = by (principal_of a) has
  where
    by : (p : Principal) → lacks_name o g p ≡ false → IsAce full (resolved_by o g p a)
    by owner h = record {
      flags = without_within full.flags a.flags identifier_group_alone is.flags;
      mask = is.mask;
      who = account_is_who o (not-false (is_account o) h);
    }
    by (user name) h = is
    by group h = record {
      flags = union_within full.flags a.flags identifier_group_alone is.flags refl;
      mask = is.mask;
      who = account_is_who g (not-false (is_account g) h);
    }
    by (group_named name) h = is
    by everyone h = is

-- the new ACE matches whom the ACE matches for the object, whatever object is asked for
match_stays : (o g : List ℕ) (s : Situation) (a : Ace) → lacks_name o g (principal_of a) ≡ false
    → matches s (principal_of (resolved_ace o g a))
    ≡ matches (named_situation o g s.user_name s.groups) (principal_of a)
match_stays o g s a has = by (principal_of a) refl has
  where
    by : (p : Principal) → principal_of a ≡ p → lacks_name o g p ≡ false
        → matches s (principal_of (resolved_by o g p a)) ≡ matches (named_situation o g s.user_name s.groups) p
    by owner is h = ap (matches s) (account_named (for_user o a) (not-false (is_account o) h)
        ∙ ap (λ (b : Bool). cond b (group_named o) (user o))
        (has_bit-without a.flags identifier_group_alone 6 ∙ rest (has_bit a.flags 6)))
      where
        rest : (b : Bool) → (b && not true) ≡ false
        rest true = refl
        rest false = refl
    by (user name) is h = ap (matches s) is
    by group is h = ap (matches s) (account_named (for_group g a) (not-false (is_account g) h)
        ∙ ap (λ (b : Bool). cond b (group_named g) (user g))
        (has_bit-or a.flags identifier_group_alone 6 ∙ or_true_right (has_bit a.flags 6)))
    by (group_named name) is h = ap (matches s) is
    by everyone is h = ap (matches s) is

-- the ACE of a user, as the code makes it
pub is_for_user : (name : List ℕ) (a : Ace) (flags : ℕ) → IsDifference a.flags identifier_group_alone flags
    → record { kind = a.kind; flags = flags; mask = a.mask; who = name } ≡ for_user name a
is_for_user name a flags e = rw (difference_without a.flags identifier_group_alone flags e) refl

-- ---- the list

-- each ACE has the name that it needs
abbrev pub AreNamed : List ℕ → List ℕ → List Ace → Type 0
AreNamed o g list = AllByRecursion (λ a. lacks_name o g (principal_of a) ≡ false) list

-- if no place is found, each ACE has the name that it needs
named_from : (o g : List ℕ) (place : ℕ) (list : List Ace)
    → position_from (λ a. lacks_name o g (principal_of a)) place list ≡ None → AreNamed o g list
named_from o g place [] e = tt
named_from o g place (a ∷ list) e =
    by (lacks_name o g (principal_of a)) refl (named_from o g (place + 1) list)
  where
    rest : Option ℕ
    rest = position_from (λ a. lacks_name o g (principal_of a)) (place + 1) list

    by : (t : Bool) → lacks_name o g (principal_of a) ≡ t → (rest ≡ None → AreNamed o g list)
        → AreNamed o g (a ∷ list)
    by false is more = (is, more (sym (ap (λ (t : Bool). cond t (Some place) rest) is) ∙ e))
    by true is more =
        let some : Some place ≡ None = sym (ap (λ (t : Bool). cond t (Some place) rest) is) ∙ e in absurd cc

-- the new list has the weight of the list
weight-resolved : (o g : List ℕ) (list : List Ace) → weight (resolved_list o g list) ≡ weight list
weight-resolved o g [] = refl
weight-resolved o g (a ∷ list) = weight-cons (resolved_ace o g a) (resolved_list o g list)
    ∙ ap (λ (m : ℕ). count_ones m + weight (resolved_list o g list)) (mask_stays o g a)
    ∙ ap (λ (n : ℕ). count_ones a.mask + n) (weight-resolved o g list) ∙ sym (weight-cons a list)

-- the new ACEs are ACEs
each-resolved : (o g : List ℕ) (list : List Ace) → AreNamed o g list → AllByRecursion (IsAce full) list
    → AllByRecursion (IsAce full) (resolved_list o g list)
each-resolved o g [] named each = tt
each-resolved o g (a ∷ list) named each =
    (ace_stays o g a named.0 each.0, each-resolved o g list named.1 each.1)

-- the new list is accepted
pub resolved_accepted : (o g : List ℕ) (list aces : List Ace) → aces ≡ list → first_nameless o g list ≡ None
    → IsAccepted full list → IsAccepted full (resolved_list o g aces)
resolved_accepted o g list aces same none ok =
    subst (λ (l : List Ace). IsAccepted full (resolved_list o g l)) (sym same) (record {
      count = omega (arith, ok.count, length-map list (resolved_ace o g));
      weight = omega (arith, ok.weight, weight-resolved o g list);
      each = each-resolved o g list (named_from o g 0 list none) ok.each;
    })

-- ---- ACE by ACE

-- one more ACE of the new list
pub resolved_more : (o g : List ℕ) (list rest others whole : List Ace) (a : Ace) → rest ≡ a ∷ others
    → list ++ resolved_list o g rest ≡ whole
    → (list ++ resolved_ace o g a ∷ []) ++ resolved_list o g others ≡ whole
resolved_more o g list rest others whole a e so =
    append_assoc list (resolved_ace o g a ∷ []) (resolved_list o g others)
    ∙ ap (λ (l : List Ace). list ++ resolved_list o g l) (sym e) ∙ so

-- the new list so far, and one more ACE, is accepted
pub resolved_fits : (o g : List ℕ) (list rest others whole : List Ace) (a : Ace) → rest ≡ a ∷ others
    → list ++ resolved_list o g rest ≡ whole → IsAccepted full whole
    → IsAccepted full (list ++ resolved_ace o g a ∷ [])
resolved_fits o g list rest others whole a e so ok =
    front_accepted full (list ++ resolved_ace o g a ∷ []) (resolved_list o g others)
    (subst (IsAccepted full) (sym (resolved_more o g list rest others whole a e so)) ok)

-- ---- what is granted

-- the first key that matches has the same kind in both lists
first_stays : (o g : List ℕ) (s : Situation) (list : List Ace) (bit : ℕ) → AreNamed o g list
    → first_kind (matches s) (column (resolved_list o g list) bit)
    ≡ first_kind (matches (named_situation o g s.user_name s.groups)) (column list bit)
first_stays o g s [] bit named = refl
first_stays o g s (a ∷ list) bit named =
    by (first_stays o g s list bit named.1) (has_bit a.mask bit && takes_part a) refl
  where
    at : Situation
    at = named_situation o g s.user_name s.groups

    same : (has_bit (resolved_ace o g a).mask bit && takes_part (resolved_ace o g a))
        ≡ (has_bit a.mask bit && takes_part a)
    same = ap (λ (m : ℕ). has_bit m bit && takes_part (resolved_ace o g a)) (mask_stays o g a)
        ∙ ap (λ (t : Bool). has_bit a.mask bit && t) (part_stays o g a)

    rest : Option Kind
    rest = first_kind (matches s) (column (resolved_list o g list) bit)

    by : rest ≡ first_kind (matches at) (column list bit) → (t : Bool) → (has_bit a.mask bit && takes_part a) ≡ t
        → first_kind (matches s) (column (resolved_list o g (a ∷ list)) bit)
        ≡ first_kind (matches at) (column (a ∷ list) bit)
    by more false is = rw (same, is) more
    by more true is = rw (same, is) (ap (λ (t : Bool). cond t (Some (resolved_ace o g a).kind) rest)
        (match_stays o g s a named.0)
        ∙ ap (λ (k : Kind). cond (matches at (principal_of a)) (Some k) rest) (kind_stays o g a)
        ∙ ap (λ (r : Option Kind). cond (matches at (principal_of a)) (Some a.kind) r) more)

-- the new list grants a bit, whatever object is asked for, if and only if the list grants it for the object
bit_stays : (o g : List ℕ) (s : Situation) (list : List Ace) (bit : ℕ) → AreNamed o g list
    → grants_bit (resolved_list o g list) s bit
    ≡ grants_bit list (named_situation o g s.user_name s.groups) bit
bit_stays o g s list bit named =
    ap (λ (k : Option Kind). is_allow (unwrap_or k Deny)) (first_stays o g s list bit named)

-- the new list grants a request, whatever object is asked for, if and only if the list grants it for the object
pub resolved_grants : (o g : List ℕ) (list : List Ace) (s : Situation) (request : ℕ) → first_nameless o g list ≡ None
    → Grant (resolved_list o g list) s request ↔ Grant list (named_situation o g s.user_name s.groups) request
resolved_grants o g list s request none =
    let named = named_from o g 0 list none in (
      λ granted bit asked. sym (bit_stays o g s list bit named) ∙ granted bit asked,
      λ granted bit asked. bit_stays o g s list bit named ∙ granted bit asked,
    )

-- the situation of the object and of the requester of another situation is one
at_object : (o g : List ℕ) (s : Situation) → IsName o → IsName g → IsSituation s
    → IsSituation (named_situation o g s.user_name s.groups)
at_object o g s owns belongs valid =
    record { owner_name = owns; owning_group = belongs; user_name = valid.user_name; groups = valid.groups }

-- two new lists grant the same if and only if the lists grant the same for the object
pub resolved_same : (o g : List ℕ) (rights : ℕ) (list other : List Ace) → IsName o → IsName g
    → first_nameless o g list ≡ None → first_nameless o g other ≡ None
    → SameGrants rights (resolved_list o g list) (resolved_list o g other) ↔ SameGrantsFor o g rights list other
resolved_same o g rights list other owns belongs none nor = (
  λ same user groups valid request within.
      let s = named_situation o g user groups in
      let one = resolved_grants o g list s request none in
      let two = resolved_grants o g other s request nor in
      let both = same s valid request within in
      (λ granted. two.0 (both.0 (one.1 granted)), λ granted. one.0 (both.1 (two.1 granted))),
  λ same s valid request within.
      let one = resolved_grants o g list s request none in
      let two = resolved_grants o g other s request nor in
      let both = same s.user_name s.groups (at_object o g s owns belongs valid) request within in
      (λ granted. two.1 (both.0 (one.0 granted)), λ granted. one.1 (both.1 (two.0 granted))),
)

-- a new list grants at most what another grants if and only if the lists do so for the object
pub resolved_at_most : (o g : List ℕ) (rights : ℕ) (list other : List Ace) → IsName o → IsName g
    → first_nameless o g list ≡ None → first_nameless o g other ≡ None
    → GrantsAtMost rights (resolved_list o g list) (resolved_list o g other) ↔ GrantsAtMostFor o g rights list other
resolved_at_most o g rights list other owns belongs none nor = (
  λ most user groups valid request within granted.
      let s = named_situation o g user groups in
      (resolved_grants o g other s request nor).0
      (most s valid request within ((resolved_grants o g list s request none).1 granted)),
  λ most s valid request within granted.
      (resolved_grants o g other s request nor).1
      (most s.user_name s.groups (at_object o g s owns belongs valid) request within
      ((resolved_grants o g list s request none).0 granted)),
)
