-- Groups that stand for unknown special identifiers match as an assignment matches the identifiers.
use Rattle.std.proofs.Common.{◌≡◌, ℕ, Bool, true, false, List, [], ◌∷◌, ◌++◌, None, refl, sym, ap, append_assoc, ◌∙◌}
use Rattle.std.specs.Prelude.{◌&&◌, ◌||◌, ◌↔◌, bit_or, filter, find, map, not, option_map, position}
use Rattle.std.specs.List.{AllByRecursion, list_any}
use Rattle.std.specs.Option.{is_none}
use Rattle.std.specs.Str.{bytes_eq}
use Rattle.std.proofs.lemmas.Bool.{and_parts, true≢false, false_from_ne_true}
use Rattle.std.proofs.lemmas.List.{append_cancel_right}
use Rattle.std.proofs.lemmas.List.Folds.{list_any-append}
use Rattle.acl_perm.proofs.Meetings.{bytes_eq_same, itself}
use Rattle.acl_perm.proofs.Sets.{has_bit-or}
use Rattle.acl_perm.specs.Bits.{IsSubset, has_bit, identifier_group, identifier_group_alone, inherit_only}
use Rattle.acl_perm.specs.Principal.{group_named}
use Rattle.acl_perm.specs.Situation.{IsSituation, Situation, is_one_of, matches}
use Rattle.acl_perm.proofs.Bools.{or_false_right, not_false, not_true, or_true_right, and_regroup}
use Rattle.acl_nfs4.specs.Ace.{Ace}
use Rattle.acl_nfs4.specs.Renamed.{is_account, is_of_group}
use Rattle.acl_nfs4.specs.UnknownGroups.{HasFreeNames, is_misnamed, is_stand_in, has_taken_name, with_stand_in, with_groups}
use Rattle.acl_nfs4.specs.Who.{everyone_name, group_name, is_special, is_unknown_special, owner_name, principal_of, who_fault}
use Rattle.acl_nfs4.proofs.Exports.{none_passes}
use Rattle.acl_eval.specs.Column.{takes_part}
use Rattle.acl_eval.specs.Deciding.{decides, deciding_kind}
use Rattle.acl_eval.specs.Grant.{Grant, SameGrants}
use Rattle.acl_decide.specs.Memberships.{IsApart, joining, matched_groups}
use Rattle.acl_decide.specs.Unknown.{answer_under, Assignment, decides_under, GrantsUnder, matches_under}
use Rattle.acl_eval.proofs.Deciders.{granted_by_allows}
use Rattle.acl_decide.proofs.Unknowns.{match_known, match_unknown}
use Rattle.acl_eval.proofs.Members.{any_implies}

-- ---- tests of some element

-- if none of three is true, each is false
none_of_three : (a b c : Bool) → (a || b || c) ≡ false → (a ≡ false) × (b ≡ false) × (c ≡ false)
none_of_three true b c e = absurd cc
none_of_three false true c e = absurd cc
none_of_three false false true e = absurd cc
none_of_three false false false e = (refl, refl, refl)

-- if a test of some element passes, what follows from it wherever it passes is so
any_gives : {X P : Type 0} (p : X → Bool) (xs : List X) → ((x : X) → p x ≡ true → P) → list_any p xs ≡ true → P
any_gives p [] h e = absurd (true≢false (sym e))
any_gives {P = P} p (x ∷ xs) h e = by (any_gives p xs h) (p x) refl
  where
    by : (list_any p xs ≡ true → P) → (b : Bool) → p x ≡ b → P
    by rest true pe = h x pe
    by rest false pe = rest (sym (ap (λ (t : Bool). t || list_any p xs) pe) ∙ e)

-- what a list has: each test that an element passes passes for some element of the list
abbrev AlwaysHas : List Ace → Ace → Type 0
AlwaysHas list a = (q : Ace → Bool) → q a ≡ true → list_any q list ≡ true

-- a list has each of its elements
has_each : (front list whole : List Ace) → front ++ list ≡ whole → AllByRecursion (AlwaysHas whole) list
has_each front [] whole e = tt
has_each front (a ∷ list) whole e = (
  λ q h. ap (list_any q) (sym e) ∙ list_any-append q front (a ∷ list) ∙ rw h (or_true_right (list_any q front)),
  has_each (front ++ a ∷ []) list whole (append_assoc front (a ∷ []) list ∙ e),
)

-- a name is one of those of the elements that pass if and only if some element passes and has it
any_of_map : (p : Ace → Bool) (f : Ace → List ℕ) (name : List ℕ) (list : List Ace)
    → is_one_of name (map f (filter p list)) ≡ list_any (λ a. p a && bytes_eq name (f a)) list
any_of_map p f name [] = refl
any_of_map p f name (a ∷ list) = by (any_of_map p f name list) (p a) refl
  where
    by : is_one_of name (map f (filter p list)) ≡ list_any (λ a. p a && bytes_eq name (f a)) list → (b : Bool) → p a ≡ b
        → is_one_of name (map f (filter p (a ∷ list))) ≡ list_any (λ a. p a && bytes_eq name (f a)) (a ∷ list)
    by rest true e = rw e (ap (λ (t : Bool). bytes_eq name (f a) || t) rest)
    by rest false e = rw e rest

-- if no element passes, each does not
none_each : (p : Ace → Bool) (list : List Ace) → position p list ≡ None → AllByRecursion (λ a. p a ≡ false) list
none_each p [] e = tt
none_each p (a ∷ list) e = let h = none_passes p a list e in (h.0, none_each p list h.1)

-- ---- one ACE

-- for a situation in which no group is one of the list's special identifiers
module _ (suffix : List ℕ) (list : List Ace) (v : Assignment) (s : Situation) (apart : IsApart suffix list s) where
  -- the situation with the groups that match
  abbrev after : Situation
  after = joining v suffix list s

  -- an ACE has an identifier that the assignment matches, and the name of the group that stands for it
  abbrev gives : List ℕ → Ace → Bool
  gives name a = (is_unknown_special a.who && v a.who) && bytes_eq name (a.who ++ suffix)

  -- the groups that match have a name if and only if some ACE gives it
  new_is : (name : List ℕ) → is_one_of name (matched_groups v suffix list) ≡ list_any (gives name) list
  new_is name = any_of_map (λ a. is_unknown_special a.who && v a.who) (λ a. a.who ++ suffix) name list

  -- a name that stands for no identifier is not among the groups that match
  not_new : (name : List ℕ) → is_stand_in suffix list name ≡ false
      → is_one_of name (matched_groups v suffix list) ≡ false
  not_new name free = new_is name ∙ false_from_ne_true (list_any (gives name) list) (λ e.
      true≢false (sym (any_implies (gives name) (λ a. is_unknown_special a.who && bytes_eq (a.who ++ suffix) name) list
      (λ a h. let both = and_parts _ _ h in
      let unknown = (and_parts (is_unknown_special a.who) (v a.who) both.0).0 in
      let same = bytes_eq_same name (a.who ++ suffix) both.1 in
      ap (λ (t : Bool). t && bytes_eq (a.who ++ suffix) name) unknown
      ∙ ap (λ (n : List ℕ). bytes_eq n name) (sym same) ∙ itself name) e) ∙ free))

  -- so it is a group of the requester if and only if it was one
  stays : (name : List ℕ) → is_stand_in suffix list name ≡ false → is_one_of name after.groups ≡ is_one_of name s.groups
  stays name free = list_any-append (bytes_eq name) s.groups (matched_groups v suffix list)
      ∙ ap (λ (t : Bool). is_one_of name s.groups || t) (not_new name free) ∙ or_false_right (is_one_of name s.groups)

  -- a name that stands for an identifier is no group of the requester before
  not_before : (name : List ℕ) → is_stand_in suffix list name ≡ true → is_one_of name s.groups ≡ false
  not_before name stands = false_from_ne_true (is_one_of name s.groups) (λ e.
      true≢false (sym (any_implies (bytes_eq name) (is_stand_in suffix list) s.groups
      (λ g h. ap (is_stand_in suffix list) (sym (bytes_eq_same name g h)) ∙ stands) e) ∙ apart.groups))

  -- it is one after if and only if the assignment matches the identifier
  now_is : (a : Ace) → AlwaysHas list a → is_unknown_special a.who ≡ true
      → is_one_of (a.who ++ suffix) after.groups ≡ v a.who
  now_is a has unknown = list_any-append (bytes_eq name) s.groups (matched_groups v suffix list)
      ∙ ap (λ (t : Bool). t || is_one_of name (matched_groups v suffix list)) (not_before name stands)
      ∙ new_is name ∙ by (v a.who) refl
    where
      name : List ℕ
      name = a.who ++ suffix

      stands : is_stand_in suffix list name ≡ true
      stands = has (λ b. is_unknown_special b.who && bytes_eq (b.who ++ suffix) name) (rw unknown (itself name))

      by : (t : Bool) → v a.who ≡ t → list_any (gives name) list ≡ v a.who
      by true e = has (gives name) (rw (unknown, e) (itself name)) ∙ sym e
      by false e = false_from_ne_true (list_any (gives name) list) (λ h. any_gives (gives name) list (λ b g.
          let both = and_parts _ _ g in
          let same : a.who ≡ b.who = append_cancel_right a.who b.who suffix (bytes_eq_same _ _ both.1) in
          true≢false (sym (and_parts (is_unknown_special b.who) (v b.who) both.0).1 ∙ ap v (sym same) ∙ e)) h)
          ∙ sym e

  -- an ACE with a known who matches as before
  known_match : (a : Ace) → (is_of_group a ≡ true → is_stand_in suffix list a.who ≡ false)
      → matches after (principal_of a) ≡ matches s (principal_of a)
  known_match a free = by (bytes_eq a.who owner_name) (bytes_eq a.who group_name) (bytes_eq a.who everyone_name)
      (is_of_group a) refl refl refl refl
    where
      by : (o g e f : Bool) → bytes_eq a.who owner_name ≡ o → bytes_eq a.who group_name ≡ g
          → bytes_eq a.who everyone_name ≡ e → is_of_group a ≡ f
          → matches after (principal_of a) ≡ matches s (principal_of a)
      by true g e f oe ge ee fe = rw oe refl
      by false true e f oe ge ee fe = rw (oe, ge) (stays s.owning_group apart.owning_group)
      by false false true f oe ge ee fe = rw (oe, ge, ee) refl
      by false false false true oe ge ee fe = rw (oe, ge, ee, fe) (stays a.who (free fe))
      by false false false false oe ge ee fe = rw (oe, ge, ee, fe) refl

  -- an ACE with an unknown special identifier is for the group that stands for it
  stand_in_principal : (a : Ace) → is_unknown_special a.who ≡ true → is_misnamed suffix a ≡ false
      → principal_of (with_stand_in suffix a) ≡ group_named (a.who ++ suffix)
  stand_in_principal a unknown named = rw (unknown, plain.0, plain.1, plain.2, flag) refl
    where
      w : List ℕ
      w = a.who ++ suffix

      account : is_account w ≡ true
      account = not_false (is_account w) (sym (ap (λ (t : Bool). t && not (is_account w)) unknown) ∙ named)

      plain : (bytes_eq w owner_name ≡ false) × (bytes_eq w group_name ≡ false) × (bytes_eq w everyone_name ≡ false)
      plain =
          let none : is_special w ≡ false =
          not_true (is_special w) (and_parts (is_none (who_fault w)) (not (is_special w)) account).1 in
          none_of_three (bytes_eq w owner_name) (bytes_eq w group_name) (bytes_eq w everyone_name) none

      flag : has_bit (bit_or a.flags identifier_group_alone) identifier_group ≡ true
      flag =
          has_bit-or a.flags identifier_group_alone identifier_group ∙ or_true_right (has_bit a.flags identifier_group)

  -- the ACE with a group matches as the assignment says
  same_match : (a : Ace) → AlwaysHas list a → is_misnamed suffix a ≡ false → has_taken_name suffix list a ≡ false
      → matches after (principal_of (with_stand_in suffix a)) ≡ matches_under v s a
  same_match a has named free = by (is_unknown_special a.who) refl
    where
      by : (u : Bool) → is_unknown_special a.who ≡ u
          → matches after (principal_of (with_stand_in suffix a)) ≡ matches_under v s a
      by true u = ap (matches after) (stand_in_principal a u named) ∙ now_is a has u ∙ sym (match_unknown v s a u)
      by false u =
          let same : with_stand_in suffix a ≡ a = rw u refl in
          ap (λ (b : Ace). matches after (principal_of b)) same
          ∙ known_match a (λ f. sym (ap (λ (t : Bool). is_of_group a && (not t && is_stand_in suffix list a.who)) u
          ∙ ap (λ (t : Bool). t && is_stand_in suffix list a.who) f) ∙ free)
          ∙ sym (match_known v s a u)

  -- it takes part if and only if the ACE does
  same_part : (a : Ace) → takes_part (with_stand_in suffix a) ≡ takes_part a
  same_part a = by (is_unknown_special a.who) refl
    where
      by : (u : Bool) → is_unknown_special a.who ≡ u → takes_part (with_stand_in suffix a) ≡ takes_part a
      by true u = rw u (ap not (has_bit-or a.flags identifier_group_alone inherit_only
          ∙ or_false_right (has_bit a.flags inherit_only)))
      by false u = rw u refl

  -- it decides a bit if and only if the ACE does under the assignment
  same_decides : (a : Ace) (bit : ℕ) → AlwaysHas list a → is_misnamed suffix a ≡ false
      → has_taken_name suffix list a ≡ false → decides after bit (with_stand_in suffix a) ≡ decides_under v s bit a
  same_decides a bit has named free =
      ap (λ (t : Bool). has_bit a.mask bit && (takes_part (with_stand_in suffix a) && t)) (same_match a has named free)
      ∙ ap (λ (t : Bool). has_bit a.mask bit && (t && matches_under v s a)) (same_part a)
      ∙ sym (and_regroup (has_bit a.mask bit) (takes_part a) (matches_under v s a))

  -- so does the first ACE that decides
  same_kind : (part : List Ace) (bit : ℕ) → AllByRecursion (AlwaysHas list) part
      → AllByRecursion (λ a. is_misnamed suffix a ≡ false) part
      → AllByRecursion (λ a. has_taken_name suffix list a ≡ false) part
      → option_map (λ a. a.kind) (find (decides after bit) (with_groups suffix part)) ≡ answer_under v part s bit
  same_kind [] bit has named free = refl
  same_kind (a ∷ part) bit has named free = by (same_kind part bit has.1 named.1 free.1) (decides_under v s bit a) refl
    where
      same : decides after bit (with_stand_in suffix a) ≡ decides_under v s bit a
      same = same_decides a bit has.0 named.0 free.0

      by : option_map (λ a. a.kind) (find (decides after bit) (with_groups suffix part)) ≡ answer_under v part s bit
          → (t : Bool) → decides_under v s bit a ≡ t
          → option_map (λ a. a.kind) (find (decides after bit) (with_groups suffix (a ∷ part)))
          ≡ answer_under v (a ∷ part) s bit
      by rest true e = rw (same, e) refl
      by rest false e = rw (same, e) rest

-- what holds of each element of two lists in one holds of each element of both
each_half : {X : Type 0} (P : X → Type 0) (xs ys : List X) → AllByRecursion P (xs ++ ys)
    → AllByRecursion P xs × AllByRecursion P ys
each_half P [] ys each = (tt, each)
each_half P (x ∷ xs) ys each = let h = each_half P xs ys each.1 in ((each.0, h.0), h.1)

-- the list with groups answers as the list under the assignment
pub groups_answer : (suffix : List ℕ) (list : List Ace) (v : Assignment) (s : Situation) (bit : ℕ)
    → HasFreeNames suffix list → IsApart suffix list s
    → deciding_kind (with_groups suffix list) (joining v suffix list s) bit ≡ answer_under v list s bit
groups_answer suffix list v s bit free apart = same_kind suffix list v s apart list bit (has_each [] list list refl)
    (none_each (is_misnamed suffix) list free.named) (none_each (has_taken_name suffix list) list free.free)

-- a list that answers as another under the assignment grants what that list grants under it
grants_as : (groups list : List Ace) (v : Assignment) (s after : Situation) (request : ℕ)
    → ((bit : ℕ) → deciding_kind groups after bit ≡ answer_under v list s bit)
    → Grant groups after request ↔ GrantsUnder v list s request
grants_as groups list v s after request same =
    let g = granted_by_allows groups after request in (
      λ granted bit has. sym (same bit) ∙ g.0 granted bit has,
      λ under. g.1 (λ bit has. same bit ∙ under bit has),
    )

-- the list with groups grants what the list grants under the assignment
pub groups_grant : (suffix : List ℕ) (list : List Ace) (v : Assignment) (s : Situation) (request : ℕ)
    → HasFreeNames suffix list → IsApart suffix list s
    → Grant (with_groups suffix list) (joining v suffix list s) request ↔ GrantsUnder v list s request
groups_grant suffix list v s request free apart = grants_as (with_groups suffix list) list v s (joining v suffix list s)
    request (λ bit. groups_answer suffix list v s bit free apart)

-- lists with groups that grant the same are made of lists that grant the same under every assignment
pub same_under : (rights : ℕ) (suffix : List ℕ) (list other : List Ace) → HasFreeNames suffix (list ++ other)
    → SameGrants rights (with_groups suffix list) (with_groups suffix other)
    → (v : Assignment) (s : Situation) → IsApart suffix (list ++ other) s
    → IsSituation (joining v suffix (list ++ other) s) → (request : ℕ) → IsSubset request rights
    → GrantsUnder v list s request ↔ GrantsUnder v other s request
same_under rights suffix list other free same v s apart is request within = (
  λ under. right.0 (both.0 (left.1 under)),
  λ under. left.0 (both.1 (right.1 under)),
) where
  whole : List Ace
  whole = list ++ other

  has : AllByRecursion (AlwaysHas whole) list × AllByRecursion (AlwaysHas whole) other
  has = each_half (AlwaysHas whole) list other (has_each [] whole whole refl)

  named : AllByRecursion (λ a. is_misnamed suffix a ≡ false) list
      × AllByRecursion (λ a. is_misnamed suffix a ≡ false) other
  named = each_half (λ a. is_misnamed suffix a ≡ false) list other (none_each (is_misnamed suffix) whole free.named)

  unmerged : AllByRecursion (λ a. has_taken_name suffix whole a ≡ false) list
      × AllByRecursion (λ a. has_taken_name suffix whole a ≡ false) other
  unmerged = each_half (λ a. has_taken_name suffix whole a ≡ false) list other
      (none_each (has_taken_name suffix whole) whole free.free)

  left : Grant (with_groups suffix list) (joining v suffix whole s) request ↔ GrantsUnder v list s request
  left = grants_as (with_groups suffix list) list v s (joining v suffix whole s) request
      (λ bit. same_kind suffix whole v s apart list bit has.0 named.0 unmerged.0)

  right : Grant (with_groups suffix other) (joining v suffix whole s) request ↔ GrantsUnder v other s request
  right = grants_as (with_groups suffix other) other v s (joining v suffix whole s) request
      (λ bit. same_kind suffix whole v s apart other bit has.1 named.1 unmerged.1)

  both : Grant (with_groups suffix list) (joining v suffix whole s) request
      ↔ Grant (with_groups suffix other) (joining v suffix whole s) request
  both = same (joining v suffix whole s) is request within
