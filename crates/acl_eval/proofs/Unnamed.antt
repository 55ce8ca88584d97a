-- The mode of a list without the ACEs of named users and groups.
use Rattle.std.proofs.Common.{◌≡◌, ℕ, Bool, true, false, List, [], ◌∷◌, refl, ap}
use Rattle.std.specs.Prelude.{◌==◌, Option, unwrap_or}
use Rattle.std.proofs.lemmas.Bool.{or_parts}
use Rattle.acl_perm.specs.Bits.{has_bit}
use Rattle.acl_perm.specs.Order.{principal_rank}
use Rattle.acl_perm.specs.Principal.{Principal, is_everyone}
use Rattle.acl_perm.specs.declared.kind.Kind.{Kind}
use Rattle.acl_perm.specs.declared.kind.Kind.TheVariants.{Deny}
use Rattle.acl_nfs4.specs.Ace.{Ace}
use Rattle.acl_nfs4.specs.Who.{principal_of}
use Rattle.acl_eval.proofs.Classes.{same_mode_of_parts, same_perm}
use Rattle.acl_eval.specs.Column.{column, first_kind, takes_part}
use Rattle.acl_eval.specs.Grant.{is_allow}
use Rattle.acl_eval.specs.ListMode.{is_for_group, is_for_others, is_for_owner, is_granted_by, mode_of_list, perm_of}
use Rattle.acl_eval.specs.Unnamed.{is_unnamed, unnamed}

-- no named principal passes the test
abbrev pub PassesNoName : (Principal → Bool) → Type 0
PassesNoName test = (p : Principal) → is_unnamed p ≡ false → test p ≡ false

-- the first key that passes such a test has the same kind without the ACEs of names
same_kind : (test : Principal → Bool) → PassesNoName test → (list : List Ace) (bit : ℕ)
    → first_kind test (column (unnamed list) bit) ≡ first_kind test (column list bit)
same_kind test skips [] bit = refl
same_kind test skips (a ∷ list) bit =
    by (same_kind test skips list bit) (is_unnamed (principal_of a)) (has_bit a.mask bit) (takes_part a)
    (test (principal_of a)) refl refl refl refl
  where
    by : first_kind test (column (unnamed list) bit) ≡ first_kind test (column list bit) → (w h t m : Bool)
        → is_unnamed (principal_of a) ≡ w → has_bit a.mask bit ≡ h → takes_part a ≡ t → test (principal_of a) ≡ m
        → first_kind test (column (unnamed (a ∷ list)) bit) ≡ first_kind test (column (a ∷ list) bit)
    by rest true false t m p q r s = rw (p, q) rest
    by rest true true false m p q r s = rw (p, q, r) rest
    by rest true true true true p q r s = rw (p, q, r, s) refl
    by rest true true true false p q r s = rw (p, q, r, s) rest
    by rest false false t m p q r s = rw (p, q) rest
    by rest false true false m p q r s = rw (p, q, r) rest
    by rest false true true m p q r s = let n = skips (principal_of a) p in rw (p, q, r, n) rest

-- what the ACEs that pass such a test grant is the same without the ACEs of names
same_part : (test : Principal → Bool) → PassesNoName test → (list : List Ace)
    → perm_of (is_granted_by test (unnamed list)) ≡ perm_of (is_granted_by test list)
same_part test skips list =
    let at = λ (bit : ℕ). ap (λ (kind : Option Kind). is_allow (unwrap_or kind Deny)) (same_kind test skips list bit) in
    same_perm (is_granted_by test (unnamed list)) (is_granted_by test list) (at 0) (at 1) (at 2) (at 5)

-- ACEs of names do not decide for the owner
owner_no_name : PassesNoName is_for_owner
owner_no_name p e = (or_parts (is_for_owner p) (is_for_group p) e).0

-- ACEs of names do not decide for the group
pub group_no_name : PassesNoName is_for_group
group_no_name p e = (or_parts (is_for_owner p) (is_for_group p) e).1

-- ACEs of names do not decide for others
pub others_no_name : PassesNoName is_for_others
others_no_name p e = (or_parts (principal_rank p == 0) (is_everyone p) (owner_no_name p e)).1

-- the mode of a list is the same without the ACEs of names
pub same_mode : (list : List Ace) → mode_of_list (unnamed list) ≡ mode_of_list list
same_mode list =
    same_mode_of_parts (same_part is_for_owner owner_no_name list) (same_part is_for_group group_no_name list)
    (same_part is_for_others others_no_name list)
