-- Names of a requester.
use Rattle.std.proofs.Common.{◌≡◌, ◌<◌, true, false, cond, List, length, Option, Some, None, refl, sym}
use Rattle.std.specs.Prelude.{◌&&◌, ◌↔◌, All, IfSome, IsSome, option_map}
use Rattle.std.proofs.lemmas.Bool.{ltb-true, lt-ltb}
use Rattle.std.proofs.lemmas.List.Sums.{AllPass-from_list_all, list_all-from_AllPass}
use Rattle.clap.specs.Words.{Text}
use Rattle.acl_perm.proofs.Bools.{and_true}
use Rattle.acl_eval.specs.Situation.{groups_of, user_of}
use Rattle.acl_eval.specs.declared.situation.Requester.{Requester}
use Rattle.aclck.specs.Values.{are_names, is_name}
use Rattle.aclck.specs.commands.CheckNfs.{NamedRequester, requester_named, requester_names}

-- each name has at least one byte
abbrev AreNotEmpty : List Text → Type 0
AreNotEmpty names = All (λ g. 0 < length g) names

-- texts with at least one byte each are names
are_names_from : (names : List Text) → AreNotEmpty names → are_names names ≡ true
are_names_from names h = list_all-from_AllPass is_name names (λ k d lt. lt-ltb _ _ (h k d lt))

-- names have at least one byte each
names_from : (names : List Text) → are_names names ≡ true → AreNotEmpty names
names_from names h = λ k d lt. ltb-true _ _ (AllPass-from_list_all is_name names h k d lt)

-- a user with its groups
abbrev both_of : Text → List Text → NamedRequester
both_of u groups = record { user = u; groups = groups }

-- a user and groups with at least one byte each name a requester
is_named : (u : Text) (names : List Text) → (0 < length u) × AreNotEmpty names
    → requester_named (Some u) names ≡ Some (both_of u names)
is_named u names h = rw (lt-ltb 0 (length u) h.0, are_names_from names h.1) refl

-- a user and groups name no requester if one of them has no byte
not_named : (u : Text) (names : List Text) → ((0 < length u) × AreNotEmpty names → ⊥)
    → requester_named (Some u) names ≡ None
not_named u names none =
    elim (is_name u && are_names names) as (λ b. (is_name u && are_names names) ≡ b
    → cond b (Some (both_of u names)) None ≡ None) [
      | true ↦ λ is.
          let both = and_true (is_name u) (are_names names) is in
          absurd (none (ltb-true 0 (length u) both.0, names_from names both.1))
      | false ↦ λ is. refl
    ] refl

-- a requester that exists if and only if these are names, and that has them, has the names that the definition gives
pub requester_is : (r : Option Requester) (u : Text) (names : List Text)
    → (IsSome r ↔ ((0 < length u) × AreNotEmpty names))
    → IfSome r (λ q. user_of q ≡ u) → IfSome r (λ q. groups_of q ≡ names)
    → option_map requester_names r ≡ requester_named (Some u) names
requester_is None u names named user groups = sym (not_named u names (λ h. let e = named.1 h in cc))
requester_is (Some q) u names named user groups =
    rw (user, groups) (sym (is_named u names (named.0 refl)))
