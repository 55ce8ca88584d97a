-- A list without a greatest sound POSIX ACL: a user and a group, one permission.
use Rattle.std.proofs.Common.{◌≡◌, true, List, [], ◌∷◌, refl, subst, arith, inl, inr}
use Rattle.std.proofs.lemmas.Bool.{cases_Bool, false≢true}
use Rattle.std.specs.FinMap as fin
use Rattle.acl_perm.specs.declared.kind.Kind.TheVariants.{Allow, Deny}
use Rattle.acl_posix.specs.Check.{grants}
use Rattle.acl_posix.specs.Entries.{Entries, as_set}
use Rattle.acl_posix.specs.Excess.{GrantsNothingMore}
use Rattle.acl_posix.specs.Tag.{user_obj, user, group_obj, group, other}
use Rattle.acl_posix.specs.Texts.{IsAcl}
use Rattle.acl_nfs4.specs.Ace.{Ace}
use Rattle.acl_eval.specs.Bridge.{image, ace_of}
use Rattle.acl_to_posix.specs.NoGreatest.{HaveNoneAbove, LeavesSomeOut, all_but_the_user, denied_user, members_alone}
use Rattle.acl_to_posix.specs.ToPosix.{IsSound}
use Rattle.acl_to_posix.proofs.SoundRules.{AreRules, Rule, rules_list, sound_by_passes}
use Rattle.acl_to_posix.proofs.no_greatest.ExampleAcls.{asks, decided_so, eqb-comm_false, full_each, full_set, full_shape, full_valid, group_alone, group_each, group_reads, group_set, group_shape, group_valid, lifted, no_entry, none_passes, object_of, own_entry, read_passes, some_owner, stranger_has, user_and_group}

-- the rules of the list that denies a user: the group may read, the user may not, and others may
abbrev user_rules : List Rule
user_rules = (Allow, (group 2, 4)) ∷ (Deny, (user 1, 4)) ∷ (Allow, (other, 4)) ∷ []

-- they are rules
are_user_rules : AreRules user_rules
are_user_rules = (
  refl,
  omega arith,
  λ e. absurd cc,
  (refl, omega arith, λ e. absurd cc, (refl, tt, λ e. absurd cc, tt)),
)

-- their ACEs are the list
user_list : rules_list user_rules ≡ denied_user
unfolding denied_user ace_of
user_list = refl

-- the ACL in which everyone but the user may read is sound
user_first : IsSound (rules_list user_rules) all_but_the_user
unfolding image all_but_the_user
user_first = sound_by_passes user_rules user_and_group (as_set (full_set 0 0 4 4 4 4)) are_user_rules
    (full_valid 0 0 4 4 4 4) (full_shape 0 0 4 4 4 4)
    (full_each user_rules 0 0 4 4 4 4 (omega arith) (omega arith) (omega arith) (omega arith) (omega arith)
    (none_passes user_rules user_and_group user_obj) (none_passes user_rules user_and_group (user 1))
    (read_passes user_rules user_and_group group_obj refl) (read_passes user_rules user_and_group (group 2) refl)
    (read_passes user_rules user_and_group other refl))

-- the ACL in which the members of the group alone may read is sound
user_second : IsSound (rules_list user_rules) members_alone
unfolding image members_alone
user_second = sound_by_passes user_rules group_alone (as_set (group_set 0 0 4 4 0)) are_user_rules
    (group_valid 0 0 4 4 0) (group_shape 0 0 4 4 0)
    (group_each user_rules 0 0 4 4 0 (omega arith) (omega arith) (omega arith) (omega arith)
    (none_passes user_rules group_alone user_obj) (none_passes user_rules group_alone group_obj)
    (read_passes user_rules group_alone (group 2) refl) (none_passes user_rules group_alone other))

-- no sound ACL is above both: in it the user would read while in no group
user_none : (A : Entries) → IsAcl A → LeavesSomeOut A → IsSound (rules_list user_rules) A
    → GrantsNothingMore all_but_the_user A → GrantsNothingMore members_alone A → ⊥
unfolding image all_but_the_user members_alone
user_none A acl out sound first second =
    let (owner, o) = some_owner out.free in
    let reads : grants A (object_of owner) (asks 1 (2 ∷ [])) 4 ≡ true =
    lifted members_alone A out.free owner 1 (2 ∷ []) 4 second o (omega arith) (omega arith)
    (group_reads 0 0 4 4 0 owner out.free 1 4 (omega arith) o.not_user refl refl) in
    let others : grants A (object_of owner) (asks out.free []) 4 ≡ true =
    lifted all_but_the_user A out.free owner out.free [] 4 first o out.is_id (omega arith)
    (stranger_has 0 0 4 4 4 4 owner out.free 4 (omega arith) o.not_free (eqb-comm_false out.free 1 out.another) refl) in
    let alone : grants A (object_of owner) (asks 1 []) 4 ≡ true = elim (cases_Bool (fin.contains_key A (user 1))) [
      | inl named ↦ own_entry A owner 1 (2 ∷ []) [] 4 acl.valid refl o.not_user named reads
      | inr nameless ↦ no_entry A owner out.free 1 [] 4 acl.valid refl o.not_free o.not_user out.unnamed nameless others
    ] in
    false≢true (decided_so user_rules A out.free owner 1 [] 4 0 are_user_rules sound o (omega arith) tt (omega arith)
    refl alone)

-- for the list that denies a user, no ACL is above both
pub user_case : HaveNoneAbove denied_user all_but_the_user members_alone
user_case = subst (λ (l : List Ace). HaveNoneAbove l all_but_the_user members_alone) user_list
    (record { first_sound = user_first; second_sound = user_second; none = user_none })
