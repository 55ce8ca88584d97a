-- A list without a greatest sound POSIX ACL: a user and a group, two permissions.
use Rattle.std.proofs.Common.{◌≡◌, ℕ, true, false, List, [], ◌∷◌, refl, sym, subst, ◌∙◌, arith, inl, inr}
use Rattle.std.proofs.lemmas.Bool.{cases_Bool, false≢true}
use Rattle.std.specs.Prelude.{◌==◌}
use Rattle.std.specs.FinMap as fin
use Rattle.acl_perm.specs.declared.kind.Kind.TheVariants.{Allow}
use Rattle.acl_posix.specs.Check.{grants}
use Rattle.acl_posix.specs.Entries.{Entries, as_set}
use Rattle.acl_posix.specs.Excess.{GrantsNothingMore}
use Rattle.acl_posix.specs.Tag.{user_obj, user, group_obj, group, other}
use Rattle.acl_posix.specs.Texts.{IsAcl}
use Rattle.acl_nfs4.specs.Ace.{Ace}
use Rattle.acl_eval.specs.Bridge.{image, ace_of}
use Rattle.acl_to_posix.specs.NoGreatest.{HaveNoneAbove, LeavesSomeOut, members_alone, two_permissions, user_writes}
use Rattle.acl_to_posix.specs.ToPosix.{IsSound}
use Rattle.acl_to_posix.specs.internal.ShapeBody.{column_decided_by, tag_meets}
use Rattle.acl_to_posix.proofs.SoundRules.{AreRules, Rule, rules_column, rules_list, sound_by_passes}
use Rattle.acl_to_posix.proofs.no_greatest.ExampleAcls.{asks, decided_so, full_each, full_set, full_shape, full_valid, group_alone, group_each, group_reads, group_set, group_shape, group_valid, lifted, no_entry, none_passes, object_of, own_entry, read_passes, some_owner, user_and_group, user_has, write_passes}

-- the rules of the list with two permissions: the group may read, and the user may write
abbrev permissions_rules : List Rule
permissions_rules = (Allow, (group 2, 4)) ∷ (Allow, (user 1, 2)) ∷ []

-- they are rules
are_permissions_rules : AreRules permissions_rules
are_permissions_rules = (refl, omega arith, λ e. absurd cc, (refl, omega arith, λ e. absurd cc, tt))

-- their ACEs are the list
permissions_list : rules_list permissions_rules ≡ two_permissions
unfolding two_permissions ace_of
permissions_list = refl

-- the ACL in which the user may write and the other members may read is sound
permissions_first : IsSound (rules_list permissions_rules) user_writes
unfolding image user_writes
permissions_first = sound_by_passes permissions_rules user_and_group (as_set (full_set 0 2 0 4 6 0))
    are_permissions_rules (full_valid 0 2 0 4 6 0) (full_shape 0 2 0 4 6 0)
    (full_each permissions_rules 0 2 0 4 6 0 (omega arith) (omega arith) (omega arith) (omega arith) (omega arith)
    (none_passes permissions_rules user_and_group user_obj)
    (write_passes permissions_rules user_and_group (user 1) refl refl)
    (none_passes permissions_rules user_and_group group_obj)
    (read_passes permissions_rules user_and_group (group 2) refl) (none_passes permissions_rules user_and_group other))

-- the ACL in which the members of the group alone may read is sound
permissions_second : IsSound (rules_list permissions_rules) members_alone
unfolding image members_alone
permissions_second = sound_by_passes permissions_rules group_alone (as_set (group_set 0 0 4 4 0)) are_permissions_rules
    (group_valid 0 0 4 4 0) (group_shape 0 0 4 4 0)
    (group_each permissions_rules 0 0 4 4 0 (omega arith) (omega arith) (omega arith) (omega arith)
    (none_passes permissions_rules group_alone user_obj) (none_passes permissions_rules group_alone group_obj)
    (read_passes permissions_rules group_alone (group 2) refl) (none_passes permissions_rules group_alone other))

-- a stranger in no group may not write
stranger_writes : (owner u : ℕ) → (u == 1) ≡ false
    → column_decided_by (tag_meets (object_of owner) (asks u [])) (rules_column permissions_rules 1) false ≡ false
unfolding image
stranger_writes owner u differ = rw differ refl

-- no sound ACL is above both: in it the user would read while in no group, or a stranger would write
permissions_none : (A : Entries) → IsAcl A → LeavesSomeOut A → IsSound (rules_list permissions_rules) A
    → GrantsNothingMore user_writes A
    → GrantsNothingMore members_alone A → ⊥
unfolding image user_writes members_alone
permissions_none A acl out sound first second =
    let (owner, o) = some_owner out.free in
    let reads : grants A (object_of owner) (asks 1 (2 ∷ [])) 4 ≡ true =
    lifted members_alone A out.free owner 1 (2 ∷ []) 4 second o (omega arith) (omega arith)
    (group_reads 0 0 4 4 0 owner out.free 1 4 (omega arith) o.not_user refl refl) in
    let writes : grants A (object_of owner) (asks 1 []) 2 ≡ true =
    lifted user_writes A out.free owner 1 [] 2 first o (omega arith) (omega arith)
    (user_has 0 2 0 4 6 0 owner 2 (omega arith) o.not_user refl refl) in
    elim (cases_Bool (fin.contains_key A (user 1))) [
      | inl named ↦
          false≢true (decided_so permissions_rules A out.free owner 1 [] 4 0 are_permissions_rules sound o
          (omega arith) tt (omega arith) refl (own_entry A owner 1 (2 ∷ []) [] 4 acl.valid refl o.not_user named reads))
      | inr nameless ↦ false≢true (sym (stranger_writes owner out.free out.another)
          ∙ decided_so permissions_rules A out.free owner out.free [] 2 1 are_permissions_rules sound o out.is_id tt
          (omega arith) refl (no_entry A owner 1 out.free [] 2 acl.valid refl o.not_user o.not_free nameless
          out.unnamed writes))
    ]

-- for the list with two permissions, no ACL is above both
pub permissions_case : HaveNoneAbove two_permissions user_writes members_alone
permissions_case = subst (λ (l : List Ace). HaveNoneAbove l user_writes members_alone) permissions_list
    (record { first_sound = permissions_first; second_sound = permissions_second; none = permissions_none })
