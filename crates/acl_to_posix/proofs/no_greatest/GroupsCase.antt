-- A list without a greatest sound POSIX ACL: two groups, two permissions.
use Rattle.std.proofs.Common.{◌≡◌, ℕ, Bool, true, false, cond, List, [], ◌∷◌, refl, sym, ap, subst, ◌∙◌, arith, inl, inr}
use Rattle.std.proofs.lemmas.Bool.{cases_Bool, false≢true}
use Rattle.std.specs.Prelude.{◌||◌}
use Rattle.std.specs.List.{list_any}
use Rattle.std.specs.FinMap as fin
use Rattle.acl_perm.proofs.Bools.{and_true, or_false_right}
use Rattle.acl_perm.specs.declared.kind.Kind.TheVariants.{Allow, Deny}
use Rattle.acl_posix.specs.Check.{contains, entry_contains, grants, any_matches, any_contains}
use Rattle.acl_posix.specs.Entries.{Entries, as_set}
use Rattle.acl_posix.specs.Excess.{GrantsNothingMore}
use Rattle.acl_posix.specs.Tag.{user_obj, group_obj, group, other}
use Rattle.acl_posix.specs.Texts.{IsAcl}
use Rattle.acl_posix.specs.internal.GroupSearch.{group_contains}
use Rattle.acl_posix.proofs.Exports.{any_group, contains_empty}
use Rattle.acl_nfs4.specs.Ace.{Ace}
use Rattle.acl_eval.specs.Bridge.{image, ace_of}
use Rattle.acl_to_posix.specs.NoGreatest.{HaveNoneAbove, LeavesSomeOut, members_read, others_write, two_groups}
use Rattle.acl_to_posix.specs.ToPosix.{IsSound}
use Rattle.acl_to_posix.specs.internal.ShapeBody.{empty_shape}
use Rattle.acl_to_posix.proofs.shapes.ShapeChecks.{contains_nothing}
use Rattle.acl_eval.proofs.ValidChecks.{mask_contains}
use Rattle.acl_to_posix.proofs.SoundRules.{AreRules, Rule, rules_list, sound_by_passes}
use Rattle.acl_to_posix.proofs.no_greatest.ExampleAcls.{asks, at_class, bare_each, bare_set, bare_shape, bare_valid, decided_so, group_alone, group_each, group_reads, group_set, group_shape, group_valid, lifted, member_has, none_passes, object_of, read_passes, some_owner, write_passes}

-- the rules of the list with two groups: the group may read, the owning group may not write, and others may
abbrev groups_rules : List Rule
groups_rules = (Allow, (group 2, 4)) ∷ (Deny, (group_obj, 2)) ∷ (Allow, (other, 2)) ∷ []

-- they are rules
are_groups_rules : AreRules groups_rules
are_groups_rules = (refl, omega arith, λ e. absurd cc, (refl, tt, λ e. absurd cc, (refl, tt, λ e. absurd cc, tt)))

-- their ACEs are the list
groups_list : rules_list groups_rules ≡ two_groups
unfolding two_groups ace_of
groups_list = refl

-- the ACL in which members of the group may read, and who is in neither group may write, is sound
groups_first : IsSound (rules_list groups_rules) members_read
unfolding image members_read
groups_first = sound_by_passes groups_rules group_alone (as_set (group_set 0 0 4 4 2)) are_groups_rules
    (group_valid 0 0 4 4 2) (group_shape 0 0 4 4 2)
    (group_each groups_rules 0 0 4 4 2 (omega arith) (omega arith) (omega arith) (omega arith)
    (none_passes groups_rules group_alone user_obj) (none_passes groups_rules group_alone group_obj)
    (read_passes groups_rules group_alone (group 2) refl) (write_passes groups_rules group_alone other refl refl))

-- the ACL in which all but the owning group may write is sound
groups_second : IsSound (rules_list groups_rules) others_write
unfolding image others_write
groups_second = sound_by_passes groups_rules empty_shape (as_set (bare_set 0 0 0 2)) are_groups_rules
    (bare_valid 0 0 0 2) (bare_shape 0 0 0 2) (bare_each groups_rules 0 0 0 2 (omega arith) (omega arith) (omega arith)
    (none_passes groups_rules empty_shape user_obj) (none_passes groups_rules empty_shape group_obj)
    (write_passes groups_rules empty_shape other refl refl))

-- no entry of a group matches who is in no group
matches_none : (A : Entries) → any_matches A 3 [] ≡ false
matches_none A = sym (contains_empty A 3 []) ∙ sym (any_group A 3 0 [])

-- an entry matches who is in the group 2 alone if and only if the group has an entry
matches_one : (A : Entries) → any_matches A 3 (2 ∷ []) ≡ fin.contains_key A (group 2)
matches_one A = sym (contains_empty A 3 (2 ∷ [])) ∙ sym (any_group A 3 0 (2 ∷ []))
    ∙ or_false_right (entry_contains A (group 2) 0) ∙ contains_nothing (fin.get A (group 2))

-- one matches who is also in the owning group, if the group 2 has an entry
matches_two : (A : Entries) → fin.contains_key A (group 2) ≡ true → any_matches A 3 (2 ∷ 3 ∷ []) ≡ true
matches_two A there = sym (contains_empty A 3 (2 ∷ 3 ∷ [])) ∙ sym (any_group A 3 0 (2 ∷ 3 ∷ []))
    ∙ ap (λ (b : Bool). b || list_any (group_contains A 3 0) (3 ∷ []))
    (contains_nothing (fin.get A (group 2)) ∙ there)

-- who is in the group 2 alone has what its entry has
contains_one : (A : Entries) (want : ℕ) → any_contains A 3 (2 ∷ []) want ≡ entry_contains A (group 2) want
contains_one A want = sym (any_group A 3 want (2 ∷ [])) ∙ or_false_right (entry_contains A (group 2) want)

-- who is also in the owning group has at least what the entry of the group 2 has
contains_two : (A : Entries) (want : ℕ) → entry_contains A (group 2) want ≡ true
    → any_contains A 3 (2 ∷ 3 ∷ []) want ≡ true
contains_two A want h = sym (any_group A 3 want (2 ∷ 3 ∷ []))
    ∙ ap (λ (b : Bool). b || list_any (group_contains A 3 want) (3 ∷ [])) h

-- a choice whose test passes is its first part
cond-then : (m x y : Bool) → m ≡ true → cond m x y ≡ true → x ≡ true
cond-then m x y e h = sym (ap (λ (b : Bool). cond b x y) e) ∙ h

-- a choice whose test fails is its second part
cond-else : (m x y : Bool) → m ≡ false → cond m x y ≡ true → y ≡ true
cond-else m x y e h = sym (ap (λ (b : Bool). cond b x y) e) ∙ h

-- no sound ACL is above both: in it a member of both groups would write, or a stranger would read
groups_none : (A : Entries) → IsAcl A → LeavesSomeOut A → IsSound (rules_list groups_rules) A
    → GrantsNothingMore members_read A
    → GrantsNothingMore others_write A → ⊥
unfolding image members_read others_write
groups_none A acl out sound first second =
    let (owner, o) = some_owner out.free in
    let u : ℕ = out.free in
    let reads : grants A (object_of owner) (asks u (2 ∷ [])) 4 ≡ true =
    lifted members_read A out.free owner u (2 ∷ []) 4 first o out.is_id (omega arith)
    (group_reads 0 0 4 4 2 owner out.free u 4 (omega arith) o.not_free refl refl) in
    let writes : grants A (object_of owner) (asks u (2 ∷ [])) 2 ≡ true =
    lifted others_write A out.free owner u (2 ∷ []) 2 second o out.is_id (omega arith)
    (member_has 0 0 0 2 owner u 2 (omega arith) o.not_free refl) in
    let at = λ (gs : List ℕ) (want : ℕ) (whole : contains 7 want ≡ true).
    at_class A (object_of owner) (asks u gs) want acl.valid whole o.not_free out.unnamed in
    elim (cases_Bool (fin.contains_key A (group 2))) [
      | inl named ↦
          let both = and_true (entry_contains A (group 2) 2) (mask_contains A 2)
          (rw (sym (contains_one A 2)) (cond-then _ _ _ (matches_one A ∙ named) (sym (at (2 ∷ []) 2 refl) ∙ writes))) in
          false≢true (decided_so groups_rules A out.free owner u (2 ∷ 3 ∷ []) 2 1 are_groups_rules sound o out.is_id
          (omega arith, (omega arith, tt)) (omega arith) refl (at (2 ∷ 3 ∷ []) 2 refl
          ∙ rw (matches_two A named, contains_two A 2 both.0, both.1) refl))
      | inr nameless ↦
          let others : entry_contains A other 4 ≡ true =
          cond-else _ _ _ (matches_one A ∙ nameless) (sym (at (2 ∷ []) 4 refl) ∙ reads) in
          false≢true (decided_so groups_rules A out.free owner u [] 4 0 are_groups_rules sound o out.is_id tt
          (omega arith) refl (at [] 4 refl ∙ rw (matches_none A) others))
    ]

-- for the list with two groups, no ACL is above both
pub groups_case : HaveNoneAbove two_groups members_read others_write
groups_case = subst (λ (l : List Ace). HaveNoneAbove l members_read others_write) groups_list
    (record { first_sound = groups_first; second_sound = groups_second; none = groups_none })
