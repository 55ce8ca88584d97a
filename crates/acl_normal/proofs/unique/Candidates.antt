-- The order of three keys, and the flags that a principal needs.
use Rattle.std.proofs.Common.{refl, true, ℕ, ◌≡◌}
use Rattle.acl_normal.proofs.Common.{Ace, ColumnKey, Equal, Greater, IsWithin, Less, Ordering, ap, arith, compare_keys, false≢true, flags_for, has_bit, identifier_group, is_le, key_order, key_record, no_bit, only_bit, principal_of, subst, sym, ◌∙◌}
use Rattle.acl_perm.specs.Order.{key_cmp}
use Rattle.acl_normal.proofs.unique.Kept.{within_fewer, within_from}

-- a key less than one that is at most a third is at most the third
pub lt_le : (e f g : ColumnKey) → compare_keys e f ≡ Less → is_le (compare_keys f g) ≡ true
    → is_le (compare_keys e g) ≡ true
lt_le e f g h i = go (compare_keys f g) refl
  where
    go : (o : Ordering) → compare_keys f g ≡ o → is_le (compare_keys e g) ≡ true
    go Less j = ap is_le (key_order.transitive (key_record e) (key_record f) (key_record g) h j)
    go Equal j =
        let same = (key_order.equal (key_record f) (key_record g)).0 j in
        ap is_le (ap (key_cmp (key_record e)) (sym same) ∙ h)
    go Greater j = absurd (false≢true (ap is_le (sym j) ∙ i))

-- each set of flags has no flags within it
no_flags : (set : ℕ) → IsWithin set 0
no_flags set = within_from set 0 (λ k h. absurd (false≢true (sym (no_bit k) ∙ h)))

-- if flags within a set have IDENTIFIER_GROUP, that flag alone is within the set
group_flag : (set flags : ℕ) → IsWithin set flags → has_bit flags identifier_group ≡ true → IsWithin set 0x40
group_flag set flags is has =
    within_fewer set 0x40 flags is (λ k h. subst (λ n. has_bit flags n ≡ true) (sym (only_bit 6 k h)) has)

-- a set that has no flags within it, and IDENTIFIER_GROUP if the ACE has it, has those that the principal needs
naming_cases : (set : ℕ) (a : Ace) → IsWithin set 0
    → (has_bit a.flags identifier_group ≡ true → IsWithin set 0x40) → IsWithin set (flags_for (principal_of a))
naming_cases set a none own = grind arith

-- the flags that a principal needs are among those of an ACE that names it
pub naming_within : (set : ℕ) (a : Ace) → IsWithin set a.flags → IsWithin set (flags_for (principal_of a))
naming_within set a is = naming_cases set a (no_flags set) (group_flag set a.flags is)
