-- The list after a change of the mode is accepted if and only if it is within the limits. They are counted ACE by ACE.
use Rattle.std.proofs.Common.{◌≡◌, ℕ, ◌+◌, ◌-◌, ◌<◌, ◌≤◌, Bool, true, false, eqb, List, [], ◌∷◌, ◌++◌, length, refl, sym, ap, subst, ◌∙◌, arith, length-append}
use Rattle.std.specs.Prelude.{◌↔◌, ◌||◌, IsTrue, not}
use Rattle.std.specs.List.{AllByRecursion, flat_map}
use Rattle.std.proofs.lemmas.Bool.{true≢false}
use Rattle.std.proofs.lemmas.List.Concat.{flat_map-cons}
use Rattle.std.proofs.lemmas.Nat.{and_assoc}
use Rattle.acl_perm.proofs.Sets.{IsMask-and}
use Rattle.acl_perm.specs.Bits.{IsMask, all_flags, all_mode_bits, all_rights, has_bit}
use Rattle.acl_perm.specs.Mode.{group_part, others_part, owner_part}
use Rattle.acl_perm.specs.Profile.{full}
use Rattle.acl_perm.specs.declared.kind.Kind.{Kind}
use Rattle.acl_perm.specs.declared.kind.Kind.TheVariants.{Allow, Deny}
use Rattle.acl_nfs4.specs.Ace.{Ace}
use Rattle.acl_nfs4.specs.Limits.{most_aces, most_weight}
use Rattle.acl_nfs4.specs.Spelling.{IsAccepted, IsAce, weight}
use Rattle.acl_nfs4.specs.Who.{IsWho, everyone_name, group_name, owner_name}
use Rattle.acl_nfs4.proofs.Exports.{is_who-everyone, is_who-group, is_who-owner, union_within}
use Rattle.acl_eval.specs.Column.{takes_part}
use Rattle.acl_eval.specs.Scan.{without}
use Rattle.acl_eval.proofs.BridgeWeight.{weight-append}
use Rattle.acl_eval.proofs.Images.{image_mask}
use Rattle.acl_change.specs.ListChmod.{after_chmod, chmod_list, class_ace, denied_rights, for_new_objects, for_this_object, lost_rights, not_passed_on, other_aces, owner_aces, unless_empty}
use Rattle.acl_change.proofs.ChmodAces.{group_lt, others_lt}
use Rattle.acl_change.proofs.ListChmod.{without_within}

-- ---- each ACE may be in a list

-- each of these ACEs may be in a list
abbrev AreAces : List Ace → Type 0
AreAces list = AllByRecursion (IsAce full) list

-- if the ACEs of two lists may be in a list, so may those of both lists together
are-append : (xs ys : List Ace) → AreAces xs → AreAces ys → AreAces (xs ++ ys)
are-append [] ys h g = g
are-append (a ∷ xs) ys h g = (h.0, are-append xs ys h.1 g)

-- an ACE that is left out if its mask is empty
are-unless_empty : (a : Ace) → IsAce full a → AreAces (unless_empty a)
are-unless_empty a is = by (eqb a.mask 0) refl
  where
    by : (z : Bool) → eqb a.mask 0 ≡ z → AreAces (unless_empty a)
    by true z = rw z tt
    by false z = rw z (is, tt)

-- an ACE for this object alone
is-for_this_object : (a : Ace) (kind : Kind) (mask : ℕ) → IsAce full a → IsMask mask
    → IsAce full (for_this_object a kind mask)
is-for_this_object a kind mask is rights = record {
  flags = and_assoc all_flags a.flags not_passed_on;
  mask = rights;
  who = is.who;
}

-- an ACE for new objects alone, or none
are-for_new_objects : (a : Ace) → IsAce full a → AreAces (for_new_objects a)
are-for_new_objects a is = by (has_bit a.flags 0 || has_bit a.flags 1) refl
  where
    by : (z : Bool) → (has_bit a.flags 0 || has_bit a.flags 1) ≡ z → AreAces (for_new_objects a)
    by true z =
        rw z (record { flags = union_within all_flags a.flags 8 is.flags refl; mask = is.mask; who = is.who }, tt)
    by false z = rw z tt

-- what the list has in place of an ACE
are-after_chmod : (mode : ℕ) (a : Ace) → IsAce full a → AreAces (after_chmod mode a)
are-after_chmod mode a is = by (not (takes_part a) || eqb (lost_rights mode a) 0) refl
  where
    by : (z : Bool) → (not (takes_part a) || eqb (lost_rights mode a) 0) ≡ z → AreAces (after_chmod mode a)
    by true z = rw z (is, tt)
    by false z = rw z (are-append (for_new_objects a) _ (are-for_new_objects a is)
        (are-append (unless_empty (for_this_object a Deny (denied_rights mode a))) _
        (are-unless_empty (for_this_object a Deny (denied_rights mode a))
        (is-for_this_object a Deny (denied_rights mode a) is (IsMask-and a.mask _ is.mask)))
        (are-unless_empty (for_this_object a a.kind (without a.mask (lost_rights mode a)))
        (is-for_this_object a a.kind (without a.mask (lost_rights mode a)) is
        (without_within all_rights a.mask (lost_rights mode a) is.mask)))))

-- what the list has in place of the ACEs of a list
are-changed : (mode : ℕ) (list : List Ace) → AreAces list → AreAces (flat_map (after_chmod mode) list)
are-changed mode [] each = tt
are-changed mode (a ∷ list) each = subst AreAces (sym (flat_map-cons (after_chmod mode) a list))
    (are-append (after_chmod mode a) _ (are-after_chmod mode a each.0) (are-changed mode list each.1))

-- an ACE of a special identifier
are-class_ace : (kind : Kind) (who : List ℕ) (perm : ℕ) → perm < 8 → IsWho who → AreAces (class_ace kind who perm)
are-class_ace kind who perm small is =
    are-unless_empty _ (record { flags = refl; mask = image_mask perm small; who = is })

-- the ACEs of the owner
are-owner_aces : (mode : ℕ) → mode ≤ all_mode_bits → AreAces (owner_aces mode)
are-owner_aces mode le = are-append (class_ace Allow owner_name (owner_part mode)) _
    (are-class_ace Allow owner_name (owner_part mode) (omega (arith, le)) is_who-owner)
    (are-class_ace Deny owner_name (7 - owner_part mode) (omega (arith, le)) is_who-owner)

-- the ACEs of the group and of others
are-other_aces : (mode : ℕ) → AreAces (other_aces mode)
are-other_aces mode = are-append (class_ace Allow group_name (group_part mode)) _
    (are-class_ace Allow group_name (group_part mode) (group_lt mode) is_who-group)
    (are-append (class_ace Deny group_name (7 - group_part mode)) _
    (are-class_ace Deny group_name (7 - group_part mode) (omega arith) is_who-group)
    (are-class_ace Allow everyone_name (others_part mode) (others_lt mode) is_who-everyone))

-- within the limits, the list is accepted
accepted_within : (mode : ℕ) (list : List Ace) → mode ≤ all_mode_bits → AreAces list
    → length (chmod_list mode list) ≤ most_aces → weight (chmod_list mode list) ≤ most_weight
    → IsAccepted full (chmod_list mode list)
accepted_within mode list le each few light = record {
  count = few;
  weight = light;
  each = are-append (owner_aces mode) _ (are-owner_aces mode le)
      (are-append (flat_map (after_chmod mode) list) _ (are-changed mode list each) (are-other_aces mode));
}

-- ---- the count, ACE by ACE

-- the length of three lists together
length-three : (xs ys zs : List Ace) → length (xs ++ (ys ++ zs)) ≡ length xs + (length ys + length zs)
length-three xs ys zs = omega (arith, length-append xs (ys ++ zs), length-append ys zs)

-- the weight of three lists together
weight-three : (xs ys zs : List Ace) → weight (xs ++ (ys ++ zs)) ≡ weight xs + (weight ys + weight zs)
weight-three xs ys zs = omega (arith, weight-append xs (ys ++ zs), weight-append ys zs)

-- the numbers of ACEs and of mask bits so far, and those of what the list is to have for the ACEs that are left, are
-- those of the whole list
pub record AreSizesSoFar (mode aces bits : ℕ) (left list : List Ace) : Type 0 where
  pub all_aces : aces + length (flat_map (after_chmod mode) left) ≡ length (chmod_list mode list)
  pub all_bits : bits + weight (flat_map (after_chmod mode) left) ≡ weight (chmod_list mode list)

-- after the ACEs of the owner, of the group and of others
pub counted_first : (mode : ℕ) {first last left list : List Ace} {n o p q : ℕ} → first ≡ owner_aces mode
    → last ≡ other_aces mode → left ≡ list → n ≡ length first → o ≡ length last → p ≡ weight first → q ≡ weight last
    → AreSizesSoFar mode (n + o) (p + q) left list
counted_first mode {list = list} owner others same nl ol pw qw =
    let changed : List Ace = flat_map (after_chmod mode) list in
    record {
      all_aces = omega (
        arith,
        nl ∙ ap length owner,
        ol ∙ ap length others,
        ap (λ (l : List Ace). length (flat_map (after_chmod mode) l)) same,
        length-three (owner_aces mode) changed (other_aces mode),
      );
      all_bits = omega (
        arith,
        pw ∙ ap weight owner,
        qw ∙ ap weight others,
        ap (λ (l : List Ace). weight (flat_map (after_chmod mode) l)) same,
        weight-three (owner_aces mode) changed (other_aces mode),
      );
    }

-- after one more ACE
pub counted_on : {mode aces bits n m : ℕ} {new left list : List Ace} (a : Ace) (rest : List Ace) → left ≡ a ∷ rest
    → new ≡ after_chmod mode a → n ≡ length new → m ≡ weight new → AreSizesSoFar mode aces bits left list
    → AreSizesSoFar mode (aces + n) (bits + m) rest list
counted_on {mode = mode} a rest next same nl mw so_far =
    let begins = ap (flat_map (after_chmod mode)) next ∙ flat_map-cons (after_chmod mode) a rest in
    record {
      all_aces = omega (
        arith,
        nl ∙ ap length same,
        ap length begins ∙ length-append (after_chmod mode a) (flat_map (after_chmod mode) rest),
        so_far.all_aces,
      );
      all_bits = omega (
        arith,
        mw ∙ ap weight same,
        ap weight begins ∙ weight-append (after_chmod mode a) (flat_map (after_chmod mode) rest),
        so_far.all_bits,
      );
    }

-- if a number so far is above its limit, the list is not accepted
pub too_large : {mode aces bits : ℕ} {left list : List Ace} → AreSizesSoFar mode aces bits left list
    → ((aces ≤ most_aces) × (bits ≤ most_weight) → ⊥) → IsTrue false ↔ IsAccepted full (chmod_list mode list)
too_large so_far above = (
  λ f. absurd (true≢false (sym f)),
  λ ok. absurd (above (omega (arith, so_far.all_aces, ok.count), omega (arith, so_far.all_bits, ok.weight))),
)

-- if the numbers of all ACEs and of their mask bits are within the limits, the list is accepted
pub all_within : {mode aces bits : ℕ} {left list : List Ace} → mode ≤ all_mode_bits → IsAccepted full list → left ≡ []
    → AreSizesSoFar mode aces bits left list → aces ≤ most_aces → bits ≤ most_weight
    → IsTrue true ↔ IsAccepted full (chmod_list mode list)
all_within {mode = mode} {list = list} le old none whole few light = (
  λ _. accepted_within mode list le old.each
      (omega (arith, ap (λ (l : List Ace). length (flat_map (after_chmod mode) l)) none, whole.all_aces))
      (omega (arith, ap (λ (l : List Ace). weight (flat_map (after_chmod mode) l)) none, whole.all_bits)),
  λ _. refl,
)
