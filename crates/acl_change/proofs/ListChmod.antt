-- The list after a change of the mode, as the code makes it ACE by ACE.
use Rattle.std.proofs.Common.{◌≡◌, ℕ, Bool, List, [], ◌∷◌, ◌++◌, refl, sym, ap, subst, ◌∙◌, append_assoc}
use Rattle.std.specs.Prelude.{bit_and, not, true, false, ◌&&◌, Option}
use Rattle.std.specs.List.{flat_map}
use Rattle.std.proofs.lemmas.Bool.{ne_eqb}
use Rattle.std.proofs.lemmas.List.Concat.{flat_map-cons}
use Rattle.acl_perm.proofs.Sets.{has_bit-and, same_set}
use Rattle.acl_perm.specs.Bits.{IsDifference, has_bit, inherit_only}
use Rattle.acl_perm.specs.Mode.{group_part, others_part}
use Rattle.acl_perm.specs.Profile.{full}
use Rattle.acl_perm.specs.declared.kind.Kind.TheVariants.{Deny}
use Rattle.acl_nfs4.specs.Ace.{Ace}
use Rattle.acl_nfs4.specs.declared.ace.AceRef.{AceRef}
use Rattle.acl_nfs4.specs.Spelling.{IsAccepted}
use Rattle.acl_nfs4.specs.Who.{principal_of}
use Rattle.acl_nfs4.specs.Within.{IsWithin}
use Rattle.acl_nfs4.proofs.Exports.{bit_within, front_accepted}
use Rattle.acl_eval.proofs.Parts.{first_fits}
use Rattle.acl_eval.proofs.Scans.{has_bit-without}
use Rattle.acl_eval.specs.Bridge.{image}
use Rattle.acl_change.specs.ListChmod.{after_chmod, chmod_list, denied_rights, for_new_objects, for_this_object, lost_rights, other_aces, owner_aces, unless_empty}
use Rattle.acl_change.specs.internal.UpToThree.{up_to_one}
use Rattle.acl_eval.specs.Scan.{without}
use Rattle.acl_eval.specs.Unnamed.{is_unnamed}

-- a difference of two sets is the first without the bits of the second
pub difference_without : (m n d : ℕ) → IsDifference m n d → d ≡ without m n
difference_without m n d is = same_set d (without m n) (λ k. is k ∙ sym (has_bit-without m n k))

-- what is denied to a name
pub denied_of_name : (mode : ℕ) (a : Ace) (rights : ℕ) → is_unnamed (principal_of a) ≡ false
    → rights ≡ bit_and a.mask (image (without (others_part mode) (group_part mode))) → rights ≡ denied_rights mode a
denied_of_name mode a rights e is = rw e is

-- a part of a set is within what the set is within
pub without_within : (set n c : ℕ) → IsWithin set n → IsWithin set (without n c)
without_within set n c is = same_set _ _ (λ k.
    has_bit-and (without n c) set k ∙ ap (λ (b : Bool). b && has_bit set k) (has_bit-without n c k)
    ∙ kept (has_bit n k) (has_bit c k) (has_bit set k) (bit_within set n k is) ∙ sym (has_bit-without n c k))
  where
    kept : (f c s : Bool) → (f && s) ≡ f → ((f && not c) && s) ≡ (f && not c)
    kept false c s e = refl
    kept true true s e = refl
    kept true false s e = e

-- ---- one ACE

-- what the list has in place of an ACE that takes part and loses a right
pub changed_is : (mode : ℕ) (a : Ace) → not (has_bit a.flags inherit_only) ≡ true → (lost_rights mode a ≡ 0 → ⊥)
    → after_chmod mode a ≡ for_new_objects a
    ++ (unless_empty (for_this_object a Deny (denied_rights mode a))
    ++ unless_empty (for_this_object a a.kind (without a.mask (lost_rights mode a))))
changed_is mode a part some = rw (part, ne_eqb (lost_rights mode a) 0 some) refl

-- the three ACEs that the list has in its place
pub three_parts : (first second third : Option AceRef) {x y z : List Ace} → up_to_one first ≡ x → up_to_one second ≡ y
    → up_to_one third ≡ z → up_to_one first ++ (up_to_one second ++ up_to_one third) ≡ x ++ (y ++ z)
three_parts first second third p q r = rw (p, q, r) refl

-- if a list is accepted with three more parts, it is accepted with the first two of them
pub second_fits : (old mid a b c : List Ace) → mid ≡ old ++ a → IsAccepted full (old ++ (a ++ (b ++ c)))
    → IsAccepted full (mid ++ b)
second_fits old mid a b c step ok = first_fits mid b c
    (subst (IsAccepted full) (sym (ap (λ (l : List Ace). l ++ (b ++ c)) step ∙ append_assoc old a (b ++ c))) ok)

-- ---- one ACE after the other

-- the list so far, what it is to have for the ACEs that are left, and the ACEs of the group and of others are the whole
-- list
pub record IsOnTheWay (mode : ℕ) (so_far left list : List Ace) : Type 0 where
  pub is : so_far ++ (flat_map (after_chmod mode) left ++ other_aces mode) ≡ chmod_list mode list

-- after the ACEs of the owner
pub way_begins : (mode : ℕ) {none first aces left list : List Ace} → none ≡ [] → first ≡ none ++ aces
    → aces ≡ owner_aces mode → left ≡ list → IsOnTheWay mode first left list
way_begins mode {aces = aces} {left = left} empty step owner same = record {
  is = ap (λ (l : List Ace). l ++ (flat_map (after_chmod mode) left ++ other_aces mode))
      (step ∙ ap (λ (l : List Ace). l ++ aces) empty ∙ owner)
      ∙ ap (λ (l : List Ace). owner_aces mode ++ (flat_map (after_chmod mode) l ++ other_aces mode)) same;
}

-- if the whole list is accepted, so is the part of the owner
pub owner_fits : (mode : ℕ) (list : List Ace) {none aces : List Ace} → none ≡ [] → aces ≡ owner_aces mode
    → IsAccepted full (chmod_list mode list) → IsAccepted full (none ++ aces)
owner_fits mode list {aces = aces} empty owner ok =
    subst (IsAccepted full) (sym (ap (λ (l : List Ace). l ++ aces) empty ∙ owner))
    (front_accepted full (owner_aces mode) (flat_map (after_chmod mode) list ++ other_aces mode) ok)

-- the whole list begins with the list so far and what it is to have for the next ACE
next_ace : {mode : ℕ} {so_far left list : List Ace} (a : Ace) (rest : List Ace) → left ≡ a ∷ rest
    → IsOnTheWay mode so_far left list
    → (so_far ++ after_chmod mode a) ++ (flat_map (after_chmod mode) rest ++ other_aces mode) ≡ chmod_list mode list
next_ace {mode = mode} {so_far = so_far} a rest next way =
    append_assoc so_far (after_chmod mode a) (flat_map (after_chmod mode) rest ++ other_aces mode)
    ∙ ap (λ (l : List Ace). so_far ++ l)
    (sym (append_assoc (after_chmod mode a) (flat_map (after_chmod mode) rest) (other_aces mode)))
    ∙ ap (λ (l : List Ace). so_far ++ (l ++ other_aces mode)) (sym (flat_map-cons (after_chmod mode) a rest))
    ∙ ap (λ (l : List Ace). so_far ++ (flat_map (after_chmod mode) l ++ other_aces mode)) (sym next) ∙ way.is

-- one more ACE
pub way_on : {mode : ℕ} {so_far new aces left list : List Ace} (a : Ace) (rest : List Ace) → left ≡ a ∷ rest
    → aces ≡ after_chmod mode a → new ≡ so_far ++ aces → IsOnTheWay mode so_far left list
    → IsOnTheWay mode new rest list
way_on {mode = mode} {so_far = so_far} a rest next same step way = record {
  is = ap (λ (l : List Ace). l ++ (flat_map (after_chmod mode) rest ++ other_aces mode))
      (step ∙ ap (λ (l : List Ace). so_far ++ l) same) ∙ next_ace a rest next way;
}

-- if the whole list is accepted, so is the list with what it is to have for the next ACE
pub way_fits : {mode : ℕ} {so_far aces left list : List Ace} (a : Ace) (rest : List Ace) → left ≡ a ∷ rest
    → aces ≡ after_chmod mode a → IsOnTheWay mode so_far left list → IsAccepted full (chmod_list mode list)
    → IsAccepted full (so_far ++ aces)
way_fits {mode = mode} {so_far = so_far} a rest next same way ok =
    subst (λ (l : List Ace). IsAccepted full (so_far ++ l)) (sym same)
    (front_accepted full (so_far ++ after_chmod mode a) (flat_map (after_chmod mode) rest ++ other_aces mode)
    (subst (IsAccepted full) (sym (next_ace a rest next way)) ok))

-- after the last ACE, the list so far and the ACEs of the group and of others are the whole list
pub way_ends : {mode : ℕ} {so_far aces left list : List Ace} → left ≡ [] → aces ≡ other_aces mode
    → IsOnTheWay mode so_far left list → so_far ++ aces ≡ chmod_list mode list
way_ends {mode = mode} {so_far = so_far} none same way =
    ap (λ (l : List Ace). so_far ++ l) same
    ∙ ap (λ (l : List Ace). so_far ++ (flat_map (after_chmod mode) l ++ other_aces mode)) (sym none) ∙ way.is
