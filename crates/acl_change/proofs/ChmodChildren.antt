-- What new objects inherit after a change of the mode.
use Rattle.std.proofs.Common.{◌≡◌, ℕ, Bool, true, false, eqb, List, [], ◌∷◌, ◌++◌, refl, sym, ap, ◌∙◌}
use Rattle.std.specs.Prelude.{◌&&◌, ◌||◌, not, bit_and, bit_or, Option, None, Some}
use Rattle.std.specs.List.{flat_map}
use Rattle.std.proofs.lemmas.List.{append-nil}
use Rattle.std.proofs.lemmas.List.Concat.{flat_map-cons}
use Rattle.acl_perm.proofs.Bools.{and_false_right, or_false_right}
use Rattle.acl_perm.proofs.Sets.{has_bit-and, has_bit-or, no_bit, same_set}
use Rattle.acl_perm.specs.Bits.{has_bit}
use Rattle.acl_perm.specs.declared.kind.Kind.TheVariants.{Allow, Deny}
use Rattle.acl_nfs4.specs.Ace.{Ace}
use Rattle.acl_nfs4.specs.Who.{everyone_name, group_name, owner_name}
use Rattle.acl_perm.specs.declared.kind.Kind.{Kind}
use Rattle.acl_perm.specs.Mode.{group_part, others_part, owner_part}
use Rattle.acl_eval.specs.Inheritance.{child_flags, children, ends, goes_on, with_flags}
use Rattle.acl_change.specs.ListChmod.{after_chmod, chmod_list, class_ace, denied_rights, for_new_objects, for_this_object, lost_rights, other_aces, owner_aces, unless_empty}
use Rattle.acl_eval.specs.Column.{takes_part}
use Rattle.acl_eval.specs.Scan.{without}
use Rattle.acl_eval.specs.declared.inherit.ChildKind.{ChildKind}
use Rattle.acl_eval.specs.declared.inherit.ChildKind.TheVariants.{File, Directory}
use Rattle.acl_eval.proofs.Children.{child_has, child_lacks}
use Rattle.acl_change.proofs.ChmodAces.{stays}
use Rattle.std.specs.Prelude.{◌-◌}

-- ---- one list after the other

-- the child of two lists has what it has from the first and then from the second
children-append : (kind : ChildKind) (xs ys : List Ace)
    → children kind (xs ++ ys) ≡ children kind xs ++ children kind ys
children-append kind [] ys = refl
children-append kind (a ∷ xs) ys = by (children-append kind xs ys) (child_flags kind a.flags) refl
  where
    by : children kind (xs ++ ys) ≡ children kind xs ++ children kind ys → (o : Option ℕ)
        → child_flags kind a.flags ≡ o → children kind (a ∷ (xs ++ ys)) ≡ children kind (a ∷ xs) ++ children kind ys
    by rest None e = child_lacks kind a (xs ++ ys) e ∙ rest
        ∙ ap (λ (l : List Ace). l ++ children kind ys) (sym (child_lacks kind a xs e))
    by rest (Some f) e = child_has kind a (xs ++ ys) f e ∙ ap (λ (l : List Ace). with_flags a f ∷ l) rest
        ∙ ap (λ (l : List Ace). l ++ children kind ys) (sym (child_has kind a xs f e))

-- ---- flags

-- an ACE without flags is not inherited
none_without_flags : (kind : ChildKind) → child_flags kind 0 ≡ None
none_without_flags File = refl
none_without_flags Directory = refl

-- an ACE with neither FILE_INHERIT nor DIRECTORY_INHERIT is not inherited
none_of_neither : (kind : ChildKind) (flags : ℕ) → has_bit flags 0 ≡ false → has_bit flags 1 ≡ false
    → child_flags kind flags ≡ None
none_of_neither File flags f d = rw f refl
none_of_neither Directory flags f d = by (has_bit flags 2) refl
  where
    by : (n : Bool) → has_bit flags 2 ≡ n → child_flags Directory flags ≡ None
    by true n = rw (d, n) refl
    by false n = rw (d, n, f) refl

-- an ACE for this object alone is not inherited
none_here : (kind : ChildKind) (flags : ℕ) → child_flags kind (bit_and flags 0xf0) ≡ None
none_here kind flags = none_of_neither kind (bit_and flags 0xf0)
    (has_bit-and flags 0xf0 0 ∙ and_false_right (has_bit flags 0))
    (has_bit-and flags 0xf0 1 ∙ and_false_right (has_bit flags 1))

-- one more test does not matter beside a test that it excludes
excluded : (x y z : Bool) → (y && z) ≡ false → ((x || y) && z) ≡ (x && z)
excluded true y true e = refl
excluded true y false e = refl
excluded false true true e = absurd cc
excluded false true false e = refl
excluded false false z e = refl

-- flags bit_and-or_outside a set do not matter for the part in the set
bit_and-or_outside : (flags more set : ℕ) → bit_and more set ≡ 0 → bit_and (bit_or flags more) set ≡ bit_and flags set
bit_and-or_outside flags more set none = same_set _ _ (λ k.
    has_bit-and (bit_or flags more) set k ∙ ap (λ (t : Bool). t && has_bit set k) (has_bit-or flags more k)
    ∙ excluded (has_bit flags k) (has_bit more k) (has_bit set k)
    (sym (has_bit-and more set k) ∙ ap (λ (n : ℕ). has_bit n k) none ∙ no_bit k)
    ∙ sym (has_bit-and flags set k))

-- INHERIT_ONLY does not change how an ACE is inherited
waits_alike : (kind : ChildKind) (flags : ℕ) → child_flags kind (bit_or flags 8) ≡ child_flags kind flags
waits_alike kind flags =
    let f : has_bit (bit_or flags 8) 0 ≡ has_bit flags 0 = has_bit-or flags 8 0 ∙ or_false_right (has_bit flags 0) in
    let d : has_bit (bit_or flags 8) 1 ≡ has_bit flags 1 = has_bit-or flags 8 1 ∙ or_false_right (has_bit flags 1) in
    let n : has_bit (bit_or flags 8) 2 ≡ has_bit flags 2 = has_bit-or flags 8 2 ∙ or_false_right (has_bit flags 2) in
    let e : ends (bit_or flags 8) ≡ ends flags = bit_and-or_outside flags 8 0x70 refl in
    let g : goes_on (bit_or flags 8) ≡ goes_on flags = bit_and-or_outside flags 8 0x77 refl in
    by kind f d n e g
  where
    by : (kind : ChildKind) → has_bit (bit_or flags 8) 0 ≡ has_bit flags 0
        → has_bit (bit_or flags 8) 1 ≡ has_bit flags 1
        → has_bit (bit_or flags 8) 2 ≡ has_bit flags 2 → ends (bit_or flags 8) ≡ ends flags
        → goes_on (bit_or flags 8) ≡ goes_on flags → child_flags kind (bit_or flags 8) ≡ child_flags kind flags
    by File f d n e g = rw (f, e) refl
    by Directory f d n e g = rw (f, d, n, e, g) refl

-- ---- one ACE

-- an ACE that is not inherited gives nothing, whether it is left out or not
gives_nothing : (kind : ChildKind) (a : Ace) → child_flags kind a.flags ≡ None → children kind (unless_empty a) ≡ []
gives_nothing kind a e = by (eqb a.mask 0) refl
  where
    by : (z : Bool) → eqb a.mask 0 ≡ z → children kind (unless_empty a) ≡ []
    by true z = rw z refl
    by false z = rw z (child_lacks kind a [] e)

-- new objects inherit the ACE for new objects as they inherit the ACE
new_objects : (kind : ChildKind) (a : Ace) → children kind (for_new_objects a) ≡ children kind (a ∷ [])
new_objects kind a = by (has_bit a.flags 0) (has_bit a.flags 1) refl refl
  where
    waiting_copy : Ace
    waiting_copy = with_flags a (bit_or a.flags 8)

    copied : (o : Option ℕ) → child_flags kind a.flags ≡ o → children kind (waiting_copy ∷ []) ≡ children kind (a ∷ [])
    copied None e = child_lacks kind waiting_copy [] (waits_alike kind a.flags ∙ e) ∙ sym (child_lacks kind a [] e)
    copied (Some f) e = child_has kind waiting_copy [] f (waits_alike kind a.flags ∙ e) ∙ sym (child_has kind a [] f e)

    by : (f d : Bool) → has_bit a.flags 0 ≡ f → has_bit a.flags 1 ≡ d
        → children kind (for_new_objects a) ≡ children kind (a ∷ [])
    by true d p q = rw p (copied (child_flags kind a.flags) refl)
    by false true p q = rw (p, q) (copied (child_flags kind a.flags) refl)
    by false false p q = rw (p, q) (sym (child_lacks kind a [] (none_of_neither kind a.flags p q)))

-- new objects inherit what the list has in place of an ACE as they inherit the ACE
ace_inherited : (kind : ChildKind) (mode : ℕ) (a : Ace) → children kind (after_chmod mode a) ≡ children kind (a ∷ [])
ace_inherited kind mode a = by (not (takes_part a) || eqb (lost_rights mode a) 0) refl
  where
    denying : List Ace
    denying = unless_empty (for_this_object a Deny (denied_rights mode a))

    kept : List Ace
    kept = unless_empty (for_this_object a a.kind (without a.mask (lost_rights mode a)))

    nothing : children kind (denying ++ kept) ≡ []
    nothing = children-append kind denying kept
        ∙ ap (λ (l : List Ace). l ++ children kind kept)
        (gives_nothing kind (for_this_object a Deny (denied_rights mode a)) (none_here kind a.flags))
        ∙ gives_nothing kind (for_this_object a a.kind (without a.mask (lost_rights mode a))) (none_here kind a.flags)

    by : (z : Bool) → (not (takes_part a) || eqb (lost_rights mode a) 0) ≡ z
        → children kind (after_chmod mode a) ≡ children kind (a ∷ [])
    by true z = ap (children kind) (stays mode a z)
    by false z =
        let is : after_chmod mode a ≡ for_new_objects a ++ (denying ++ kept) = rw z refl in
        ap (children kind) is ∙ children-append kind (for_new_objects a) (denying ++ kept)
        ∙ ap (λ (l : List Ace). children kind (for_new_objects a) ++ l) nothing
        ∙ append-nil (children kind (for_new_objects a)) ∙ new_objects kind a

-- ---- the whole list

-- an ACE of permissions is not inherited
class_nothing : (kind : ChildKind) (k : Kind) (who : List ℕ) (perm : ℕ) → children kind (class_ace k who perm) ≡ []
class_nothing kind k who perm = gives_nothing kind _ (none_without_flags kind)

-- new objects inherit from the ACEs of the old list what they inherited
list_inherited : (kind : ChildKind) (mode : ℕ) (list : List Ace)
    → children kind (flat_map (after_chmod mode) list) ≡ children kind list
list_inherited kind mode [] = refl
list_inherited kind mode (a ∷ list) =
    ap (children kind) (flat_map-cons (after_chmod mode) a list)
    ∙ children-append kind (after_chmod mode a) (flat_map (after_chmod mode) list)
    ∙ ap (λ (l : List Ace). l ++ children kind (flat_map (after_chmod mode) list)) (ace_inherited kind mode a)
    ∙ ap (λ (l : List Ace). children kind (a ∷ []) ++ l) (list_inherited kind mode list)
    ∙ sym (children-append kind (a ∷ []) list)

-- new objects inherit what they inherited before
pub inherited_as_before : (kind : ChildKind) (mode : ℕ) (list : List Ace)
    → children kind (chmod_list mode list) ≡ children kind list
inherited_as_before kind mode list =
    let u : ℕ = owner_part mode in
    let g : ℕ = group_part mode in
    let first : children kind (owner_aces mode) ≡ [] =
    children-append kind (class_ace Allow owner_name u) (class_ace Deny owner_name (7 - u))
    ∙ ap (λ (l : List Ace). l ++ children kind (class_ace Deny owner_name (7 - u)))
    (class_nothing kind Allow owner_name u)
    ∙ class_nothing kind Deny owner_name (7 - u) in
    let others : List Ace = class_ace Allow everyone_name (others_part mode) in
    let last : children kind (other_aces mode) ≡ [] =
    children-append kind (class_ace Allow group_name g) (class_ace Deny group_name (7 - g) ++ others)
    ∙ ap (λ (l : List Ace). l ++ children kind (class_ace Deny group_name (7 - g) ++ others))
    (class_nothing kind Allow group_name g)
    ∙ children-append kind (class_ace Deny group_name (7 - g)) others
    ∙ ap (λ (l : List Ace). l ++ children kind others) (class_nothing kind Deny group_name (7 - g))
    ∙ class_nothing kind Allow everyone_name (others_part mode) in
    children-append kind (owner_aces mode) (flat_map (after_chmod mode) list ++ other_aces mode)
    ∙ ap (λ (l : List Ace). l ++ children kind (flat_map (after_chmod mode) list ++ other_aces mode)) first
    ∙ children-append kind (flat_map (after_chmod mode) list) (other_aces mode)
    ∙ ap (λ (l : List Ace). children kind (flat_map (after_chmod mode) list) ++ l) last
    ∙ append-nil (children kind (flat_map (after_chmod mode) list)) ∙ list_inherited kind mode list
