-- The classes of a mode, ACE by ACE.
use Rattle.std.proofs.Common.{◌≡◌, ℕ, Bool, List, [], ◌∷◌, refl, sym, ap, ◌∙◌}
use Rattle.std.specs.Prelude.{◌||◌}
use Rattle.acl_perm.proofs.Bools.{and_false_right, or_false_right}
use Rattle.acl_perm.specs.Bits.{has_bit}
use Rattle.acl_perm.specs.Mode.{mode_of_parts}
use Rattle.acl_nfs4.specs.Ace.{Ace}
use Rattle.acl_eval.specs.ListMode.{is_granted_by, perm_of}
use Rattle.acl_eval.specs.internal.Settled.{SettleAs, decides_for, settled_in}
use Rattle.acl_eval.specs.declared.each_right.GrantedSoFar.{GrantedSoFar}
use Rattle.acl_eval.specs.declared.mode.FileClass.{FileClass}
use Rattle.acl_eval.specs.declared.mode.FileClass.TheVariants.{Owner, Group, Others}

-- what is known so far of each class and the rest of a list settle what the whole list grants it
pub record SettleAll (o g r : GrantedSoFar) (rest whole : List Ace) : Type 0 where
  pub owner : SettleAs Owner o rest whole
  pub group : SettleAs Group g rest whole
  pub others : SettleAs Others r rest whole

-- what is known after one more ACE settles with the rest of the list what the whole list grants
pub settle_after : {class : FileClass} {old new : GrantedSoFar} {a : Ace} {list rest whole : List Ace} → list ≡ a ∷ rest
    → ((bit : ℕ) → settled_in class new rest bit ≡ settled_in class old (a ∷ rest) bit)
    → SettleAs class old list whole → SettleAs class new rest whole
settle_after {class = class} {old = old} next step so_far = record {
  same = λ bit. step bit ∙ ap (λ (xs : List Ace). settled_in class old xs bit) (sym next) ∙ so_far.same bit;
}

-- at the end of the list a bit is granted if and only if it is granted already
at_the_end : (class : FileClass) (so_far : GrantedSoFar) (bit : ℕ)
    → settled_in class so_far [] bit ≡ has_bit so_far.granted.bits bit
at_the_end class so_far bit =
    ap (λ (x : Bool). has_bit so_far.granted.bits bit || x) (and_false_right (has_bit so_far.left.bits bit))
    ∙ or_false_right (has_bit so_far.granted.bits bit)

-- if the four bits are the same, so are the permissions
pub same_perm : (g h : ℕ → Bool) → g 0 ≡ h 0 → g 1 ≡ h 1 → g 2 ≡ h 2 → g 5 ≡ h 5 → perm_of g ≡ perm_of h
same_perm g h a b c d = rw (a, b, c, d) refl

-- at the end of the list, what is granted so far are the permissions that the whole list grants
pub granted_perm : {class : FileClass} {so_far : GrantedSoFar} {rest list : List Ace} → rest ≡ []
    → SettleAs class so_far rest list
    → perm_of (has_bit so_far.granted.bits) ≡ perm_of (is_granted_by (decides_for class) list)
granted_perm {class = class} {so_far = so_far} {list = list} none settled =
    let at = λ (bit : ℕ). sym (at_the_end class so_far bit)
    ∙ ap (λ (l : List Ace). settled_in class so_far l bit) (sym none) ∙ settled.same bit in
    same_perm (has_bit so_far.granted.bits) (is_granted_by (decides_for class) list) (at 0) (at 1) (at 2) (at 5)

-- if the three parts are the same, so is the mode
pub same_mode_of_parts : {a b c d e f : ℕ} → a ≡ d → b ≡ e → c ≡ f → mode_of_parts a b c ≡ mode_of_parts d e f
same_mode_of_parts p q r = rw (p, q, r) refl
