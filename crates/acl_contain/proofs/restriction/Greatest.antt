-- A list whose rights stay by the rule is the greatest of the removals that grant at most the bound.
use Rattle.std.specs.Prelude.{◌↔◌}
use Rattle.acl_normal.proofs.Common.{Ace, Allow, Deny, HasMasks, IsSubset, Kind, List, [], all_rights, ap, arith, has_bit, length, no_ace, refl, same_answers, same_set, slice_index_or, subst, suc, sym, true, ℕ, ◌<◌, ◌∙◌, ◌∷◌, ◌≡◌}
use Rattle.acl_normal.proofs.Each.{all_at, zip_at}
use Rattle.acl_eval.proofs.Same.{at_most_by_bits}
use Rattle.acl_eval.specs.Grant.{GrantsAtMost, grants_bit}
use Rattle.acl_contain.proofs.restriction.Removals.{granted_reaches, reached_granted}
use Rattle.acl_contain.specs.Removal.{IsAceRemoval, IsGreatestRemoval, IsGreatestWithin, IsRemoval}
use Rattle.acl_contain.specs.internal.Restriction.{IsRestricted}

-- a list is a removal of itself
pub removal_itself : (list : List Ace) → IsRemoval list list
removal_itself [] = tt
removal_itself (a ∷ list) = (
  record {
    kind = refl;
    flags = refl;
    who = refl;
    within = λ bit has. has;
    denied = λ deny. refl;
  },
  removal_itself list,
)

-- a removal of a list grants at most what the list grants
pub removal_at_most : (list cut : List Ace) → IsRemoval list cut → GrantsAtMost all_rights cut list
removal_at_most list cut removal = (at_most_by_bits all_rights cut list).1 (λ s valid bit right granted.
    granted_reaches list cut s bit (grants_bit list s bit ≡ true) removal
    (λ place l allow has reached. reached_granted list list s bit place (removal_itself list) l allow
    ((zip_at IsAceRemoval list cut place no_ace no_ace l removal).within bit has) reached) granted)

-- what stays by the rule grants at most what the bound grants
pub restricted_at_most : (list bound kept : List Ace) → IsRestricted list bound kept
    → GrantsAtMost all_rights kept bound
restricted_at_most list bound kept r = (at_most_by_bits all_rights kept bound).1 (λ s valid bit right granted.
    granted_reaches list kept s bit (grants_bit bound s bit ≡ true) r.removal
    (λ place l allow has reached. r.stays bit place l allow right has s valid reached) granted)

-- two removals of a list are removals of each other if the second has no right that the first lacks
removal_between : (list kept other : List Ace) → IsRemoval list kept → IsRemoval list other
    → ((place bit : ℕ) → place < length list → (slice_index_or list place no_ace).kind ≡ Allow
    → has_bit (slice_index_or other place no_ace).mask bit ≡ true
    → has_bit (slice_index_or kept place no_ace).mask bit ≡ true) → IsRemoval kept other
removal_between [] [] [] first second fewer = tt
removal_between (a ∷ list) (k ∷ kept) (o ∷ other) first second fewer = (
  record {
    kind = second.0.kind ∙ sym first.0.kind;
    flags = second.0.flags ∙ sym first.0.flags;
    who = second.0.who ∙ sym first.0.who;
    within = within a.kind refl;
    denied = λ deny. second.0.denied (sym first.0.kind ∙ deny) ∙ sym (first.0.denied (sym first.0.kind ∙ deny));
  },
  removal_between list kept other first.1 second.1 (λ place bit l. fewer (suc place) bit (omega (arith, l))),
)
  where
    within : (t : Kind) → a.kind ≡ t → IsSubset o.mask k.mask
    within Allow allow bit has = fewer 0 bit (omega arith) allow has
    within Deny deny bit has =
        subst (λ m. has_bit m bit ≡ true) (second.0.denied deny ∙ sym (first.0.denied deny)) has
removal_between [] (k ∷ kept) _ first second fewer = absurd first
removal_between [] [] (o ∷ other) first second fewer = absurd second
removal_between (a ∷ list) [] _ first second fewer = absurd first
removal_between (a ∷ list) (k ∷ kept) [] first second fewer = absurd second

-- each removal that grants at most what the bound grants is a removal of what stays by the rule
pub restricted_greatest : (list bound kept other : List Ace) → HasMasks list → IsRestricted list bound kept
    → IsRemoval list other → GrantsAtMost all_rights other bound → IsRemoval kept other
restricted_greatest list bound kept other masks r removal most =
    removal_between list kept other r.removal removal (λ place bit l allow has.
    let had : has_bit (slice_index_or list place no_ace).mask bit ≡ true =
    (zip_at IsAceRemoval list other place no_ace no_ace l removal).within bit has in
    let right : has_bit all_rights bit ≡ true =
    all_at (λ a. IsSubset a.mask all_rights) list place no_ace l masks bit had in
    r.kept bit place l allow had (λ s valid reached. (at_most_by_bits all_rights other bound).0 most s valid bit right
    (reached_granted list other s bit place removal l allow has reached)))

-- sets of bits that are parts of each other are the same
pub same_mask : (m n : ℕ) → IsSubset m n → IsSubset n m → m ≡ n
same_mask m n within back = same_set m n (λ bit. same_answers (has_bit m bit) (has_bit n bit) (within bit) (back bit))

-- ACEs that are cuts of each other are the same
same_cut : (a cut : Ace) → IsAceRemoval a cut → IsAceRemoval cut a → cut ≡ a
same_cut a cut c d =
    ap (λ v. record cut { kind = v }) c.kind ∙ ap (λ v. record cut { kind = a.kind; flags = v }) c.flags
    ∙ ap (λ v. record cut { kind = a.kind; flags = a.flags; mask = v }) (same_mask cut.mask a.mask c.within d.within)
    ∙ ap (λ v. record a { who = v }) c.who

-- lists that are removals of each other are the same
pub removals_same : (list cut : List Ace) → IsRemoval list cut → IsRemoval cut list → cut ≡ list
removals_same [] [] first second = refl
removals_same (a ∷ list) (c ∷ cut) first second =
    ap (λ v. c ∷ v) (removals_same list cut first.1 second.1) ∙ ap (λ v. v ∷ list) (same_cut a c first.0 second.0)
removals_same [] (c ∷ cut) first second = absurd first
removals_same (a ∷ list) [] first second = absurd first

-- what stays by the rule is the greatest removal
pub restricted_is_greatest : (list bound cut : List Ace) → HasMasks list → IsRestricted list bound cut
    → IsGreatestRemoval list bound cut
restricted_is_greatest list bound cut masks r = record {
  removal = r.removal;
  within = restricted_at_most list bound cut r;
  greatest = λ other removal most. restricted_greatest list bound cut other masks r removal most;
}

-- two greatest removals that pass a test are the same
pub greatest_once : (W : List Ace → Type 0) (list cut other : List Ace) → IsGreatestWithin W list cut
    → IsGreatestWithin W list other → other ≡ cut
greatest_once W list cut other first second = removals_same cut other
    (first.greatest other second.removal second.within) (second.greatest cut first.removal first.within)

-- the greatest removal that passes a test is the list if and only if the list passes it
pub greatest_unchanged : (W : List Ace → Type 0) (list cut : List Ace) → IsGreatestWithin W list cut
    → (cut ≡ list) ↔ W list
greatest_unchanged W list cut g = (
  λ same. subst W same g.within,
  λ passes. removals_same list cut g.removal (g.greatest list (removal_itself list) passes),
)
