-- Sets within sets.
use Rattle.acl_nfs4.proofs.Common.{[], Ace, all_flags, all_rights, AllByRecursion, and_comm, ap, and_le_r, and_mask, arith, bit_and, Bool, eq-eqb, eqb, eqb-true, Fits, full, IsAccepted, IsAce, IsMask, IsProfile, IsTrue, IsWithin, List, Profile, profile_of, refl, subst, sym, true, ℕ, ◌<◌, ◌^◌, ◌↔◌, ◌∙◌, ◌∷◌, ◌≡◌, ◌≤◌, bit_or, has_bit, has_bit-and, has_bit-or, same_set, false}
use Rattle.std.proofs.lemmas.Nat.{and_assoc}
use Rattle.std.specs.Prelude.{◌&&◌, ◌||◌}
use Rattle.acl_perm.specs.declared.profile.Profile.{Profile as CodeProfile}

-- a part is no larger than the whole
pub within_le : (set n : ℕ) → IsWithin set n → n ≤ set
within_le set n is = let le : bit_and n set ≤ set = and_le_r n set in rw is at le

-- a part of a part is a part
pub within_part : (whole set n : ℕ) → IsWithin whole set → IsWithin set n → IsWithin whole n
within_part whole set n outer inner = ap (λ (x : ℕ). bit_and x whole) (sym inner) ∙ and_assoc whole n set
    ∙ ap (bit_and n) outer ∙ inner

-- if each of two tests implies a third, so does either of them
either_kept : (g e s : Bool) → (g && s) ≡ g → (e && s) ≡ e → ((g || e) && s) ≡ (g || e)
either_kept true e s p q = p
either_kept false e s p q = q

-- each bit of a number within a set is a bit of the set
pub bit_within : (set n k : ℕ) → IsWithin set n → (has_bit n k && has_bit set k) ≡ has_bit n k
bit_within set n k is = sym (has_bit-and n set k) ∙ ap (λ (m : ℕ). has_bit m k) is

-- the union of two numbers within a set is within the set
pub union_within : (set m n : ℕ) → IsWithin set m → IsWithin set n → IsWithin set (bit_or m n)
union_within set m n p q = same_set _ _ (λ k.
    has_bit-and (bit_or m n) set k ∙ ap (λ (b : Bool). b && has_bit set k) (has_bit-or m n k)
    ∙ either_kept (has_bit m k) (has_bit n k) (has_bit set k) (bit_within set m k p) (bit_within set n k q)
    ∙ sym (has_bit-or m n k))

-- a part of a mask is a mask
pub mask_part : (set n : ℕ) → IsMask set → bit_and n set ≡ n → IsMask n
mask_part set n outer inner = within_part all_rights set n outer inner

-- a byte is a set of flags
pub flags_within : (n : ℕ) → n ≤ 255 → IsWithin all_flags n
flags_within n le = and_mask n 8 ∙ omega (arith, le)

-- the flags of a profile fit a word
pub flags_lt : (profile : Profile) (n : ℕ) → IsProfile profile → IsWithin profile.flags n → n < 2 ^ 32
flags_lt profile n is within =
    let le = within_le all_flags n (within_part all_flags profile.flags n is.flags within) in omega arith

-- the masks of a profile fit a word
pub mask_lt : (profile : Profile) (n : ℕ) → IsProfile profile → IsWithin profile.masks n → n < 2 ^ 32
mask_lt profile n is within =
    let le = within_le all_rights n (within_part all_rights profile.masks n is.masks within) in omega arith

-- the full profile is a profile
pub full_is : IsProfile full
full_is = record { masks = refl; flags = refl }

-- a profile of the code is a profile
pub code_profile : (profile : CodeProfile) → profile.flags.bits ≤ 255 → IsProfile (profile_of profile)
code_profile profile le = record { masks = profile.masks.within; flags = flags_within profile.flags.bits le }

-- an ACE of any profile is an ACE of the full profile
pub ace_in_full : (profile : Profile) (a : Ace) → IsProfile profile → IsAce profile a → IsAce full a
ace_in_full profile a is ace = record {
  flags = within_part all_flags profile.flags a.flags is.flags ace.flags;
  mask = within_part all_rights profile.masks a.mask is.masks ace.mask;
  who = ace.who;
}

-- the ACEs of a list are ACEs of the full profile
pub in_full : (profile : Profile) (list : List Ace) → IsProfile profile → AllByRecursion (IsAce profile) list
    → AllByRecursion (IsAce full) list
in_full profile [] is each = tt
in_full profile (a ∷ list) is each = (ace_in_full profile a is each.0, in_full profile list is each.1)

-- the ACEs of a list fit its profile
pub fits_of : (profile : Profile) (list : List Ace) → AllByRecursion (IsAce profile) list → Fits profile list
fits_of profile [] each = tt
fits_of profile (a ∷ list) each = ((each.0.flags, each.0.mask), fits_of profile list each.1)

-- if the ACEs of a list are ACEs of the full profile and fit another profile, they are ACEs of that profile
pub each_of : (profile : Profile) (list : List Ace) → AllByRecursion (IsAce full) list → Fits profile list
    → AllByRecursion (IsAce profile) list
each_of profile [] each fits = tt
each_of profile (a ∷ list) each fits =
    (record { flags = fits.0.0; mask = fits.0.1; who = each.0.who }, each_of profile list each.1 fits.1)

-- a list is accepted under a profile if and only if it is accepted under the full profile and fits
pub accepted_where_it_fits : (profile : Profile) (list : List Ace) → IsProfile profile
    → IsAccepted profile list ↔ (IsAccepted full list × Fits profile list)
accepted_where_it_fits profile list is = (
  λ a. (
    record { count = a.count; weight = a.weight; each = in_full profile list is a.each },
    fits_of profile list a.each,
  ),
  λ b. record { count = b.0.count; weight = b.0.weight; each = each_of profile list b.0.each b.1 },
)

-- what the fields of flags and of the mask need
pub ruleset within = (within_le, mask_part)

-- a test of whether an accepted list fits says whether it is accepted under the profile
pub fits_means : (profile : Profile) (list now : List Ace) (result : Bool) → IsProfile profile → list ≡ now
    → IsAccepted full now → (IsTrue result ↔ Fits profile list) → IsTrue result ↔ IsAccepted profile now
fits_means profile list now result is e a h =
    let same = accepted_where_it_fits profile now is in (
      λ t. same.1 (a, subst (Fits profile) e (h.0 t)),
      λ b. h.1 (subst (Fits profile) (sym e) (same.0 b).1),
    )

-- if the test of `contains` passes, the bits are in the set
pub contains_is : (set n : ℕ) → eqb (bit_and set n) n ≡ true → IsWithin set n
contains_is set n e = and_comm n set ∙ eqb-true _ _ e

-- if the bits are in the set, the test of `contains` passes
pub contains_again : (set n : ℕ) → IsWithin set n → eqb (bit_and set n) n ≡ true
contains_again set n is = eq-eqb _ _ (and_comm set n ∙ is)

-- what the test of one ACE needs
pub ruleset tests = (contains_is, contains_again)

-- if the first ACE fits, the list fits if and only if the others fit
pub first_fits : (profile : Profile) (a : Ace) (whole now rest : List Ace) → now ≡ a ∷ rest
    → IsWithin profile.flags a.flags × IsWithin profile.masks a.mask
    → (Fits profile now ↔ Fits profile whole) → Fits profile rest ↔ Fits profile whole
first_fits profile a whole now rest e is h = (
  λ f. h.0 (subst (Fits profile) (sym e) (is, f)),
  λ f. (subst (Fits profile) e (h.1 f)).1,
)

-- if the first ACE does not fit, the list does not fit
pub first_misses : (profile : Profile) (a : Ace) (whole now rest : List Ace) → now ≡ a ∷ rest
    → (IsWithin profile.flags a.flags × IsWithin profile.masks a.mask → ⊥)
    → (Fits profile now ↔ Fits profile whole) → Fits profile whole → ⊥
first_misses profile a whole now rest e misses h f = misses (subst (Fits profile) e (h.1 f)).0
