-- A list from an array of ACEs, ACE by ACE.
use Rattle.std.proofs.Common.{◌≡◌, ◌≤◌, ◌<◌, ◌+◌, ◌++◌, ◌∷◌, [], ◌∙◌, ℕ, Bool, List, None, Some, true, false, ap, append_assoc, arith, drop, get_or, length, map, refl, subst, sym, take}
use Rattle.std.specs.Prelude.{All, if◌then◌else◌, nat_lt, not, bit_and, IfErr, Result, Ok, Err}
use Rattle.std.specs.Result.{IsErrAnd}
use Rattle.std.proofs.lemmas.Bool.{eqb-true}
use Rattle.std.proofs.lemmas.List.{map-append, take-append-drop, take_more, length-map}
use Rattle.std.proofs.lemmas.List.Elements.{All-map, All-weaker, recursion_from_All}
use Rattle.std.proofs.lemmas.Nat.{and_le_r}
use Rattle.acl_perm.specs.Bits.{IsMask, all_rights}
use Rattle.acl_perm.specs.Profile.{Profile, full, profile_of}
use Rattle.acl_perm.specs.declared.profile.Profile.{Profile as CodeProfile}
use Rattle.acl_nfs4.specs.Ace.{Ace}
use Rattle.acl_nfs4.specs.Spelling.{Fits, IsAccepted}
use Rattle.acl_nfs4.specs.Within.{IsWithin, is_within}
use Rattle.acl_nfs4.specs.declared.xdr.fault.Reason.TheVariants as reason
use Rattle.acl_nfs4.proofs.Exports.{accepted_where_it_fits, code_profile, contains_again, contains_is, within_part}
use Rattle.aclck_c.specs.Build.{AreAces, ace_given, next_fault, number_fault}
use Rattle.aclck_c.specs.Refusal.{in_list}
use Rattle.aclck_c.specs.declared.failure.Failure.{Failure}
use Rattle.aclck_c.specs.declared.failure.Failure.TheVariants as failure
use Rattle.aclck_c.specs.declared.nfs4.ace.RawAce.{RawAce}
use Rattle.aclck_c.specs.internal.Building.{IsNextFailure}
use Rattle.aclck_c.specs.internal.Failures.{IsBuildFailure}

-- flags within a profile are flags
pub flags_within : (set n : ℕ) → set ≤ 255 → IsWithin set n → n ≤ 255
flags_within set n le is =
    let part : bit_and n set ≤ set = and_le_r n set in
    let small : n ≤ set = rw is at part in omega (arith, le, small)

-- a mask within a profile is a mask
pub mask_within : (set n : ℕ) → IsMask set → IsWithin set n → IsMask n
mask_within set n mask is = within_part all_rights set n mask is

-- what the tests of flags and of a mask need
pub ruleset tests = (flags_within, mask_within, contains_is, contains_again)

-- if no number is refused, the flags and the mask are within the profile
tests_pass : (above kind flags mask : Bool)
    → (if above then Some reason.AceType
    else (if kind then Some reason.AuditOrAlarm
    else (if not flags then Some reason.FlagBits
    else (if not mask then Some reason.MaskBits else None)))) ≡ None
    → (flags ≡ true) × (mask ≡ true)
tests_pass true kind flags mask e = absurd cc
tests_pass false true flags mask e = absurd cc
tests_pass false false false mask e = absurd cc
tests_pass false false true false e = absurd cc
tests_pass false false true true e = (refl, refl)

-- so they are in an ACE of which no number is refused
one_fits : (p : Profile) (a : RawAce) → number_fault p a ≡ None
    → IsWithin p.flags a.flags × IsWithin p.masks a.mask
one_fits p a e =
    let pass = tests_pass (nat_lt 3 a.kind) (nat_lt 1 a.kind) (is_within p.flags a.flags) (is_within p.masks a.mask) e
    in (eqb-true _ _ pass.0, eqb-true _ _ pass.1)

-- ACEs of which no number is refused fit the profile
Fits-map : (p : Profile) (aces : List RawAce) → All (λ a. number_fault p a ≡ None) aces → Fits p (map ace_given aces)
Fits-map p aces numbers =
    let fits : Ace → Type 0 = λ a. IsWithin p.flags a.flags × IsWithin p.masks a.mask in
    recursion_from_All fits (map ace_given aces) (All-map fits ace_given aces
    (All-weaker (λ a. number_fault p a ≡ None) (λ a. fits (ace_given a)) (one_fits p) aces numbers))

-- ACEs of which no number is refused, and whose list is accepted
pub are_aces : (profile : CodeProfile) (aces : List RawAce) (list : List Ace) → profile.flags.bits ≤ 255
    → All (λ a. number_fault (profile_of profile) a ≡ None) aces → IsAccepted full list → list ≡ map ace_given aces
    → AreAces (profile_of profile) aces
are_aces profile aces list le numbers accepted is =
    let p = profile_of profile in
    record {
      numbers = numbers;
      accepted = (accepted_where_it_fits p (map ace_given aces) (code_profile profile le)).1
          (subst (IsAccepted full) is accepted, Fits-map p aces numbers);
    }

-- one more ACE of the array
pub build_on : (es : List RawAce) (i : ℕ) (d : RawAce) (so_far new : List Ace) → i < length es
    → so_far ≡ map ace_given (take i es) → new ≡ so_far ++ ace_given (get_or es i d) ∷ []
    → new ≡ map ace_given (take (i + 1) es)
build_on es i d so_far new lt way step =
    step ∙ ap (λ (l : List Ace). l ++ ace_given (get_or es i d) ∷ []) way
    ∙ sym (map-append ace_given (take i es) (get_or es i d ∷ []))
    ∙ ap (map ace_given) (sym (take_more es i d lt))

-- the array is the ACEs before one, that one, and those after it
parts_at : (es : List RawAce) (i : ℕ) (d : RawAce) → i < length es
    → es ≡ take i es ++ get_or es i d ∷ drop (i + 1) es
parts_at es i d lt =
    sym (take-append-drop (i + 1) es)
    ∙ ap (λ (l : List RawAce). l ++ drop (i + 1) es) (take_more es i d lt)
    ∙ append_assoc (take i es) (get_or es i d ∷ []) (drop (i + 1) es)

-- a failure at one ACE is the failure of the array
build_fails : (profile : CodeProfile) (es : List RawAce) (i : ℕ) (d : RawAce) (so_far : List Ace) (f : Failure)
    → profile.flags.bits ≤ 255 → i < length es → so_far ≡ map ace_given (take i es)
    → All (λ a. number_fault (profile_of profile) a ≡ None) (take i es) → IsAccepted full so_far
    → IsNextFailure (profile_of profile) so_far (get_or es i d) f → IsBuildFailure (profile_of profile) es f
build_fails profile es i d so_far failure.BadArgument le lt way numbers accepted fails = absurd fails
build_fails profile es i d so_far (failure.Refused shown) le lt way numbers accepted (why, next, is) = record {
  before = take i es;
  refused = get_or es i d;
  after = drop (i + 1) es;
  reason = why;
  parts = parts_at es i d lt;
  are = are_aces profile (take i es) so_far le numbers accepted way;
  why = subst (λ (l : List Ace). next_fault (profile_of profile) l (get_or es i d) ≡ Some why) way next;
  is = subst (λ (n : ℕ). shown ≡ in_list n why 0) (ap length way ∙ length-map (take i es) ace_given) is;
}
build_fails profile es i d so_far failure.Memory le lt way numbers accepted fails = tt

-- the failure with which the array is left is that of the ACE
pub build_ends : {T : Type 0} (profile : CodeProfile) (es : List RawAce) (i : ℕ) (d : RawAce) (so_far : List Ace)
    (f : Failure) (r : Result T Failure) → profile.flags.bits ≤ 255 → IsErrAnd r (λ y. y ≡ f) → i < length es
    → so_far ≡ map ace_given (take i es) → All (λ a. number_fault (profile_of profile) a ≡ None) (take i es)
    → IsAccepted full so_far → IsNextFailure (profile_of profile) so_far (get_or es i d) f
    → IfErr r (IsBuildFailure (profile_of profile) es)
build_ends profile es i d so_far f (Ok x) le is lt way numbers accepted fails = tt
build_ends profile es i d so_far f (Err y) le is lt way numbers accepted fails =
    subst (IsBuildFailure (profile_of profile) es) (sym is)
    (build_fails profile es i d so_far f le lt way numbers accepted fails)
