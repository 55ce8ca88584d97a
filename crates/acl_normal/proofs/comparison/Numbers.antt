-- The numbers of rising principals.
use Rattle.std.proofs.Math.Bool.{or-false}
use Rattle.acl_normal.proofs.Common.{[], Ace, ap, arith, Bool, eq-eqb, eqb-true, everyone, false, get_or-map, is_mentioning, IsRisingSet, IsWhom, length, Less, List, Principal, principal, principal_cmp, principal_eq, principal_of, principals, refl, slice_index_or, subst, sym, takes_part, true, ℕ, ◌<◌, ◌∙◌, ◌∷◌, ◌≡◌, same_answers}
use Rattle.std.proofs.Common.{suc, zero}
use Rattle.acl_perm.specs.declared.principal.Principal.{Principal as PrincipalRef}
use Rattle.acl_normal.proofs.Each.{all_at}
use Rattle.acl_normal.proofs.unique.Names.{principal_eq_itself, principal_eq_same}
use Rattle.acl_normal.specs.internal.comparison.FirstPlaces.{is_of}
use Rattle.acl_normal.specs.internal.comparison.MentionedRows.{HasNumber, whom_of}
use Rattle.acl_normal.proofs.comparison.Ordered.{not_below_itself}

-- the principal at a number is that of the code's name there
pub principal_numbered : (names : List PrincipalRef) (q : PrincipalRef) (i : ℕ) → i < length names
    → slice_index_or (principals names) i everyone ≡ principal (slice_index_or names i q)
principal_numbered names q i lt = get_or-map principal names i q everyone lt

-- no two of a rising list are the same
pub rising_apart : (ps : List Principal) (i k : ℕ) → IsRisingSet ps → i < length ps → k < length ps
    → slice_index_or ps i everyone ≡ slice_index_or ps k everyone → k ≡ i
rising_apart [] i k r li lk e = absurd (omega arith)
rising_apart (p ∷ ps) zero zero r li lk e = refl
rising_apart (p ∷ ps) zero (suc k) r li lk e =
    absurd (not_below_itself p (subst (λ v. principal_cmp p v ≡ Less) (sym e)
    (all_at (λ q. principal_cmp p q ≡ Less) ps k everyone (omega arith) r.0)))
rising_apart (p ∷ ps) (suc i) zero r li lk e =
    absurd (not_below_itself p (subst (λ v. principal_cmp p v ≡ Less) e
    (all_at (λ q. principal_cmp p q ≡ Less) ps i everyone (omega arith) r.0)))
rising_apart (p ∷ ps) (suc i) (suc k) r li lk e = ap suc (rising_apart ps i k r.1 (omega arith) (omega arith) e)

-- an ACE that takes part and isn't of everyone is of a principal if and only if that is its own
pub is_of_own : (a : Ace) (p : Principal) → takes_part a ≡ true → principal_eq (principal_of a) everyone ≡ false
    → is_of a p ≡ principal_eq (principal_of a) p
is_of_own a p h e = rw (h, e) (or-false (principal_eq (principal_of a) p))

-- a number that is that of the principal whom an ACE mentions says whom the ACE names
pub whom_is : (ps : List Principal) (a : Ace) (n : ℕ) → IsRisingSet ps
    → (is_mentioning a ≡ true → HasNumber ps (principal_of a) n) → IsWhom ps a (whom_of a n)
whom_is ps a n r h = go (takes_part a) refl (principal_eq (principal_of a) everyone) refl
  where
    go : (t : Bool) → takes_part a ≡ t → (e : Bool) → principal_eq (principal_of a) everyone ≡ e
        → IsWhom ps a (whom_of a n)
    go false t e f = rw t (record { within = tt; part = t; all = rw t refl; hit = λ k lt. rw t refl })
    go true t true f =
        rw (t, f) (record { within = tt; part = t; all = rw (t, f) refl; hit = λ k lt. rw (t, f) refl })
    go true t false f =
        let at = h (rw (t, f) refl) in
        rw (t, f)
        (record {
          within = at.within;
          part = t;
          all = rw (t, f) refl;
          hit = λ k lt. is_of_own a (slice_index_or ps k everyone) t f
              ∙ ap (λ v. principal_eq v (slice_index_or ps k everyone)) at.is
              ∙ same_answers _ _ (λ g. eq-eqb k n (rising_apart ps n k r at.within lt (principal_eq_same _ _ g)))
              (λ g. subst (λ v. principal_eq (slice_index_or ps n everyone) (slice_index_or ps v everyone) ≡ true)
              (sym (eqb-true k n g)) (principal_eq_itself (slice_index_or ps n everyone)));
        })
