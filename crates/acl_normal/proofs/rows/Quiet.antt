-- What takes no part has no bit, whatever is taken out or put in.
use Rattle.acl_normal.proofs.Common.{[], Ace, and_parts, Bool, false, is_inherit_only, IsQuiet, IsTidy, List, not, Principal, principal_eq, principal_of, refl, take_out, true, without_bits, ℕ, ◌&&◌, ◌∷◌, ◌≡◌}
use Rattle.acl_normal.proofs.rows.TakeOut.{low_taken, once_taken}

-- a quiet list stays quiet when bits are taken out
pub quiet_taken : (p : Principal) (m : ℕ) (xs : List Ace) → IsQuiet xs → IsQuiet (take_out p m xs)
quiet_taken p m [] h = tt
quiet_taken p m (a ∷ xs) h =
    (here (principal_eq (principal_of a) p && not (is_inherit_only a)) refl, quiet_taken p m xs h.1)
  where
    here : (t : Bool) → (principal_eq (principal_of a) p && not (is_inherit_only a)) ≡ t
        → is_inherit_only (without_bits p m a) ≡ true → (without_bits p m a).mask ≡ 0
    here false e = rw e h.0
    here true e = rw e (λ i. clash i (and_parts (principal_eq (principal_of a) p) (not (is_inherit_only a)) e).1)
      where
        clash : {A : Type 0} → is_inherit_only a ≡ true → not (is_inherit_only a) ≡ true → A
        clash i n = cc (rw i at n)

-- a tidy list stays tidy when bits are taken out
pub tidy_taken : (p : Principal) (m : ℕ) (xs : List Ace) → IsTidy xs → IsTidy (take_out p m xs)
tidy_taken p m xs tidy = record {
  once = once_taken p m xs tidy.once;
  quiet = quiet_taken p m xs tidy.quiet;
  low = low_taken p m xs tidy.low;
}
