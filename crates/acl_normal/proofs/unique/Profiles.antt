-- Lists that fit a profile grant nothing outside it.
use Rattle.std.proofs.Common.{◌≡◌, ℕ, Bool, true, false, List, [], ◌∷◌, refl}
use Rattle.acl_normal.proofs.Common.{Ace, all_rights, ap, arith, bits_from_mask, column, Fits, has_bit, has_bit-and, is_allow, IsProfile, IsTrue, IsWithin, matches, Profile, SameGrants, SameVerdicts, Situation, verdict, ◌↔◌, ◌∙◌}
use Rattle.acl_eval.specs.Grant.{grants_bit}
use Rattle.acl_eval.proofs.Same.{by_columns}
use Rattle.acl_normal.proofs.unique.Columns.{column_lacks}

-- a set within one that lacks a bit lacks the bit
lacks_bit : (set n k : ℕ) → IsWithin set n → has_bit set k ≡ false → has_bit n k ≡ false
lacks_bit set n k is h = grind (arith, ap (λ (m : ℕ). has_bit m k) is, has_bit-and n set k)

-- no ACE of a list that fits a profile has a bit outside it
pub column_outside : (p : Profile) (list : List Ace) (bit : ℕ) → Fits p list → has_bit p.masks bit ≡ false
    → column list bit ≡ []
column_outside p [] bit h out = refl
column_outside p (a ∷ list) bit ((_, within), rest) out =
    column_lacks bit a list (rw (lacks_bit p.masks a.mask bit within out) refl) ∙ column_outside p list bit rest out

-- a list that fits a profile denies each bit outside it
pub denied_outside : (p : Profile) (list : List Ace) (s : Situation) (bit : ℕ) → Fits p list
    → has_bit p.masks bit ≡ false → grants_bit list s bit ≡ false
denied_outside p list s bit h out = ap (λ c. is_allow (verdict (matches s) c)) (column_outside p list bit h out)

-- lists that fit a profile grant the same rights of the profile if and only if they grant the same rights
pub same_within : (p : Profile) (list other : List Ace) → IsProfile p → Fits p list → Fits p other
    → SameGrants p.masks list other ↔ SameGrants all_rights list other
same_within p list other is fits fits_other = (
  λ same. (by_columns all_rights list other).1
      (λ bit has. at bit (has_bit p.masks bit) refl ((by_columns p.masks list other).0 same bit)),
  λ same s valid request within. same s valid request (λ k h. bits_from_mask p.masks k is.masks (within k h)),
)
  where
    at : (bit : ℕ) (b : Bool) → has_bit p.masks bit ≡ b
        → (IsTrue (has_bit p.masks bit) → SameVerdicts (column list bit) (column other bit))
        → SameVerdicts (column list bit) (column other bit)
    at bit true e inside = inside e
    at bit false e inside =
        rw (column_outside p list bit fits e, column_outside p other bit fits_other e) (λ s valid. refl)
