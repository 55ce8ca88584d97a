-- The id that digits spell, and the number that they spell.
use Rattle.std.proofs.Common.{◌≡◌, ℕ, Bool, true, false, List, Option, None, Some, refl, ap, arith}
use Rattle.std.specs.Prelude.{◌==◌, if◌then◌else◌, nat_le, option_map}
use Rattle.std.specs.Option.{option_eq}
use Rattle.std.specs.Str.Parse.{digits_value}
use Rattle.std.proofs.lemmas.Bool.Decides.{nat_tests}
use Rattle.acl_posix.specs.Id.{greatest_id}
use Rattle.acl_posix.specs.declared.id.Id.{Id}
unfoldable use Rattle.acl_posix.specs.Fields.{id_of}

-- digits spell an id if and only if they spell its number
pub same_number : (digits : List ℕ) (spelled : Option Id) (id : Id)
    → option_map (λ (i : Id). i.value) spelled ≡ id_of digits
    → option_eq (λ (i j : Id). i.value == j.value) spelled (Some id) ≡ (digits_value 10 digits == id.value)
unfolding id_of
same_number digits (Some spelled) id e = by (nat_le (digits_value 10 digits) greatest_id) e
  where
    by : (b : Bool) → Some spelled.value ≡ (if b then Some (digits_value 10 digits) else None)
        → (spelled.value == id.value) ≡ (digits_value 10 digits == id.value)
    by true same = let value : spelled.value ≡ digits_value 10 digits = cc in ap (λ (n : ℕ). n == id.value) value
    by false same = absurd cc
same_number digits None id e = by (nat_le (digits_value 10 digits) greatest_id) refl e
  where
    by : (b : Bool) → nat_le (digits_value 10 digits) greatest_id ≡ b
        → None ≡ (if b then Some (digits_value 10 digits) else None) → false ≡ (digits_value 10 digits == id.value)
    by true is none = absurd cc
    by false is none = grind (arith, nat_tests, is, id.within)
