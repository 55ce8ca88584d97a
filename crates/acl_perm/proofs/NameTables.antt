-- The rows of tables that name bits.
use Rattle.std.proofs.Common.{◌≡◌, ◌∙◌, ℕ, List, [], ◌∷◌, true, false, cond, eqb, refl}
use Rattle.std.specs.Prelude.{IsTrue, Some, find, is_some, option_map}
use Rattle.std.proofs.lemmas.Bool.{agree_below_at}
use Rattle.acl_perm.specs.Bits.{all_rights, has_bit}
use Rattle.acl_perm.specs.Names.{BitName, first_name, right_name}
use Rattle.acl_perm.specs.internal.NameTable.{bit_name_of, bit_names_of}
use Rattle.acl_perm.specs.declared.bit_names.BitName.{BitName as Row}
use Rattle.acl_perm.proofs.Sets.{right_below}

-- the name in the first row with a bit is the first name of the bit
pub row_of_bit_found : (table : List Row) (bit : ℕ)
    → option_map (λ r. r.name.now) (find (λ r. eqb r.bit bit) table) ≡ first_name (bit_names_of table) bit
row_of_bit_found [] bit = refl
row_of_bit_found (r ∷ rows) bit =
    elim (eqb r.bit bit)
    as (λ t. option_map (λ (x : Row). x.name.now) (cond t (Some r) (find (λ x. eqb x.bit bit) rows))
    ≡ option_map (λ (x : BitName). x.name) (cond t (Some (bit_name_of r))
    (find (λ x. eqb x.bit bit) (bit_names_of rows)))) [
      | true ↦ refl
      | false ↦ row_of_bit_found rows bit
    ]

-- each right has a name
pub right_named : (b : ℕ) → IsTrue (has_bit all_rights b) → is_some (right_name b) ≡ true
right_named b h =
    agree_below_at (λ b. is_some (right_name b)) (has_bit all_rights) 21 b refl (right_below b h) ∙ h
