-- How the code reads the letters of a field one after the other (this library's own). No public clause cites it.
use Rattle.std.specs.Prelude.{◌+◌, ℕ, List, [], ◌∷◌, Result, Ok, bit_or}
use Rattle.acl_perm.specs.internal.Steps.{◌>>=◌}
use Rattle.acl_forms.specs.Letters.{letter_bits}
use Rattle.acl_forms.specs.declared.fault.ReadFault.{ReadFault}
use Rattle.acl_forms.specs.declared.fault.ReadReason.{ReadReason}
use Rattle.acl_forms.specs.declared.letters.Letter.{Letter}
use Rattle.acl_forms.specs.declared.object.ObjectKind.{ObjectKind}

-- the union of the bits for which the letters of a field from a place on stand with a set, or the first fault
unfoldable pub letters_from : List Letter → ObjectKind → ReadReason → ℕ → ℕ → List ℕ → Result ℕ ReadFault
letters_from table object wrong at set [] = Ok set
letters_from table object wrong at set (letter ∷ letters) = do
  bits ← letter_bits table object wrong at letter
  letters_from table object wrong (at + 1) (bit_or set bits) letters
