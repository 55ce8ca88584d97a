-- The value of a field of a value that is read word by word, as the code judges it (this library's own). No public
-- clause cites it.
use Rattle.std.specs.Prelude.{◌≡◌, ℕ, Result, Ok, Err}
use Rattle.acl_forms.specs.declared.fault.ReadFault.{ReadFault}
use Rattle.acl_forms.specs.declared.fault.ReadReason.{ReadReason}

-- the value of a field, or its fault at the field's first byte
abbrev pub PlacedWord : {A : Type 0} → ℕ → Result A ReadReason → Result A ReadFault → Type 0
PlacedWord offset (Ok x) result = result ≡ Ok x
PlacedWord offset (Err r) result = result ≡ Err (record { offset = offset; reason = r })
