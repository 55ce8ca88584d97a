-- The fields of flags and a list of ACEs (RFC 8881, sections 6.2.1 and 6.2.2, in the layout of RFC 4506), and the first
-- fault of bytes that should be such a value. The limits and the reasons are this library's own.
use Rattle.std.specs.Prelude.{◌≡◌, ℕ, ◌<◌, List, ◌∷◌, ◌++◌, count_ones, length, sum_by, take}
use Rattle.std.specs.List.{enumerate_from, flat_map}
use Rattle.acl_nfs4.specs.Fields.{count_of}
use Rattle.acl_nfs4.specs.Layout.{Field, IsFirstWrongField, number_field}
use Rattle.acl_nfs4.specs.declared.xdr.fault.Reason.TheVariants.{TrailingBytes, Truncated}
use Rattle.acl_forms.specs.ReadFaults.{read_fault_at}
use Rattle.acl_forms.specs.Words.{acl_flags_of, listed}
use Rattle.acl_forms.specs.declared.fault.ReadFault.{ReadFault}
use Rattle.acl_forms.specs.declared.fault.ReadReason.{ReadReason}
use Rattle.acl_forms.specs.declared.fault.ReadReason.TheVariants as reason

-- the fields of a value: its flags, the number of its ACEs, and for each ACE its fields after ACEs of the weight of
-- those before it
abbrev pub acl_fields : {A : Type 0} → (ℕ → A → List (Field ReadReason)) → (A → ℕ) → ℕ → List A
    → List (Field ReadReason)
acl_fields ace_fields mask flags list =
    number_field acl_flags_of flags ∷ number_field (λ n. listed (count_of n)) (length list)
    ∷ flat_map (λ p. ace_fields (sum_by (λ a. count_ones (mask a)) (take p.0 list)) p.1) (enumerate_from 0 list)

-- what is wrong with bytes that should be a value with such fields and nothing more, and where: the first wrong field
-- of such a value, or the first byte after a value that is spelled
pub data IsAclFault {A : Type 0} (fields : ℕ → List A → List (Field ReadReason)) (Spelled : List ℕ → Type 0)
    (bytes : List ℕ) : ReadFault → Type 0 where
  of_field : (flags : ℕ) (list : List A) (fault : ReadFault)
      → IsFirstWrongField (reason.List Truncated) (fields flags list) bytes fault.offset fault.reason
      → IsAclFault fields Spelled bytes fault
  after_value : (text rest : List ℕ) → Spelled text → bytes ≡ text ++ rest → 0 < length rest
      → IsAclFault fields Spelled bytes (read_fault_at (length text) (reason.List TrailingBytes))
