-- Bytes that are laid out as fields, one after the other (RFC 4506, sections 4.2 and 4.10), and the first field that is
-- wrong: this library's own.
use Rattle.std.specs.Prelude.{◌≡◌, ℕ, ◌+◌, ◌<◌, ◌≤◌, List, ◌∷◌, ◌++◌, length, take, Result, Ok, Err, Option, None, Some, ◌⊎◌}
use Rattle.acl_nfs4.specs.Fields.{number}
use Rattle.acl_nfs4.specs.Spelling.{word}

-- a field that has these bytes: why it is refused, if it is, and why other bytes of the same number would be refused
pub record Field (R : Type 0) : Type 0 where
  pub bytes : List ℕ
  pub refused : Option R
  pub refuses : List ℕ → Option R

-- why a value is refused, if it is
abbrev pub refusal : {A R : Type 0} → Result A R → Option R
refusal (Ok x) = None
refusal (Err r) = Some r

-- the field of a number, which is a word that has this meaning
abbrev pub number_field : {A R : Type 0} → (ℕ → Result A R) → ℕ → Field R
number_field means n = record {
  bytes = word n;
  refused = refusal (means n);
  refuses = λ bytes. refusal (means (number bytes));
}

-- the field of bytes that have this meaning
abbrev pub bytes_field : {A R : Type 0} → (List ℕ → Result A R) → List ℕ → Field R
bytes_field means bytes = record {
  bytes = bytes;
  refused = refusal (means bytes);
  refuses = λ others. refusal (means others);
}

-- the bytes end inside the field, or they begin with bytes that the field refuses
abbrev pub IsWrong : {R : Type 0} → R → Field R → List ℕ → R → Type 0
IsWrong cut field bytes r = ((length bytes < length field.bytes) × (r ≡ cut))
    ⊎ ((length field.bytes ≤ length bytes) × (field.refuses (take (length field.bytes) bytes) ≡ Some r))

-- the first of these fields that is wrong, and the place of its first byte: the bytes have all fields before it, and
-- none of those is refused
pub data IsFirstWrongField {R : Type 0} (cut : R) : List (Field R) → List ℕ → ℕ → R → Type 0 where
  wrong_here : (field : Field R) (fields : List (Field R)) (bytes : List ℕ) (r : R) → IsWrong cut field bytes r
      → IsFirstWrongField cut (field ∷ fields) bytes 0 r
  wrong_later : (field : Field R) (fields : List (Field R)) (rest : List ℕ) (place : ℕ) (r : R) → field.refused ≡ None
      → IsFirstWrongField cut fields rest place r
      → IsFirstWrongField cut (field ∷ fields) (field.bytes ++ rest) (length field.bytes + place) r
