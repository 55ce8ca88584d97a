-- What single words of the command line spell (this library's own).
use Rattle.std.specs.Prelude.{ℕ, ◌≤◌, ◌==◌, ◌&&◌, ◌||◌, not, Bool, Option, Some, None, List, [], ◌∷◌, bit_and, codes, length, nat_le, nat_lt, if◌then◌else◌}
use Rattle.std.specs.Char.{is_digit}
use Rattle.std.specs.List.{list_all, slice_split}
use Rattle.std.specs.Option.{option_and_then, option_map}
use Rattle.std.specs.Str.{bytes_eq}
use Rattle.std.specs.Str.Parse.{digits_value}
use Rattle.clap.specs.Words.{Text}
use Rattle.acl_perm.specs.Ascii.{letter_r, letter_w, letter_x}
use Rattle.acl_perm.specs.Bits.{all_mode_bits}
use Rattle.acl_nfs4.specs.BitNames.{no_names}
use Rattle.acl_nfs4.specs.Rights.{mask_named}
use Rattle.acl_posix.specs.Grammar.{comma}
use Rattle.acl_posix.specs.Fields.{id_of, permissions_of}

-- a name has at least one byte
abbrev pub is_name : Text → Bool
is_name text = nat_lt 0 (length text)

-- all of the texts are names
abbrev pub are_names : List Text → Bool
are_names texts = list_all is_name texts

-- the rights that a value of `--mask` names: `none`, or a field of names; `-` names none here
unfoldable pub mask_value : Text → Option ℕ
mask_value text = if bytes_eq text (codes "none") then Some 0
    else (if bytes_eq text no_names then None else mask_named text)

-- the mask, if the set of rights has all of its rights
abbrev pub within : ℕ → ℕ → Option ℕ
within rights mask = if bit_and rights mask == mask then Some mask else None

-- the rights that a value of `--mask` names, if the set of rights has all of them
abbrev pub mask_within : ℕ → Text → Option ℕ
mask_within rights text = option_and_then (within rights) (mask_value text)

-- a value that is made of two, if both are there
abbrev pub of_both : {A B C : Type 0} → (A → B → C) → Option A → Option B → Option C
of_both make first second = option_and_then (λ a. option_map (λ b. make a b) second) first

-- ---- values of the POSIX commands

-- a radix of numbers whose digits are decimal digits and letters
abbrev pub IsRadix : ℕ → Type 0
IsRadix radix = (2 ≤ radix) × (radix ≤ 36)

-- a radix of numbers whose digits are decimal digits alone
abbrev pub IsDigitRadix : ℕ → Type 0
IsDigitRadix radix = (2 ≤ radix) × (radix ≤ 10)

-- digits alone, and at least one
abbrev pub is_numeral : ℕ → Text → Bool
is_numeral radix text = not (length text == 0) && list_all (λ b. is_digit b radix) text

-- an id: decimal digits alone, of at most the greatest id
unfoldable pub id_value : Text → Option ℕ
id_value text = if is_numeral 10 text then id_of text else None

-- what all of the texts spell, if each spells something
abbrev pub each_value : (Text → Option ℕ) → List Text → Option (List ℕ)
each_value value [] = Some []
each_value value (text ∷ texts) =
    option_and_then (λ one. option_map (λ more. one ∷ more) (each_value value texts)) (value text)

-- one id or more, with a comma between two; an empty item is no id
unfoldable pub ids_value : Text → Option (List ℕ)
ids_value text = each_value id_value (slice_split (λ b. b == comma) text)

-- a mode: one to four octal digits, of at most 0o777
unfoldable pub mode_value : Text → Option ℕ
mode_value text = if is_numeral 8 text && nat_le (length text) 4 && nat_le (digits_value 8 text) all_mode_bits
    then Some (digits_value 8 text) else None

-- r, w or x
abbrev pub is_letter : ℕ → Bool
is_letter b = (b == letter_r) || (b == letter_w) || (b == letter_x)

-- the permissions that letters spell: r, w and x in any order, at least one of them and each at most once
abbrev pub letters_value : Text → Option ℕ
letters_value text = if not (length text == 0) && list_all is_letter text then permissions_of text else None

-- the request: letters, or `none`
unfoldable pub want_value : Text → Option ℕ
want_value text = if bytes_eq text (codes "none") then Some 0 else letters_value text
