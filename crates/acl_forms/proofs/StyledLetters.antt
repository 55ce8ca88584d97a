-- The letters of a set in each style stand for the set.
use Rattle.std.proofs.Common.{◌≡◌, ◌∙◌, ◌+◌, ◌^◌, ℕ, Bool, true, false, cond, eqb, List, [], ◌∷◌, Result, Ok, refl, ap}
use Rattle.std.specs.Prelude.{bit_and, bit_or, map}
use Rattle.std.specs.List.{list_all}
use Rattle.std.specs.Int.Bits.{and_zero_r, or_zero_r}
use Rattle.std.proofs.lemmas.Bool.{eqb-true}
use Rattle.acl_perm.proofs.Bools.{and_true}
use Rattle.acl_perm.specs.Ascii.{hyphen}
use Rattle.acl_perm.specs.internal.Steps.{◌>>=◌}
use Rattle.acl_nfs4.proofs.Exports.{bit_missing}
use Rattle.acl_forms.specs.Letters.{letter_bits}
use Rattle.acl_forms.specs.NfsWritten.{letter_or_hyphen, styled_letters}
use Rattle.acl_forms.specs.declared.fault.ReadFault.{ReadFault}
use Rattle.acl_forms.specs.declared.fault.ReadReason.{ReadReason}
use Rattle.acl_forms.specs.declared.letters.Letter.{Letter}
use Rattle.acl_forms.specs.declared.object.ObjectKind.{ObjectKind}
use Rattle.acl_forms.specs.declared.style.LetterStyle.{LetterStyle}
use Rattle.acl_forms.specs.declared.style.LetterStyle.TheVariants.{Compact, Full}
use Rattle.acl_forms.specs.internal.LetterReading.{letters_from}
use Rattle.acl_forms.proofs.LettersReadBack.{all_of, joined, left_out, letters_pass, letters_read, AreBits, AreReadBack}

-- a hyphen stands for no bit in a table
abbrev pub IsNoLetter : List Letter → ObjectKind → ReadReason → Type 0
IsNoLetter table object wrong = (at : ℕ) → letter_bits table object wrong at hyphen ≡ Ok 0

-- the letters of a set with hyphens stand for the part of the set that is in the rows
columns_read : (table rows : List Letter) (places : List ℕ) (object : ObjectKind) (wrong : ReadReason)
    (at acc set : ℕ) → AreReadBack table object wrong set rows → AreBits rows places → IsNoLetter table object wrong
    → letters_from table object wrong at acc (map (letter_or_hyphen set) rows)
    ≡ Ok (bit_or acc (bit_and set (all_of rows)))
unfolding letters_from
columns_read table [] places object wrong at acc set again bits none = rw (and_zero_r set, or_zero_r acc) refl
columns_read table (row ∷ rows) [] object wrong at acc set again bits none = absurd cc
columns_read table (row ∷ rows) (k ∷ places) object wrong at acc set again bits none =
    let bit : row.bits ≡ 2 ^ k = cc in
    let powers : AreBits rows places = cc in
    let others = map (letter_or_hyphen set) rows in
    elim (eqb (bit_and set row.bits) row.bits) as (λ t. eqb (bit_and set row.bits) row.bits ≡ t
    → letters_from table object wrong at acc (cond t row.letter hyphen ∷ others)
    ≡ Ok (bit_or acc (bit_and set (bit_or row.bits (all_of rows))))) [
      | true ↦ λ has. ap (λ (r : Result ℕ ReadFault). r >>= λ n. letters_from table object wrong (at + 1) (bit_or acc n)
          others) (again.0 has at)
          ∙ columns_read table rows places object wrong (at + 1) (bit_or acc row.bits) set again.1 powers none
          ∙ ap (λ (n : ℕ). Ok n) (joined set acc row.bits (all_of rows) (eqb-true _ _ has))
      | false ↦ λ lacks.
          let empty : bit_and set row.bits ≡ 0 = rw bit (bit_missing set k (rw bit at lacks)) in
          ap (λ (r : Result ℕ ReadFault). r >>= λ n. letters_from table object wrong (at + 1) (bit_or acc n) others)
          (none at)
          ∙ columns_read table rows places object wrong (at + 1) (bit_or acc 0) set again.1 powers none
          ∙ ap (λ (n : ℕ). Ok n) (ap (λ (n : ℕ). bit_or n (bit_and set (all_of rows))) (or_zero_r acc)
          ∙ left_out set acc row.bits (all_of rows) empty)
    ] refl

-- the letters of a set in each style stand for the part of the set that is in the rows
pub styled_read : (letters : LetterStyle) (table rows : List Letter) (places : List ℕ) (object : ObjectKind)
    (wrong : ReadReason) (at acc set : ℕ) → AreReadBack table object wrong set rows → AreBits rows places
    → IsNoLetter table object wrong
    → letters_from table object wrong at acc (styled_letters letters rows set)
    ≡ Ok (bit_or acc (bit_and set (all_of rows)))
styled_read Compact table rows places object wrong at acc set again bits none =
    letters_read table rows places object wrong at acc set again bits
styled_read Full table rows places object wrong at acc set again bits none =
    columns_read table rows places object wrong at acc set again bits none

-- the letters of a set with hyphens pass a test that all letters of the rows and the hyphen pass
columns_pass : (test : ℕ → Bool) (rows : List Letter) (set : ℕ) → test hyphen ≡ true
    → list_all (λ (row : Letter). test row.letter) rows ≡ true
    → list_all test (map (letter_or_hyphen set) rows) ≡ true
columns_pass test [] set none h = refl
columns_pass test (row ∷ rows) set none h =
    let both = and_true (test row.letter) (list_all (λ (r : Letter). test r.letter) rows) h in
    elim (eqb (bit_and set row.bits) row.bits)
    as (λ t. list_all test (cond t row.letter hyphen ∷ map (letter_or_hyphen set) rows) ≡ true) [
      | true ↦ rw both.0 (columns_pass test rows set none both.1)
      | false ↦ rw none (columns_pass test rows set none both.1)
    ]

-- the letters of a set in each style pass a test that all letters of the rows and the hyphen pass
pub styled_pass : (letters : LetterStyle) (test : ℕ → Bool) (rows : List Letter) (set : ℕ) → test hyphen ≡ true
    → list_all (λ (row : Letter). test row.letter) rows ≡ true → list_all test (styled_letters letters rows set) ≡ true
styled_pass Compact test rows set none h = letters_pass test rows set h
styled_pass Full test rows set none h = columns_pass test rows set none h
