-- The letters of a set stand for the set.
use Rattle.std.proofs.Common.{◌≡◌, ◌∙◌, ◌+◌, ◌^◌, ℕ, Bool, true, false, cond, eqb, List, [], ◌∷◌, Result, Ok, refl, sym, ap}
use Rattle.std.specs.Prelude.{◌==◌, bit_and, bit_or, filter, map}
use Rattle.std.specs.List.{AllByRecursion, list_all}
use Rattle.std.specs.Int.Bits.{and_zero_r, or_zero_l, or_zero_r}
use Rattle.std.proofs.lemmas.Bool.{eq-eqb, eqb-true}
use Rattle.std.proofs.lemmas.Nat.{and_assoc, and_comm}
use Rattle.acl_perm.proofs.Bools.{and_true}
use Rattle.acl_perm.specs.internal.Steps.{◌>>=◌}
use Rattle.acl_nfs4.specs.Within.{IsWithin}
use Rattle.acl_nfs4.proofs.Exports.{and_or, bit_missing, or_assoc}
use Rattle.acl_forms.specs.Letters.{flag_letters, letter_bits, right_letters, set_of_letters, single_letters}
use Rattle.acl_forms.specs.ToolsWritten.{letters_of}
use Rattle.acl_forms.specs.internal.LetterReading.{letters_from}
use Rattle.acl_forms.proofs.LetterLemmas.{letters_union}
use Rattle.acl_forms.specs.declared.fault.ReadFault.{ReadFault}
use Rattle.acl_forms.specs.declared.fault.ReadReason.{ReadReason}
use Rattle.acl_forms.specs.declared.letters.Letter.{Letter}
use Rattle.acl_forms.specs.declared.object.ObjectKind.{ObjectKind}
use Rattle.acl_forms.specs.declared.object.ObjectKind.TheVariants.{File, Directory}

-- ---- sets

-- the union of the bits of rows
abbrev pub all_of : List Letter → ℕ
all_of [] = 0
all_of (row ∷ rows) = bit_or row.bits (all_of rows)

-- a set that has no bit of a whole has no part of it but the empty one
pub no_part : (set whole bits : ℕ) → bit_and set whole ≡ 0 → bit_and bits whole ≡ bits → bit_and set bits ≡ bits
    → 0 ≡ bits
no_part set whole bits none inside part =
    let one : bit_and (bit_and set whole) bits ≡ bit_and set (bit_and whole bits) = and_assoc bits set whole in
    let two : bit_and whole bits ≡ bits = and_comm whole bits ∙ inside in
    let three : bit_and 0 bits ≡ 0 = and_comm 0 bits ∙ and_zero_r bits in
    sym three ∙ ap (λ (n : ℕ). bit_and n bits) (sym none) ∙ one ∙ ap (bit_and set) two ∙ part

-- ---- letters that are read again

-- the bits of rows are the powers of two at these places
abbrev pub AreBits : List Letter → List ℕ → Type 0
AreBits rows places = map (λ (row : Letter). row.bits) rows ≡ map (λ k. 2 ^ k) places

-- each letter that is written for a set is read as its bits
abbrev pub AreReadBack : List Letter → ObjectKind → ReadReason → ℕ → List Letter → Type 0
AreReadBack table object wrong set rows = AllByRecursion (λ (row : Letter). eqb (bit_and set row.bits) row.bits ≡ true
    → (at : ℕ) → letter_bits table object wrong at row.letter ≡ Ok row.bits) rows

-- a bit that the set has joins the bits of the other rows
pub joined : (set acc bits others : ℕ) → bit_and set bits ≡ bits
    → bit_or (bit_or acc bits) (bit_and set others) ≡ bit_or acc (bit_and set (bit_or bits others))
joined set acc bits others e = or_assoc acc bits (bit_and set others)
    ∙ ap (bit_or acc) (ap (λ (n : ℕ). bit_or n (bit_and set others)) (sym e) ∙ sym (and_or set bits others))

-- a bit that the set does not have adds nothing
pub left_out : (set acc bits others : ℕ) → bit_and set bits ≡ 0
    → bit_or acc (bit_and set others) ≡ bit_or acc (bit_and set (bit_or bits others))
left_out set acc bits others e = ap (bit_or acc) (sym (and_or set bits others
    ∙ ap (λ (n : ℕ). bit_or n (bit_and set others)) e ∙ or_zero_l (bit_and set others)))

-- the letters of a set stand for the part of the set that is in the rows
pub letters_read : (table rows : List Letter) (places : List ℕ) (object : ObjectKind) (wrong : ReadReason)
    (at acc set : ℕ) → AreReadBack table object wrong set rows → AreBits rows places
    → letters_from table object wrong at acc (letters_of rows set) ≡ Ok (bit_or acc (bit_and set (all_of rows)))
unfolding letters_from
letters_read table [] places object wrong at acc set again bits = rw (and_zero_r set, or_zero_r acc) refl
letters_read table (row ∷ rows) [] object wrong at acc set again bits = absurd cc
letters_read table (row ∷ rows) (k ∷ places) object wrong at acc set again bits =
    let bit : row.bits ≡ 2 ^ k = cc in
    let powers : AreBits rows places = cc in
    elim (eqb (bit_and set row.bits) row.bits) as (λ t. eqb (bit_and set row.bits) row.bits ≡ t
    → letters_from table object wrong at acc (map (λ (r : Letter). r.letter)
    (cond t (row ∷ filter (λ (r : Letter). bit_and set r.bits == r.bits) rows)
    (filter (λ (r : Letter). bit_and set r.bits == r.bits) rows)))
    ≡ Ok (bit_or acc (bit_and set (bit_or row.bits (all_of rows))))) [
      | true ↦ λ has. ap (λ (r : Result ℕ ReadFault). r >>= λ n. letters_from table object wrong (at + 1) (bit_or acc n)
          (letters_of rows set)) (again.0 has at)
          ∙ letters_read table rows places object wrong (at + 1) (bit_or acc row.bits) set again.1 powers
          ∙ ap (λ (n : ℕ). Ok n) (joined set acc row.bits (all_of rows) (eqb-true _ _ has))
      | false ↦ λ lacks.
          let none : bit_and set row.bits ≡ 0 = rw bit (bit_missing set k (rw bit at lacks)) in
          letters_read table rows places object wrong at acc set again.1 powers
          ∙ ap (λ (n : ℕ). Ok n) (left_out set acc row.bits (all_of rows) none)
    ] refl

-- a set without the bits of a whole has no letter for a bit of the whole
never : (set whole bits : ℕ) {A : Type 0} → bit_and set whole ≡ 0 → bit_and bits whole ≡ bits → eqb 0 bits ≡ false
    → eqb (bit_and set bits) bits ≡ true → A
never set whole bits none inside some has =
    let zero_is = no_part set whole bits none inside (eqb-true _ _ has) in
    let wrong = eq-eqb 0 bits zero_is in
    absurd cc

-- the flags of an ACE for files have no letter for directories alone
abbrev pub SuitsFile : ObjectKind → ℕ → ℕ → Type 0
SuitsFile File whole set = bit_and set whole ≡ 0
SuitsFile Directory whole set = Unit {0}

-- the letters of flags are read again
flags_again : (object : ObjectKind) (wrong : ReadReason) (set : ℕ) → SuitsFile object 0x0f set
    → AreReadBack flag_letters object wrong set flag_letters
flags_again Directory wrong set suits = (
  λ _ at. refl,
  (
    λ _ at. refl,
    (
      λ _ at. refl,
      (
        λ _ at. refl,
        (
          λ _ at. refl,
          (
            λ _ at. refl,
            (
              λ _ at. refl,
              (λ _ at. refl, tt),
            ),
          ),
        ),
      ),
    ),
  ),
)
flags_again File wrong set suits = (
  λ has at. never set 0x0f 0x01 suits refl refl has,
  (
    λ has at. never set 0x0f 0x02 suits refl refl has,
    (
      λ has at. never set 0x0f 0x04 suits refl refl has,
      (
        λ has at. never set 0x0f 0x08 suits refl refl has,
        (λ _ at. refl, (λ _ at. refl, (λ _ at. refl, (λ _ at. refl, tt)))),
      ),
    ),
  ),
)

-- the letters of rights are read again
rights_again : (object : ObjectKind) (wrong : ReadReason) (set : ℕ) → SuitsFile object 0x40 set
    → AreReadBack right_letters object wrong set (single_letters [])
rights_again Directory wrong set suits = (
  λ _ at. refl,
  (
    λ _ at. refl,
    (
      λ _ at. refl,
      (
        λ _ at. refl,
        (
          λ _ at. refl,
          (
            λ _ at. refl,
            (
              λ _ at. refl,
              (
                λ _ at. refl,
                (λ _ at. refl, (λ _ at. refl, (λ _ at. refl, (λ _ at. refl, (λ _ at. refl, (λ _ at. refl, tt)))))),
              ),
            ),
          ),
        ),
      ),
    ),
  ),
)
rights_again File wrong set suits = (
  λ _ at. refl,
  (
    λ _ at. refl,
    (
      λ _ at. refl,
      (
        λ has at. never set 0x40 0x40 suits refl refl has,
        (
          λ _ at. refl,
          (
            λ _ at. refl,
            (
              λ _ at. refl,
              (
                λ _ at. refl,
                (
                  λ _ at. refl,
                  (
                    λ _ at. refl,
                    (
                      λ _ at. refl,
                      (
                        λ _ at. refl,
                        (λ _ at. refl, (λ _ at. refl, tt)),
                      ),
                    ),
                  ),
                ),
              ),
            ),
          ),
        ),
      ),
    ),
  ),
)

-- the letters of the flags of an ACE stand for the flags
pub flags_read : (object : ObjectKind) (wrong : ReadReason) (at set : ℕ) → SuitsFile object 0x0f set
    → IsWithin 0xff set → set_of_letters flag_letters object wrong at (letters_of flag_letters set) ≡ Ok set
flags_read object wrong at set suits within =
    letters_union flag_letters object wrong at (letters_of flag_letters set)
    ∙ letters_read flag_letters flag_letters (0 ∷ 1 ∷ 2 ∷ 3 ∷ 4 ∷ 5 ∷ 6 ∷ 7 ∷ []) object wrong at 0 set
    (flags_again object wrong set suits) refl
    ∙ ap (λ (n : ℕ). Ok n) (or_zero_l (bit_and set 0xff) ∙ within)

-- the letters of the rights of an ACE stand for the rights
pub rights_read : (object : ObjectKind) (wrong : ReadReason) (at set : ℕ) → SuitsFile object 0x40 set
    → IsWithin 0x1f01ff set → set_of_letters right_letters object wrong at (letters_of (single_letters []) set) ≡ Ok set
rights_read object wrong at set suits within =
    letters_union right_letters object wrong at (letters_of (single_letters []) set)
    ∙ letters_read right_letters (single_letters [])
    (0 ∷ 1 ∷ 2 ∷ 6 ∷ 16 ∷ 5 ∷ 7 ∷ 8 ∷ 3 ∷ 4 ∷ 17 ∷ 18 ∷ 19 ∷ 20 ∷ []) object wrong at 0 set
    (rights_again object wrong set suits) refl
    ∙ ap (λ (n : ℕ). Ok n) (or_zero_l (bit_and set 0x1f01ff) ∙ within)

-- the letters of a set pass a test that all letters of the rows pass
pub letters_pass : (test : ℕ → Bool) (rows : List Letter) (set : ℕ)
    → list_all (λ (row : Letter). test row.letter) rows ≡ true → list_all test (letters_of rows set) ≡ true
letters_pass test [] set h = refl
letters_pass test (row ∷ rows) set h =
    let both = and_true (test row.letter) (list_all (λ (r : Letter). test r.letter) rows) h in
    elim (eqb (bit_and set row.bits) row.bits) as (λ t. list_all test (map (λ (r : Letter). r.letter)
    (cond t (row ∷ filter (λ (r : Letter). bit_and set r.bits == r.bits) rows)
    (filter (λ (r : Letter). bit_and set r.bits == r.bits) rows))) ≡ true) [
      | true ↦ rw both.0 (letters_pass test rows set both.1)
      | false ↦ letters_pass test rows set both.1
    ]
