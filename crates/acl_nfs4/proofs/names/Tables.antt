-- Tables that name bits: the rows that words name, and the sets of them.
use Rattle.acl_nfs4.proofs.Common.{[], all_rights, and_le_l, and_pow, and_true, and_zero_r, ap, arith, bar, bit_and, bit_at, bit_at-lt, bit_in, bit_name_of, bit_names_of, bit_or, BitName, bits_in, Bool, Bor, cond, drop, eq-eqb, eqb, eqb-true, eqb_tells, false, find, first_name, get_or, has_bit, has_bit-and, has_bit-or, IfSome, inl, inr, is_rising, is_within, IsMask, IsMask-union, IsSome, IsWithin, join_with_byte, length, List, list_all, list_all-append, ltb, ltb-true, map, Mask, mask_named, names_of, no_names, None, Option, option_map, or_zero_l, or_zero_r, refl, rights, rows_of, same_set, set_if_within, set_named, set_text, set_within, Some, SpellsMask, SpellsSet, subst, suc, true, zero, ℕ, ⊎_elim, ◌&&◌, ◌*◌, ◌<◌, ◌^◌, ◌↔◌, ◌∙◌, ◌∷◌, ◌≡◌}
use Rattle.std.proofs.Math.Bool.{and-or_distrib_left}
use Rattle.acl_perm.specs.declared.bit_names.BitName.{BitName as Row}
use Rattle.acl_nfs4.proofs.names.SetFields.{AreBits, IsTable, NameThemselves, first_named, named_again, rights_table, row_of, named_is_spelled}

-- ---- rows of the code

-- what a search finds in a table of the code is what it finds in the table
pub row_found : (test : BitName → Bool) (table : List Row)
    → option_map bit_name_of (find (λ r. test (bit_name_of r)) table) ≡ find test (bit_names_of table)
row_found test [] = refl
row_found test (r ∷ rows) =
    elim (test (bit_name_of r))
    as (λ t. option_map bit_name_of (cond t (Some r) (find (λ x. test (bit_name_of x)) rows))
    ≡ cond t (Some (bit_name_of r)) (find test (bit_names_of rows))) [
      | true ↦ refl
      | false ↦ row_found test rows
    ]

-- ---- the names after a row

-- a number does not have a greater bit
above_all : (bits bit : ℕ) → bits < bit → eqb (bit_and bits bit) bit ≡ false
above_all bits bit lt = ⊎_elim (λ h. absurd (omega (arith, lt, h.1, and_le_l bits bit))) (λ h. h.0)
    (eqb_tells (bit_and bits bit) bit)

-- a set has no names among rows whose bits are all greater than the set
none_above : (rows : List Row) (set bit : ℕ) → set < bit → list_all (λ next. ltb bit next.bit) rows ≡ true
    → names_of (bit_names_of rows) set ≡ []
none_above [] set bit lt h = refl
none_above (r ∷ rows) set bit lt h =
    let both = and_true (ltb bit r.bit) (list_all (λ next. ltb bit next.bit) rows) h in
    rw (above_all set r.bit (omega (arith, lt, ltb-true bit r.bit both.0))) (none_above rows set bit lt both.1)

-- if the bits of the rows ascend, a set has no names from a row on whose bit is greater than the set
pub none_from : (table : List Row) (set i : ℕ) (d : Row) → is_rising table ≡ true → i < length table
    → set < (get_or table i d).bit → names_of (bit_names_of (drop i table)) set ≡ []
none_from [] set i d rising inside lt = absurd (omega (arith, inside))
none_from (r ∷ rows) set zero d rising inside lt =
    let both = and_true (list_all (λ next. ltb r.bit next.bit) rows) (is_rising rows) rising in
    rw (above_all set r.bit lt) (none_above rows set r.bit lt both.0)
none_from (r ∷ rows) set (suc i) d rising inside lt =
    let both = and_true (list_all (λ next. ltb r.bit next.bit) rows) (is_rising rows) rising in
    none_from rows set i d both.1 (omega (arith, inside)) lt

-- ---- names give a set of rights

-- the bit that a word names is a right
right_named : (word : List ℕ) (bit : ℕ) → bit_in rights word ≡ Some bit → IsMask bit
right_named word bit e = let r = row_of (λ row. is_within all_rights row.bit) rights word bit refl e in
    subst IsMask r.same_bit (eqb-true _ _ r.passes)

-- the set that words name is a set of rights
rights_named : (words : List (List ℕ)) (n : ℕ) → bits_in rights words ≡ Some n → IsMask n
rights_named [] n e = let same : 0 ≡ n = cc in subst IsMask same refl
rights_named (word ∷ words) n e = let f = first_named rights word words n e in
    subst IsMask f.union
    (IsMask-union f.bit f.others (right_named word f.bit f.named) (rights_named words f.others f.rest))

-- a field that names a set of rights names a mask
pub named_right : (field : List ℕ) (n : ℕ) → mask_named field ≡ Some n → IsMask n
named_right field n e = elim (named_is_spelled rights field n e) [
  | inl none ↦ rw none.1 refl
  | inr some ↦ rights_named some.0 n some.3
]

-- if a number is a mask, the mask that is made of it has that number
pub mask_made : (r : Option Mask) (bits : ℕ) → (IsSome r ↔ IsMask bits) → IfSome r (λ m. m.bits ≡ bits) → IsMask bits
    → option_map (λ m. m.bits) r ≡ Some bits
mask_made None bits is value h = let no = is.1 h in absurd cc
mask_made (Some m) bits is value h = ap (λ (n : ℕ). Some n) value

-- ---- names of a table

-- the first name of a bit spells it
pub first_spells : (table rows : List BitName) (bit : ℕ) (name : List ℕ) → NameThemselves table rows
    → first_name rows bit ≡ Some name → SpellsSet table name bit
first_spells table [] bit name named e = absurd cc
first_spells table (row ∷ rows) bit name named e =
    elim (eqb row.bit bit) as (λ t. eqb row.bit bit ≡ t
    → option_map (λ (x : BitName). x.name) (cond t (Some row) (find (λ x. eqb x.bit bit) rows)) ≡ Some name
    → SpellsSet table name bit) [
      | true ↦ λ is h.
          let same : row.bit ≡ bit = eqb-true _ _ is in
          let word : bit_in table name ≡ Some bit = cc in
          inr (name ∷ [], (λ none. cc), refl, rw (word, or_zero_r bit) refl)
      | false ↦ λ is h. let others : NameThemselves table rows = cc in first_spells table rows bit name others h
    ] refl e

-- the name of a right spells it
pub name_spells : (r : Option (Bor (List ℕ))) (bit : ℕ) → option_map (λ name. name.now) r ≡ first_name rights bit
    → IfSome r (λ name. SpellsMask name.now bit)
name_spells None bit e = tt
name_spells (Some name) bit e = first_spells rights rights bit name.now rights_table.named cc

-- ---- the field that is written spells the set

-- the union of the bits of a table
abbrev pub all_of : List BitName → ℕ
all_of [] = 0
all_of (row ∷ rows) = bit_or row.bit (all_of rows)

-- the part of a set that is in a union is the union of its parts in both sets
pub and_or : (a b c : ℕ) → bit_and a (bit_or b c) ≡ bit_or (bit_and a b) (bit_and a c)
and_or a b c = same_set _ _ (λ k.
    simp (has_bit-and, has_bit-or) (and-or_distrib_left (has_bit a k) (has_bit b k) (has_bit c k)))

-- a binary digit times a number is the number or 0
zero_and : (d p : ℕ) → d < 2 → (eqb (d * p) p ≡ false) → d * p ≡ 0
zero_and zero p lt h = omega arith
zero_and (suc zero) p lt h = let same : 1 * p ≡ p = omega arith in grind arith
zero_and (suc (suc d)) p lt h = absurd (omega (arith, lt))

-- a set has a bit, or the intersection with the bit is empty
pub bit_missing : (set k : ℕ) → eqb (bit_and set (2 ^ k)) (2 ^ k) ≡ false → bit_and set (2 ^ k) ≡ 0
bit_missing set k h = rw (and_pow set k) (zero_and (bit_at set k) (2 ^ k) (bit_at-lt set k) (rw (and_pow set k) at h))

-- the names of the bits of a set name the part of the set that is in the table
names_spell : (table rows : List BitName) (places : List ℕ) (set : ℕ) → NameThemselves table rows → AreBits rows places
    → bits_in table (names_of rows set) ≡ Some (bit_and set (all_of rows))
names_spell table [] places set named bits = rw (and_zero_r set) refl
names_spell table (row ∷ rows) [] set named bits = absurd cc
names_spell table (row ∷ rows) (k ∷ places) set named bits =
    let name : bit_in table row.name ≡ Some row.bit = cc in
    let bit : row.bit ≡ 2 ^ k = cc in
    let others : NameThemselves table rows = cc in
    let powers : AreBits rows places = cc in
    let rest = names_spell table rows places set others powers in
    elim (eqb (bit_and set row.bit) row.bit) as (λ t. eqb (bit_and set row.bit) row.bit ≡ t
    → bits_in table (map (λ (r : BitName). r.name) (cond t (row ∷ rows_of rows set) (rows_of rows set)))
    ≡ Some (bit_and set (bit_or row.bit (all_of rows)))) [
      | true ↦ λ has. rw (name, rest, and_or set row.bit (all_of rows), eqb-true _ _ has) refl
      | false ↦ λ lacks.
          let none : bit_and set row.bit ≡ 0 = rw bit (bit_missing set k (rw bit at lacks)) in
          rw (rest, and_or set row.bit (all_of rows), none, or_zero_l (bit_and set (all_of rows))) refl
    ] refl

-- the field of a set with bits of the table spells the set
pub text_spells : (table : List BitName) (set : ℕ) → IsTable table → IsWithin (all_of table) set
    → SpellsSet table (set_text table set) set
unfolding set_text
text_spells table set is within =
    let named : bits_in table (names_of table set) ≡ Some set =
    names_spell table table is.places set is.named is.bits ∙ ap (λ (n : ℕ). Some n) within in
    elim (eqb set 0) as (λ t. eqb set 0 ≡ t
    → SpellsSet table (cond t no_names (join_with_byte bar (names_of table set))) set) [
      | true ↦ λ none. inl (refl, eqb-true _ _ none)
      | false ↦ λ some. inr (names_of table set, (λ e. not_empty some (rw e at named)), refl, named)
    ] refl where
      not_empty : eqb set 0 ≡ false → Some 0 ≡ Some set → ⊥
      not_empty some e = let same : 0 ≡ set = cc in let wrong = rw (← same) at some in cc

-- ---- the bytes of the field that is written

-- `-`, `|` and the bytes of the first names pass a test
abbrev pub names_pass : (ℕ → Bool) → List BitName → Bool
names_pass test table = list_all test (bar ∷ no_names) && list_all (λ row. list_all test row.name) table

-- the bytes of the names of a set pass a test that the bytes of all names pass
names_of-pass : (test : ℕ → Bool) (rows : List BitName) (set : ℕ)
    → list_all (λ (row : BitName). list_all test row.name) rows ≡ true
    → list_all (list_all test) (names_of rows set) ≡ true
names_of-pass test [] set h = refl
names_of-pass test (row ∷ rows) set h =
    let both = and_true (list_all test row.name) (list_all (λ (r : BitName). list_all test r.name) rows) h in
    elim (eqb (bit_and set row.bit) row.bit)
    as (λ t. list_all (list_all test)
    (map (λ (r : BitName). r.name) (cond t (row ∷ rows_of rows set) (rows_of rows set))) ≡ true) [
      | true ↦ rw both.0 (names_of-pass test rows set both.1)
      | false ↦ names_of-pass test rows set both.1
    ]

-- the bytes of words with `|` between them pass a test that `|` and the bytes of the words pass
join-pass : (test : ℕ → Bool) (words : List (List ℕ)) → test bar ≡ true → list_all (list_all test) words ≡ true
    → list_all test (join_with_byte bar words) ≡ true
join-pass test [] at_bar h = refl
join-pass test (word ∷ []) at_bar h = (and_true (list_all test word) true h).0
join-pass test (word ∷ next ∷ words) at_bar h =
    let both = and_true (list_all test word) (list_all (list_all test) (next ∷ words)) h in
    rw (list_all-append test word (bar ∷ join_with_byte bar (next ∷ words)), both.0, at_bar)
    (join-pass test (next ∷ words) at_bar both.1)

-- the bytes of the field of a set pass a test that `-`, `|` and the bytes of all names pass
pub set_text-pass : (test : ℕ → Bool) (table : List BitName) (set : ℕ) → names_pass test table ≡ true
    → list_all test (set_text table set) ≡ true
unfolding set_text
set_text-pass test table set h =
    let both = and_true (list_all test (bar ∷ no_names)) (list_all (λ (row : BitName). list_all test row.name) table) h
    in
    let marks = and_true (test bar) (list_all test no_names) both.0 in
    elim (eqb set 0) as (λ t. list_all test (cond t no_names (join_with_byte bar (names_of table set))) ≡ true) [
      | true ↦ marks.1
      | false ↦ join-pass test (names_of table set) marks.0 (names_of-pass test table set both.1)
    ]

-- ---- a field whose bits are all in a set

-- the set that is read is named and is a part of the whole
pub record NamesPart (table : List BitName) (whole : ℕ) (field : List ℕ) (set : ℕ) : Type 0 where
  pub spelled : SpellsSet table field set
  pub within : IsWithin whole set

-- what each answer says about a field
abbrev pub PartSays : List BitName → ℕ → List ℕ → Option ℕ → Type 0
PartSays table whole field None = (set : ℕ) → SpellsSet table field set → IsWithin whole set → ⊥
PartSays table whole field (Some set) = NamesPart table whole field set

-- a field that names a part of a set is read
pub part_read : (table : List BitName) (whole : ℕ) (field : List ℕ) (set : ℕ) → IsTable table
    → SpellsSet table field set → IsWithin whole set → set_within table whole field ≡ Some set
unfolding set_within
part_read table whole field set is s within = rw (named_again table field set is s, eq-eqb _ _ within) refl

-- what is read is true of the field
pub part_says : (table : List BitName) (whole : ℕ) (field : List ℕ) → IsTable table
    → PartSays table whole field (set_within table whole field)
unfolding set_within
part_says table whole field is =
    elim (set_named table field)
    as (λ o. set_named table field ≡ o → PartSays table whole field (set_if_within whole o)) [
      | None ↦ λ none set s within. let e = named_again table field set is s in cc
      | Some set ↦ λ named.
          elim (is_within whole set) as (λ t. is_within whole set ≡ t
          → PartSays table whole field (cond t (Some set) None)) [
            | true ↦ λ inside. record { spelled = named_is_spelled table field set named; within = eqb-true _ _ inside }
            | false ↦ λ outside other s within.
                let e = named_again table field other is s in
                let inside = eq-eqb _ _ within in
                let same : set ≡ other = cc in
                cc
          ] refl
    ] refl
