-- The numbers of the names of a list, and which of these names are out: this library's own.
use Rattle.std.specs.Prelude.{◌≡◌, ◌<◌, ℕ, Bool, false, true, List, length, slice_index_or, Option, Some}
use Rattle.std.specs.BTreeMap.{BTreeMap, btree_map_len, get_by}
use Rattle.std.specs.Borrow.{Bor}
use Rattle.std.specs.Cmp.Lexicographic.{slice_cmp}
use Rattle.std.specs.List.{AllZip}
use Rattle.std.specs.Option.{option_map_or}
use Rattle.std.specs.Ordering.{nat_cmp}
use Rattle.acl_nfs4.specs.Who.{is_unknown_special}
use Rattle.acl_nfs4.specs.declared.ace.AceRef.{AceRef}
use Rattle.acl_decide.specs.declared.out_names.OutNames.{OutNames}

-- the number of a name
abbrev pub name_number : BTreeMap (Bor (List ℕ)) ℕ → List ℕ → Option ℕ
name_number known who = get_by (λ k. slice_cmp nat_cmp who k.now) known

-- the numbers are below a count, and those of different names are different
pub record HaveNameNumbers (known : BTreeMap (Bor (List ℕ)) ℕ) (count : ℕ) : Type 0 where
  pub below : (who : List ℕ) (n : ℕ) → name_number known who ≡ Some n → n < count
  pub apart : (who other : List ℕ) (n : ℕ) → name_number known who ≡ Some n → name_number known other ≡ Some n
      → who ≡ other

-- the name has the number, and the names that had one have the same
pub record GivesNumberTo (old : BTreeMap (Bor (List ℕ)) ℕ) (who : List ℕ) (number : ℕ)
    (new : BTreeMap (Bor (List ℕ)) ℕ) : Type 0 where
  pub is : name_number new who ≡ Some number
  pub kept : (other : List ℕ) (n : ℕ) → name_number old other ≡ Some n → name_number new other ≡ Some n
  pub numbered : HaveNameNumbers old (btree_map_len old) → HaveNameNumbers new (btree_map_len new)

-- the name is out
abbrev pub is_out : OutNames → List ℕ → Bool
is_out names who = option_map_or (λ n. slice_index_or names.out.items n false) (name_number names.known who) false

-- the ACE has the number of its name, if the name is unknown
abbrev pub HasNameNumber : BTreeMap (Bor (List ℕ)) ℕ → AceRef → ℕ → Type 0
HasNameNumber known a n = is_unknown_special a.who.now ≡ true → name_number known a.who.now ≡ Some n

-- the numbers are those of the unknown names of these ACEs
pub record IsFor (aces : List AceRef) (names : OutNames) : Type 0 where
  pub numbered : HaveNameNumbers names.known (length names.out.items)
  pub each : AllZip (HasNameNumber names.known) aces names.numbers.items

-- the number that was given for the ACE, and what has a number after it
pub record GivesNameNumber (old : BTreeMap (Bor (List ℕ)) ℕ) (a : AceRef) (number : ℕ)
    (new : BTreeMap (Bor (List ℕ)) ℕ) : Type 0 where
  pub is : HasNameNumber new a number
  pub kept : (other : List ℕ) (n : ℕ) → name_number old other ≡ Some n → name_number new other ≡ Some n
  pub numbered : HaveNameNumbers old (btree_map_len old) → HaveNameNumbers new (btree_map_len new)

-- the number at the place is marked if and only if the name of the ACE is out, if the name is unknown
pub record IsNameNumber (names : OutNames) (a : AceRef) (place : ℕ) : Type 0 where
  pub place_below : place < length names.numbers.items
  pub number_below : is_unknown_special a.who.now ≡ true
      → slice_index_or names.numbers.items place 0 < length names.out.items
  pub is : is_unknown_special a.who.now ≡ true
      → slice_index_or names.out.items (slice_index_or names.numbers.items place 0) false ≡ is_out names a.who.now

-- the ACE is at this place
pub record IsAceAt (aces : List AceRef) (item : AceRef) (place : ℕ) : Type 0 where
  pub below : place < length aces
  pub is : item ≡ slice_index_or aces place item

-- the name is the unknown one of one of the ACEs
abbrev pub IsUnknownNameIn : List AceRef → List ℕ → Type 0
IsUnknownNameIn aces who = (item : AceRef) × (place : ℕ) × IsAceAt aces item place × (item.who.now ≡ who)
    × (is_unknown_special item.who.now ≡ true)
