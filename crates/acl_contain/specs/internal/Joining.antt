-- What shows into which earlier ACE an ACE can be joined (this library's own).
use Rattle.std.specs.Prelude.{◌≡◌, ◌≢◌, ℕ, ◌+◌, ◌*◌, ◌<◌, ◌≤◌, Bool, true, false, ◌&&◌, if◌then◌else◌, List, ◌++◌, drop, length, map, max, slice_index_or, Contains}
use Rattle.std.specs.List.{AllByRecursion}
use Rattle.acl_eval.specs.Column.{SameVerdicts, column}
use Rattle.acl_nfs4.specs.Ace.{Ace}
use Rattle.acl_nfs4.specs.Spelling.{IsAccepted, IsAce}
use Rattle.acl_nfs4.specs.Who.{principal_of}
use Rattle.acl_normal.specs.Keys.{ace_key, kind_eq}
use Rattle.acl_eval.specs.Grant.{SameGrants}
use Rattle.acl_normal.specs.Normal.{HasNormalFlags, IsIrreducibleList, flags_for}
use Rattle.acl_normal.specs.Places.{same_class}
use Rattle.acl_normal.specs.internal.Alike.{IsIrreducible}
use Rattle.acl_normal.specs.internal.emit.Ready.{key_eq}
use Rattle.acl_perm.specs.Bits.{IsUnion, all_rights, has_bit}
use Rattle.acl_perm.specs.Kind.{is_allow, other_kind}
use Rattle.acl_perm.specs.Principal.{is_user}
use Rattle.acl_perm.specs.Profile.{full}
use Rattle.acl_perm.specs.declared.kind.Kind.{Kind}
use Rattle.acl_normal.specs.internal.Shown.{aces_in}
use Rattle.acl_normal.specs.declared.comparison.placing.Whom.{Whom}
use Rattle.acl_normal.specs.declared.comparison.placing.Whom.TheVariants.{Everyone, Nobody, One}
use Rattle.acl_contain.specs.declared.tidying.joining.Joining.{Joining}
use Rattle.acl_contain.specs.declared.tidying.numbers.Numbers.{Numbers}
use Rattle.acl_contain.specs.Tidied.{HasKeysOf, HasNoJoin, ace_at_place}

-- the number at a place of a table
abbrev pub number_at_place : List ℕ → ℕ → ℕ
number_at_place table place = slice_index_or table place 0

-- the end is one more than the place of the last ACE that passes a test, or 0 if there is none
pub record IsEnd (test : Ace → Bool) (list : List Ace) (end : ℕ) : Type 0 where
  pub within : end ≤ length list
  pub last : (place : ℕ) → end ≡ place + 1 → test (ace_at_place list place) ≡ true
  pub after : (place : ℕ) → end ≤ place → place < length list → test (ace_at_place list place) ≡ false

-- the second ACE has the kind and the principal of the first
abbrev pub has_key : Ace → Ace → Bool
has_key first a = key_eq (ace_key first) (ace_key a)

-- ACEs of a list have one number if and only if they name one principal
pub record ArePrincipalNumbers (list : List Ace) (count : ℕ) (numbers : List ℕ) : Type 0 where
  pub all : length numbers ≡ length list
  pub within : (i : ℕ) → i < length list → number_at_place numbers i < count
  pub same : (i k : ℕ) → i < length list → k < length list → number_at_place numbers i ≡ number_at_place numbers k
      → principal_of (ace_at_place list i) ≡ principal_of (ace_at_place list k)
  pub alike : (i k : ℕ) → i < length list → k < length list
      → principal_of (ace_at_place list i) ≡ principal_of (ace_at_place list k)
      → number_at_place numbers i ≡ number_at_place numbers k

-- the place of a key in the table of keys, by the number of its principal
abbrev pub key_slot : ℕ → Kind → ℕ
key_slot number kind = 2 * number + (if is_allow kind then 1 else 0)

-- the place of a right of ACEs of a kind and class in the table of rights
abbrev pub right_slot : ℕ → Kind → Bool → ℕ
right_slot bit kind users = 4 * bit + (if users then 2 else 0) + (if is_allow kind then 1 else 0)

-- the ACE has the right, the kind and the class
abbrev pub is_standing : ℕ → Kind → Bool → Ace → Bool
is_standing bit kind users a = has_bit a.mask bit && (kind_eq a.kind kind && same_class (is_user (principal_of a))
    users)

-- the tables have the end of each key of a list, and of each right of each kind and class
pub record AreEnds (list : List Ace) (numbers : List ℕ) (kept : List Ace) (keys rights : List ℕ) : Type 0 where
  pub of_keys : (i : ℕ) → i < length list → IsEnd (has_key (ace_at_place list i)) kept
      (number_at_place keys (key_slot (number_at_place numbers i) (ace_at_place list i).kind))
  pub of_rights : (bit : ℕ) → bit < 21 → (kind : Kind) (users : Bool)
      → IsEnd (is_standing bit kind users) kept (number_at_place rights (right_slot bit kind users))

-- the end of the ACEs that have a right and may be opposed to an ACE of a kind and class
abbrev pub opposing_end : List ℕ → ℕ → Kind → Bool → ℕ
opposing_end rights bit kind users =
    if users then number_at_place rights (right_slot bit (other_kind kind) false)
    else max (number_at_place rights (right_slot bit (other_kind kind) false))
    (number_at_place rights (right_slot bit (other_kind kind) true))

-- an ACE after the end has a right of the mask and may be opposed to an ACE of a kind and class
abbrev pub IsBarred : List ℕ → ℕ → Kind → Bool → ℕ → Type 0
IsBarred rights mask kind users end = (bit : ℕ) × (bit < 21) × (has_bit mask bit ≡ true)
    × (end < opposing_end rights bit kind users)

-- no ACE after the end has a right of the mask below bit n and may be opposed to an ACE of a kind and class
abbrev pub IsFreeBelow : ℕ → List ℕ → ℕ → Kind → Bool → ℕ → Type 0
IsFreeBelow n rights mask kind users end = (bit : ℕ) → bit < n → has_bit mask bit ≡ true
    → opposing_end rights bit kind users ≤ end

-- the later table has a new end for the rights of a mask below bit n, of a kind and class
pub record AreEndsNoted (n : ℕ) (old : List ℕ) (mask : ℕ) (kind : Kind) (users : Bool) (end : ℕ) (new : List ℕ) :
    Type 0 where
  pub size : length new ≡ length old
  pub noted : (bit : ℕ) → bit < n → has_bit mask bit ≡ true
      → number_at_place new (right_slot bit kind users) ≡ max (number_at_place old (right_slot bit kind users)) end
  pub else_kept : (slot : ℕ) → ((bit : ℕ) → bit < n → has_bit mask bit ≡ true → slot ≢ right_slot bit kind users)
      → number_at_place new slot ≡ number_at_place old slot

-- the ACE is another one with the rights of a mask added
pub record HasAdded (a : Ace) (mask : ℕ) (sum : Ace) : Type 0 where
  pub kind : sum.kind ≡ a.kind
  pub flags : sum.flags ≡ a.flags
  pub who : sum.who ≡ a.who
  pub rights : IsUnion a.mask mask sum.mask

-- an ACE of a list was joined, or stays
pub record IsKeptAce (list : List Ace) (a : Ace) : Type 0 where
  pub accepted : IsAce full a
  pub flags : a.flags ≡ flags_for (principal_of a)
  pub mask : a.mask ≢ 0
  pub of_list : Contains (map ace_key list) (ace_key a)

-- the ACEs before a place of a list were joined
pub record AreJoined (list : List Ace) (place : ℕ) (kept : List Ace) : Type 0 where
  pub same : (bit : ℕ) → SameVerdicts (column list bit) (column kept bit ++ column (drop place list) bit)
  pub few : (bit : ℕ) → length (column kept bit ++ column (drop place list) bit) ≤ length (column list bit)
  pub count : length kept ≤ place
  pub each : AllByRecursion (IsKeptAce list) kept
  pub no_join : HasNoJoin kept

-- each right of the ACEs is needed, and no ACE is without rights or has flags that do not say whom it names
pub record IsPlain (list : List Ace) : Type 0 where
  pub irreducible : (bit : ℕ) → IsIrreducible (column list bit)
  pub each : AllByRecursion (IsKeptAce list) list

-- the number of an ACE, by whom it names, where the principals have the numbers below a count
abbrev pub number_of : ℕ → Whom → ℕ
number_of count Nobody = count
number_of count (One number) = number
number_of count Everyone = count

-- how many slots the table of rights has
abbrev pub right_slots : ℕ
right_slots = 84

-- the ACEs before a place of a list were joined, and the tables have their ends
pub record IsPass (list : List Ace) (numbered : Numbers) (place : ℕ) (pass : Joining) : Type 0 where
  pub joined : AreJoined list place (aces_in pass.kept.items)
  pub ends : AreEnds list numbered.numbers.items (aces_in pass.kept.items) pass.keys.items pass.rights.items
  pub keys : length pass.keys.items ≡ 2 * numbered.count
  pub rights : length pass.rights.items ≡ right_slots

-- the numbers of the ACEs of a list
abbrev pub HasNumbersOf : List Ace → Numbers → Type 0
HasNumbersOf list numbered = ArePrincipalNumbers list numbered.count numbered.numbers.items

-- the list grants the same, and its rights are needed and its ACEs joined
pub record IsTidied (source list : List Ace) : Type 0 where
  pub same : SameGrants all_rights source list
  pub accepted : IsAccepted full list
  pub length : length list ≤ length source
  pub needed : IsIrreducibleList list
  pub joined : HasNoJoin list
  pub keys : HasKeysOf source list
  pub flags : HasNormalFlags list
