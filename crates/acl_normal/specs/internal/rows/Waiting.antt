-- The sets of the places that wait (this library's own).
use Rattle.std.specs.Prelude.{◌≡◌, ℕ, ◌<◌, ◌≤◌, Bool, true, cond, ◌&&◌, List, [], length, slice_index_or}
use Rattle.std.specs.List.{list_any}
use Rattle.std.specs.BTreeMap.{is_at}
use Rattle.std.specs.Ordering.{nat_cmp}
use Rattle.std.specs.declared.collections.BTreeSet.{BTreeSet}
use Rattle.std.proofs.Common.{Global}
use Rattle.acl_perm.specs.Bits.{has_bit}
use Rattle.acl_perm.specs.declared.kind.Kind.{Kind}
use Rattle.acl_nfs4.specs.Ace.{Ace}
use Rattle.acl_normal.specs.Keys.{kind_eq}
use Rattle.acl_normal.specs.Places.{same_class, waits}
use Rattle.acl_normal.specs.internal.Places.{bit_count, slot_count, slot_of}

-- a set without places
abbrev pub NoPlaces : BTreeSet ℕ Global
NoPlaces = record { keys = [] }

-- the place is in the set of a slot
abbrev pub has_place : List (BTreeSet ℕ Global) → ℕ → ℕ → Bool
has_place sets slot place = list_any (is_at (nat_cmp place)) (slice_index_or sets slot NoPlaces).keys

-- the sets have the places that wait
pub record HoldWaiting (xs : List Ace) (sets : List (BTreeSet ℕ Global)) : Type 0 where
  pub slots : length sets ≡ slot_count
  pub waiting : (k : Kind) (users : Bool) (b i : ℕ) → b < bit_count
      → has_place sets (slot_of k users b) i ≡ waits k users b xs i

-- a place was put into the sets of a kind and a class, of the rights below n of a mask, and no other set has changed
pub record PutsBelow (place : ℕ) (kind : Kind) (users : Bool) (mask n : ℕ) (old new : List (BTreeSet ℕ Global))
    : Type 0 where
  pub slots : length new ≡ slot_count
  pub below : (k : Kind) (u : Bool) (b i : ℕ) → b < n → has_place new (slot_of k u b) i
      ≡ cond ((has_bit mask b && (kind_eq kind k && same_class users u)) && is_at (nat_cmp place) i) true
      (has_place old (slot_of k u b) i)
  pub above : (k : Kind) (u : Bool) (b i : ℕ) → n ≤ b
      → has_place new (slot_of k u b) i ≡ has_place old (slot_of k u b) i
