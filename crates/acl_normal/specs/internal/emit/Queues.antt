-- Queues of the places that wait, as chains of links (this library's own).
use Rattle.std.specs.Prelude.{◌≡◌, ◌≢◌, ◌⊎◌, ℕ, ◌+◌, ◌<◌, ◌≤◌, Bool, true, List, [], ◌∷◌, ◌++◌, length, slice_index_or, slice_set}
use Rattle.std.specs.List.{list_any}
use Rattle.std.specs.List.Sorted.{IsStrictlySortedBy}
use Rattle.std.specs.BTreeMap.{is_at}
use Rattle.std.specs.Ordering.{nat_cmp}
use Rattle.acl_perm.specs.Bits.{has_bit}
use Rattle.acl_perm.specs.declared.kind.Kind.{Kind}
use Rattle.acl_nfs4.specs.Ace.{Ace}
use Rattle.acl_normal.specs.Places.{waits}
use Rattle.acl_normal.specs.internal.Places.{bit_count, mask_here, slot_count, slot_of}
use Rattle.acl_normal.specs.internal.rows.Remaining.{IsQueue, IsRemainder}
use Rattle.acl_normal.specs.declared.emit.queues.Link.{Link}
use Rattle.acl_normal.specs.declared.emit.queues.Queues.{Queues}

-- the link of a number
abbrev pub link_in : List Link → ℕ → Link
link_in links at = slice_index_or links at (record { place = 0; next = 0 })

-- the link of a number has a place, and its next has a lower number
pub record IsLink (links : List Link) (at place : ℕ) : Type 0 where
  pub some : 0 < at
  pub within : at < length links
  pub is : (link_in links at).place ≡ place
  pub falls : (link_in links at).next < at

-- the links from a number on have these places
abbrev pub IsChain : List Link → ℕ → List ℕ → Type 0
IsChain links at [] = at ≡ 0
IsChain links at (place ∷ places) = IsLink links at place × IsChain links (link_in links at).next places

-- the places from the link of a number on are a queue of a kind, a class and a right
pub record IsQueueAt (k : Kind) (users : Bool) (b : ℕ) (xs : List Ace) (links : List Link) (at : ℕ) : Type 0 where
  pub places : List ℕ
  pub chain : IsChain links at places
  pub queue : IsQueue k users b xs places

-- the number of the first link of a slot
abbrev pub head_in : Queues → ℕ → ℕ
head_in queues slot = slice_index_or queues.heads.items slot 0

-- the place of the link of a number
abbrev pub place_in : Queues → ℕ → ℕ
place_in queues at = (link_in queues.links.items at).place

-- the queues of all kinds, classes and rights of a list that may remain
pub record AreQueues (xs : List Ace) (queues : Queues) : Type 0 where
  pub list : IsRemainder xs
  pub slots : length queues.heads.items ≡ slot_count
  pub each : (k : Kind) (users : Bool) (b : ℕ) → b < bit_count
      → IsQueueAt k users b xs queues.links.items (head_in queues (slot_of k users b))

-- the queue of a kind, a class and a right begins where a place has the right, or at its end
abbrev pub BeginsWaiting : Kind → Bool → List Ace → Queues → ℕ → Type 0
BeginsWaiting k users xs queues b = head_in queues (slot_of k users b) ≢ 0
    → has_bit (mask_here xs (place_in queues (head_in queues (slot_of k users b)))) b ≡ true

-- the queue of a kind, a class and a right now begins so, and no other has changed
pub record MovesOn (k : Kind) (users : Bool) (b : ℕ) (xs : List Ace) (old new : Queues) : Type 0 where
  pub links : new.links.items ≡ old.links.items
  pub first : BeginsWaiting k users xs new b
  pub others : (slot : ℕ) → slot ≢ slot_of k users b → head_in new slot ≡ head_in old slot

-- a place was put at the front of the queue of a slot
pub record PutsPlace (place slot : ℕ) (old new : Queues) : Type 0 where
  pub links : new.links.items ≡ old.links.items ++ record { place = place; next = head_in old slot } ∷ []
  pub heads : new.heads.items ≡ slice_set old.heads.items slot (length old.links.items)

-- the place is one of those from n on, or the one before n and the bit is below m
abbrev pub IsNoted : ℕ → ℕ → ℕ → ℕ → Type 0
IsNoted n m b place = (n ≤ place) ⊎ ((place + 1 ≡ n) × (b < m))

-- the links from a number on have exactly those noted places that wait
pub record IsNotedAt (k : Kind) (users : Bool) (b : ℕ) (xs : List Ace) (n m : ℕ) (links : List Link) (at : ℕ) : Type 0
  where
    pub places : List ℕ
    pub chain : IsChain links at places
    pub sorted : IsStrictlySortedBy nat_cmp places
    pub noted : (i : ℕ) → list_any (is_at (nat_cmp i)) places ≡ true → IsNoted n m b i
    pub waiting : (i : ℕ) → list_any (is_at (nat_cmp i)) places ≡ true → waits k users b xs i ≡ true
    pub all : (i : ℕ) → IsNoted n m b i → waits k users b xs i ≡ true → list_any (is_at (nat_cmp i)) places ≡ true

-- the queues of what is noted, where the first link is none
pub record AreNoted (xs : List Ace) (n m : ℕ) (queues : Queues) : Type 0 where
  pub slots : length queues.heads.items ≡ slot_count
  pub some : 0 < length queues.links.items
  pub each : (k : Kind) (users : Bool) (b : ℕ) → b < bit_count
      → IsNotedAt k users b xs n m queues.links.items (head_in queues (slot_of k users b))
