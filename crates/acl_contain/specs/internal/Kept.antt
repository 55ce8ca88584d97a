-- Which rights a list has kept under a bound when some bits of its masks were looked at (this library's own).
use Rattle.std.specs.Prelude.{◌≡◌, ℕ, ◌<◌, ◌≤◌, ◌+◌, ◌^◌, IsTrue, List, length, slice_index_or}
use Rattle.acl_perm.specs.Bits.{IsDifference, all_rights, has_bit}
use Rattle.acl_perm.specs.declared.kind.Kind.TheVariants.{Allow}
use Rattle.acl_nfs4.specs.Ace.{Ace}
use Rattle.acl_normal.specs.internal.comparison.FirstPlaces.{no_ace}
use Rattle.acl_contain.specs.Removal.{IsAceRemoval}
use Rattle.acl_contain.specs.internal.Restriction.{Stays}

-- the ACE lacks a bit, and is else as it was
pub record Lacks (bit : ℕ) (a cut : Ace) : Type 0 where
  pub kind : cut.kind ≡ a.kind
  pub flags : cut.flags ≡ a.flags
  pub who : cut.who ≡ a.who
  pub rights : IsDifference a.mask (2 ^ bit) cut.mask

-- of the bits below n, the ACE at a place has kept the rights that stay, and it has kept the other bits
pub record HasKept (list bound : List Ace) (n place : ℕ) (cut : Ace) : Type 0 where
  pub removal : IsAceRemoval (slice_index_or list place no_ace) cut
  pub stays : (bit : ℕ) → bit < n → IsTrue (has_bit all_rights bit) → (slice_index_or list place no_ace).kind ≡ Allow
      → IsTrue (has_bit cut.mask bit) → Stays list bound bit place
  pub kept : (bit : ℕ) → (slice_index_or list place no_ace).kind ≡ Allow
      → IsTrue (has_bit (slice_index_or list place no_ace).mask bit) → (bit < n → Stays list bound bit place)
      → IsTrue (has_bit cut.mask bit)

-- of the bits up to a bit, the ACEs before a place have kept the rights that stay, and the others of the bits below it
pub record HaveKept (list bound : List Ace) (bit place : ℕ) (cut : List Ace) : Type 0 where
  pub count : length cut ≡ length list
  pub done : (i : ℕ) → i < place → i < length list → HasKept list bound (bit + 1) i (slice_index_or cut i no_ace)
  pub left : (i : ℕ) → place ≤ i → i < length list → HasKept list bound bit i (slice_index_or cut i no_ace)
