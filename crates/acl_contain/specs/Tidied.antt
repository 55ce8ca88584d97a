-- Lists of which no ACE can be joined into an earlier one (this library's own, over the kinds, principals and masks of
-- RFC 8881, section 6.2.1).
use Rattle.std.specs.Prelude.{◌≡◌, ◌≢◌, ℕ, ◌<◌, IsTrue, List, [], length, map, slice_index_or, Contains}
use Rattle.std.specs.List.{AllByRecursion}
use Rattle.acl_perm.specs.Bits.{has_bit}
use Rattle.acl_perm.specs.Overlap.{may_overlap}
use Rattle.acl_perm.specs.declared.kind.Kind.TheVariants.{Deny}
use Rattle.acl_nfs4.specs.Ace.{Ace}
use Rattle.acl_nfs4.specs.Who.{principal_of}
use Rattle.acl_normal.specs.Keys.{ace_key}

-- one of the two denies a right that the other allows, and a requester may match both
pub record AreOpposed (a b : Ace) : Type 0 where
  pub kinds : a.kind ≢ b.kind
  pub overlap : IsTrue (may_overlap (principal_of a) (principal_of b))
  pub bit : ℕ
  pub first_has : IsTrue (has_bit a.mask bit)
  pub second_has : IsTrue (has_bit b.mask bit)

-- the ACE at a place, counted from 0; after the end of the list, a DENY without rights
abbrev pub ace_at_place : List Ace → ℕ → Ace
ace_at_place list place = slice_index_or list place (record { kind = Deny; flags = 0; mask = 0; who = [] })

-- an ACE between two places is opposed to the ACE at the second
pub record IsOpposedBetween (list : List Ace) (first second : ℕ) : Type 0 where
  pub place : ℕ
  pub after : first < place
  pub before : place < second
  pub opposed : AreOpposed (ace_at_place list place) (ace_at_place list second)

-- between each two ACEs of one kind and principal there is an ACE that is opposed to the second of them
abbrev pub HasNoJoin : List Ace → Type 0
HasNoJoin list = (first second : ℕ) → first < second → second < length list
    → ace_key (ace_at_place list first) ≡ ace_key (ace_at_place list second) → IsOpposedBetween list first second

-- the list has an ACE of the kind and principal of each ACE of the other list
abbrev pub HasKeysOf : List Ace → List Ace → Type 0
HasKeysOf list other = AllByRecursion (λ a. Contains (map ace_key list) (ace_key a)) other
