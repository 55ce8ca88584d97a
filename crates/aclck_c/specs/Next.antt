-- What a call from C says of one ACE of a list, at its offset (this library's own, over RFC 8881, section 6.2.1).
use Rattle.std.specs.Prelude.{◌≡◌, ◌≢◌, ◌⊎◌, ◌++◌, ◌∷◌, [], ℕ, List, length}
use Rattle.acl_perm.specs.Kind.{kind_number}
use Rattle.acl_perm.specs.Profile.{Profile}
use Rattle.acl_nfs4.specs.Ace.{Ace}
use Rattle.acl_nfs4.specs.AceAt.{IsAceFault, IsAceFrom, ace_offset, offset_after}
use Rattle.acl_nfs4.specs.Spelling.{Xdr}
use Rattle.acl_nfs4.specs.declared.xdr.fault.Fault.{Fault}
use Rattle.aclck_c.specs.Refusal.{in_list}
use Rattle.aclck_c.specs.Status as status
use Rattle.aclck_c.specs.declared.nfs4.ace.RawAce.{RawAce}
use Rattle.aclck_c.specs.declared.refusal.Refusal.{Refusal}

-- what is written for an ACE
pub record ShowsAce (a : Ace) (shown : RawAce) : Type 0 where
  pub kind : shown.kind ≡ kind_number a.kind
  pub flags : shown.flags ≡ a.flags
  pub mask : shown.mask ≡ a.mask
  pub who : shown.who.now ≡ a.who

-- what is written where no ACE is left: `ACLCK_UNDECIDED` of `enum aclck_kind`, and nothing else
pub record IsNoAce (shown : RawAce) : Type 0 where
  pub kind : shown.kind ≡ 2
  pub flags : shown.flags ≡ 0
  pub mask : shown.mask ≡ 0
  pub who : shown.who.now ≡ []

-- an ACE is at the offset, and the new offset is behind it
pub record IsNext (p : Profile) (bytes : List ℕ) (offset moved : ℕ) (shown : RawAce) : Type 0 where
  pub next : Ace
  pub spelled : IsAceFrom p bytes (ace_offset offset) moved next
  pub shows : ShowsAce next shown

-- no ACE is left, and the offset stays
pub record IsLast (bytes : List ℕ) (offset moved : ℕ) (shown : RawAce) : Type 0 where
  pub end : ace_offset offset ≡ length bytes
  pub stays : moved ≡ offset
  pub shows : IsNoAce shown

-- the effect of a call that reads the ACE at an offset
pub record ReadsNext (p : Profile) (bytes : List ℕ) (AreGood : Type 0) (offset moved : ℕ) (ace ace_after : RawAce)
    (returned : ℕ) : Type 0 where
  -- an ACE is at the offset, or no ACE is left
  pub done : returned ≡ status.done → IsNext p bytes offset moved ace_after ⊎ IsLast bytes offset moved ace_after
  -- at every other status nothing is written
  pub unwritten : (returned ≢ status.done) → (moved ≡ offset) × (ace_after ≡ ace)
  -- at the offset of an ACE of the list that the bytes spell, that ACE is read
  pub of_list : AreGood → (front back : List Ace) (a : Ace) → Xdr p (front ++ a ∷ back) bytes
      → ace_offset offset ≡ offset_after front
      → (returned ≡ status.done) × (moved ≡ offset_after (front ++ a ∷ [])) × ShowsAce a ace_after
  -- after the last ACE of that list, no ACE is left
  pub after_list : AreGood → (list : List Ace) → Xdr p list bytes → ace_offset offset ≡ offset_after list
      → (returned ≡ status.done) × IsNoAce ace_after

-- the bytes are refused at this offset
abbrev pub IsRefusedAt : Profile → List ℕ → ℕ → Refusal → Type 0
IsRefusedAt p bytes offset shown =
    (f : Fault) × IsAceFault p bytes offset f × (shown ≡ in_list f.offset f.reason 0)
