-- The bytes of the attributes dacl and sacl (RFC 8881, sections 6.2.2 and 6.2.3, in the layout of RFC 4506): nfsacl41,
-- which is a word of flags of the list and then nfsace4<>.
use Rattle.std.specs.Prelude.{◌≡◌, ℕ, ◌+◌, List, ◌++◌, Err}
use Rattle.acl_perm.specs.Profile.{full}
use Rattle.acl_nfs4.specs.Ace.{Ace}
use Rattle.acl_nfs4.specs.Fault.{IsWholeFault}
use Rattle.acl_nfs4.specs.Spelling.{IsAccepted, spelling, word, word_size}
use Rattle.acl_nfs4.specs.declared.xdr.fault.Reason.{Reason}
use Rattle.acl_forms.specs.AclFlags.{IsAclFlags}
use Rattle.acl_forms.specs.Words.{acl_flags_of, start, word_at}
use Rattle.acl_forms.specs.declared.fault.ReadFault.{ReadFault}
use Rattle.acl_forms.specs.declared.fault.ReadReason.TheVariants as reason

-- the bytes of flags and a list: the word of the flags, and the bytes of nfsace4<>
abbrev pub acl41_bytes : ℕ → List Ace → List ℕ
acl41_bytes flags list = word flags ++ spelling list

-- the flags are those of the standard, the list is accepted, and these are their bytes
pub record IsAcl41 (set : ℕ) (list : List Ace) (bytes : List ℕ) : Type 0 where
  pub flags : IsAclFlags set
  pub accepted : IsAccepted full list
  pub spelled : bytes ≡ acl41_bytes set list

-- the first fault of bytes from the left: that of the word of flags, or after flags that of the list, with its place in
-- the whole value
pub data IsAcl41Fault (bytes : List ℕ) : ReadFault → Type 0 where
  of_flags : (fault : ReadFault) → word_at acl_flags_of (start bytes) ≡ Err fault → IsAcl41Fault bytes fault
  of_list : (flags offset : ℕ) (text : List ℕ) (r : Reason) → IsAclFlags flags → bytes ≡ word flags ++ text
      → IsWholeFault full text offset r
      → IsAcl41Fault bytes (record { offset = word_size + offset; reason = reason.List r })
