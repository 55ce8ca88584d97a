-- Flags and a list after them are read if and only if the bytes spell them.
use Rattle.std.proofs.Common.{◌≡◌, ◌∙◌, ◌+◌, ◌<◌, ◌^◌, ◌++◌, [], ℕ, List, Ok, length, refl, ap, sym}
use Rattle.acl_perm.specs.Profile.{full}
use Rattle.acl_nfs4.proofs.Exports.{ok_is, one, place, spelling_short}
use Rattle.acl_nfs4.specs.Ace.{Ace}
use Rattle.acl_nfs4.specs.Fault.{IsWholeFault}
use Rattle.acl_nfs4.specs.Spelling.{IsAccepted, Xdr, spelling, word}
use Rattle.acl_nfs4.specs.internal.Progress.{IsBytes}
use Rattle.acl_nfs4.specs.internal.Reading.{Place}
use Rattle.acl_nfs4.specs.declared.xdr.fault.Reason.{Reason}
use Rattle.acl_forms.specs.Acl41.{IsAcl41, IsAcl41Fault, acl41_bytes}
use Rattle.acl_forms.specs.Acl41.IsAcl41Fault.{of_list}
use Rattle.acl_forms.specs.AclFlags.{IsAclFlags}
use Rattle.acl_forms.specs.Words.{acl_flags_of, start, word_at}
use Rattle.acl_forms.specs.declared.fault.ReadReason.TheVariants as reason
use Rattle.acl_forms.proofs.WordLemmas.{flags_again, flags_found}

-- the bytes of accepted flags and an accepted list are theirs
pub bytes_of : (flags : ℕ) (list : List Ace) → IsAclFlags flags → IsAccepted full list
    → IsAcl41 flags list (acl41_bytes flags list)
bytes_of flags list is ok = record { flags = is; accepted = ok; spelled = refl }

-- the bytes of flags and a list are fewer than 2 ^ 32
pub bytes_short : (list : List Ace) → IsAccepted full list → length (spelling list) < 2 ^ 31
bytes_short list ok = spelling_short full list ok

-- if flags were read, and the bytes after them spell a list, all of the bytes spell both
pub found : (bytes : List ℕ) (flags : ℕ) (after : Place) (list : List Ace) → IsBytes bytes
    → word_at acl_flags_of (start bytes) ≡ Ok (flags, after) → Xdr full list after.rest → IsAcl41 flags list bytes
found bytes flags after list fits e x =
    let f = flags_found bytes flags after fits e in
    record {
      flags = f.0;
      accepted = x.accepted;
      spelled = f.1 ∙ ap (λ (t : List ℕ). word flags ++ t) x.spelled;
    }

-- the flags and the place after them, if bytes begin with flags
same_place : (bytes : List ℕ) (flags : ℕ) (after : Place) (set : ℕ) (text : List ℕ)
    → word_at acl_flags_of (start bytes) ≡ Ok (flags, after) → IsAclFlags set → bytes ≡ word set ++ text
    → (flags ≡ set) × (after.rest ≡ text)
same_place bytes flags after set text e is parts =
    let h : (flags, after) ≡ (set, place 4 text) = ok_is _ _ (sym e ∙ flags_again bytes set text is parts) in
    (ap (λ z. z.0) h, ap (λ z. z.1.rest) h)

-- bytes spell at most one pair of flags and a list
pub one_value : (flags set : ℕ) (list other : List Ace) (bytes : List ℕ) → IsAcl41 flags list bytes
    → IsAcl41 set other bytes → (flags ≡ set) × (list ≡ other)
one_value flags set list other bytes h k =
    let same = same_place bytes flags (place 4 (spelling list)) set (spelling other)
    (flags_again bytes flags (spelling list) h.flags h.spelled) k.flags k.spelled in
    let lists = one full list other (spelling list) (spelling other) [] [] (record { masks = refl; flags = refl })
    (record { accepted = h.accepted; spelled = refl }) (record { accepted = k.accepted; spelled = refl })
    (ap (λ (t : List ℕ). t ++ []) same.1) in
    (same.0, lists.0)

-- the fault of a list after flags is the fault of all of the bytes
pub list_fault : (bytes : List ℕ) (flags : ℕ) (after : Place) (offset : ℕ) (r : Reason) → IsBytes bytes
    → word_at acl_flags_of (start bytes) ≡ Ok (flags, after) → IsWholeFault full after.rest offset r
    → IsAcl41Fault bytes (record { offset = 4 + offset; reason = reason.List r })
list_fault bytes flags after offset r fits e whole =
    let f = flags_found bytes flags after fits e in of_list flags offset after.rest r f.0 f.1 whole
