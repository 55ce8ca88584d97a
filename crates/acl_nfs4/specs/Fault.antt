-- The first fault of bytes, defined without reading them: where their fields end, and what is wrong with the next one.
-- The layout is that of RFC 4506, sections 4.2, 4.10 and 4.13, over RFC 8881, section 6.2.1; the reasons are this
-- library's own.
use Rattle.std.specs.Prelude.{◌≡◌, ℕ, ◌+◌, ◌≤◌, ◌<◌, List, [], ◌∷◌, ◌++◌, length, take, replicate, count_ones, Err, ◌⊎◌}
use Rattle.acl_perm.specs.Profile.{Profile}
use Rattle.acl_nfs4.specs.Ace.{Ace}
use Rattle.acl_nfs4.specs.Limits.{most_aces, most_weight, longest_who}
use Rattle.acl_nfs4.specs.Who.{IsWho}
use Rattle.acl_nfs4.specs.Within.{IsWithin}
use Rattle.acl_nfs4.specs.Spelling.{word, word_size, pad_len, weight, Xdr}
use Rattle.acl_nfs4.specs.Fields.{number, count_of, kind_of, flags_of, mask_of, who_len_of, who_of, padding_of}
use Rattle.acl_perm.specs.Kind.{kind_number}
use Rattle.acl_perm.specs.declared.kind.Kind.{Kind}
use Rattle.acl_nfs4.specs.declared.xdr.fault.Fault.{Fault}
use Rattle.acl_nfs4.specs.declared.xdr.fault.Reason.{Reason}
use Rattle.acl_nfs4.specs.declared.xdr.fault.Reason.TheVariants.{Truncated, TrailingBytes}

-- the next field, and what the fields before it hold: the number of ACEs, those that are whole, and the fields of the
-- ACE that is being read
pub data Stage : Type 0 where
  count : Stage
  kind : (n : ℕ) (list : List Ace) → Stage
  flags : (n : ℕ) (list : List Ace) (k : Kind) → Stage
  mask : (n : ℕ) (list : List Ace) (k : Kind) (f : ℕ) → Stage
  len : (n : ℕ) (list : List Ace) (k : Kind) (f m : ℕ) → Stage
  who : (n : ℕ) (list : List Ace) (k : Kind) (f m l : ℕ) → Stage
  padding : (n : ℕ) (list : List Ace) (k : Kind) (f m : ℕ) (who : List ℕ) → Stage

-- bytes whose fields are all accepted, and the next field: a case for each row of the layout
pub data Border (p : Profile) : Stage → List ℕ → Type 0 where
  start : Border p count []
  counted : (n : ℕ) → n ≤ most_aces → Border p (kind n []) (word n)
  typed : (n : ℕ) (list : List Ace) (k : Kind) (t : List ℕ)
      → Border p (kind n list) t → length list < n
      → Border p (flags n list k) (t ++ word (kind_number k))
  flagged : (n : ℕ) (list : List Ace) (k : Kind) (f : ℕ) (t : List ℕ)
      → Border p (flags n list k) t → IsWithin p.flags f
      → Border p (mask n list k f) (t ++ word f)
  masked : (n : ℕ) (list : List Ace) (k : Kind) (f m : ℕ) (t : List ℕ)
      → Border p (mask n list k f) t → IsWithin p.masks m → weight list + count_ones m ≤ most_weight
      → Border p (len n list k f m) (t ++ word m)
  measured : (n : ℕ) (list : List Ace) (k : Kind) (f m l : ℕ) (t : List ℕ)
      → Border p (len n list k f m) t → 1 ≤ l → l ≤ longest_who
      → Border p (who n list k f m l) (t ++ word l)
  named : (n : ℕ) (list : List Ace) (k : Kind) (f m : ℕ) (w t : List ℕ)
      → Border p (who n list k f m (length w)) t → IsWho w
      → Border p (padding n list k f m w) (t ++ w)
  padded : (n : ℕ) (list : List Ace) (k : Kind) (f m : ℕ) (w t : List ℕ)
      → Border p (padding n list k f m w) t
      → Border p (kind n (list ++ record { kind = k; flags = f; mask = m; who = w } ∷ []))
      (t ++ replicate (pad_len (length w)) 0)

-- how many bytes the next field has; padding may have none
abbrev pub size : Stage → ℕ
size (who n list k f m l) = l
size (padding n list k f m w) = pad_len (length w)
size _ = word_size

-- the next field is refused with this reason, if it holds these bytes
abbrev pub refuses : Profile → Stage → List ℕ → Reason → Type 0
refuses p count bytes r = count_of (number bytes) ≡ Err r
refuses p (kind n list) bytes r = kind_of (number bytes) ≡ Err r
refuses p (flags n list k) bytes r = flags_of p (number bytes) ≡ Err r
refuses p (mask n list k f) bytes r = mask_of p (weight list) (number bytes) ≡ Err r
refuses p (len n list k f m) bytes r = who_len_of (number bytes) ≡ Err r
refuses p (who n list k f m l) bytes r = who_of bytes ≡ Err r
refuses p (padding n list k f m w) bytes r = padding_of bytes ≡ Err r

-- the next field must follow: a kind must if the list has fewer ACEs than the count says, and any other field must
abbrev pub IsOwed : Stage → Type 0
IsOwed (kind n list) = length list < n
IsOwed _ = Unit {0}

-- the rest of the bytes ends inside the next field, and all of it is taken; or the field is whole and refused, and the
-- bytes are taken to its end
abbrev pub Breaks : Profile → Stage → List ℕ → ℕ → Reason → Type 0
Breaks p s rest n r = ((length rest < size s) × (n ≡ length rest) × (r ≡ Truncated))
    ⊎ ((size s ≤ length rest) × (n ≡ size s) × refuses p s (take (size s) rest) r)

-- the first fault of bytes: accepted fields up to a border, where a field of at least one byte must follow and is
-- wrong; and how many of the bytes are taken when the fault is known
pub record IsFirstFault (p : Profile) (bytes : List ℕ) (offset taken : ℕ) (r : Reason) : Type 0 where
  pub stage : Stage
  pub front : List ℕ
  pub rest : List ℕ
  pub more : ℕ
  pub parts : bytes ≡ front ++ rest
  pub border : Border p stage front
  pub here : length front ≡ offset
  pub owed : IsOwed stage
  pub some : 0 < size stage
  pub breaks : Breaks p stage rest more r
  pub ends : offset + more ≡ taken

-- the first fault of bytes, however many of them are taken when it is known
abbrev pub IsFault : Profile → List ℕ → ℕ → Reason → Type 0
IsFault p bytes offset r = (taken : ℕ) × IsFirstFault p bytes offset taken r

-- the first fault of bytes has this place and this reason
abbrev pub HasFault : Profile → List ℕ → Fault → Type 0
HasFault p bytes fault = IsFault p bytes fault.offset fault.reason

-- the first fault of bytes that should be one list and nothing more: that of the list, or the first byte after it
pub data IsWholeFault (p : Profile) (bytes : List ℕ) : ℕ → Reason → Type 0 where
  of_value : (offset : ℕ) (r : Reason) → IsFault p bytes offset r → IsWholeFault p bytes offset r
  behind : (list : List Ace) (text rest : List ℕ)
      → Xdr p list text → bytes ≡ text ++ rest → 0 < length rest
      → IsWholeFault p bytes (length text) TrailingBytes

-- the first fault of bytes that should be one list and nothing more has this place and this reason
abbrev pub HasWholeFault : Profile → List ℕ → Fault → Type 0
HasWholeFault p bytes fault = IsWholeFault p bytes fault.offset fault.reason
