-- A list with ids while it is read, and an ACE with an id as the code holds it (this library's own). No public clause
-- cites it.
use Rattle.std.specs.Prelude.{ℕ, suc, zero, List, [], ◌∷◌, ◌++◌, ◌≡◌, ◌==◌, ◌⊎◌, length, if◌then◌else◌, Result, Ok, Err}
use Rattle.std.specs.Fmt.{decimal}
use Rattle.acl_perm.specs.Profile.{full}
use Rattle.acl_perm.specs.internal.Steps.{◌>>=◌}
use Rattle.acl_nfs4.specs.Ace.{Ace}
use Rattle.acl_nfs4.specs.Fields.{count_of, flags_of, kind_of, mask_of}
use Rattle.acl_nfs4.specs.Spelling.{weight}
use Rattle.acl_nfs4.specs.Who.{everyone_name, group_name, owner_name}
use Rattle.acl_nfs4.specs.internal.Reading.{Place}
use Rattle.acl_nfs4.specs.declared.xdr.fault.Reason.TheVariants.{TrailingBytes}
use Rattle.acl_forms.specs.Acl41Ids.{id_who_of, special_of}
use Rattle.acl_forms.specs.ReadFaults.{no_memory_left, read_fault_at}
use Rattle.acl_forms.specs.Words.{acl_flags_of, listed, start, word_at}
use Rattle.acl_forms.specs.declared.acl41_ids.IdAce.{IdAce}
use Rattle.acl_forms.specs.declared.acl41_ids.IdWho.{IdWho}
use Rattle.acl_forms.specs.declared.acl41_ids.IdWho.TheVariants.{Owner, Group, Everyone, Account}
use Rattle.acl_forms.specs.declared.acl_flags.AclFlags.{AclFlags}
use Rattle.acl_forms.specs.declared.fault.ReadFault.{ReadFault}
use Rattle.acl_forms.specs.declared.fault.ReadReason.TheVariants as reason

-- ---- reading from left to right

-- the ACE at a place, after ACEs of this weight, and the place after it
unfoldable pub id_ace_at : ℕ → Place → Result (Ace × Place) ReadFault
id_ace_at weight at = do
  kind ← word_at (λ n. listed (kind_of n)) at
  flags ← word_at (λ n. listed (flags_of full n)) kind.1
  special ← word_at special_of flags.1
  mask ← word_at (λ n. listed (mask_of full weight n)) special.1
  who ← word_at (id_who_of special.0) mask.1
  Ok (record { kind = kind.0; flags = flags.0; mask = mask.0; who = who.0 }, who.1)

-- the list with this many more ACEs from a place on, and the place after them
unfoldable pub id_aces_from : ℕ → List Ace → Place → Result (List Ace × Place) ReadFault
id_aces_from zero list at = Ok (list, at)
id_aces_from (suc n) list at = do
  first ← id_ace_at (weight list) at
  id_aces_from n (list ++ first.0 ∷ []) first.1

-- the flags and the list, if no byte is left
abbrev pub nothing_after : {A : Type 0} → ℕ → A × Place → Result (ℕ × A) ReadFault
nothing_after flags (list, at) = if length at.rest == 0 then Ok (flags, list)
    else Err (read_fault_at at.at (reason.List TrailingBytes))

-- the flags and the list that all of the bytes spell, or the first fault from the left
unfoldable pub acl41_ids_in : List ℕ → Result (ℕ × List Ace) ReadFault
acl41_ids_in bytes = do
  flags ← word_at acl_flags_of (start bytes)
  count ← word_at (λ n. listed (count_of n)) flags.1
  list ← id_aces_from count.0 [] count.1
  nothing_after flags.0 list

-- ---- as the code holds it

-- the who of a special identifier or of an id
abbrev pub whom_name : IdWho → List ℕ
whom_name Owner = owner_name
whom_name Group = group_name
whom_name Everyone = everyone_name
whom_name (Account id) = decimal id.value

-- the ACE of an `IdAce`
abbrev pub ace_by_id : IdAce → Ace
ace_by_id a = record { kind = a.kind; flags = a.flags.bits; mask = a.mask.bits; who = whom_name a.whom }

-- what a call reads, with the flags as their number
abbrev pub flags_and_list : AclFlags × List Ace → ℕ × List Ace
flags_and_list read = (read.0.bits, read.1)

-- the result of a call, seen by view, is what is said, unless memory runs out
abbrev pub ReadAs : {X Y : Type 0} → (X → Y) → Result X ReadFault → Result Y ReadFault → Type 0
ReadAs view (Ok x) said = said ≡ Ok (view x)
ReadAs view (Err fault) said = (fault ≡ no_memory_left) ⊎ (said ≡ Err fault)
