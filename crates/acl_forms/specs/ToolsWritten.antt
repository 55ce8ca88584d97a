-- The text of a list that nfs4_getfacl prints, without the line before it (nfs4_acl(5), and the source of
-- nfs4-acl-tools 0.4.2 for the order of the letters), and the lists that this text cannot hold, with the reason for
-- each.
use Rattle.std.specs.Prelude.{◌≡◌, ◌==◌, ◌||◌, ◌+◌, ℕ, Bool, false, not, List, [], ◌∷◌, ◌++◌, length, nat_lt, take, bit_and, filter, map, Option, None, Some, if◌then◌else◌}
use Rattle.std.specs.List.{enumerate_from, flat_map, list_any}
use Rattle.std.specs.Option.{option_or}
use Rattle.acl_perm.specs.Ascii.{colon, comma, comment_mark, line_feed}
use Rattle.acl_perm.specs.declared.kind.Kind.{Kind}
use Rattle.acl_perm.specs.declared.kind.Kind.TheVariants.{Deny, Allow}
use Rattle.acl_nfs4.specs.Ace.{Ace}
use Rattle.acl_nfs4.specs.FlagNames.{inherited_alone}
use Rattle.acl_forms.specs.FirstFault.{first_fault}
use Rattle.acl_forms.specs.Letters.{flag_letters, single_letters}
use Rattle.acl_forms.specs.ToolsText.{with_group_flag}
use Rattle.acl_forms.specs.declared.fault.FormFault.{FormFault}
use Rattle.acl_forms.specs.declared.fault.FormReason.{FormReason}
use Rattle.acl_forms.specs.declared.fault.FormReason.TheVariants.{Empty, Inherited, NotDirectory, Retention, Separator, TooLong}
use Rattle.acl_forms.specs.declared.letters.Letter.{Letter}
use Rattle.acl_forms.specs.declared.object.ObjectKind.{ObjectKind}
use Rattle.acl_forms.specs.declared.object.ObjectKind.TheVariants.{File, Directory}

-- ---- the text

-- the letters of the rows whose bits a set has, in the order of the table
abbrev pub letters_of : List Letter → ℕ → List ℕ
letters_of table set = map (λ row. row.letter) (filter (λ row. bit_and set row.bits == row.bits) table)

-- `A` for ALLOW and `D` for DENY
abbrev pub kind_letter : Kind → ℕ
kind_letter Allow = 0x41
kind_letter Deny = 0x44

-- the flags of an ACE as they are written: IDENTIFIER_GROUP is always set on `GROUP@`
abbrev pub flags_written : Ace → ℕ
flags_written a = with_group_flag a.who a.flags

-- the entry of an ACE
unfoldable pub tools_entry_text : Ace → List ℕ
tools_entry_text a = (kind_letter a.kind ∷ []) ++ colon ∷ (letters_of flag_letters (flags_written a)
    ++ colon ∷ (a.who ++ colon ∷ letters_of (single_letters []) a.mask))

-- the line of an ACE
abbrev pub tools_line : Ace → List ℕ
tools_line a = tools_entry_text a ++ line_feed ∷ []

-- the lines of the ACEs in order
abbrev pub tools_text : List Ace → List ℕ
tools_text list = flat_map tools_line list

-- the ACE that the entry spells
abbrev pub as_written : Ace → Ace
as_written a = record { kind = a.kind; flags = flags_written a; mask = a.mask; who = a.who }

-- two ACEs that differ at most in IDENTIFIER_GROUP on `GROUP@`, where the flag has no effect
pub record IsSameButGroup (a b : Ace) : Type 0 where
  pub kind : a.kind ≡ b.kind
  pub mask : a.mask ≡ b.mask
  pub who : a.who ≡ b.who
  pub flags : with_group_flag a.who a.flags ≡ with_group_flag b.who b.flags

-- ---- the lists that the text cannot hold

-- a byte that separates fields or entries, or begins a comment
abbrev pub is_separator : ℕ → Bool
is_separator b = b == comma || b == colon || b == comment_mark

-- the set has a bit of the other set
abbrev pub meets : ℕ → ℕ → Bool
meets set other = not (bit_and set other == 0)

-- the flags of inheritance: FILE_INHERIT, DIRECTORY_INHERIT, NO_PROPAGATE_INHERIT and INHERIT_ONLY
abbrev pub inheritance_flags : ℕ
inheritance_flags = 0x0f

-- the right DELETE_CHILD
abbrev pub delete_child : ℕ
delete_child = 0x40

-- the rights WRITE_RETENTION and WRITE_RETENTION_HOLD
abbrev pub retention_rights : ℕ
retention_rights = 0x600

-- an ACE has a flag of inheritance, or DELETE_CHILD, which have no meaning on files
abbrev pub is_for_directories : Ace → Bool
is_for_directories a = meets a.flags inheritance_flags || meets a.mask delete_child

-- an ACE of a file has what has no meaning on files
abbrev pub is_no_file_ace : ObjectKind → Ace → Bool
is_no_file_ace File a = is_for_directories a
is_no_file_ace Directory a = false

-- the tool can read this many bytes of a who
abbrev pub longest_tools_who : ℕ
longest_tools_who = 385

-- the tool can read a text of this many bytes
abbrev pub longest_tools_text : ℕ
longest_tools_text = 65535

-- the first reason for which the form cannot hold an ACE
abbrev pub tools_ace_fault : ObjectKind → Ace → Option FormReason
tools_ace_fault object a = if meets a.flags inherited_alone then Some Inherited
    else (if meets a.mask retention_rights then Some Retention
    else (if list_any is_separator a.who then Some Separator
    else (if is_no_file_ace object a then Some NotDirectory
    else (if nat_lt longest_tools_who (length a.who) then Some TooLong else None))))

-- why the form cannot hold an ACE with its number in a list: one of these reasons, or the text up to it is too long
abbrev pub tools_fault_at : ObjectKind → List Ace → ℕ × Ace → Option FormReason
tools_fault_at object list p = option_or (tools_ace_fault object p.1)
    (if nat_lt longest_tools_text (length (tools_text (take (p.0 + 1) list))) then Some TooLong else None)

-- the first ACE that the form cannot hold; it cannot hold the empty list
abbrev pub tools_fault : ObjectKind → List Ace → Option FormFault
tools_fault object [] = Some (record { place = 0; reason = Empty })
tools_fault object (a ∷ list) =
    first_fault (tools_fault_at object (a ∷ list)) (enumerate_from 0 (a ∷ list))
