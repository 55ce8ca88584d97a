-- What a call from C makes of a list and a table of names (this library's own, over RFC 8881, section 6.2.1).
use Rattle.std.specs.Prelude.{◌≡◌, ◌≢◌, ◌==◌, ◌+◌, ◌≤◌, ◌++◌, ◌⊎◌, ℕ, All, Bool, List, None, Some, map}
use Rattle.acl_perm.specs.Profile.{Profile}
use Rattle.acl_nfs4.specs.Ace.{Ace}
use Rattle.acl_nfs4.specs.Renamed.{bad_row, MayRename, refused_merge, renamed, NameRow}
use Rattle.acl_nfs4.specs.Spelling.{spelling, Xdr}
use Rattle.acl_nfs4.specs.Within.{IsWithin}
use Rattle.aclck_c.specs.Call.{ReportsFault}
use Rattle.aclck_c.specs.Lists.{IsRefusedList}
use Rattle.aclck_c.specs.Options.{has_option, may_merge_option, narrow_option}
use Rattle.aclck_c.specs.Out.{WritesBytes}
use Rattle.aclck_c.specs.Refusal.{merged}
use Rattle.aclck_c.specs.Status as status
use Rattle.aclck_c.specs.declared.nfs4.renamed.RawRenaming.{RawRenaming}
use Rattle.aclck_c.specs.declared.refusal.Refusal.{Refusal}

-- the options are those of a call that exchanges names
abbrev pub IsRenameOption : ℕ → Type 0
IsRenameOption options = IsWithin (narrow_option + may_merge_option) options

-- two names may become one if the options say so
abbrev pub may_merge_from : ℕ → Bool
may_merge_from options = has_option may_merge_option options

-- the rows of a table
abbrev pub rows_from : List RawRenaming → List NameRow
rows_from table = map (λ r. record { from = r.from.now; to = r.to.now; is_group = r.is_group == 1 }) table

-- each row says of what sort its name is
abbrev pub AreRenamings : List RawRenaming → Type 0
AreRenamings table = All (λ r. r.is_group ≤ 1) table

-- the table is one of names of users and groups, none of them twice
pub record IsRenamingTable (table : List RawRenaming) : Type 0 where
  pub sorts : AreRenamings table
  pub rows : bad_row (rows_from table) ≡ None

-- the bytes spell a list, and the text spells that list with its names exchanged
pub record MakesRenamed (p : Profile) (may_merge : Bool) (bytes : List ℕ) (table : List RawRenaming) (text : List ℕ)
    : Type 0 where
  pub list : List Ace
  pub spelled : Xdr p list bytes
  pub good : IsRenamingTable table
  pub may : MayRename (rows_from table) may_merge list
  pub is : text ≡ spelling (renamed (rows_from table) list)

-- the bytes spell a list, and the name of the ACE at this place would become one with an earlier one
pub record AreMergedNames (p : Profile) (may_merge : Bool) (bytes : List ℕ) (table : List RawRenaming) (shown : Refusal)
    : Type 0 where
  pub list : List Ace
  pub spelled : Xdr p list bytes
  pub good : IsRenamingTable table
  pub place : ℕ
  pub found : refused_merge (rows_from table) may_merge list ≡ Some place
  pub is : shown ≡ merged place

-- why the bytes or the names are refused
abbrev pub IsRefusedRenaming : Profile → Bool → List ℕ → List RawRenaming → Refusal → Type 0
IsRefusedRenaming p may_merge bytes table shown =
    IsRefusedList p bytes 0 shown ⊎ AreMergedNames p may_merge bytes table shown

-- what a call promises that exchanges the names of the list that bytes spell. The bytes are judged before the table
pub record WritesRenamed (p : Profile) (may_merge : Bool) (list : List ℕ) (table : List RawRenaming) (AreGood : Type 0)
    (buffer buffer_after : List ℕ) (needed needed_after : ℕ) (fault fault_after : Refusal) (returned : ℕ)
    : Type 0 where
  pub bytes : WritesBytes (MakesRenamed p may_merge list table) buffer buffer_after needed needed_after returned
  pub refusal : ReportsFault (IsRefusedRenaming p may_merge list table) fault fault_after returned
  -- an option has no meaning, or a row of the table is refused
  pub bad : returned ≡ status.bad_argument → IsRenamingTable table → AreGood → ⊥
  pub good : (returned ≢ status.bad_argument) → AreGood
  -- no other status is returned
  pub known : status.IsOneOf (status.done_or_short ++ status.failures) returned
