-- What a call promises that exchanges names, by what it made.
use Rattle.std.proofs.Common.{◌≡◌, ◌∙◌, ℕ, ap, Bool, List, Result, subst}
use Rattle.std.specs.Prelude.{⊤, IfErr, IfOk}
use Rattle.std.specs.Global.{Vec}
use Rattle.acl_perm.specs.Profile.{Profile}
use Rattle.acl_nfs4.specs.Ace.{Ace}
use Rattle.acl_nfs4.specs.Renamed.{MayRename, renamed, NameRow}
use Rattle.acl_nfs4.specs.Spelling.{spelling, Xdr}
use Rattle.aclck_c.specs.Renaming.{AreRenamings, IsRefusedRenaming, IsRenamingTable, MakesRenamed, rows_from, WritesRenamed}
use Rattle.aclck_c.specs.declared.failure.Failure.{Failure}
use Rattle.aclck_c.specs.declared.nfs4.renamed.RawRenaming.{RawRenaming}
use Rattle.aclck_c.specs.declared.refusal.Refusal.{Refusal}
use Rattle.aclck_c.specs.internal.Endings.{EndsCall}
use Rattle.aclck_c.specs.internal.Renaming.{IsRenamingFailure}
use Rattle.aclck_c.proofs.Endings.{bad_argument, is_known_status, reports_fault, writes_bytes}

-- a call that made the bytes, with options that are good
pub writes_renamed : {p q : Profile} {may_merge may : Bool} {list : List ℕ} {table : List RawRenaming}
    {AreGood : Type 0} {made : Result (Vec ℕ) Failure} {buffer buffer_after : List ℕ} {needed needed_after : ℕ}
    {fault fault_after : Refusal} {returned : ℕ}
    → q ≡ p → may ≡ may_merge → AreGood → IfOk made (λ bytes. MakesRenamed q may list table bytes.items)
    → IfErr made (IsRenamingFailure q may list table)
    → EndsCall made buffer buffer_after needed needed_after fault fault_after returned
    → WritesRenamed p may_merge list table AreGood buffer buffer_after needed needed_after fault fault_after returned
writes_renamed {p} {q} {may_merge} {may} {list} {table} {AreGood} {made} same allowed good means says ends =
    let means_p = subst (λ (m : Bool). IfOk made (λ bytes. MakesRenamed p m list table bytes.items)) allowed
    (subst (λ (r : Profile). IfOk made (λ bytes. MakesRenamed r may list table bytes.items)) same means) in
    let says_p = subst (λ (m : Bool). IfErr made (IsRenamingFailure p m list table)) allowed
    (subst (λ (r : Profile). IfErr made (IsRenamingFailure r may list table)) same says) in
    record {
      bytes = writes_bytes (MakesRenamed p may_merge list table) made means_p ends;
      refusal = reports_fault (IsRenamingTable table) ⊤ (IsRefusedRenaming p may_merge list table) made says_p ends;
      bad = λ is named _. bad_argument (IsRenamingTable table) ⊤ (IsRefusedRenaming p may_merge list table) made says_p
          ends is named;
      good = λ _. good;
      known = is_known_status made ends;
    }

-- the bytes of the list with its names exchanged
pub names_made : (p : Profile) (may_merge : Bool) (bytes : List ℕ) (table : List RawRenaming) (rows : List NameRow)
    (list made : List Ace) (text : List ℕ) → Xdr p list bytes → AreRenamings table → rows ≡ rows_from table
    → MayRename rows may_merge list → made ≡ renamed rows list → text ≡ spelling made
    → MakesRenamed p may_merge bytes table text
names_made p may_merge bytes table rows list made text x sorts same may is spelled =
    let may_rows = subst (λ (t : List NameRow). MayRename t may_merge list) same may in
    record {
      list = list;
      spelled = x;
      good = record { sorts = sorts; rows = may_rows.rows };
      may = may_rows;
      is = spelled ∙ ap spelling (is ∙ ap (λ (t : List NameRow). renamed t list) same);
    }
