-- The value that is written of flags and a list in a form is read again.
use Rattle.std.proofs.Common.{◌≡◌, ◌∙◌, ◌+◌, ℕ, Bool, true, false, eqb, List, [], ◌∷◌, Option, Some, None, refl, sym}
use Rattle.std.proofs.lemmas.Bool.{eqb-true}
use Rattle.std.specs.Prelude.{◌↔◌, IsSome, if◌then◌else◌}
use Rattle.std.specs.Option.{is_none}
use Rattle.acl_perm.specs.Profile.{full}
use Rattle.acl_nfs4.specs.Ace.{Ace}
use Rattle.acl_nfs4.specs.Spelling.{IsAccepted}
use Rattle.acl_forms.specs.Acl41.{acl41_bytes}
use Rattle.acl_forms.specs.Acl41Ids.{EachHasId, acl41_ids_bytes, id_fault, whom_words}
use Rattle.acl_forms.specs.AclFlags.{IsAclFlags}
use Rattle.acl_forms.specs.Forms.{SpellsForm, form_bytes, form_fault, form_list, unless_flags}
use Rattle.acl_forms.specs.NfsWritten.{nfs_text_fault}
use Rattle.acl_forms.specs.ToolsWritten.{tools_fault}
use Rattle.acl_forms.specs.internal.FaultSearch.{fault_from, fault_or}
use Rattle.acl_forms.specs.declared.fault.FormFault.{FormFault}
use Rattle.acl_forms.specs.declared.fault.FormReason.TheVariants.{AclFlags, NoId}
use Rattle.acl_forms.specs.declared.form.Form.{Form}
use Rattle.acl_forms.specs.declared.form.Form.TheVariants.{NfsTools, NfsText, NfsAcl41, NfsAcl41Ids}
use Rattle.acl_forms.proofs.FormLemmas.{fault_from_start}
use Rattle.acl_forms.proofs.Acl41Lemmas as acl41
use Rattle.acl_forms.proofs.IdLemmas as ids
use Rattle.acl_forms.proofs.NfsReadBack.{nfs_written_reads_back}
use Rattle.acl_forms.proofs.ToolsReadBack.{written_reads_back}

-- if a fault is kept away by a test and none is left, the test holds
test_holds : (b : Bool) (fault : Option FormFault) (wrong : FormFault) → (if b then fault else Some wrong) ≡ None
    → (b ≡ true) × (fault ≡ None)
test_holds true fault wrong e = (refl, e)
test_holds false fault wrong e = absurd cc

-- a text that can hold flags and a list has no flags, and can hold the list
no_flags : (flags : ℕ) (fault : Option FormFault) → unless_flags flags fault ≡ None → (flags ≡ 0) × (fault ≡ None)
no_flags flags fault e =
    let t = test_holds (eqb flags 0) fault (record { place = 0; reason = AclFlags }) e in (eqb-true flags 0 t.0, t.1)

-- if a who without an id would be a fault, and there is none, the who has an id
who_held : (place : ℕ) (words : Option (ℕ × ℕ)) (others : Option FormFault)
    → fault_or place (if is_none words then Some NoId else None) others ≡ None
    → IsSome words × (others ≡ None)
who_held place (Some w) others e = (refl, e)
who_held place None others e = absurd cc

-- each who of a list that the form with ids can hold has an id
each_held : (place : ℕ) (list : List Ace) → fault_from id_fault place list ≡ None → EachHasId list
each_held place [] e = tt
each_held place (a ∷ list) e =
    let s = who_held place (whom_words a.who) (fault_from id_fault (place + 1) list) e in
    (s.0, each_held (place + 1) list s.1)

-- the value that is written spells the flags and the list as it is written, and nothing else
pub reads_back : (form : Form) (flags set : ℕ) (list other : List Ace) → IsAclFlags flags → IsAccepted full list
    → form_fault form flags list ≡ None
    → SpellsForm form set other (form_bytes form flags list) ↔ ((set ≡ flags) × (other ≡ form_list form list))
reads_back (NfsTools object) flags set list other is ok none =
    let f = no_flags flags (tools_fault object list) none in
    let back = written_reads_back object list other ok f.1 in
    (λ s. (s.none ∙ sym f.0, back.0 s.spelled), λ e. record { none = e.0 ∙ f.0; spelled = back.1 e.1 })
reads_back (NfsText source style) flags set list other is ok none =
    let f = no_flags flags (nfs_text_fault list) none in
    let back = nfs_written_reads_back source style list other ok f.1 in
    (λ s. (s.none ∙ sym f.0, back.0 s.spelled), λ e. record { none = e.0 ∙ f.0; spelled = back.1 e.1 })
reads_back NfsAcl41 flags set list other is ok none =
    let written = acl41.bytes_of flags list is ok in
    (λ s. acl41.one_value set flags other list (acl41_bytes flags list) s written, λ e. rw (e.0, e.1) written)
reads_back NfsAcl41Ids flags set list other is ok none =
    let bytes = acl41_ids_bytes flags list in
    let written = (ids.ids_bytes flags list bytes is ok (each_held 0 list (fault_from_start id_fault list ∙ none))).1 refl in
    (λ s. ids.one_value set flags other list bytes s written, λ e. rw (e.0, e.1) written)
