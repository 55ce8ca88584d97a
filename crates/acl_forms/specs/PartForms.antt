-- What of a value of each form access can read (this library's own, by cases over the definitions of the forms).
use Rattle.std.specs.Prelude.{ℕ, List}
use Rattle.acl_nfs4.specs.Ace.{Ace}
use Rattle.acl_forms.specs.Forms.{IsTextWithoutFlags}
use Rattle.acl_forms.specs.Part.{SpellsPart}
use Rattle.acl_forms.specs.PartTexts.{nfs_any_rules, tools_any_rules}
use Rattle.acl_forms.specs.PartWords.{IsFaultByName, IsFaultByNumber, SpellsById, SpellsByName, SpellsWhole}
use Rattle.acl_forms.specs.Texts.{IsFaultByRules, SpellsByRules}
use Rattle.acl_forms.specs.declared.fault.ReadFault.{ReadFault}
use Rattle.acl_forms.specs.declared.form.Form.{Form}
use Rattle.acl_forms.specs.declared.form.Form.TheVariants.{NfsTools, NfsText, NfsAcl41, NfsAcl41Ids}
use Rattle.acl_forms.specs.declared.part.left_out.LeftOut.{LeftOut}

-- the value of a form spells these flags, the ACEs that are kept, and those that are left out
abbrev pub SpellsPartOf : Form → ℕ → List Ace → List LeftOut → List ℕ → Type 0
SpellsPartOf (NfsTools object) set list out bytes =
    SpellsPart (λ whole. IsTextWithoutFlags (SpellsByRules (tools_any_rules object)) set whole bytes) list out
SpellsPartOf (NfsText source style) set list out bytes =
    SpellsPart (λ whole. IsTextWithoutFlags (SpellsByRules (nfs_any_rules source)) set whole bytes) list out
SpellsPartOf NfsAcl41 set list out bytes =
    SpellsPart (λ whole. SpellsWhole SpellsByName set whole bytes) list out
SpellsPartOf NfsAcl41Ids set list out bytes =
    SpellsPart (λ whole. SpellsWhole SpellsById set whole bytes) list out

-- the value of a form spells no part, and this is its first fault
abbrev pub IsPartFaultAt : Form → List ℕ → ReadFault → Type 0
IsPartFaultAt (NfsTools object) bytes fault = IsFaultByRules (tools_any_rules object) bytes fault
IsPartFaultAt (NfsText source style) bytes fault = IsFaultByRules (nfs_any_rules source) bytes fault
IsPartFaultAt NfsAcl41 bytes fault = IsFaultByName bytes fault
IsPartFaultAt NfsAcl41Ids bytes fault = IsFaultByNumber bytes fault
