use Rattle.acl_forms.proofs.AnyEntries.{nfs_refuse, tools_refuse}
use Rattle.acl_forms.proofs.AnyTexts.{text_known}
use Rattle.acl_forms.specs.NfsRules.{nfs_rules}
use Rattle.acl_forms.specs.PartTexts.{nfs_any_entry, tools_any_entry}
use Rattle.acl_forms.specs.PartWords.{SpellsById, SpellsByName}
use Rattle.acl_forms.specs.ToolsRules.{tools_rules}
use Rattle.aclck_c.proofs.PartGrants.{no_more, spelled_known}
use Rattle.aclck_c.proofs.laws.part_grants_no_more.Goals as goal

pub returns-clause-denies : goal.returns-clause-denies
returns-clause-denies c = record {
  in_tools = λ object. text_known (tools_rules object) (tools_any_entry object) (tools_refuse object);
  in_text = λ source. text_known (nfs_rules source) (nfs_any_entry source) (nfs_refuse source);
  by_name = spelled_known SpellsByName;
  by_id = spelled_known SpellsById;
}

pub returns-clause-grants : goal.returns-clause-grants
returns-clause-grants c = no_more
