-- What texts of nfs4-acl-tools spell (nfs4_setfacl(1), "ACL FORMAT" and the options that read a file, and the source of
-- version 0.4.2 where the page says nothing). Which fault of a text is its first is this library's own.
use Rattle.std.specs.Prelude.{◌==◌, ◌||◌, ℕ, Bool, false, List, length, nat_lt}
use Rattle.acl_perm.specs.Ascii.{comma, tab}
use Rattle.acl_nfs4.specs.Ace.{Ace}
use Rattle.acl_forms.specs.Texts.{IsFaultByRules, SpellsByRules, TextRules}
use Rattle.acl_forms.specs.ToolsText.{tools_entry}
use Rattle.acl_forms.specs.declared.fault.ReadFault.{ReadFault}
use Rattle.acl_forms.specs.declared.object.ObjectKind.{ObjectKind}

-- a carriage return
abbrev pub carriage_return : ℕ
carriage_return = 0x0d

-- a byte that ends an entry within a line
abbrev pub is_break : ℕ → Bool
is_break b = b == comma || b == tab || b == carriage_return

-- the tool reads this many bytes of a line at once, and cuts a comment in them alone
abbrev pub longest_line : ℕ
longest_line = 409

-- a comma, a tab or a carriage return ends an entry; nothing is passed over but empty parts; a text has an ACE
abbrev pub tools_rules : ObjectKind → TextRules Ace
tools_rules object = record {
  ends_entry = is_break;
  is_cut_short = λ len. nat_lt longest_line len;
  is_line_skipped = λ line. false;
  is_part_skipped = λ part. length part == 0;
  entry = tools_entry object;
  least = 1;
}

-- a text spells a list
abbrev pub SpellsTools : ObjectKind → List Ace → List ℕ → Type 0
SpellsTools object list text = SpellsByRules (tools_rules object) list text

-- the first fault of a text
abbrev pub IsToolsFault : ObjectKind → List ℕ → ReadFault → Type 0
IsToolsFault object text fault = IsFaultByRules (tools_rules object) text fault
