-- What texts of FreeBSD, ZFS and archives spell (setfacl(1) of FreeBSD, "NFSv4 ACL ENTRIES", and archive_acl_from_text
-- in the source of libarchive 3.6.2). Which fault of a text is its first is this library's own.
use Rattle.std.specs.Prelude.{◌==◌, ℕ, false, List}
use Rattle.acl_perm.specs.Ascii.{comma}
use Rattle.acl_perm.specs.Lines.{is_all_blank}
use Rattle.acl_nfs4.specs.Ace.{Ace}
use Rattle.acl_forms.specs.NfsText.{nfs_entry}
use Rattle.acl_forms.specs.Texts.{IsFaultByRules, SpellsByRules, TextRules}
use Rattle.acl_forms.specs.declared.fault.ReadFault.{ReadFault}
use Rattle.acl_forms.specs.declared.who_field.WhoField.{WhoField}

-- a comma ends an entry; blank lines are passed over; a text may have no ACE
abbrev pub nfs_rules : WhoField → TextRules Ace
nfs_rules source = record {
  ends_entry = λ b. b == comma;
  is_cut_short = λ len. false;
  is_line_skipped = is_all_blank;
  is_part_skipped = λ part. false;
  entry = nfs_entry source;
  least = 0;
}

-- a text spells a list
abbrev pub SpellsNfsText : WhoField → List Ace → List ℕ → Type 0
SpellsNfsText source list text = SpellsByRules (nfs_rules source) list text

-- the first fault of a text
abbrev pub IsFaultOfNfsText : WhoField → List ℕ → ReadFault → Type 0
IsFaultOfNfsText source text fault = IsFaultByRules (nfs_rules source) text fault
