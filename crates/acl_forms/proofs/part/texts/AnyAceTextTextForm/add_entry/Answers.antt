use Rattle.std.proofs.Common.{inr}
use Rattle.acl_perm.specs.Lines.{span_of}
use Rattle.acl_forms.specs.PartTexts.{placed_ace}
use Rattle.acl_forms.specs.internal.AnyAces.{any_ace_of}
use Rattle.acl_forms.specs.internal.AnyTexts.{any_entry_of}
use Rattle.acl_forms.proofs.AnyTexts.{entry_fails, entry_gives}
use Rattle.acl_nfs4.proofs.Exits.{exit_is}
use Rattle.acl_forms.proofs.part.texts.AnyAceTextTextForm.add_entry.Goals as goal

pub ace_at-requires-clause-weight : goal.ace_at-requires-clause-weight
ace_at-requires-clause-weight c = c.requires.held.1.light

pub returns-in_err-item : goal.returns-in_err-item
returns-in_err-item c whole held =
    rw (exit_is c.from_residual.result c.from_residual.ensures.1)
    (inr (entry_fails (any_entry_of c.args.self.form) c.args.list.now whole (span_of c.args.entry) _ held
    c.in_err-item.ensures.exact))

pub returns : goal.returns
returns c whole held = (
  placed_ace c.args.entry.column (any_ace_of c.in_ok-item.item),
  entry_gives (any_entry_of c.args.self.form) c.args.list.now whole (span_of c.args.entry) _ held
      c.in_ok-item.ensures.exact,
  c.in_ok-add_ace.ensures whole held,
)
