use Rattle.acl_forms.proofs.AnyEntries.{within_limits}
use Rattle.acl_forms.proofs.tools.entry.any_tools_ace.Goals as goal

pub returns-clause-within : goal.returns-clause-within
returns-clause-within c =
    within_limits c.args.count c.args.weight c.judged.result c.in_ok-fields.ensures.room c.judged.ensures.light
    c.judged.ensures.named
