use Rattle.std.proofs.Common.{ap, arith, length}
use Rattle.acl_perm.specs.Lines.{span_of}
use Rattle.acl_forms.proofs.NfsLemmas.{trimmed_fits}
use Rattle.acl_forms.proofs.nfs_text.fields.without_blanks.Goals as goal

pub returns-clause-fits : goal.returns-clause-fits
returns-clause-fits c =
    omega (arith, trimmed_fits (span_of c.args.part), c.start.ensures, ap length c.trimmed.ensures, c.requires)
