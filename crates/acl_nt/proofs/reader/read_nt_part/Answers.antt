use Rattle.acl_nt.proofs.SpellLemmas.{part_found, part_only}
use Rattle.acl_nt.proofs.reader.read_nt_part.Goals as goal

pub returns-clause-found : goal.returns-clause-found
returns-clause-found c = part_found c.args.form c.args.bytes.now c.read_as.result c.read_as.ensures

pub returns-clause-only : goal.returns-clause-only
returns-clause-only c = part_only c.args.form c.args.bytes.now c.read_as.result c.read_as.ensures
