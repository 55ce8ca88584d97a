use Rattle.acl_nt.proofs.SpellLemmas.{read_found, read_only}
use Rattle.acl_nt.proofs.reader.read_nt.Goals as goal

pub returns-clause-found : goal.returns-clause-found
returns-clause-found c = read_found c.args.form c.args.bytes.now c.read_whole.result c.read_whole.ensures

pub returns-clause-only : goal.returns-clause-only
returns-clause-only c = read_only c.args.form c.args.bytes.now c.read_whole.result c.read_whole.ensures
