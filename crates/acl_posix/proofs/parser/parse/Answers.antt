use Rattle.acl_posix.proofs.reader.Settled.{only_file, only_fault}
use Rattle.acl_posix.proofs.parser.parse.Goals as goal

pub returns-clause-only : goal.returns-clause-only
returns-clause-only c =
    only_file c.args.text.now c.args.names.now c.parsed.result c.parsed.ensures.found c.parsed.ensures.fault

pub returns-clause-refused : goal.returns-clause-refused
returns-clause-refused c =
    only_fault c.args.text.now c.args.names.now c.parsed.result c.parsed.ensures.found c.parsed.ensures.fault
