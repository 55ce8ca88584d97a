use Rattle.acl_posix.proofs.reader.Limits.{table_within}
use Rattle.acl_posix.proofs.names.Names.add_user.Goals as goal

pub returns-clause-table : goal.returns-clause-table
returns-clause-table c = table_within _ _
