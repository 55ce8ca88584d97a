use Rattle.acl_eval.proofs.FlagByFlag.{directories_by_flag, files_by_flag}
use Rattle.acl_eval.proofs.laws.flag_by_flag.Goals as goal

pub returns-clause-files : goal.returns-clause-files
returns-clause-files c = files_by_flag

pub returns-clause-directories : goal.returns-clause-directories
returns-clause-directories c = directories_by_flag
