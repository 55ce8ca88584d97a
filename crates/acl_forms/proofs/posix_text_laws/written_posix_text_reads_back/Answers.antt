use Rattle.acl_forms.proofs.PosixTextsReadBack.{gnu_default, gnu_file, star_default, star_file}
use Rattle.acl_forms.proofs.posix_text_laws.written_posix_text_reads_back.Goals as goal

pub returns-clause-star : goal.returns-clause-star
returns-clause-star c = star_file

pub returns-clause-star_default : goal.returns-clause-star_default
returns-clause-star_default c = star_default

pub returns-clause-gnu : goal.returns-clause-gnu
returns-clause-gnu c = gnu_file

pub returns-clause-gnu_default : goal.returns-clause-gnu_default
returns-clause-gnu_default c = gnu_default
