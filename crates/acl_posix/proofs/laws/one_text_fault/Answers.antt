use Rattle.acl_posix.proofs.reader.Settled.{file_or_fault, one_file, one_text_fault}
use Rattle.acl_posix.proofs.laws.one_text_fault.Goals as goal

pub returns : goal.returns
returns c = record { file = one_file; one = one_text_fault; none = file_or_fault }
