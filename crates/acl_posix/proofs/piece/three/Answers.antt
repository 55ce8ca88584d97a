use Rattle.acl_posix.proofs.Common.{span_of}
use Rattle.acl_posix.proofs.reader.Judged.{too_many}
use Rattle.acl_posix.proofs.piece.three.Goals as goal

pub returns-in-Some-clause-value : goal.returns-in-Some-clause-value
returns-in-Some-clause-value c = too_many c.args.part (span_of c.args.piece)
    c.cut.result c.cut-2.result c.cut-3.result c.in_ok-rest.field-0 c.in_ok-rest-2.field-0 c.in-Some.field-0
    c.cut.ensures.parts c.in_ok-rest.was c.cut-2.ensures.parts c.in_ok-rest-2.was c.cut-3.ensures.parts c.in-Some.is
