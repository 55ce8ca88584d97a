use Rattle.acl_nt.proofs.Tokens.{belongs}
use Rattle.acl_nt.proofs.laws.token_belongs.Goals as goal

pub returns : goal.returns
returns c = belongs
