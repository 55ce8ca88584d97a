use Rattle.acl_perm.specs.Profile.{profile_of}
use Rattle.acl_nfs4.proofs.text.AceLines.{only_fault, only_list}
use Rattle.acl_nfs4.proofs.text.reader.parse_text_with.Goals as goal

pub returns-clause-only : goal.returns-clause-only
returns-clause-only c = only_list (profile_of c.args.profile) c.args.text.now c.read_text.result c.read_text.ensures

pub returns-clause-refused : goal.returns-clause-refused
returns-clause-refused c = only_fault (profile_of c.args.profile) c.args.text.now c.read_text.result c.read_text.ensures
