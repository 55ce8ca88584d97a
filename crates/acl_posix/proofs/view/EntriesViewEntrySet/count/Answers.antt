use Rattle.acl_posix.proofs.view.Views.{raws_length}
use Rattle.acl_posix.proofs.view.EntriesViewEntrySet.count.Goals as goal

pub returns : goal.returns
returns c = raws_length c.args.self.now c.self.inside.raws.now c.self.view_is c.self.invariant
