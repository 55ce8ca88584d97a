use Rattle.acl_nfs4.proofs.feed.Streaming.FirstWord.{cut_text}
use Rattle.acl_nfs4.proofs.feed.stream.StreamBytes.cut.Goals as goal

pub invariant_of-self : goal.invariant_of-self
invariant_of-self c = cut_text c.self.inside.head c.self.inside.body.items c.truncate.new.self.items
    c.self.inside.filled c.args.used c.truncate.ensures.items c.self.invariant
