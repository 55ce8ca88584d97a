use Rattle.acl_perm.specs.Profile.{profile_of}
use Rattle.acl_nfs4.proofs.feed.Exactly.{fed_so}
use Rattle.acl_nfs4.proofs.feed.Held.{small_after}
use Rattle.acl_nfs4.proofs.feed.Feed.feed.Goals as goal

pub returns-in-Open-clause-exactly : goal.returns-in-Open-clause-exactly
returns-in-Open-clause-exactly c = λ p s e. fed_so (profile_of c.self.inside.profile) c.self.inside.stage
    c.self.inside.progress c.self.inside.text c.args.self.now c.args.piece.now c.take_all.result c.take_all.new.self
    c.self.invariant c.self.view_is c.take_all.ensures p s e

pub returns-in-Open-clause-held : goal.returns-in-Open-clause-held
returns-in-Open-clause-held c = small_after c.args.self.now c.args.piece.now c.take_all.result c.take_all.new.self
    c.take_all.ensures
