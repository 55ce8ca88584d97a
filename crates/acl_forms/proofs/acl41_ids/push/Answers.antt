use Rattle.std.proofs.Common.{arith}
use Rattle.acl_forms.specs.internal.IdAces.{ace_by_id}
use Rattle.acl_forms.proofs.IdAces.{on_ok}
use Rattle.acl_forms.proofs.IdLemmas.{accepted_push, good_ace}
use Rattle.acl_forms.proofs.acl41_ids.push.Goals as goal

pub push_accepted-requires : goal.push_accepted-requires
push_accepted-requires c =
    rw c.name_of-who.ensures (accepted_push c.args.list.now (ace_by_id c.args.item) c.requires.accepted c.requires.room
    c.requires.light (good_ace c.args.item (omega arith)))

pub returns-clause-good : goal.returns-clause-good
returns-clause-good c =
    on_ok c.push_accepted.result
    (accepted_push c.args.list.now (ace_by_id c.args.item) c.requires.accepted c.requires.room
    c.requires.light (good_ace c.args.item (omega arith)))
