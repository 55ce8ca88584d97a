use Rattle.std.proofs.Common.{arith}
use Rattle.acl_forms.proofs.AnyAces.{kept_accepted, kept_known, made_accepted}
use Rattle.acl_forms.specs.internal.AnyAces.{any_ace_of}
use Rattle.acl_forms.proofs.part.any_ace.keep.Goals as goal
use Rattle.acl_forms.proofs.IdAces.{on_ok}

pub bytes_of-who-requires-clause-known : goal.bytes_of-who-requires-clause-known
bytes_of-who-requires-clause-known c = kept_known (any_ace_of c.args.item) c.requires.wanted

pub push_accepted-requires : goal.push_accepted-requires
push_accepted-requires c =
    rw (c.kind_of.ensures, c.bytes_of-who.ensures) (made_accepted c.args.list.now c.args.item c.requires.named
    c.requires.wanted c.requires.accepted c.requires.room c.requires.light (omega arith))

pub returns-clause-good : goal.returns-clause-good
returns-clause-good c =
    on_ok c.push_accepted.result (kept_accepted c.args.list.now c.args.item c.requires.named c.requires.wanted
    c.requires.accepted c.requires.room c.requires.light (omega arith))
