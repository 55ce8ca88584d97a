use Rattle.acl_normal.proofs.Common.{ap, arith, drop, length, principals, take, ◌∙◌}
use Rattle.acl_normal.proofs.Exports.{whoms_cover}
use Rattle.acl_contain.proofs.restriction.Naming.{named_of}
use Rattle.acl_contain.proofs.restricting.named.Named.of.Goals as goal

pub split_at-requires : goal.split_at-requires
split_at-requires c = omega (
  arith,
  whoms_cover (principals c.in_ok-mentions.mentions.principals.items) c.args.aces.now c.args.others.now _
      c.in_ok-mentions.ensures.whoms,
  ap length c.as_slice.ensures.value,
)

pub returns-clause-named : goal.returns-clause-named
returns-clause-named c = named_of c.args.aces.now c.args.others.now c.in_ok-mentions.mentions _ _ _
    c.in_ok-mentions.ensures
    (c.split_at.ensures.front ∙ ap (take (length c.args.aces.now)) c.as_slice.ensures.value)
    (c.split_at.ensures.back ∙ ap (drop (length c.args.aces.now)) c.as_slice.ensures.value)
    c.in_ok-push.ensures.items c.in_ok-denials.ensures c.in_ok-copied.ensures c.in_ok-copied-2.ensures
    c.in_ok-copied-3.ensures
