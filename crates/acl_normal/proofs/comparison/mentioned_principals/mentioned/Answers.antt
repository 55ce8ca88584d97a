use Rattle.acl_normal.proofs.Common.{ArePlacesOf, arith, IfSome, principals, subst, sym, ◌∙◌}
use Rattle.std.proofs.Common.{length}
use Rattle.acl_normal.proofs.comparison.SamePlacesLemmas.{both_named, copies_there, first_mentions, joined_mentions}
use Rattle.acl_normal.proofs.comparison.mentioned_principals.mentioned.Goals as goal

pub add_copies-requires : goal.add_copies-requires
add_copies-requires c = copies_there (principals c.in_ok-mentions.mentions.principals.items) c.args.list.now
    c.args.other.now c.in_ok-mentions.mentions.whoms.items c.in-Some.places.items c.deref.result.now _
    (subst (λ r. IfSome r (λ v. ArePlacesOf c.args.list.now c.args.other.now (length c.args.other.now) v.items))
    c.in-Some.is c.in_ok-places.ensures) c.deref.ensures.value c.in_ok-mentions.ensures.whoms
    (omega (arith, c.in_ok-mentions.mentions.whoms.ok.0))

pub returns-in-Some : goal.returns-in-Some
returns-in-Some c =
    let places : ArePlacesOf c.args.list.now c.args.other.now (length c.args.other.now) c.in-Some.places.items =
    subst (λ r. IfSome r (λ v. ArePlacesOf c.args.list.now c.args.other.now (length c.args.other.now) v.items))
    c.in-Some.is c.in_ok-places.ensures in
    record {
      in_order = c.in_ok-mentions.ensures.in_order ∙ first_mentions c.args.list.now c.args.other.now _ places;
      whoms = both_named (principals c.in_ok-mentions.mentions.principals.items) c.args.list.now c.args.other.now
          c.in_ok-mentions.mentions.whoms.items _ c.deref.result.now c.in_ok-mentions.ensures.whoms
          (subst (λ v. ArePlacesOf c.args.list.now c.args.other.now (length c.args.other.now) v)
          (sym c.deref.ensures.value) places) c.in_ok-add_copies.ensures;
    }

pub returns : goal.returns
returns c = joined_mentions c.args.list.now c.args.other.now _ c.deref-2.ensures.value c.in_ok-aces.ensures
    c.mentions_of-2.ensures
