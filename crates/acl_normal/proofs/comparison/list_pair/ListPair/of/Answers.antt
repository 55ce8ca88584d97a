use Rattle.acl_normal.proofs.Common.{aces_in, ap, AreWhoms, arith, drop, principals, subst, sym, take, ◌∙◌}
use Rattle.std.proofs.Common.{length, refl}
use Rattle.acl_normal.proofs.comparison.FirstPlaceLemmas.{whoms_length}
use Rattle.acl_normal.proofs.comparison.MentionedWhoms.{whoms_cover, whoms_first, whoms_second}
use Rattle.acl_normal.proofs.comparison.list_pair.ListPair.of.Goals as goal

pub split_at-requires : goal.split_at-requires
split_at-requires c = omega (
  arith,
  whoms_cover (principals c.args.mentions.now.principals.items) c.args.first.now c.args.second.now _ c.requires.whoms,
  ap length c.as_slice.ensures.value,
)

pub rights_apart-requires-clause-other_whoms : goal.rights_apart-requires-clause-other_whoms
rights_apart-requires-clause-other_whoms c = whoms_length (principals c.args.mentions.now.principals.items) _ _
    (whoms_second _ c.args.first.now c.args.second.now _ refl
    (c.split_at.ensures.back ∙ ap (drop (length c.args.first.now)) c.as_slice.ensures.value) c.requires.whoms)

pub invariant_of-result : goal.invariant_of-result
invariant_of-result c =
    let here : AreWhoms (principals c.args.mentions.now.principals.items) (aces_in c.args.first.now)
    c.split_at.result.0.now =
    whoms_first _ c.args.first.now c.args.second.now _ refl
    (c.split_at.ensures.front ∙ ap (take (length c.args.first.now)) c.as_slice.ensures.value) c.requires.whoms in
    let there : AreWhoms (principals c.args.mentions.now.principals.items) (aces_in c.args.second.now)
    c.split_at.result.1.now =
    whoms_second _ c.args.first.now c.args.second.now _ refl
    (c.split_at.ensures.back ∙ ap (drop (length c.args.first.now)) c.as_slice.ensures.value) c.requires.whoms in
    record {
      mentioned = ap principals c.as_slice-2.ensures.value ∙ c.requires.in_order;
      first_whoms = subst (λ ps. AreWhoms (principals ps) (aces_in c.args.first.now) c.split_at.result.0.now)
          (sym c.as_slice-2.ensures.value) here;
      second_whoms = subst (λ ps. AreWhoms (principals ps) (aces_in c.args.second.now) c.split_at.result.1.now)
          (sym c.as_slice-2.ensures.value) there;
      apart = c.rights_apart.ensures (principals c.args.mentions.now.principals.items) here there;
    }
