use Rattle.acl_posix.proofs.Common.{rules, sym, ◌==◌, ◌∙◌}
use Rattle.std.proofs.lemmas.Iterator.{YieldsList-from_slice}
use Rattle.std.proofs.lemmas.Iterator.Search.{any_from_yields_List}
use Rattle.acl_posix.proofs.tag.Tags.{list_any-map}
use Rattle.acl_posix.proofs.deciding.is_member.Goals as goal

pub returns : goal.returns
returns g c =
    let number = g.G.GroupNumber.number in
    any_from_yields_List (λ group. number group == c.args.id.value) _ _ _ c.any.ensures.ran
    (YieldsList-from_slice c.args.groups.now cc) (λ x b q k. search rules)
    ∙ sym (list_any-map (λ n. n == c.args.id.value) number c.args.groups.now)
