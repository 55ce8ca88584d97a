use Rattle.acl_posix.proofs.Common.{group_contains, map, rules, sym, ◌∙◌}
use Rattle.std.proofs.lemmas.Iterator.{YieldsList-from_slice}
use Rattle.std.proofs.lemmas.Iterator.Search.{any_from_yields_List}
use Rattle.acl_posix.proofs.tag.Tags.{list_any-map}
use Rattle.acl_posix.proofs.sorted.Groups.{any_group}
use Rattle.acl_posix.proofs.check.AccessCheck.any_contains.Goals as goal

pub returns : goal.returns
returns g c =
    let number = g.G.GroupNumber.number in
    let entries = g.Self.EntrySet.entries c.args.self.now in
    let one = group_contains entries c.args.owning_group.value c.args.request.bits in
    any_from_yields_List (λ group. one (number group)) _ _ _ c.any.ensures.ran
    (YieldsList-from_slice c.args.groups.now cc) (λ x b q k. search rules)
    ∙ sym (list_any-map one number c.args.groups.now)
    ∙ any_group entries c.args.owning_group.value c.args.request.bits (map number c.args.groups.now)
