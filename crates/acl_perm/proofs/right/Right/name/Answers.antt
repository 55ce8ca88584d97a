use Rattle.std.proofs.Common.{◌∙◌, ap, sym}
use Rattle.std.specs.Prelude.{is_some, option_map}
use Rattle.std.proofs.lemmas.Bool.{false≢true}
use Rattle.acl_perm.specs.Names.{first_name, rights}
use Rattle.acl_perm.proofs.NameTables.{right_named}
use Rattle.acl_perm.proofs.right.Right.name.Goals as goal

pub unreachable-requires : goal.unreachable-requires
unreachable-requires c =
    let none = ap (option_map (λ name. name.now)) (sym c.in-None.is) ∙ c.first_name.ensures
    ∙ ap (first_name rights) c.from.ensures in
    false≢true (ap is_some none ∙ right_named c.args.self.bit c.args.self.within)
