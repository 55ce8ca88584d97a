use Rattle.std.proofs.Common.{[], refl, sym, ◌∙◌}
use Rattle.acl_perm.specs.Principal.{principal}
use Rattle.acl_normal.proofs.rows.HeadOrder.{compared_as, whole_same}
use Rattle.acl_normal.proofs.rows.heads.HeadedPrincipal.compared.Goals as goal

pub returns-then-self-other : goal.returns-then-self-other
returns-then-self-other c =
    compared_as c.args.self.now.principal c.args.other.now.principal c.args.self.now.head c.args.other.now.head
    c.cmp.result c.args.self.now.headed c.args.other.now.headed c.cmp.ensures
    c.if-self-other.true

pub returns-then-is_whole : goal.returns-then-is_whole
returns-then-is_whole c =
    sym (whole_same [] c.args.self.now.head c.args.other.now.head (principal c.args.self.now.principal)
    (principal c.args.other.now.principal) c.args.self.now.headed c.args.other.now.headed (λ name e. refl)
    (λ name e. refl) c.if-self-other.false (sym c.is_whole.ensures ∙ c.if-is_whole.true))
