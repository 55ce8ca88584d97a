use Rattle.acl_nfs4.proofs.Common.{ace_at, ap, Place, profile_of, sym, ◌∙◌}
use Rattle.acl_nfs4.proofs.xdr.ace_at.ace_from.Goals as goal

pub returns : goal.returns
returns c = (
  c.if-offset-bytes.false,
  (
    c.next_ace.new.cursor.rest.now,
    ap (λ (q : Place). ace_at (profile_of c.args.profile) 0 q) (sym c.cursor_at-cursor.ensures)
        ∙ c.in_ok-ace.ensures.exact,
  ),
)
