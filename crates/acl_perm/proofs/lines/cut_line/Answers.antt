use Rattle.std.proofs.Common.{eqb}
use Rattle.acl_perm.proofs.Cuts.{line_none, line_some, says_value}
use Rattle.acl_perm.proofs.lines.cut_line.Goals as goal

pub returns-in-None : goal.returns-in-None
returns-in-None c =
    let text = c.args.text.now in
    record { parts = line_none text (says_value (λ b. eqb b 10) text _ _ c.place_of.ensures c.in-None.is) }

pub returns-in-Some : goal.returns-in-Some
returns-in-Some c =
    let text = c.args.text.now in
    record {
      parts = line_some text c.in-Some.place
          (says_value (λ b. eqb b 10) text _ _ c.place_of.ensures c.in-Some.is);
    }
