use Rattle.std.proofs.Common.{eqb, refl, ◌+◌}
use Rattle.std.proofs.lemmas.List.{take_rest}
use Rattle.acl_perm.specs.Lines.{span_of}
use Rattle.acl_perm.proofs.Cuts.{cut_none, cut_some, says_value}
use Rattle.acl_perm.proofs.lines.Piece.cut.Goals as goal

pub returns-in-None : goal.returns-in-None
returns-in-None c =
    let says = says_value (λ b. eqb b c.args.separator) c.args.self.bytes.now _ _ c.place_of.ensures c.in-None.is in
    record { parts = (cut_none c.args.separator (span_of c.args.self) says, refl) }

pub returns-in-Some : goal.returns-in-Some
returns-in-Some c =
    let says = says_value (λ b. eqb b c.args.separator) c.args.self.bytes.now _ _ c.place_of.ensures c.in-Some.is in
    let rest = take_rest c.args.self.bytes.now (c.in-Some.place + 1) in
    record { parts = cut_some c.args.separator (span_of c.args.self) c.in-Some.place _ says rest }
