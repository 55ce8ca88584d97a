use Rattle.std.proofs.Common.{◌≡◌, true, sym}
use Rattle.std.specs.Fmt.{decimal}
use Rattle.std.specs.Str.{bytes_eq}
use Rattle.acl_forms.proofs.WhoLemmas.{id_of_digits-Some, no_id, bytes_eq-decimal}
use Rattle.acl_forms.proofs.acl41_ids_writer.id_in_digits.Goals as goal

pub returns-in-None : goal.returns-in-None
returns-in-None c = no_id c.args.who.now (λ n is e. let h = c.in-None.ensures n is e in cc)

pub returns-then-is_digits_of : goal.returns-then-is_digits_of
returns-then-is_digits_of c =
    id_of_digits-Some c.args.who.now c.in-Some.id.value c.in-Some.id.within (sym c.if-is_digits_of.ensures)

pub returns-else-is_digits_of : goal.returns-else-is_digits_of
returns-else-is_digits_of c = no_id c.args.who.now (λ n is e.
    let h = c.in-Some.ensures n is e in
    let same = bytes_eq-decimal c.args.who.now n e in
    let value : c.in-Some.id.value ≡ n = cc in
    let test : bytes_eq c.args.who.now (decimal c.in-Some.id.value) ≡ true = rw value same in
    let result = c.if-is_digits_of.ensures in
    let failed = c.if-is_digits_of.false in
    cc)
