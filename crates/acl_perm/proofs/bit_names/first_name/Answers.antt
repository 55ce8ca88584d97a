use Rattle.std.proofs.Common.{ap, sym, ◌∙◌}
use Rattle.std.specs.Prelude.{option_copied, option_map}
use Rattle.acl_perm.proofs.NameTables.{row_of_bit_found}
use Rattle.acl_perm.proofs.bit_names.first_name.Goals as goal

pub returns-in-Some : goal.returns-in-Some
returns-in-Some c = ap (option_map (λ r. r.name.now)) (sym (ap option_copied c.in-Some.is) ∙ c.row_of_bit.ensures)
    ∙ row_of_bit_found c.args.table.now c.args.bit

pub returns-in-None : goal.returns-in-None
returns-in-None c = ap (option_map (λ r. r.name.now)) (sym (ap option_copied c.in-None.is) ∙ c.row_of_bit.ensures)
    ∙ row_of_bit_found c.args.table.now c.args.bit
