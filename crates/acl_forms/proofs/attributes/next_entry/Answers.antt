use Rattle.std.proofs.Common.{arith}
use Rattle.acl_forms.proofs.AttributeBytes.{entry_read, field_read, next_short}
use Rattle.acl_forms.proofs.attributes.next_entry.Goals as goal

pub returns-then-text-lt-ENTRY_SIZE-clause-fault : goal.returns-then-text-lt-ENTRY_SIZE-clause-fault
returns-then-text-lt-ENTRY_SIZE-clause-fault c = next_short c.args.at c.args.text.now (omega arith)

pub returns-clause-entry : goal.returns-clause-entry
returns-clause-entry c =
    entry_read c.args.at c.args.text.now c.stored_raw.result c.entry_of.result (omega arith)
    (λ i. omega (arith, c.type_inv.text i)) c.stored_raw.ensures.numbers c.entry_of.ensures.entry
    c.entry_of.ensures.right

pub returns-clause-fault : goal.returns-clause-fault
returns-clause-fault c =
    field_read c.args.at c.args.text.now c.stored_raw.result c.entry_of.result (omega arith)
    c.stored_raw.ensures.numbers c.entry_of.ensures.fault
