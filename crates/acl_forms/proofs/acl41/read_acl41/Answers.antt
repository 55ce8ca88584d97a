use Rattle.std.proofs.Common.{◌∙◌, inr, arith, ap, sym}
use Rattle.acl_forms.specs.Acl41.IsAcl41Fault.{of_flags}
use Rattle.acl_forms.specs.Words.{acl_flags_of, word_at}
use Rattle.acl_forms.proofs.Acl41Lemmas.{found, list_fault}
use Rattle.acl_nfs4.proofs.Exits.{exit_is}
use Rattle.acl_forms.proofs.acl41.read_acl41.Goals as goal

pub returns-clause-found : goal.returns-clause-found
returns-clause-found c =
    let read = ap (word_at acl_flags_of) (sym c.start-cursor.ensures) ∙ c.in_ok-flags.ensures in
    found c.args.bytes.now _ _ _ (λ i. omega (arith, c.type_inv.bytes i)) read
    (rw c.in_ok-list.ensures c.in_ok-view.ensures.found)

pub returns-in_err-flags-clause-fault : goal.returns-in_err-flags-clause-fault
returns-in_err-flags-clause-fault c =
    let bad = ap (word_at acl_flags_of) (sym c.start-cursor.ensures) ∙ c.in_err-flags.ensures in
    rw (exit_is c.from_residual.result c.from_residual.ensures.1) (inr (of_flags _ bad))

pub returns-in_err-view-clause-fault : goal.returns-in_err-view-clause-fault
returns-in_err-view-clause-fault c =
    let read = ap (word_at acl_flags_of) (sym c.start-cursor.ensures) ∙ c.in_ok-flags.ensures in
    let (offset, r, whole, is) = c.in_err-view.ensures.fault in
    rw (exit_is c.from_residual-in_err-view.result c.from_residual-in_err-view.ensures.1, is)
    (inr (list_fault c.args.bytes.now _ _ offset r (λ i. omega (arith, c.type_inv.bytes i)) read whole))
