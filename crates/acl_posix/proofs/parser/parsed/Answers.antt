use Rattle.acl_posix.proofs.Common.{[], Access, ap, arith, Default, Entry, err_from_is_err_and, false, IsAclOf, IsDefaultOf, length, List, lists_of, nat_tests, None, pairs, Some, sym, true, ℕ, ◌<◌, ◌∙◌, ◌∷◌, ◌≡◌}
use Rattle.std.specs.Prelude.{◌==◌}
use Rattle.acl_posix.proofs.reader.Settled.{file_found, part_refused, text_refused}
use Rattle.acl_posix.specs.Entries.{Entries}
use Rattle.acl_posix.proofs.parser.parsed.Goals as goal

-- no entries make no default ACL
default_none : (es : List Entry) → (length es == 0) ≡ true → IsDefaultOf (pairs es) None
default_none [] empty = tt
default_none (e ∷ es) empty =
    let none : length (e ∷ es) ≡ 0 = grind (arith, nat_tests) in absurd (omega (arith, none))

-- some entries make the default ACL that they make
default_some : (es : List Entry) (acl : Entries) → (length es == 0) ≡ false → IsAclOf (pairs es) acl
    → IsDefaultOf (pairs es) (Some acl)
default_some [] acl some is = absurd cc
default_some (e ∷ es) acl some is = is

-- where there are entries, there is one
some_pair : (es : List Entry) → (length es == 0) ≡ false → 0 < length (pairs es)
some_pair [] some = absurd cc
some_pair (e ∷ es) some = omega arith

pub returns-in_err-lists-clause-fault : goal.returns-in_err-lists-clause-fault
returns-in_err-lists-clause-fault c =
    let p = err_from_is_err_and c.from_residual.result c.from_residual.ensures.1 in
    rw (p.1, p.2) (text_refused c.args.text.now c.args.names.now _ c.in_err-lists.ensures)

pub returns-in_err-access-clause-fault : goal.returns-in_err-access-clause-fault
returns-in_err-access-clause-fault c =
    let p = err_from_is_err_and c.from_residual-in_err-access.result c.from_residual-in_err-access.ensures.1 in
    rw (p.1, p.2)
    (part_refused c.args.text.now c.args.names.now (lists_of c.in_ok-lists.lists) Access _ _ c.in_ok-lists.ensures
    (λ why wrong. wrong) c.in_err-access.ensures.err)

pub returns-then-is_empty-clause-found : goal.returns-then-is_empty-clause-found
returns-then-is_empty-clause-found c =
    let empty = sym (ap (λ (n : ℕ). n == 0) c.in_ok-lists.lists.default.ok.0) ∙ sym c.is_empty.ensures
    ∙ c.if-is_empty.true in
    file_found c.args.text.now c.args.names.now (lists_of c.in_ok-lists.lists)
    (record { access = c.in_ok-access.access; default = None }) c.in_ok-lists.ensures c.in_ok-access.ensures.ok
    (default_none c.in_ok-lists.lists.default.items empty)

pub returns-in_err-part_of-clause-fault : goal.returns-in_err-part_of-clause-fault
returns-in_err-part_of-clause-fault c =
    let full = sym (ap (λ (n : ℕ). n == 0) c.in_ok-lists.lists.default.ok.0) ∙ sym c.is_empty.ensures
    ∙ c.if-is_empty.false in
    let p = err_from_is_err_and c.from_residual-in_err-part_of.result c.from_residual-in_err-part_of.ensures.1 in
    rw (p.1, p.2)
    (part_refused c.args.text.now c.args.names.now (lists_of c.in_ok-lists.lists) Default _ _ c.in_ok-lists.ensures
    (λ why wrong. (
      c.in_ok-access.ensures.ok.valid,
      some_pair c.in_ok-lists.lists.default.items full,
      wrong,
    )) c.in_err-part_of.ensures.err)

pub returns-clause-found : goal.returns-clause-found
returns-clause-found c =
    let full = sym (ap (λ (n : ℕ). n == 0) c.in_ok-lists.lists.default.ok.0) ∙ sym c.is_empty.ensures
    ∙ c.if-is_empty.false in
    file_found c.args.text.now c.args.names.now (lists_of c.in_ok-lists.lists)
    (record { access = c.in_ok-access.access; default = Some c.in_ok-part_of.field-0 })
    c.in_ok-lists.ensures c.in_ok-access.ensures.ok
    (default_some c.in_ok-lists.lists.default.items _ full c.in_ok-part_of.ensures.ok)
