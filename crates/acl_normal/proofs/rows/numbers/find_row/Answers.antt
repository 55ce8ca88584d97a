use Rattle.std.proofs.Common.{◌≡◌}
use Rattle.std.proofs.lemmas.Fn.{always_returns_same}
use Rattle.acl_normal.proofs.rows.RowSearch.{found_row, missing_row}
use Rattle.acl_normal.proofs.rows.numbers.find_row.Goals as goal
use Rattle.acl_normal.proofs.Common.{aces_in, key_here, principal, principal_cmp, rules}

pub returns-in-Ok-clause-found : goal.returns-in-Ok-clause-found
returns-in-Ok-clause-found c =
    let xs = aces_in c.args.aces.now in
    let p = principal c.args.p in
    found_row xs c.args.rows.now c.args.order.now p c.in-Ok.found c.requires.rows c.requires.order
    c.in-Ok.ensures.bound
    (c.in-Ok.ensures.position (λ y. principal_cmp (key_here xs y).0 p)
    (always_returns_same _ (λ a r. r ≡ principal_cmp (key_here xs a.0.now).0 p) _ (λ a r f' k. search rules)))

pub returns-in-Err-clause-missing : goal.returns-in-Err-clause-missing
returns-in-Err-clause-missing c =
    let xs = aces_in c.args.aces.now in
    let p = principal c.args.p in
    missing_row xs c.args.order.now p c.in-Err.field-0 c.requires.order
    (c.in-Err.ensures.position (λ y. principal_cmp (key_here xs y).0 p)
    (always_returns_same _ (λ a r. r ≡ principal_cmp (key_here xs a.0.now).0 p) _ (λ a r f' k. search rules)))
