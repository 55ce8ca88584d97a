use Rattle.acl_normal.proofs.Common.{drop, length, partners, principal, principals, ◌+◌, ◌≡◌, ◌≤◌}
use Rattle.acl_contain.proofs.asking.count_partners.Given as goal

-- the partners so far and those of the rest are all partners
abbrev pub invariant-loop-q : goal.invariant-loop-q
invariant-loop-q l = record {
  counted : l.count + length (partners (principal l.p) (principals (drop l.q-index l.others)))
      ≡ length (partners (principal l.p) (principals l.others));
  few : l.count ≤ l.q-index;
}
