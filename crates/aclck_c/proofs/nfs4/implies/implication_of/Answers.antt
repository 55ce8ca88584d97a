use Rattle.std.proofs.Common.{ap, inl, inr, rules}
use Rattle.std.specs.Option.{is_some}
use Rattle.acl_normal.specs.Difference.{situation_of}
use Rattle.aclck_c.proofs.nfs4.implies.implication_of.Goals as goal

pub returns-in-None : goal.returns-in-None
returns-in-None c = inl (
  c.in_ok-implies.ensures.implied.0 (ap is_some c.in-None.is),
  c.no_difference.ensures.at,
  c.no_difference.ensures.names,
)

pub returns-in_ok-report_of-in-Some : goal.returns-in_ok-report_of-in-Some
returns-in_ok-report_of-in-Some c =
    let found = c.in-Some.found in
    inr (record {
      situation = situation_of found;
      missing = found.bit.bits;
      is_first = search rules;
      is_at = rw (rw c.in-Some.is at c.in_ok-implies.ensures.denied) at c.in_ok-report_of-in-Some.ensures.at;
      named = c.in_ok-report_of-in-Some.ensures.names;
    })
