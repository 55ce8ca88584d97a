use Rattle.std.proofs.Common.{arith, ◌∙◌}
use Rattle.acl_perm.proofs.DeviceLemmas.{appends_more}
use Rattle.acl_perm.proofs.whole.put_all.Goals as goal

pub loop-written-preserved : goal.loop-written-preserved
loop-written-preserved g c = record {
  inside = omega (arith, c.in-Some.ensures.some.1, c.split_at.ensures.back_len);
  known =
      appends_more _ _ _ _ _ _ c.loop-written.invariant.known
      (rw c.split_at.ensures.back at c.in-Some.ensures.written);
  same = c.in-Some.ensures.none_failed ∙ c.loop-written.invariant.same;
}
