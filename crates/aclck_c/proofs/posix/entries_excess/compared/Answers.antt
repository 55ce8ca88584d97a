use Rattle.std.proofs.Common.{inl, inr, refl}
use Rattle.aclck_c.proofs.posix.entries_excess.compared.Goals as goal

pub returns-in-Some : goal.returns-in-Some
returns-in-Some c = inr (record {
  difference = c.in-Some.found;
  shows = c.in-Some.ensures.some;
  lowest = c.in-Some.ensures.lowest;
  is = c.numbers_of.ensures;
})

pub returns-in-None : goal.returns-in-None
returns-in-None c = inl (c.in-None.ensures.none refl, refl)
