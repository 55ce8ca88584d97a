use Rattle.std.proofs.Common.{refl}
use Rattle.aclck.proofs.NormalFormLemmas.{normalizes_twice}
use Rattle.aclck.proofs.laws.normalize_twice.Goals as goal

pub returns : goal.returns
returns c p x a b is h = let law = normalizes_twice p x a b is h.1 in (λ k. law.0 k.1, λ e. (refl, law.1 e))
