use Rattle.std.proofs.Common.{ℕ, ◌/◌, ◌%◌, ◌^◌, ◌-◌, ap, arith, eqb, ◌∙◌}
use Rattle.std.proofs.lemmas.List.{get_or-replicate}
use Rattle.std.proofs.lemmas.Nat.Bits.{bit_at_ones}
use Rattle.acl_perm.specs.Bits.{has_bit}
use Rattle.acl_prepared.proofs.hash_matching.all_marked.Goals as goal

pub returns : goal.returns
returns c = λ hash lt.
    ap (λ (n : ℕ). has_bit n (hash % 64)) (get_or-replicate 4 (hash / 64) (2 ^ 64 - 1) 0 (omega arith))
    ∙ ap (λ (d : ℕ). eqb d 1) (bit_at_ones 64 (hash % 64) (omega arith))
