-- Facts about tests that consist of other tests, for all crates: lemmas of std, under the names that the proofs here
-- use, and two lemmas of this library.
use Rattle.std.proofs.Common.{◌≡◌, Bool, true, false, cond, refl}
use Rattle.std.specs.Prelude.{◌&&◌, T}
-- if two tests hold together, each holds; if one of two tests holds, it is the first or the second
pub use Rattle.std.proofs.lemmas.Bool.{and_parts as and_true, or_cases as or_true}
-- what follows from a negated test
pub use Rattle.std.proofs.lemmas.Bool.{not-true as not_true, not-false as not_false}
-- a test together with a constant
pub use Rattle.std.proofs.Math.Bool.{and-true as and_true_right, and-false as and_false_right, or-true as or_true_right, or-false as or_false_right}
-- a test together with itself
pub use Rattle.std.proofs.Math.Bool.{and_self as and_twice, or_self as or_twice, and_self_left as and_twice_left, or_self_left as or_twice_left}
-- two or three tests in another order
pub use Rattle.std.proofs.Math.Bool.{and_comm as and_swap, or_comm as or_swap, and_assoc as and_regroup, or_assoc as or_regroup}
-- a test and either of two
pub use Rattle.std.proofs.Math.Bool.{and-or_distrib_left as and_either, and-or_distrib_right as either_and}
-- two tests that imply each other give the same answer
pub use Rattle.std.specs.Cmp.{both_ways as same_answers}

-- a choice of true or false is the test
pub cond_bool : (b : Bool) → cond b true false ≡ b
cond_bool true = refl
cond_bool false = refl

-- if two tests hold together, each holds
pub both_hold : (a b : Bool) → T (a && b) → T a × T b
both_hold true b h = (tt, h)
both_hold false b h = absurd h
