-- What a sink is known to hold after one more put of a text.
use Rattle.std.proofs.Common.{◌+◌, ℕ, List, Option, take, drop}
use Rattle.std.proofs.Math.Seq.{take-add}
use Rattle.std.proofs.KnownBytes.{Appends-trans}
use Rattle.std.specs.Io.KnownBytes.{Appends}

-- if the next n bytes of a text went out after its first i bytes, its first i + n bytes are out
pub appends_more : (a b c : Option (List ℕ)) (i n : ℕ) (all : List ℕ) → Appends a b (take i all)
    → Appends b c (take n (drop i all)) → Appends a c (take (i + n) all)
appends_more a b c i n all front more =
    rw (take-add i n all) (Appends-trans a b c (take i all) (take n (drop i all)) front more)
