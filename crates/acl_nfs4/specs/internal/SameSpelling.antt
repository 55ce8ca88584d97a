-- To compare lists by their spellings is an equivalence (this library's own). The proofs are here because code and the
-- definitions of the crates above cite them, and both can cite only what is in specs/.
use Rattle.std.specs.Prelude.{nat_eq}
use Rattle.std.specs.Cmp.{on_per, on_equiv, IsPartialEquivalence, IsEquivalence, partial_equiv_from_equiv}
use Rattle.std.specs.Ordering.{on}
use Rattle.std.specs.Cmp.Lexicographic.{pointwise, nat_list_eq_equiv}
use Rattle.acl_nfs4.specs.Spelling.{spelling}

-- lists are compared by a partial equivalence
pub same_list_laws : IsPartialEquivalence (on spelling (pointwise nat_eq))
same_list_laws = on_per spelling (partial_equiv_from_equiv nat_list_eq_equiv)

-- lists are compared by an equivalence
pub same_list_equiv : IsEquivalence (on spelling (pointwise nat_eq))
same_list_equiv = on_equiv spelling nat_list_eq_equiv
