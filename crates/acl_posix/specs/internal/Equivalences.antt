-- The tests of sets of entries and of files are equivalences (this library's own). The proofs are here because the laws
-- of `PartialEq` and `Eq` cite them, and code can cite only what is in specs/.
use Rattle.std.specs.Cmp.{IsEquivalence, on_equiv, and_equiv, eq_by_cmp_equiv, nat_eq_equiv}
use Rattle.std.specs.Cmp.Lexicographic.{lists_equiv}
use Rattle.std.specs.FinMap as set
use Rattle.acl_posix.specs.Equal.{acls_of, same_file, same_set}
use Rattle.acl_posix.specs.internal.TagCode.{tags_total}

-- sets are compared by an equivalence
pub same_set_equiv : IsEquivalence same_set
same_set_equiv =
    on_equiv set.entries (lists_equiv (and_equiv (on_equiv (λ entry. entry.0) (eq_by_cmp_equiv tags_total))
    (on_equiv (λ entry. entry.1) nat_eq_equiv)))

-- files are compared by an equivalence
pub same_file_equiv : IsEquivalence same_file
same_file_equiv = on_equiv acls_of (lists_equiv same_set_equiv)
