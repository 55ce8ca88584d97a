-- The bytes of an attribute, as they are written piece by piece.
use Rattle.std.proofs.Common.{◌≡◌, ◌∙◌, ◌+◌, ◌<◌, ◌≤◌, ◌++◌, ℕ, List, ◌∷◌, Option, Result, Err, length, drop, get_or, ap, refl, sym, subst, arith}
use Rattle.std.specs.Io.KnownBytes.{Appends}
use Rattle.std.specs.List.{All, flat_map}
use Rattle.std.proofs.lemmas.List.{drop_more}
use Rattle.std.proofs.lemmas.List.Concat.{flat_map-cons}
use Rattle.byteorder.specs.Endian.{little_bytes}
use Rattle.acl_perm.proofs.PieceLemmas.{out_cut, out_none, written_both}
use Rattle.acl_perm.specs.Counts.{count_limit}
use Rattle.acl_perm.specs.Pieces.{WritesFrom}
use Rattle.acl_perm.specs.declared.whole.WriteFault.{WriteFault}
use Rattle.acl_posix.proofs.Exports.{bytes_length}
use Rattle.acl_posix.specs.Attribute.{attribute_bytes, attribute_version, entry_bytes, version_size}
use Rattle.acl_posix.specs.Entries.{Entries, IsEntry, pair_of, pairs}
use Rattle.acl_posix.specs.Tag.{Tag}
use Rattle.acl_posix.specs.declared.entry.Entry.{Entry}
use Rattle.acl_forms.proofs.AttributeOrder.{few_entries}
use Rattle.std.specs.FinMap as fin

-- if the version was cut, a part of the bytes is out
pub version_cut : (a c : Option (List ℕ)) (acl : Entries) (head : List ℕ) (f : WriteFault)
    → head ≡ little_bytes version_size attribute_version → WritesFrom a c 0 head (Err f)
    → WritesFrom a c 0 (attribute_bytes acl) (Err f)
version_cut a c acl head f e said =
    let whole : List ℕ = attribute_bytes acl in
    let rest : List ℕ = flat_map entry_bytes (fin.entries acl) in
    out_cut 0 0 f.written a a c whole whole head rest (out_none 0 a whole whole refl)
    (ap (λ (t : List ℕ). t ++ rest) (sym e)) said.0 said.1 said.2

-- if the version is out, the bytes are out after those of the entries
pub version_then : (a b c : Option (List ℕ)) (acl : Entries) (head : List ℕ) (done : ℕ) (r : Result ℕ WriteFault)
    → head ≡ little_bytes version_size attribute_version → done ≡ 0 + length head → Appends a b head
    → WritesFrom b c done (flat_map entry_bytes (fin.entries acl)) r → WritesFrom a c 0 (attribute_bytes acl) r
version_then a b c acl head done r e count put said =
    let rest : List ℕ = flat_map entry_bytes (fin.entries acl) in
    subst (λ (t : List ℕ). WritesFrom a c 0 (t ++ rest) r) e (written_both a b c 0 done head rest r count put said)

-- the bytes of the entries that are left are those of the next entry and those of the entries after it
pub entry_next : {i : ℕ} {e : Entry} (es : List Entry) (piece : List ℕ) → i < length es → e ≡ get_or es i e
    → piece ≡ entry_bytes (pair_of e)
    → flat_map entry_bytes (pairs (drop i es)) ≡ piece ++ flat_map entry_bytes (pairs (drop (i + 1) es))
entry_next {i} {e} es piece lt read is =
    ap (λ (xs : List Entry). flat_map entry_bytes (pairs xs))
    (drop_more es i e lt ∙ ap (λ (x : Entry). x ∷ drop (i + 1) es) (sym read))
    ∙ flat_map-cons entry_bytes (pair_of e) (pairs (drop (i + 1) es))
    ∙ ap (λ (l : List ℕ). l ++ flat_map entry_bytes (pairs (drop (i + 1) es))) (sym is)

-- the bytes of an ACL can be counted
pub entries_fit : (acl : Entries) (es : List Entry) (start : ℕ) → All IsEntry (fin.entries acl)
    → pairs es ≡ fin.entries acl → start ≤ 4 → start + length (flat_map entry_bytes (pairs es)) < count_limit
entries_fit acl es start within same le =
    let size = ap (λ (ps : List (Tag × ℕ)). length ps) same in
    omega (arith, le, size, bytes_length (pairs es), few_entries acl within)
