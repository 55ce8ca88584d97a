-- The bytes of flags and a list with ids, as they are written piece by piece.
use Rattle.std.proofs.Common.{◌≡◌, ◌∙◌, ◌+◌, ◌++◌, ◌∷◌, ℕ, List, Option, Result, Err, length, ap, refl, subst, sym, append_assoc}
use Rattle.std.specs.Io.KnownBytes.{Appends}
use Rattle.std.specs.List.{flat_map}
use Rattle.std.proofs.lemmas.List.Concat.{flat_map-cons}
use Rattle.acl_perm.proofs.PieceLemmas.{out_cut, out_none, written_both}
use Rattle.acl_perm.specs.Pieces.{WritesFrom}
use Rattle.acl_perm.specs.declared.whole.WriteFault.{WriteFault}
use Rattle.acl_nfs4.specs.Ace.{Ace}
use Rattle.acl_nfs4.specs.Spelling.{word}
use Rattle.acl_forms.specs.Acl41Ids.{acl41_ids_bytes, id_piece}

-- the bytes of ACEs are those of the first and those of the others
pub next_piece : (list rest : List Ace) (a : Ace) (piece : List ℕ) → list ≡ a ∷ rest → piece ≡ id_piece a
    → flat_map id_piece list ≡ piece ++ flat_map id_piece rest
next_piece list rest a piece e is = rw (e, is) (flat_map-cons id_piece a rest)

-- the bytes of an ACE are twenty
pub piece_len : (a : Ace) → length (id_piece a) ≡ 20
piece_len a = refl

-- the bytes are the words before the ACEs, and the bytes of the ACEs
pub head_first : (flags : ℕ) (list : List Ace) (head : List ℕ) → head ≡ word flags ++ word (length list)
    → acl41_ids_bytes flags list ≡ head ++ flat_map id_piece list
head_first flags list head e =
    sym (append_assoc (word flags) (word (length list)) (flat_map id_piece list))
    ∙ ap (λ (t : List ℕ). t ++ flat_map id_piece list) (sym e)

-- if the words before the ACEs were cut, a part of the bytes is out
pub head_cut : (a c : Option (List ℕ)) (flags : ℕ) (list : List Ace) (head : List ℕ) (f : WriteFault)
    → head ≡ word flags ++ word (length list) → WritesFrom a c 0 head (Err f)
    → WritesFrom a c 0 (acl41_ids_bytes flags list) (Err f)
head_cut a c flags list head f e said =
    let whole : List ℕ = acl41_ids_bytes flags list in
    out_cut 0 0 f.written a a c whole whole head (flat_map id_piece list) (out_none 0 a whole whole refl)
    (head_first flags list head e) said.0 said.1 said.2

-- if the words before the ACEs are out, the bytes are out after those of the ACEs
pub head_then : (a b c : Option (List ℕ)) (flags : ℕ) (list : List Ace) (head : List ℕ) (done : ℕ)
    (r : Result ℕ WriteFault) → head ≡ word flags ++ word (length list) → done ≡ 0 + length head → Appends a b head
    → WritesFrom b c done (flat_map id_piece list) r → WritesFrom a c 0 (acl41_ids_bytes flags list) r
head_then a b c flags list head done r e count put said =
    subst (λ (t : List ℕ). WritesFrom a c 0 t r) (sym (head_first flags list head e))
    (written_both a b c 0 done head (flat_map id_piece list) r count put said)
