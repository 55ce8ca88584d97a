-- Bytes that are put in front of others, and entries that are put one after the other.
use Rattle.acl_posix.proofs.Common.{AclTextForm, ap, append-nil, append_assoc, arith, Bool, drop, drop_all, drop_more, Entries, Entry, entry_out, Err, false, IsPut, length, length-append, length-drop, List, mask, masked_by, Option, out_cut, out_none, pair_of, pairs, Part, part_out, refl, slice_index_or, sym, take, take_all, WritesFrom, ℕ, ◌++◌, ◌+◌, ◌-◌, ◌<◌, ◌∙◌, ◌∷◌, ◌≡◌}
use Rattle.acl_perm.specs.declared.whole.WriteFault.{WriteFault}
use Rattle.std.specs.FinMap as set

-- bytes put in front of bytes that were put are put together
pub put_both : {a b old mid new : List ℕ} {end middle start : ℕ} → IsPut b old mid end middle
    → IsPut a mid new middle start → IsPut (a ++ b) old new end start
put_both {a} {b} {old} {mid} {new} {end} {middle} {start} behind front = record {
  begins = omega (arith, length-append a b, behind.begins, front.begins);
  written = front.written ∙ ap (λ (xs : List ℕ). a ++ xs) behind.written ∙ sym (append_assoc a b (drop end old));
}

-- bytes put at the end of a line are the end of that line
pub put_whole : {bytes old new : List ℕ} {start : ℕ} → length old ≡ 64 → IsPut bytes old new 64 start
    → drop start new ≡ bytes
put_whole {bytes} {old} long put = put.written
    ∙ ap (λ (xs : List ℕ). bytes ++ xs) (drop_all 64 old (omega (arith, long))) ∙ append-nil bytes

-- the bytes of a line from a place on
pub line_from : (line : List ℕ) (start : ℕ) → length line ≡ 64 → take (64 - start) (drop start line) ≡ drop start line
line_from line start long = take_all (64 - start) (drop start line) (omega (arith, long, length-drop start line))

-- the text of the entries that are left is the line of the next entry and the text of the entries after it
pub entry_next : {i eff : ℕ} {e : Entry} {limit : Option ℕ} (form : AclTextForm) (part : Part) (acl : Entries)
    (first : Bool)
    (es : List Entry) (room : List ℕ) (start : ℕ) → i < length es → e ≡ slice_index_or es i e → length room ≡ 64
    → drop start room ≡ entry_out form part first eff (pair_of e) → eff ≡ masked_by limit (pair_of e)
    → limit ≡ set.get acl mask → part_out form part acl first (pairs (drop i es))
    ≡ take (64 - start) (drop start room) ++ part_out form part acl false (pairs (drop (i + 1) es))
entry_next {i} {eff} {e} form part acl first es room start lt read long is masked limited =
    ap (λ (xs : List Entry). part_out form part acl first (pairs xs))
    (drop_more es i e lt ∙ ap (λ (x : Entry). x ∷ drop (i + 1) es) (sym read))
    ∙ ap (λ (xs : List ℕ). xs ++ part_out form part acl false (pairs (drop (i + 1) es)))
    (ap (λ (n : ℕ). entry_out form part first n (pair_of e))
    (sym (masked ∙ ap (λ (m : Option ℕ). masked_by m (pair_of e)) limited)) ∙ sym (line_from room start long ∙ is))

-- if the first part of a text was cut, so was the text
pub cut_first : (a b : Option (List ℕ)) (start : ℕ) (one two text : List ℕ) (f : WriteFault) → one ++ two ≡ text
    → WritesFrom a b start one (Err f) → WritesFrom a b start text (Err f)
cut_first a b start one two text f is said = out_cut start start f.written a a b text text one two
    (out_none start a _ _ refl) (sym is) said.0 said.1 said.2
