-- A text that is cut short has few bytes after its whole ACEs.
use Rattle.acl_nfs4.proofs.Common.{Ace, ap, append_assoc, arith, Border, Breaks, done, Fed, Feeds, HoldsLittle, inl, inr, IsCutShort, IsSmall, length, length-append, List, more, piece, Profile, refused, size, Stage, StreamState, subst, sym, Truncated, ℕ, ◌++◌, ◌<◌, ◌∙◌, ◌≡◌, ◌≤◌, start, refl}
use Rattle.acl_nfs4.specs.declared.feed.fed.Fed.TheVariants as fed
use Rattle.acl_nfs4.specs.Fault.Stage.{kind as at_kind, flags as at_flags, mask as at_mask, len as at_len, who as at_who, padding as at_padding}
use Rattle.acl_nfs4.proofs.feed.Completion.{begun_before_ace, in_flags, in_len, in_mask, in_padding, in_who, IsInAce, who_before_padding, who_bounds as stage_bounds}
use Rattle.acl_nfs4.specs.Spelling.{longest_ace}
use Rattle.acl_nfs4.proofs.xdr.Fields.{who_bounds}
use Rattle.acl_nfs4.proofs.xdr.OneFault.{never_truncated}

-- if the next field is cut short, fewer bytes are left than it has
pub short_rest : (p : Profile) (s : Stage) (rest : List ℕ) (n : ℕ) → Breaks p s rest n Truncated → length rest < size s
short_rest p s rest n (inl h) = h.0
short_rest p s rest n (inr h) = absurd (never_truncated p s _ h.2)

-- a text of whole ACEs and few bytes after them holds little
holds_behind_aces : (p : Profile) (n : ℕ) (list : List Ace) (t text tail : List ℕ) → Border p (at_kind n list) t
    → text ≡ t ++ tail → length tail < longest_ace → HoldsLittle text
holds_behind_aces p n list t text tail b e lt =
    inr (n, list, tail, e ∙ ap (λ (x : List ℕ). x ++ tail) (begun_before_ace p n list t b).text, lt)

-- a text that ends inside an ACE holds little
holds_in_ace : {p : Profile} {n : ℕ} {list : List Ace} {fields t : List ℕ} (rest : List ℕ) → IsInAce p n list fields t
    → length (fields ++ rest) < longest_ace → HoldsLittle (t ++ rest)
holds_in_ace {p = p} {n = n} {list = list} {fields = fields} {t = t} rest h few =
    holds_behind_aces p n list h.front (t ++ rest) (fields ++ rest) h.border
    (ap (λ (x : List ℕ). x ++ rest) h.text ∙ append_assoc h.front fields rest) few

-- a text that ends inside the field after a border holds little
holds_little : (p : Profile) (s : Stage) (t rest : List ℕ) → Border p s t → length rest < size s
    → HoldsLittle (t ++ rest)
holds_little p (at_kind n list) t rest b short =
    holds_behind_aces p n list t (t ++ rest) rest b refl (omega (arith, short))
holds_little p (at_flags n list k) t rest b short = holds_in_ace rest (in_flags b) (omega (arith, short))
holds_little p (at_mask n list k f) t rest b short = holds_in_ace rest (in_mask b) (omega (arith, short))
holds_little p (at_len n list k f m) t rest b short = holds_in_ace rest (in_len b) (omega (arith, short))
holds_little p (at_who n list k f m l) t rest b short =
    holds_in_ace rest (in_who b) (omega (arith, short, (stage_bounds p (at_who n list k f m l) t b).1))
holds_little p (at_padding n list k f m w) t rest b short =
    let bounds = who_bounds w (who_before_padding b) in
    holds_in_ace rest (in_padding b) (omega (arith, short, bounds.1, length-append w rest))
holds_little p _ _ rest start short = inl short

-- a text that is cut short has few bytes after its whole ACEs
pub cut_holds : (p : Profile) (text : List ℕ) → IsCutShort p text → HoldsLittle text
cut_holds p text cut =
    let f = cut.1.1 in
    subst (λ (t : List ℕ). HoldsLittle t) (sym f.parts)
    (holds_little p f.stage f.front f.rest f.border (short_rest p f.stage f.rest f.more f.breaks))

-- a feed whose stream is cut short holds little beyond whole ACEs
small_is : (new : StreamState) (p : Profile) (s : List ℕ) → new ≡ more p s → IsCutShort p s → IsSmall new
small_is new p s e cut = subst (λ (n : StreamState). IsSmall n) (sym e) (cut_holds p s cut)

-- the limit on what a feed holds says nothing about a feed that has its list
small_done : (new : StreamState) (list : List Ace) → new ≡ done list → IsSmall new
small_done new list e = subst (λ (n : StreamState). IsSmall n) (sym e) tt

-- after each piece a feed that is not done holds few bytes after the whole ACEs
pub small_after : (old : StreamState) (piece : List ℕ) (answer : Fed) (new : StreamState) → Feeds old piece answer new
    → IsSmall new
small_after (more p s) piece fed.More new h = small_is new p (s ++ piece) h.0 h.1
small_after (more p s) piece (fed.Done t) new h = small_done new h.0 h.1
small_after (more p s) piece (fed.Refused f) new h = subst (λ (n : StreamState). IsSmall n) (sym h.0) tt
small_after (done list) piece answer new h = small_done new list h.0
small_after (refused g) piece answer new h = subst (λ (n : StreamState). IsSmall n) (sym h.0) tt

-- no more bytes belong to the list than the piece has
pub taken_within : (old : StreamState) (piece : List ℕ) (answer : Fed) (new : StreamState) → Feeds old piece answer new
    → (taken : ℕ) → answer ≡ fed.Done taken → taken ≤ length piece
taken_within (more p s) piece (fed.Done t) new h taken e = let same : t ≡ taken = cc in omega (arith, h.2, same)
taken_within (more p s) piece answer new h taken e = absurd cc
taken_within (done list) piece answer new h taken e = let d = h.1 in let none : taken ≡ 0 = cc in omega arith
taken_within (refused g) piece answer new h taken e = let d = h.1 in absurd cc
