-- Each text begins with the spelling of a list, or has a fault.
use Rattle.acl_nfs4.proofs.Common.{[], Ace, ace_at, ap, arith, be_bytes_4, Border, cases_lt, count_of, counted, drop, Err, Fault, flat_map, inl, inr, IsBytes, IsFault, length, length-append, length-take, List, number, Ok, piece, Place, Profile, refl, Result, suc, sym, take, take-append-drop, take_at, Truncated, weight, word, Xdr, zero, ℕ, ◌++◌, ◌+◌, ◌∙◌, ◌∷◌, ◌≡◌, ◌⊎◌}
use Rattle.acl_nfs4.specs.Fault.Stage.{kind as at_kind}
use Rattle.acl_nfs4.proofs.xdr.Fields.{count_is, IsBytes-drop, IsBytes-take}
use Rattle.acl_nfs4.proofs.xdr.Lists.{ace_takes}
use Rattle.acl_nfs4.proofs.xdr.Faults.{ace_fails, border_after, Carried, Carried-then}
use Rattle.acl_nfs4.proofs.feed.Completion.{begun_before_ace}
use Rattle.acl_nfs4.proofs.feed.Streaming.{text_refused, text_short}

-- the text begins with a list, or has a fault
abbrev pub IsJudged : Profile → List ℕ → Type 0
IsJudged p text = ((list : List Ace) × (n : ℕ) × Xdr p list (take n text))
    ⊎ ((f : Fault) × IsFault p text f.offset f.reason)

-- what follows from each value and from each fault follows from a result
from_result : {A E C : Type 0} (r : Result A E) → ((x : A) → r ≡ Ok x → C) → ((e : E) → r ≡ Err e → C) → C
from_result (Ok x) ok err = ok x refl
from_result (Err e) ok err = err e refl

-- a text with a border before an ACE, where this many ACEs are left, begins with a list or has a fault
from_border : (p : Profile) (text : List ℕ) (todo n : ℕ) (list : List Ace) (t : List ℕ) (q : Place)
    → Border p (at_kind n list) t → Carried text t q → length list + todo ≡ n → IsJudged p text
from_border p text zero n list t q b c e =
    let h = begun_before_ace p n list t b in
    let all : n ≡ length list = omega arith in
    inl (
      list,
      length t,
      record {
        accepted = record { count = omega (arith, all, h.small); weight = h.light; each = h.each };
        spelled = ap (take (length t)) c.parts ∙ take_at t q.rest (length t) refl ∙ h.text
            ∙ ap (λ (k : ℕ). word k ++ flat_map piece list) all;
      },
    )
from_border p text (suc todo) n list t q b c e =
    from_result (ace_at p (weight list) q) (λ x is.
    let h = ace_takes p (weight list) q x c.fits is in
    from_border p text todo n (list ++ x.0 ∷ []) (t ++ piece x.0) x.1
    (border_after p n list t x.0 b (omega arith) h.is h.light) (Carried-then text t q (piece x.0) x.1 c h.takes)
    (omega (arith, e, length-append list (x.0 ∷ [])))) (λ f is.
    inr (f, ace_fails p text n list t q f c b (omega arith) is))

-- each text begins with a list or has a fault
pub judges : (p : Profile) (text : List ℕ) → IsBytes text → IsJudged p text
judges p text fits =
    elim (cases_lt (length text) 4) [
      | inl short ↦ inr (record { offset = 0; reason = Truncated }, text_short p text short)
      | inr long ↦ from_result (count_of (number (take 4 text))) (λ n e.
          let c = count_is _ n e in
          let len : length (take 4 text) ≡ 4 = omega (arith, length-take 4 text, long) in
          let first : take 4 text ≡ word n =
          sym (be_bytes_4 (take 4 text) _ len (IsBytes-take 4 text fits) refl) ∙ ap word c.0 in
          from_border p text n n [] (word n) (record { at = 4; rest = drop 4 text }) (counted n c.1) (record {
            parts = sym (take-append-drop 4 text) ∙ ap (λ (x : List ℕ). x ++ drop 4 text) first;
            here = refl;
            fits = IsBytes-drop 4 text fits;
          }) (omega arith)) (λ r e. inr (record { offset = 0; reason = r }, (4, text_refused p text r long e)))
    ]
