-- The ACEs of a normal form, written one after the other, are a list.
use Rattle.std.proofs.Common.{◌≡◌, ℕ, ◌+◌, ◌<◌, List, [], ◌∷◌, ◌++◌, length, take, drop}
use Rattle.acl_normal.proofs.Common.{Ace, ap, Emitted, emitted_ace, emitted_aces, full, IsAccepted, map-append, slice_index_or, subst, sym, take_more, ◌∙◌}
use Rattle.acl_nfs4.proofs.Exports.{front_accepted}
use Rattle.acl_eval.proofs.Children.{moved}
use Rattle.acl_normal.proofs.Each.{split_there}

-- the emitted ACEs are those before a place, the one at the place, and those after it
pub split_at : (es : List Emitted) (i : ℕ) (d : Emitted) → i < length es
    → emitted_aces es
    ≡ emitted_aces (take i es) ++ emitted_ace (slice_index_or es i d) ∷ emitted_aces (drop (i + 1) es)
split_at es i d l =
    ap emitted_aces (split_there es i d l)
    ∙ map-append emitted_ace (take i es) (slice_index_or es i d ∷ drop (i + 1) es)

-- the ACEs written so far and the next one are accepted
pub next_accepted : (es : List Emitted) (i : ℕ) (d : Emitted) (list : List Ace) (a : Ace)
    → IsAccepted full (emitted_aces es)
    → i < length es → list ≡ emitted_aces (take i es) → a ≡ emitted_ace (slice_index_or es i d)
    → IsAccepted full (list ++ a ∷ [])
next_accepted es i d list a ok l so next =
    front_accepted full (list ++ a ∷ []) (emitted_aces (drop (i + 1) es))
    (subst (IsAccepted full) (split_at es i d l
    ∙ rw (← so, ← next) (sym (moved list (emitted_aces (drop (i + 1) es)) a))) ok)

-- with the next ACE, the ACEs written so far are those of one place more
pub next_written : (es : List Emitted) (i : ℕ) (d : Emitted) (list new : List Ace) (a : Ace) → i < length es
    → list ≡ emitted_aces (take i es) → a ≡ emitted_ace (slice_index_or es i d) → new ≡ list ++ a ∷ []
    → new ≡ emitted_aces (take (i + 1) es)
next_written es i d list new a l so next is =
    is ∙ rw (so, next) (sym (map-append emitted_ace (take i es) (slice_index_or es i d ∷ [])))
    ∙ sym (ap emitted_aces (take_more es i d l))
