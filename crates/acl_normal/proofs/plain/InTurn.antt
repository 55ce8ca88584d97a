-- ACEs that come first one after the other: what has come and what is left.
use Rattle.std.proofs.Common.{List, [], drop, length, take, ℕ, ◌++◌, ◌+◌, ◌<◌, ◌∷◌, ◌≡◌, append-nil}
use Rattle.std.proofs.lemmas.List.{take-append-drop}
use Rattle.acl_normal.proofs.Common.{Ace, AceRef, HasEmptyColumns, HasOnceColumns, IsAccepted, IsEmission, ace, aces_in, ap, append_assoc, full, principal_of, slice_index_or, subst, sym, take_out, ◌∙◌}
use Rattle.acl_nfs4.proofs.Exports.{front_accepted}
use Rattle.acl_normal.specs.internal.emit.Short.{ComesFirst}
use Rattle.acl_normal.proofs.emit.ShortTurns.{first_step}
use Rattle.acl_normal.proofs.emit.SoFar.{nothing_completes}
use Rattle.acl_normal.proofs.reduce.Passes.{list_of-append, list_of-more}
use Rattle.acl_normal.proofs.rows.TakeOut.{once_taken}
use Rattle.acl_normal.proofs.unique.FirstAndRest.{emission_step}

-- what has come first, before all that is emitted from what is left, has a property
pub record Completing (P : List Ace → Type 0) (out left : List Ace) : Type 0 where
  pub once : HasOnceColumns left
  pub completes : (more : List Ace) → IsEmission left more → P (out ++ more)

-- what has come still has the property with the ACE that comes next
pub completing_more : (P : List Ace → Type 0) (out left : List Ace) (a : Ace) → Completing P out left
    → ComesFirst left a → Completing P (out ++ a ∷ []) (take_out (principal_of a) a.mask left)
completing_more P out left a h first = record {
  once = once_taken (principal_of a) a.mask left h.once;
  completes = λ more e. subst P (sym (append_assoc out (a ∷ []) more))
      (h.completes (a ∷ more) (emission_step left (take_out (principal_of a) a.mask left) more a h.once
      (first_step left a first) e));
}

-- when nothing is left, what has come has the property
pub completing_all : (P : List Ace → Type 0) (out left : List Ace) → HasEmptyColumns left → Completing P out left
    → P out
completing_all P out left empty h = subst P (append-nil out) (h.completes [] (nothing_completes left empty))

-- ---- the list of what has come

-- the ACEs so far and the next one are accepted
pub next_accepted : (xs : List AceRef) (i : ℕ) (x : AceRef) (list : List Ace) → IsAccepted full (aces_in xs)
    → i < length xs → x ≡ slice_index_or xs i x → list ≡ aces_in (take i xs) → IsAccepted full (list ++ ace x ∷ [])
next_accepted xs i x list ok l is so =
    front_accepted full (list ++ ace x ∷ []) (aces_in (drop (i + 1) xs))
    (subst (IsAccepted full)
    (ap aces_in (sym (take-append-drop (i + 1) xs)) ∙ list_of-append (take (i + 1) xs) (drop (i + 1) xs)
    ∙ ap (λ v. v ++ aces_in (drop (i + 1) xs)) (list_of-more xs x i l is ∙ ap (λ v. v ++ ace x ∷ []) (sym so))) ok)
