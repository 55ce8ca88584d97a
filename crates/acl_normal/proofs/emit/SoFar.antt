-- What was emitted so far, and what completes it.
use Rattle.acl_normal.proofs.Common.{[], Ace, ap, append-nil, append_assoc, Emitted, emitted_ace, emitted_aces, HasEmptyColumns, HasOnceColumns, IsEmission, IsStep, List, map-append, refl, subst, sym, ◌++◌, ◌∙◌, ◌∷◌, ◌≡◌}
use Rattle.acl_normal.proofs.unique.FirstAndRest.{emission_step}

-- every completion of what is left completes the whole
abbrev pub Completes : List Ace → List Emitted → List Ace → Type 0
Completes whole out left = (ns : List Ace) → IsEmission left ns → IsEmission whole (emitted_aces out ++ ns)

-- if the next ACE was emitted, every completion of what is left still completes the whole
pub completes_more : (whole : List Ace) (out new : List Emitted) (left rest : List Ace) (a : Emitted)
    → new ≡ out ++ a ∷ [] → HasOnceColumns left → IsStep left (emitted_ace a) rest → Completes whole out left
    → Completes whole new rest
completes_more whole out new left rest a is once step h ns e =
    let more = h (emitted_ace a ∷ ns) (emission_step left rest ns (emitted_ace a) once step e) in
    let same : emitted_aces new ++ ns ≡ emitted_aces out ++ emitted_ace a ∷ ns =
    ap (λ v. emitted_aces v ++ ns) is ∙ ap (λ v. v ++ ns) (map-append emitted_ace out (a ∷ []))
    ∙ append_assoc (emitted_aces out) (emitted_ace a ∷ []) ns in
    subst (λ v. IsEmission whole v) (sym same) more

-- nothing is emitted from a list with empty columns
pub nothing_completes : (left : List Ace) → HasEmptyColumns left → IsEmission left []
nothing_completes left h = record {
  alike = λ b p q o. rw (h b) refl;
  once = λ b. tt;
  ordered = tt;
  flags = tt;
  masks = tt;
}

-- when nothing is left, what was emitted is emitted from the whole
pub completes_all : (whole : List Ace) (out : List Emitted) (left : List Ace) → Completes whole out left
    → HasEmptyColumns left → IsEmission whole (emitted_aces out)
completes_all whole out left h empty =
    subst (λ v. IsEmission whole v) (append-nil (emitted_aces out)) (h [] (nothing_completes left empty))
