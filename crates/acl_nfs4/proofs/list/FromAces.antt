-- A list from an array of ACEs, ACE by ACE.
use Rattle.acl_nfs4.proofs.Common.{[], Ace, ace, ap, append_assoc, drop, Err, IfErr, length, List, map, Ok, Result, refl, subst, sym, take, ℕ, ◌++◌, ◌+◌, ◌<◌, ◌∙◌, ◌∷◌, ◌≡◌, get_or}
use Rattle.std.specs.Result.{IsErrAnd}
use Rattle.std.proofs.lemmas.List.{map-append, take-append-drop, take_more}
use Rattle.acl_nfs4.specs.Build.{IsBuildFault}
use Rattle.acl_nfs4.specs.Push.{PushAnswers, push_refusal}
use Rattle.acl_nfs4.specs.declared.ace.AceRef.{AceRef}
use Rattle.acl_nfs4.specs.declared.list.build.BuildFault.{BuildFault}

-- one more ACE of the array
pub build_on : (es : List AceRef) (i : ℕ) (item : AceRef) (so_far new : List Ace) → i < length es
    → item ≡ get_or es i item → so_far ≡ map ace (take i es) → new ≡ so_far ++ ace item ∷ []
    → new ≡ map ace (take (i + 1) es)
build_on es i item so_far new lt read way step =
    step ∙ ap (λ (l : List Ace). l ++ ace item ∷ []) way
    ∙ ap (λ (x : AceRef). map ace (take i es) ++ ace x ∷ []) read
    ∙ sym (map-append ace (take i es) (get_or es i item ∷ []))
    ∙ ap (map ace) (sym (take_more es i item lt))

-- a fault at one ACE is the fault of the array
pub build_fails : {T : Type 0} (e : BuildFault) (r : Result T BuildFault) (es : List AceRef) (i : ℕ) (item : AceRef)
    (so_far : List Ace) → IsErrAnd r (λ y. y ≡ e) → i < length es → item ≡ get_or es i item
    → so_far ≡ map ace (take i es)
    → (length so_far ≡ e.place) × PushAnswers (Err e.fault) (push_refusal so_far (ace item))
    → IfErr r (IsBuildFault (map ace es))
build_fails e (Ok x) es i item so_far is lt read way fault = tt
build_fails e (Err y) es i item so_far is lt read way fault =
    let after : List Ace = map ace (drop (i + 1) es) in
    let whole : map ace es ≡ so_far ++ ace item ∷ after =
    ap (map ace) (sym (take-append-drop (i + 1) es)) ∙ map-append ace (take (i + 1) es) (drop (i + 1) es)
    ∙ ap (λ (l : List Ace). l ++ after) (sym (build_on es i item so_far (so_far ++ ace item ∷ []) lt read way refl))
    ∙ append_assoc so_far (ace item ∷ []) after in
    subst (IsBuildFault (map ace es)) (sym is) (record {
      before = so_far;
      refused = ace item;
      after = after;
      is = whole;
      place = fault.0;
      why = fault.1;
    })
