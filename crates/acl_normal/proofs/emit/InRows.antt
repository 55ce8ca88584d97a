-- Each emitted ACE has the row of its principal.
use Rattle.acl_normal.proofs.Common.{Ace, ColumnKey, Emitted, IsRowOf, List, AreInRows, [], ap, arith, emitted_ace, marks, nothing_left, principal_of, refl, subst, sym, take_out, ℕ, ◌++◌, ◌∙◌, ◌∷◌, ◌≡◌}
use Rattle.std.proofs.lemmas.List.Elements.{All-push}
use Rattle.acl_normal.specs.internal.emit.Ready.{Frees, TakesBits, emitted}
use Rattle.acl_normal.proofs.emit.Drained.{Drains, drain_turn, outline_left, popped_named}
use Rattle.acl_normal.proofs.emit.KeyNames.{emitted_principal}
use Rattle.acl_normal.proofs.rows.RowsAlike.{is_row_alike}

-- what is left has the outline of the whole list, and each emitted ACE has the row of its principal there
pub record KeepsRows (whole xs : List Ace) (out : List Emitted) : Type 0 where
  pub outline : nothing_left xs ≡ nothing_left whole
  pub rows : AreInRows whole out

-- before the first turn nothing was emitted
pub no_rows : (whole : List Ace) → KeepsRows whole whole []
no_rows whole = record { outline = refl; rows = λ k d l. absurd (omega (arith, l)) }

-- a turn emits an ACE with the row of its principal, and keeps the outline
pub rows_turn : (whole xs next : List Ace) (out new : List Emitted) (e : Emitted) (q : ColumnKey) (m : ℕ)
    → KeepsRows whole xs out → new ≡ out ++ e ∷ [] → IsRowOf e.row (principal_of (emitted_ace e)) xs
    → next ≡ take_out q.0 m xs → KeepsRows whole next new
rows_turn whole xs next out new e q m keeps pushed row taken = record {
  outline = outline_left q.0 m xs next taken ∙ keeps.outline;
  rows =
      subst (λ v. AreInRows whole v) (sym pushed)
      (All-push (λ a. IsRowOf a.row (principal_of (emitted_ace a)) whole) out e keeps.rows
      (is_row_alike e.row (principal_of (emitted_ace e)) xs whole keeps.outline row));
}

-- a turn keeps what the loop keeps and the rows
pub turn_in_rows : (whole xs next : List Ace) (out new : List Emitted) (e : Emitted) (old rest more : List ℕ)
    (q : ColumnKey) (m : ℕ)
    → Drains whole out (marks (nothing_left xs) old) xs → TakesBits xs old rest e.row q m → KeepsRows whole xs out
    → new ≡ out ++ e ∷ [] → emitted_ace e ≡ emitted q m → next ≡ take_out q.0 m xs
    → Frees q m next (marks (nothing_left next) rest) (marks (nothing_left next) more)
    → Drains whole new (marks (nothing_left next) more) next × KeepsRows whole next new
turn_in_rows whole xs next out new e old rest more q m drains takes keeps pushed is taken frees =
    let named = popped_named whole out _ _ q m xs drains takes.popped in
    let principal : principal_of (emitted_ace e) ≡ q.0 = ap principal_of is ∙ emitted_principal q m named in (
      drain_turn whole out new old rest more e.row m q xs next e drains takes pushed is taken frees,
      rows_turn whole xs next out new e q m keeps pushed
          (subst (λ p. IsRowOf e.row p xs) (sym principal) takes.at_row) taken,
    )
