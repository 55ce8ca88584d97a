-- The table of the reasons as code holds it has the names of the table in specs/.
use Rattle.std.proofs.Common.{◌≡◌, ◌∙◌, ℕ, Bool, true, false, List, [], ◌∷◌, Option, Some, ap, refl}
use Rattle.std.specs.Prelude.{◌==◌, find, if◌then◌else◌, option_map}
use Rattle.aclck_c.specs.Words.{name_in, reason_name, reasons}
use Rattle.aclck_c.specs.declared.reason.ReasonRow.{ReasonRow}
use Rattle.aclck_c.specs.internal.Numbers.{number_of_reason}
use Rattle.aclck_c.specs.internal.Reasons.{reasons_of}

-- the name of a row
abbrev name_of : ReasonRow → List ℕ
name_of row = row.name.now

-- the name in the row of a number is the name of the number
name_in_row : (rows : List ReasonRow) (number : ℕ)
    → option_map name_of (find (λ row. number == number_of_reason row.reason) rows) ≡ name_in (reasons_of rows) number
name_in_row [] number = refl
name_in_row (row ∷ rows) number = by (name_in_row rows number) (number == number_of_reason row.reason)
  where
    by : option_map name_of (find (λ r. number == number_of_reason r.reason) rows) ≡ name_in (reasons_of rows) number
        → (b : Bool) → option_map name_of (if b then Some row else find (λ r. number == number_of_reason r.reason) rows)
        ≡ (if b then Some (name_of row) else name_in (reasons_of rows) number)
    by rest true = refl
    by rest false = rest

-- the row that is found for a number has the name of the reason
pub name_found : (rows : List ReasonRow) (number : ℕ) (found : Option ReasonRow)
    → found ≡ find (λ row. number == number_of_reason row.reason) rows → reasons_of rows ≡ reasons
    → option_map name_of found ≡ reason_name number
name_found rows number found is same = ap (option_map name_of) is
    ∙ name_in_row rows number ∙ ap (λ (table : List (ℕ × List ℕ)). name_in table number) same
