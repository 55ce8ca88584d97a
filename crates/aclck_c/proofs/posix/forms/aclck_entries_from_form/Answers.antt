use Rattle.std.proofs.Common.{◌≡◌, ℕ, Result, Err, Ok, rules, Some}
use Rattle.std.specs.Prelude.{⊤, IfErr}
use Rattle.std.specs.Global.{Vec}
use Rattle.acl_posix.specs.declared.raw_entry.RawEntry.{RawEntry}
use Rattle.aclck_c.specs.Names.{AreGoodNames}
use Rattle.aclck_c.specs.PosixForms.{IsRefusedPosixValueIn, ReadsPosixValue, ReadsPosixValueIn, posix_form_of_number}
use Rattle.aclck_c.specs.declared.failure.Failure.{Failure}
use Rattle.aclck_c.specs.declared.failure.Failure.TheVariants as failure
use Rattle.aclck_c.specs.declared.posix.file.RawPosixText.{RawPosixText}
use Rattle.aclck_c.specs.declared.posix.forms.PosixForm.{PosixForm}
use Rattle.aclck_c.specs.internal.Failures.{IsFailure}
use Rattle.aclck_c.specs.internal.FormFailures.{IsPosixValueFailure}
use Rattle.aclck_c.proofs.Endings.{in_words, writes_of_file}
use Rattle.aclck_c.proofs.FileFailures.{good_names}
use Rattle.aclck_c.proofs.PosixForms.{refused_names}
use Rattle.aclck_c.proofs.posix.forms.aclck_entries_from_form.Goals as goal

-- the failure of a value in a form is one in the form of the number
in_number : (number : ℕ) (form : PosixForm) (given : RawPosixText) (made : Result (Vec RawEntry) Failure)
    → posix_form_of_number number ≡ Some form → IfErr made (IsPosixValueFailure form given)
    → IfErr made (IsFailure (AreGoodNames given.names.now) (IsRefusedPosixValueIn number given) ⊤)
in_number number form given (Ok made) is h = tt
in_number number form given (Err failure.BadArgument) is h = h
in_number number form given (Err (failure.Refused shown)) is h = record { form = form; is_form = is; holds = h }
in_number number form given (Err failure.Memory) is h = h

pub returns : goal.returns
returns c =
    let form = c.in-Some.form in
    let given = c.args.value.now in
    let number = c.args.form in
    let is : posix_form_of_number number ≡ Some form = search rules in
    let made = in_words (ReadsPosixValue form given) (ReadsPosixValueIn number given) _
    (λ _ h. record { form = form; is_form = is; holds = h }) c.entries_of.ensures.ok in
    writes_of_file (λ _ h. good_names given.names.now h.holds.table h.holds.named) (refused_names number given)
    (search rules) made (in_number number form given _ is c.entries_of.ensures.err) c.answer.ensures
