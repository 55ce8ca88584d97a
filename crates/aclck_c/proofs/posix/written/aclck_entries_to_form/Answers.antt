use Rattle.std.proofs.Common.{◌≡◌, ℕ, List, [], Result, Err, Ok, rules, Some}
use Rattle.std.specs.Prelude.{⊤, IfErr, IsSome}
use Rattle.std.specs.Global.{Vec}
use Rattle.acl_posix.specs.declared.raw_entry.RawEntry.{RawEntry}
use Rattle.aclck_c.specs.Names.{AreGoodNames}
use Rattle.aclck_c.specs.PosixWriting.{AreRefusedForNumber, MakesPosixValue, MakesPosixValueIn, written_form_of_number}
use Rattle.aclck_c.specs.declared.failure.Failure.{Failure}
use Rattle.aclck_c.specs.declared.failure.Failure.TheVariants as failure
use Rattle.aclck_c.specs.declared.posix.names.RawName.{RawName}
use Rattle.aclck_c.specs.declared.posix.written.WrittenForm.{WrittenForm}
use Rattle.aclck_c.specs.internal.Failures.{IsFailure}
use Rattle.aclck_c.specs.internal.FormFailures.{IsWritingFailure}
use Rattle.aclck_c.proofs.Endings.{in_words, writes_of_file}
use Rattle.aclck_c.proofs.posix.written.aclck_entries_to_form.Goals as goal

-- the failure of entries in a form is one in the form of the number
in_number : (number : ℕ) (form : WrittenForm) (names : List RawName) (raws : List RawEntry)
    (made : Result (Vec ℕ) Failure) → written_form_of_number number ≡ Some form
    → IfErr made (IsWritingFailure form names raws)
    → IfErr made (IsFailure (AreGoodNames names) (AreRefusedForNumber number names raws) ⊤)
in_number number form names raws (Ok made) is h = tt
in_number number form names raws (Err failure.BadArgument) is h = h
in_number number form names raws (Err (failure.Refused shown)) is h = record { form = form; is_form = is; holds = h }
in_number number form names raws (Err failure.Memory) is h = h

pub returns : goal.returns
returns c =
    let form = c.in-Some.form in
    let number = c.args.form in
    let names = c.args.names.now.names in
    let raws = c.args.entries.now in
    let is : written_form_of_number number ≡ Some form = search rules in
    let made = in_words (MakesPosixValue form names.now raws) (MakesPosixValueIn number names.now raws) _
    (λ _ h. record { form = form; is_form = is; holds = h }) c.value_of.ensures.ok in
    let w = writes_of_file {given = record { text = record { ref_ptr = names.ref_ptr; now = [] }; names = names }}
    {IsRefused = AreRefusedForNumber number names.now raws} {AreGood = IsSome (written_form_of_number number)}
    {Means = MakesPosixValueIn number names.now raws} (λ _ h. h.holds.named) (λ _ h. h.holds.named) (search rules) made
    (in_number number form names.now raws _ is c.value_of.ensures.err) c.answer.ensures in
    record {
      bytes = w.bytes;
      input = record {
        refusal = w.input.refusal;
        bad = w.input.arguments.bad;
        good = w.input.arguments.good;
        named = w.input.arguments.named;
        known = w.input.known;
      };
    }
