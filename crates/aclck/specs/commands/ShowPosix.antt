-- `show-posix`: its words, and what it makes of an input (this library's own, over acl(5), "ACL TEXT FORMS").
use Rattle.std.specs.Prelude.{◌∷◌, [], List, ℕ, Option, Some, None, codes, if◌then◌else◌}
use Rattle.std.specs.Option.{option_and_then}
use Rattle.std.specs.Str.{bytes_eq}
use Rattle.clap.specs.Words.{Row, Text}
use Rattle.acl_posix.specs.Names.{Table}
use Rattle.acl_posix.specs.Programs.{file_text}
use Rattle.aclck.specs.Line.{any_words, value_of, words_of}
use Rattle.aclck.specs.NameWords.{names_value}
use Rattle.aclck.specs.Options.{form_term}
use Rattle.aclck.specs.Values.{of_both}
use Rattle.aclck.specs.Answer.{Answer}
use Rattle.aclck.specs.PosixAnswer.{WritesAnswer}
use Rattle.acl_posix.specs.declared.form.AclTextForm.{AclTextForm}
use Rattle.acl_posix.specs.declared.form.AclTextForm.TheVariants as form
use Rattle.aclck.specs.declared.task.values.ShowPosix.{ShowPosix}
use Rattle.aclck.specs.Definition.{Definition, on_text}

-- ---- words

-- the form, and which names a text may have
pub record ShowPosixValues : Type 0 where
  pub form : AclTextForm
  pub names : Table

-- the form that a value of `--form` names
unfoldable pub form_value : Text → Option AclTextForm
form_value text = if bytes_eq text (codes "canonical") then Some form.Canonical
    else (if bytes_eq text (codes "shown") then Some form.Shown
    else (if bytes_eq text (codes "short") then Some form.Short else None))

-- the values that the rows of a parse give
unfoldable pub show_posix_in : List Row → Option ShowPosixValues
show_posix_in rows = of_both (λ f n. record { form = f; names = n })
    (option_and_then form_value (value_of form_term rows)) (names_value (words_of rows))

-- the values that the program holds
abbrev pub show_posix_held : ShowPosix → ShowPosixValues
show_posix_held v = record { form = v.form; names = v.names }

-- ---- the answer

-- the text in the form, or a fault that the input has
abbrev pub ShowPosixAnswer : ShowPosixValues → List ℕ → Answer → Type 0
ShowPosixAnswer v = WritesAnswer v.names (file_text v.form)

-- the command, `show-posix [--form canonical|shown|short] [NAMES..]`
abbrev pub show_posix : Definition
show_posix = on_text (codes "show-posix") (form_term ∷ any_words ∷ []) show_posix_in ShowPosixAnswer
