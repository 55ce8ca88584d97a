-- `create`: its words, and what it makes of an input (this library's own, over acl(5), "OBJECT CREATION AND DEFAULT
-- ACLs").
use Rattle.std.specs.Prelude.{◌∷◌, [], Bool, List, ℕ, Option, codes}
use Rattle.std.specs.Option.{option_and_then, option_map}
use Rattle.clap.specs.Words.{Row}
use Rattle.acl_posix.specs.Names.{Table}
use Rattle.acl_posix.specs.Programs.{created_text}
use Rattle.aclck.specs.Line.{any_words, is_given, value_of, words_of}
use Rattle.aclck.specs.NameWords.{names_value}
use Rattle.aclck.specs.Options.{dir_term, mode_term, umask_term}
use Rattle.aclck.specs.Values.{mode_value}
use Rattle.aclck.specs.Answer.{Answer}
use Rattle.aclck.specs.PosixAnswer.{WritesAnswer}
use Rattle.aclck.specs.declared.task.values.Create.{Create}
use Rattle.aclck.specs.Definition.{Definition, on_text}

-- ---- words

-- the mode and the umask, whether the new object is a directory, and which names a text may have
pub record CreateValues : Type 0 where
  pub mode : ℕ
  pub umask : ℕ
  pub is_directory : Bool
  pub names : Table

-- the values, if all are there
abbrev pub create_values : Option ℕ → Option ℕ → Bool → Option Table → Option CreateValues
create_values mode umask is_directory names = option_and_then (λ m. option_and_then (λ u. option_map (λ n.
    record { mode = m; umask = u; is_directory = is_directory; names = n }) names) umask) mode

-- the values that the rows of a parse give
unfoldable pub create_in : List Row → Option CreateValues
create_in rows = create_values (option_and_then mode_value (value_of mode_term rows))
    (option_and_then mode_value (value_of umask_term rows)) (is_given dir_term rows) (names_value (words_of rows))

-- the values that the program holds
abbrev pub create_held : Create → CreateValues
create_held v = record { mode = v.mode.bits; umask = v.umask.bits; is_directory = v.dir; names = v.names }

-- ---- the answer

-- the text of the new object, or a fault that the input has
abbrev pub CreateAnswer : CreateValues → List ℕ → Answer → Type 0
CreateAnswer v = WritesAnswer v.names (created_text v.mode v.umask v.is_directory)

-- the command, `create --mode OCT --umask OCT [--dir] [NAMES..]`
abbrev pub create : Definition
create = on_text (codes "create") (mode_term ∷ umask_term ∷ dir_term ∷ any_words ∷ []) create_in CreateAnswer
