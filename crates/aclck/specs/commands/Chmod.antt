-- `chmod`: its words, and what it makes of an input (this library's own, over acl(5), "CORRESPONDENCE BETWEEN ACL
-- ENTRIES AND FILE PERMISSION BITS").
use Rattle.std.specs.Prelude.{◌∷◌, [], List, ℕ, Option, codes}
use Rattle.std.specs.Option.{option_and_then}
use Rattle.clap.specs.Words.{Row}
use Rattle.acl_posix.specs.Names.{Table}
use Rattle.acl_posix.specs.Programs.{chmod_text}
use Rattle.aclck.specs.Line.{any_words, value_of, words_of}
use Rattle.aclck.specs.NameWords.{names_value}
use Rattle.aclck.specs.Options.{mode_term}
use Rattle.aclck.specs.Values.{mode_value, of_both}
use Rattle.aclck.specs.Answer.{Answer}
use Rattle.aclck.specs.PosixAnswer.{WritesAnswer}
use Rattle.aclck.specs.declared.task.values.Chmod.{Chmod}
use Rattle.aclck.specs.Definition.{Definition, on_text}

-- ---- words

-- the mode, and which names a text may have
pub record ChmodValues : Type 0 where
  pub mode : ℕ
  pub names : Table

-- the values that the rows of a parse give
unfoldable pub chmod_in : List Row → Option ChmodValues
chmod_in rows = of_both (λ m n. record { mode = m; names = n })
    (option_and_then mode_value (value_of mode_term rows)) (names_value (words_of rows))

-- the values that the program holds
abbrev pub chmod_held : Chmod → ChmodValues
chmod_held v = record { mode = v.mode.bits; names = v.names }

-- ---- the answer

-- the text with the mode set, or a fault that the input has
abbrev pub ChmodAnswer : ChmodValues → List ℕ → Answer → Type 0
ChmodAnswer v = WritesAnswer v.names (chmod_text v.mode)

-- the command, `chmod --mode OCT [NAMES..]`
abbrev pub chmod : Definition
chmod = on_text (codes "chmod") (mode_term ∷ any_words ∷ []) chmod_in ChmodAnswer
