-- What the program holds of a command: its arguments (this library's own).
use Rattle.std.specs.Prelude.{◌∷◌, [], List, Bool, false, if◌then◌else◌, not, true}
use Rattle.std.specs.List.{list_any}
use Rattle.aclck.specs.Line.{Term, any_words, default, flag, optional, required}
use Rattle.aclck.specs.declared.line.Argument.{Argument}
use Rattle.aclck.specs.declared.line.Argument.TheVariants as argument

-- an argument that the program holds
abbrev pub term : Argument → Term
term (argument.Required name) = required name.now
term (argument.Optional name) = optional name.now
term (argument.Default name value) = default name.now value.now
term (argument.Flag name) = flag name.now
term argument.Words = any_words

-- the argument takes words
abbrev pub is_rest : Term → Bool
is_rest (required name) = false
is_rest (optional name) = false
is_rest (default name value) = false
is_rest (flag name) = false
is_rest any_words = true

-- at most one argument takes words
abbrev pub is_sound : List Term → Bool
is_sound [] = true
is_sound (t ∷ ts) = if is_rest t then not (list_any is_rest ts) else is_sound ts
