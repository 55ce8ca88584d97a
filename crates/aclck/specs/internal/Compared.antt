-- The text of a comparison of lists (this library's own).
use Rattle.std.specs.Prelude.{List, ℕ, Option, Some, None}
use Rattle.acl_normal.specs.Difference.{situation_of}
use Rattle.acl_normal.specs.declared.comparison.Difference.{Difference}
use Rattle.aclck.specs.commands.Compare.{difference_text, same_text}

-- the text of a difference, if there is one
abbrev pub compared_text : Option Difference → List ℕ
compared_text None = same_text
compared_text (Some d) = difference_text (situation_of d) d.bit.bits d.first_grants
