-- `calc-mask`: what it makes of an input (this library's own, over POSIX.1e draft 17, section 23.4).
use Rattle.std.specs.Prelude.{List, ℕ, codes}
use Rattle.acl_posix.specs.Names.{Table}
use Rattle.acl_posix.specs.Programs.{masked_text}
use Rattle.aclck.specs.Answer.{Answer}
use Rattle.aclck.specs.PosixAnswer.{WritesAnswer}
use Rattle.aclck.specs.Definition.{Definition, of_names}

-- the text with the mask calculated, or a fault that the input has
abbrev pub CalcMaskAnswer : Table → List ℕ → Answer → Type 0
CalcMaskAnswer names = WritesAnswer names masked_text

-- the command, `calc-mask [NAMES..]`
abbrev pub calc_mask : Definition
calc_mask = of_names (codes "calc-mask") CalcMaskAnswer
