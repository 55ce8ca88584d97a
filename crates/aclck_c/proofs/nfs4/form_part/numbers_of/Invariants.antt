use Rattle.std.specs.Prelude.{◌≡◌, map, take}
use Rattle.aclck_c.specs.FormParts.{raw_left_out}
use Rattle.aclck_c.proofs.nfs4.form_part.numbers_of.Given as goal

-- the ACEs so far
abbrev pub invariant-loop-ace : goal.invariant-loop-ace
invariant-loop-ace l = l.raws.items ≡ map raw_left_out (take l.ace-index l.left_out)
