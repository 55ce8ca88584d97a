use Rattle.std.proofs.Common.{◌≡◌, map, take}
use Rattle.clap.specs.Words.{app_of}
use Rattle.aclck.specs.Line.{app_from}
use Rattle.aclck.specs.internal.Held.{term}
use Rattle.aclck.proofs.line.command_from.Given as goal

abbrev pub invariant-loop-argument : goal.invariant-loop-argument
invariant-loop-argument l = app_of l.command ≡ app_from l.name (map term (take l.argument-index l.table))
