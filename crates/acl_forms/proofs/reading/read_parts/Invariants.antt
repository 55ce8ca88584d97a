use Rattle.std.proofs.Common.{List}
use Rattle.acl_perm.specs.Lines.{span_of}
use Rattle.acl_posix.proofs.Exports.{size_left}
use Rattle.acl_forms.specs.internal.TextReading.{RestFits}
use Rattle.acl_forms.specs.Texts.{cut_entries}
use Rattle.acl_forms.proofs.EntryCuts.{items_in_parts, parts_left, ReadsTo}
use Rattle.acl_forms.proofs.reading.read_parts.Given as goal

-- what is left gives what the whole line gives
abbrev pub invariant-loop-rest : goal.invariant-loop-rest
invariant-loop-rest g l = record {
  reads : (all : List g.F.TextForm.Item) → g.F.TextForm.Holds l.fn.list all → ReadsTo (g.F.TextForm.rules l.form)
      (g.F.TextForm.Holds l.list) all
      (items_in_parts (g.F.TextForm.rules l.form) (cut_entries (g.F.TextForm.rules l.form) (span_of l.fn.line)))
      (items_in_parts (g.F.TextForm.rules l.form) (parts_left (g.F.TextForm.rules l.form) l.rest));
  fits : RestFits l.rest;
}

abbrev pub decreases-loop-rest : goal.decreases-loop-rest
decreases-loop-rest g l = size_left l.rest
