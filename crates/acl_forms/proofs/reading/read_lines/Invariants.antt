use Rattle.std.proofs.Common.{[]}
use Rattle.std.specs.List.{flat_map}
use Rattle.acl_posix.proofs.Exports.{size_left}
use Rattle.acl_forms.specs.internal.TextReading.{RestFits}
use Rattle.acl_forms.specs.Texts.{items_in, line_items}
use Rattle.acl_forms.proofs.EntryCuts.{lines_left, ReadsTo}
use Rattle.acl_forms.proofs.reading.read_lines.Given as goal

-- what is left gives what the whole text gives
abbrev pub invariant-loop-rest : goal.invariant-loop-rest
invariant-loop-rest g l = record {
  reads : ReadsTo (g.F.TextForm.rules l.form)
      (g.F.TextForm.Holds l.list) [] (items_in (g.F.TextForm.rules l.form) l.text)
      (flat_map (line_items (g.F.TextForm.rules l.form)) (lines_left l.rest));
  fits : RestFits l.rest;
}

abbrev pub decreases-loop-rest : goal.decreases-loop-rest
decreases-loop-rest g l = size_left l.rest
