use Rattle.acl_posix.proofs.Common.{ap, mask, sym, tag_of, ◌∙◌}
use Rattle.std.specs.FinMap as set
use Rattle.acl_posix.proofs.sorted.Lists.{entry_found}
use Rattle.acl_posix.proofs.acl.PosixAcl.mask.Goals as goal

pub returns-in-Mask : goal.returns-in-Mask
returns-in-Mask c =
    let lookup = c.in-Some.ensures.lookup in
    sym (ap (λ E. set.get E mask) (sym c.self.view_is)
    ∙ entry_found c.self.inside.entries mask _ c.as_slice-entries.result.now c.in-Some.entry.now
    c.as_slice-entries.ensures.entries lookup.3.0 lookup.1 (ap tag_of c.in-Mask.is))
