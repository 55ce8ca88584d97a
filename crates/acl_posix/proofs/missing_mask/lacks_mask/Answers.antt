use Rattle.acl_posix.proofs.Common.{ap, Bool, Entry, list_any, not, refl, sym, tag_of, ◌&&◌, ◌∙◌}
use Rattle.acl_posix.specs.MissingMask.{is_mask}
use Rattle.acl_posix.proofs.missing_mask.Lacking.{lacks_from}
use Rattle.acl_posix.proofs.missing_mask.lacks_mask.Goals as goal

pub returns-then-any_entry_named : goal.returns-then-any_entry_named
returns-then-any_entry_named c =
    ap (λ (b : Bool). b && not c.any_mask.result) (sym c.if-any_entry_named.true)
    ∙ lacks_from c.args.entries.now _ _ c.any_entry_named.ensures c.any_mask.ensures

pub returns-else-any_entry_named : goal.returns-else-any_entry_named
returns-else-any_entry_named c =
    let some = list_any (λ (e : Entry). is_mask (tag_of e.tag)) c.args.entries.now in
    c.if-any_entry_named.false ∙ ap (λ (b : Bool). b && not some) (sym c.if-any_entry_named.false)
    ∙ lacks_from c.args.entries.now _ some c.any_entry_named.ensures refl
