use Rattle.std.proofs.Common.{◌+◌, ap, arith, length, List, Option, subst, sym, ℕ, ◌∙◌}
use Rattle.std.proofs.lemmas.List.{length-map}
use Rattle.std.specs.Prelude.{is_some}
use Rattle.std.specs.FinMap as set
use Rattle.acl_posix.specs.Entries.{pair_of}
use Rattle.acl_posix.specs.Tag.{Tag, tag_of}
use Rattle.acl_posix_contain.specs.internal.Limits.{HaveKeptEntries}
use Rattle.acl_posix_contain.proofs.Entries.{entry_there, tag_there}
use Rattle.acl_posix_contain.proofs.Keeping.{all_kept, first_kept, next_kept}
use Rattle.acl_posix_contain.proofs.restricting.take_excess.Goals as goal

pub put-requires : goal.put-requires
put-requires c =
    c.loop-entry.invariant.tags (tag_of c.entry-item.result.tag)
    ∙ ap (λ (o : Option ℕ). is_some o) (entry_there c.args.acl.now c.args.entries.now c.loop-entry.entry-index
    c.entry-item.result c.requires.entries c.loop-entry-test.true c.entry-item.is)

pub loop-entry-init : goal.loop-entry-init
loop-entry-init c =
    subst (HaveKeptEntries c.args.acl.now c.args.bound.now 0) (sym c.requires.copy)
    (first_kept c.args.acl.now c.args.bound.now)

pub loop-entry-preserved : goal.loop-entry-preserved
loop-entry-preserved c =
    let E = c.args.acl.now in
    let es = c.args.entries.now in
    let place = c.loop-entry.entry-index in
    let e = c.entry-item.result in
    subst (HaveKeptEntries E c.args.bound.now (place + 1)) (sym c.put.ensures)
    (next_kept E c.args.bound.now c.loop-entry.kept place (tag_of e.tag) e.perm.bits c.kept.result.bits
    (entry_there E es place e c.requires.entries c.loop-entry-test.true c.entry-item.is)
    (tag_there E es place e c.requires.entries c.loop-entry-test.true c.entry-item.is) c.kept.ensures
    c.loop-entry.invariant)

pub returns : goal.returns
returns c =
    all_kept c.args.acl.now c.args.bound.now c.loop-entry.kept c.loop-entry.entry-index (omega (
      arith,
      c.loop-entry-test.false,
      length-map (set.entries c.args.acl.now) (λ (x : Tag × ℕ). x.0),
      ap (λ (ps : List (Tag × ℕ)). length ps) c.requires.entries,
      length-map c.args.entries.now pair_of,
    )) c.loop-entry.invariant
