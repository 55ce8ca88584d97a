use Rattle.std.proofs.Common.{◌≡◌, ◌≤◌, ◌<◌, List, None, Some, ap, length, rules, subst, sym, arith, ◌∙◌}
use Rattle.std.specs.Prelude.{filter, not}
use Rattle.std.specs.List.{find}
use Rattle.std.specs.Option.{option_copied}
use Rattle.std.specs.Ordering.{eq_by_cmp}
use Rattle.std.proofs.lemmas.Fn.{filter_same}
use Rattle.acl_posix.specs.Tag.{tag_cmp, tag_of}
use Rattle.acl_to_posix.specs.Pruning.{Prunes, none}
use Rattle.acl_to_posix.specs.ToPosix.{size_of}
use Rattle.acl_to_posix.specs.internal.PruningBody.{AreJudged, can_go, shape_left}
use Rattle.acl_to_posix.specs.declared.judged_entry.JudgedEntry.{JudgedEntry}
use Rattle.acl_to_posix.proofs.prunings.ShapesLeft.{is_kept, shorter}
use Rattle.acl_to_posix.proofs.prunings.PruneSteps.{fewer, goes, none_goes, step_before, taken_tag}
use Rattle.acl_to_posix.proofs.pruning.prune.Goals as goal

-- the entry that was found
found : (c : goal.After-retain) → find (can_go c.loop-name.left.items) c.loop-name.left.items ≡ Some c.in-Some.name.now
found c = ap (λ (es : List JudgedEntry). find (can_go es) es) (sym c.deref.ensures.value) ∙ sym c.first_to_go.ensures
    ∙ ap option_copied c.in-Some.is

-- the entries that are left
kept : (c : goal.After-retain)
    → c.retain.new.self.items ≡ filter (is_kept (tag_of c.in-Some.name.now.tag)) c.loop-name.left.items
kept c = filter_same _ (λ (e : JudgedEntry). not (eq_by_cmp tag_cmp (tag_of e.tag) (tag_of c.in-Some.name.now.tag))) _
    (λ e b g called. search rules) _ _ c.retain.ensures.filtered

pub loop-name-smaller : goal.loop-name-smaller
loop-name-smaller c = subst (λ (es : List JudgedEntry). length es < length c.loop-name.left.items) (sym (kept c))
    (shorter (can_go c.loop-name.left.items) (is_kept (tag_of c.in-Some.name.now.tag)) c.loop-name.left.items
    c.in-Some.name.now (found c) (taken_tag c.in-Some.name.now))

pub loop-name-preserved : goal.loop-name-preserved
loop-name-preserved c =
    let (few, steps) = c.loop-name.invariant in
    let left = c.loop-name.left.items in
    let name = c.in-Some.name.now in
    let less = fewer left name (found c) in (
      subst (λ (es : List JudgedEntry). size_of (shape_left es) ≤ size_of (shape_left c.args.left.now.items))
          (sym (kept c)) (omega (arith, few, less)),
      λ list columns cs js. let (now, before) = steps list columns cs js in (
        subst (AreJudged columns) (sym (kept c)) (goes list columns left name cs now (found c)).rest,
        λ two rest. before two (step_before list columns left name two cs now (found c)
            (subst (λ (es : List JudgedEntry). Prunes list (shape_left es) two) (kept c) rest)),
      ),
    )

pub returns-clause-pruned : goal.returns-clause-pruned
returns-clause-pruned c = λ list columns cs js.
    let left = c.loop-name.left.items in
    let (now, before) = c.loop-name.invariant.1 list columns cs js in
    let nothing : find (can_go left) left ≡ None =
    ap (λ (es : List JudgedEntry). find (can_go es) es) (sym c.deref.ensures.value) ∙ sym c.first_to_go.ensures
    ∙ ap option_copied c.in_default.is in
    record {
      steps = before (shape_left left) (none (shape_left left));
      last = none_goes list columns left cs now nothing;
    }
