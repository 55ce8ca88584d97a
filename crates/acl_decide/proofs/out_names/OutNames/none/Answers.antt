use Rattle.std.proofs.Common.{subst, sym, ◌≡◌, ◌+◌, ◌++◌, ◌∷◌, ◌∙◌, List, [], take, ap}
use Rattle.std.specs.List.{AllZip}
use Rattle.std.proofs.lemmas.List.{take_more}
use Rattle.acl_nfs4.specs.declared.ace.AceRef.{AceRef}
use Rattle.acl_decide.specs.internal.OutNames.{HasNameNumber}
use Rattle.acl_decide.proofs.NameNumbers.{numbers_more}
use Rattle.acl_decide.proofs.out_names.OutNames.none.Goals as goal

pub loop-ace-preserved : goal.loop-ace-preserved
loop-ace-preserved c =
    let i = c.loop-ace.ace-index in
    let item = c.ace-item.result in
    let marked = c.in_ok-number_at.ensures in
    let so_far : take (i + 1) c.args.aces.now ≡ take i c.args.aces.now ++ item ∷ [] =
    take_more c.args.aces.now i item c.loop-ace-test.true
    ∙ ap (λ (a : AceRef). take i c.args.aces.now ++ a ∷ []) (sym c.ace-item.is) in (
      marked.numbered c.loop-ace.invariant.0,
      subst (λ (aces : List AceRef). AllZip (HasNameNumber c.number_at.new.known) aces
          c.push.new.self.items) (sym so_far) (rw c.in_ok-push.ensures.items
          (numbers_more c.loop-ace.known c.number_at.new.known item c.in_ok-number_at.field-0 (take i c.args.aces.now)
          c.loop-ace.numbers.items marked c.loop-ace.invariant.1)),
    )
