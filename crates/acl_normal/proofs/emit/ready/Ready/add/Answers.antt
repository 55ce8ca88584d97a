use Rattle.std.proofs.Common.{◌≡◌, ◌≢◌, ◌<◌, length, heap_items, slice_index_or, ◌∙◌, sym, subst, refl}
use Rattle.std.proofs.lemmas.Grind.{get_or_default_zero}
use Rattle.acl_normal.proofs.emit.Heaped.{heap_marked, heap_pushed}
use Rattle.acl_normal.proofs.emit.Marks.{added_some}
use Rattle.acl_normal.proofs.emit.ready.Ready.add.Goals as goal
use Rattle.acl_normal.proofs.emit.ready.Ready.add.Goals.{then-bits-eq0+in_ok-push, else-bits-eq0}

pub invariant_of-self-2 : goal.invariant_of-self-2
invariant_of-self-2 c =
    let within : c.args.number < length c.self.inside.bits.items =
    subst (λ v. c.args.number < length v) (sym c.self.view_is) c.requires in
    let was : c.index-bits.result.now ≡ slice_index_or c.self.inside.bits.items c.args.number 0 =
    c.index-bits.ensures ∙ get_or_default_zero c.self.inside.bits.items c.args.number c.index-bits.result.now within in
    let full : c.with.result ≢ 0 =
    λ none. added_some c.index-bits.result.now c.args.right.bit (sym c.with.ensures ∙ none) in
    elim c.if-bits-eq0.branch [
      | then-bits-eq0+in_ok-push w ↦ rw w.self-inside-is (heap_pushed c.self.inside.bits.items _
          (heap_items c.self.inside.numbers) (heap_items w.push.new.self) (record { 0 = c.args.number }) c.args.number
          c.with.result c.self.invariant (sym was ∙ w.if-bits-eq0.true) within refl
          w.in_ok-push.ensures.permutation w.in_ok-push.ensures.heap_order full refl)
      | else-bits-eq0 w ↦ rw w.self-inside-is (heap_marked c.self.inside.bits.items _
          (heap_items c.self.inside.numbers) c.args.number c.with.result c.self.invariant
          (λ none. w.if-bits-eq0.false (was ∙ none)) full refl)
    ]
