use Rattle.std.proofs.Common.{◌≡◌, heap_items, slice_index_or, ◌∙◌, sym, subst, arith, refl}
use Rattle.std.proofs.lemmas.Grind.{get_or_default_zero}
use Rattle.acl_normal.specs.internal.emit.Ready.{IsLeastReady}
use Rattle.acl_normal.proofs.emit.Heaped.{heap_popped, popped_least, popped_some}
use Rattle.acl_normal.proofs.emit.Marks.{number_within}
use Rattle.acl_normal.proofs.emit.ready.Ready.pop.Goals as goal

pub index-bits-requires : goal.index-bits-requires
index-bits-requires c = omega (
  arith,
  number_within c.self.inside.bits.items c.in_ok-number.field-0.0
      (popped_some c.self.invariant refl c.in_ok-number.ensures.permutation),
  c.self.inside.bits.ok,
)

pub index_mut-requires : goal.index_mut-requires
index_mut-requires c = omega (
  arith,
  number_within c.self.inside.bits.items c.in_ok-number.field-0.0
      (popped_some c.self.invariant refl c.in_ok-number.ensures.permutation),
  c.self.inside.bits.ok,
)

pub invariant_of-self-2 : goal.invariant_of-self-2
invariant_of-self-2 c =
    heap_popped c.self.inside.bits.items _ (heap_items c.self.inside.numbers) (heap_items c.pop.new.self)
    c.in_ok-number.field-0 c.in_ok-number.field-0.0 c.self.invariant refl c.in_ok-number.ensures.permutation
    c.in_ok-number.ensures.heap_order refl

pub returns-clause-least : goal.returns-clause-least
returns-clause-least c =
    let n = c.in_ok-number.field-0.0 in
    let items = c.self.inside.bits.items in
    let some = popped_some c.self.invariant refl c.in_ok-number.ensures.permutation in
    let found : c.index-bits.result.now ≡ slice_index_or items n 0 =
    c.index-bits.ensures ∙ get_or_default_zero items n c.index-bits.result.now (number_within items n some) in
    subst (λ v. IsLeastReady v n c.index-bits.result.now) c.self.view_is (record {
      is = found;
      some = λ none. some (sym found ∙ none);
      least =
          λ m other. popped_least items (heap_items c.self.inside.numbers) (heap_items c.pop.new.self)
          c.in_ok-number.field-0 n m c.self.invariant refl c.in_ok-number.ensures.heap_order other;
    })
