use Rattle.acl_normal.proofs.Common.{[], Ace, IfSome, List, plain_key, ◌++◌, ◌∷◌, ap, arith, drop, emitted_ace, emitted_aces, has_bit, not, option_map, refl, subst, sym, take, take_all, ◌&&◌, ◌+◌, ◌∙◌, ◌≡◌}
use Rattle.acl_normal.specs.internal.Needed.{NotesLater, opposes}
use Rattle.acl_normal.specs.internal.emit.Short.{AreLeftOf, ComesFirst, IsFirstLeft, IsLeftOf}
use Rattle.acl_normal.specs.internal.emit.Ready.{emitted}
use Rattle.acl_normal.proofs.emit.FirstOf.{first_joined, first_kept, first_past, free_is, noted_more, noted_none, noted_past}
use Rattle.acl_normal.proofs.emit.ShortTurns.{left_at, left_flags, left_key, seen_more, split_there}
use Rattle.acl_normal.proofs.reduce.Unneeded.{AreLater}
use Rattle.acl_normal.proofs.emit.short.first_of.Goals as goal
use Rattle.acl_normal.proofs.emit.short.first_of.Goals.{then-free-ne0, then-item-ne0, else-free-ne0, else-item-ne0}

pub loop-item-init : goal.loop-item-init
loop-item-init c = record {
  first = λ b. refl;
  before = noted_none c.no_later-before.result c.no_later-before.ensures;
  row = λ xs each. tt;
}

pub lesser-requires : goal.lesser-requires
lesser-requires c =
    let xs = c.requires.rows.0 in
    let each = c.requires.rows.1 in
    let own = left_at xs c.args.left.now c.loop-item.item-index c.item-item.result each (omega arith) c.item-item.is in
    (xs, c.loop-item.invariant.row xs each, record { named = own.named; row = own.row })

pub loop-item-preserved : goal.loop-item-preserved
loop-item-preserved c =
    let whole = c.args.left.now in
    let i = c.loop-item.item-index in
    let y = c.item-item.result in
    let is = left_at c.requires.rows.0 whole i y c.requires.rows.1 (omega arith) c.item-item.is in
    let flags = left_flags y is in
    let key = left_key y is in
    let seen = emitted_aces (take i whole) in
    let more = seen_more whole i y (omega arith) c.item-item.is in
    let so = c.loop-item.invariant in
    elim c.if-item-ne0.branch [
      | then-item-ne0 w ↦
          let free = free_is c.loop-item.before (emitted_aces whole) seen (emitted_aces (drop (i + 1) whole))
          (emitted_ace y) w.difference-free.result.bits (split_there whole i y (omega arith) c.item-item.is)
          c.requires.once flags so.before
          (λ b. w.difference-free.ensures.meaning b
          ∙ ap (λ t. has_bit y.mask.bits b && not t)
          (w.opposite.ensures b ∙ ap (λ k. opposes c.loop-item.before k b) (sym key))) in
          let joined : IsFirstLeft (seen ++ emitted_ace y ∷ []) (option_map emitted_ace w.if-free-ne0.first) =
          elim w.if-free-ne0.branch [
            | then-free-ne0 v ↦ rw v.first-is (subst (ComesFirst (seen ++ emitted_ace y ∷ []))
                (sym v.lesser.ensures.list)
                (first_joined seen (emitted_ace y) (emitted (plain_key y.key) w.difference-free.result.bits) flags refl
                free flags (λ none. v.if-free-ne0.true none) (option_map emitted_ace c.loop-item.first) so.first))
            | else-free-ne0 v ↦ rw v.first-is (first_kept seen (emitted_ace y)
                (emitted (plain_key y.key) w.difference-free.result.bits) flags refl free
                (omega (arith, v.if-free-ne0)) (option_map emitted_ace c.loop-item.first) so.first)
          ] in
          let rows : (xs : List Ace) → AreLeftOf xs whole → IfSome w.if-free-ne0.first (IsLeftOf xs) =
          λ xs each. elim w.if-free-ne0.branch [
            | then-free-ne0 v ↦ rw v.first-is (v.lesser.ensures.row xs (so.row xs each)
                (let own = left_at xs whole i y each (omega arith) c.item-item.is in
                record { named = own.named; row = own.row }))
            | else-free-ne0 v ↦ rw v.first-is (so.row xs each)
          ] in
          rw (w.first-is, w.before-is) (record {
            first = subst (λ v. IsFirstLeft v (option_map emitted_ace w.if-free-ne0.first)) (sym more) joined;
            before = subst (AreLater w.noted-before.result) (sym more)
                (noted_more c.loop-item.before w.noted-before.result seen (emitted_ace y) flags so.before
                (subst (λ k. NotesLater k y.mask.bits c.loop-item.before w.noted-before.result) (sym key)
                w.noted-before.ensures));
            row = rows;
          })
      | else-item-ne0 w ↦
          let none : y.mask.bits ≡ 0 = omega (arith, w.if-item-ne0) in
          rw (w.first-is, w.before-is) (record {
            first = subst (λ v. IsFirstLeft v (option_map emitted_ace c.loop-item.first)) (sym more)
                (first_past seen (emitted_ace y) flags none (option_map emitted_ace c.loop-item.first) so.first);
            before = subst (AreLater c.loop-item.before) (sym more)
                (noted_past c.loop-item.before seen (emitted_ace y) flags none so.before);
            row = so.row;
          })
    ]

pub returns-clause-first : goal.returns-clause-first
returns-clause-first c =
    subst (λ v. IsFirstLeft (emitted_aces v) (option_map emitted_ace c.loop-item.first))
    (take_all c.loop-item.item-index c.args.left.now (omega arith)) c.loop-item.invariant.first
