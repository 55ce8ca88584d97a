use Rattle.acl_normal.proofs.Common.{emitted_ace, emitted_aces, IfSome, List, Ace, option_map, take}
use Rattle.acl_normal.specs.internal.emit.Short.{AreLeftOf, IsFirstLeft, IsLeftOf}
use Rattle.acl_normal.proofs.reduce.Unneeded.{AreLater}
use Rattle.acl_normal.proofs.emit.short.first_of.Given as goal

-- what comes first of those so far, and the rights that they have
abbrev pub invariant-loop-item : goal.invariant-loop-item
invariant-loop-item l = record {
  first : IsFirstLeft (emitted_aces (take l.item-index l.left)) (option_map emitted_ace l.first);
  before : AreLater l.before (emitted_aces (take l.item-index l.left));
  row : (xs : List Ace) → AreLeftOf xs l.left → IfSome l.first (IsLeftOf xs);
}
