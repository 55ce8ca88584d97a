use Rattle.std.proofs.Common.{ap, Bool, sym, ℕ, ◌^◌, ◌∙◌, ◌≡◌}
use Rattle.std.specs.Prelude.{is_none, ◌&&◌, ◌||◌}
use Rattle.acl_perm.specs.Bits.{has_bit}
use Rattle.acl_posix.specs.Tag.{tag_of}
use Rattle.acl_posix.specs.declared.tag.Tag.{Tag}
use Rattle.acl_posix_contain.specs.internal.Limits.{class_get, entry_gets, gets, holds, strangers_get}
use Rattle.acl_posix_contain.proofs.Bits.{all_bits}
use Rattle.acl_posix_contain.proofs.restricting.limits.Limits.limit.Goals as goal
use Rattle.acl_posix_contain.proofs.restricting.limits.Limits.limit.Goals.{in-UserObj, in-User, in-GroupObj, in-Group, in-Mask, in-Other}

-- two tests of a class, each replaced
both_same : (u : Bool) {n m r s : Bool} → n ≡ m → r ≡ s → (n && (u || r)) ≡ (m && (u || s))
both_same u {n} {m} {r} {s} p q = ap (λ (b : Bool). b && (u || r)) p ∙ ap (λ (b : Bool). m && (u || b)) q

pub returns : goal.returns
returns c = λ g h bit lt.
    let A = c.args.acl.now in
    let B = c.args.bound.now in
    let u : Bool = is_none c.args.self.now.free_user in
    let p : ℕ = 2 ^ bit in
    let read = λ (r : ℕ × Unit {0}). has_bit r.0 bit in
    let all = λ (t : Tag). gets A B u g p (tag_of t) in
    let strangers : Bool = strangers_get A B g p in
    elim c.match-tag.branch [
      | in-UserObj w ↦ ap read w.result-is ∙ w.held.ensures bit lt
          ∙ ap (λ (t : Tag). holds B (tag_of t) p) w.in-UserObj.is ∙ sym (ap all w.in-UserObj.is)
      | in-User w ↦ ap read w.result-is ∙ w.held_or.ensures bit lt
          ∙ ap (entry_gets B (tag_of c.args.tag) p) (h.strangers bit lt)
          ∙ ap (λ (t : Tag). entry_gets B (tag_of t) p strangers) w.in-User.is ∙ sym (ap all w.in-User.is)
      | in-GroupObj w ↦ ap read w.result-is ∙ w.of_class.ensures bit lt
          ∙ both_same u (h.new_users bit lt) (h.owning bit lt) ∙ sym (ap all w.in-GroupObj.is)
      | in-Group w ↦ ap read w.result-is ∙ w.of_class-in-Group.ensures bit lt
          ∙ both_same u (h.new_users bit lt) (w.held_or-in-Group.ensures bit lt
          ∙ ap (entry_gets B (tag_of c.args.tag) p) (h.strangers bit lt))
          ∙ ap (λ (t : Tag). class_get A B u p (entry_gets B (tag_of t) p strangers)) w.in-Group.is
          ∙ sym (ap all w.in-Group.is)
      | in-Mask w ↦ ap read w.result-is ∙ all_bits bit lt ∙ sym (ap all w.in-Mask.is)
      | in-Other w ↦ ap read w.result-is ∙ w.of_class-in-Other.ensures bit lt
          ∙ both_same u (h.new_users bit lt) (h.others bit lt) ∙ sym (ap all w.in-Other.is)
    ]
