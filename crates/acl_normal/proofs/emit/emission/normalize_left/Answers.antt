use Rattle.acl_normal.proofs.Common.{count_left, emitted_aces, FitsKeys, marks, nothing_left, plain_key, refl, subst, sym, ◌<◌}
use Rattle.acl_normal.proofs.emit.QueueChains.{queues_left}
use Rattle.acl_normal.proofs.emit.Drained.{drain_starts, drain_ends, drain_falls, least_taken, outline_left, popped_mask}
use Rattle.acl_normal.proofs.emit.Leaving.{alike_count, left_normal, left_only}
use Rattle.acl_normal.proofs.emit.Marks.{nothing_marked}
use Rattle.acl_normal.proofs.emit.InRows.{no_rows, turn_in_rows}
use Rattle.acl_normal.proofs.emit.emission.normalize_left.Goals as goal

pub emitted-init : goal.emitted-init
emitted-init c = rw c.in_ok-out.ensures.items (record {
  drains = drain_starts c.args.rows.now (marks (nothing_left c.args.rows.now) c.fill.new.ready)
      c.len.ensures.list.tidy.once c.len.ensures.list.tidy.low c.len.ensures.list.rights
      c.in_ok-fill.ensures.marks;
  keys = c.in_ok-fill.ensures.keys;
  rows = no_rows c.args.rows.now;
  queues = c.in_ok-queues.ensures;
})

pub invariant_of-mask : goal.invariant_of-mask
invariant_of-mask c =
    let outline = nothing_left c.emitted.rows in
    let taken = least_taken c.emitted.invariant.keys c.in-Some.ensures.least c.in-Some.ensures.taken
    c.key_of-key.ensures.key in
    record {
      within =
          popped_mask (marks outline c.emitted.ready) (marks outline c.pop.new.self) (plain_key c.key_of-key.result)
          c.in-Some.next.bits c.emitted.rows c.emitted.invariant.drains.free
          c.key_of-key.ensures.list.rights taken.popped;
    }

pub take_out-requires : goal.take_out-requires
take_out-requires c =
    (least_taken c.emitted.invariant.keys c.in-Some.ensures.least c.in-Some.ensures.taken
    c.key_of-key.ensures.key).at_row

pub move_on-requires : goal.move_on-requires
move_on-requires c =
    queues_left _ _ c.emitted.rows c.take_out.new.self c.emitted.queues c.take_out.ensures c.emitted.invariant.queues

pub free_after-requires-clause-keys : goal.free_after-requires-clause-keys
free_after-requires-clause-keys c =
    subst (λ v. FitsKeys v c.pop.new.self)
    (sym (outline_left _ _ c.emitted.rows c.take_out.new.self c.take_out.ensures))
    (least_taken c.emitted.invariant.keys c.in-Some.ensures.least c.in-Some.ensures.taken c.key_of-key.ensures.key).fits

pub emitted-smaller : goal.emitted-smaller
emitted-smaller c =
    subst (λ v. count_left 21 v < count_left 21 c.emitted.rows) (sym c.take_out.ensures)
    (drain_falls c.args.rows.now c.emitted.out.items _ _ (plain_key c.key_of-key.result) c.in-Some.next.bits
    c.emitted.rows c.emitted.invariant.drains (least_taken c.emitted.invariant.keys c.in-Some.ensures.least
    c.in-Some.ensures.taken c.key_of-key.ensures.key).popped)

pub emitted-preserved : goal.emitted-preserved
emitted-preserved c =
    let after = turn_in_rows c.args.rows.now c.emitted.rows c.take_out.new.self c.emitted.out.items
    c.push.new.self.items _
    c.emitted.ready c.pop.new.self c.free_after.new.ready (plain_key c.key_of-key.result) c.in-Some.next.bits
    c.emitted.invariant.drains (least_taken c.emitted.invariant.keys c.in-Some.ensures.least c.in-Some.ensures.taken
    c.key_of-key.ensures.key) c.emitted.invariant.rows c.in_ok-push.ensures.items refl
    c.take_out.ensures c.in_ok-free_after.ensures.marks in
    record {
      drains = after.0;
      keys = c.in_ok-free_after.ensures.keys;
      rows = after.1;
      queues = c.move_on.ensures.queues;
    }

pub returns-clause-normal : goal.returns-clause-normal
returns-clause-normal c =
    (left_normal c.args.rows.now (emitted_aces c.emitted.out.items) c.requires
    (drain_ends c.args.rows.now c.emitted.out.items _ c.emitted.rows c.emitted.invariant.drains
    (nothing_marked (nothing_left c.emitted.rows) c.emitted.ready c.in_default.ensures.none))).0

pub returns-clause-grants : goal.returns-clause-grants
returns-clause-grants c =
    (left_normal c.args.rows.now (emitted_aces c.emitted.out.items) c.requires
    (drain_ends c.args.rows.now c.emitted.out.items _ c.emitted.rows c.emitted.invariant.drains
    (nothing_marked (nothing_left c.emitted.rows) c.emitted.ready c.in_default.ensures.none))).1

pub returns-clause-only : goal.returns-clause-only
returns-clause-only c =
    left_only c.args.rows.now (emitted_aces c.emitted.out.items) c.requires
    (drain_ends c.args.rows.now c.emitted.out.items _ c.emitted.rows c.emitted.invariant.drains
    (nothing_marked (nothing_left c.emitted.rows) c.emitted.ready c.in_default.ensures.none))

pub returns-clause-weight : goal.returns-clause-weight
returns-clause-weight c =
    alike_count 21 c.args.rows.now (emitted_aces c.emitted.out.items) c.len.ensures.list.tidy.once
    (drain_ends c.args.rows.now c.emitted.out.items _ c.emitted.rows c.emitted.invariant.drains
    (nothing_marked (nothing_left c.emitted.rows) c.emitted.ready c.in_default.ensures.none))
