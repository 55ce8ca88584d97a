use Rattle.std.proofs.lemmas.List.{map-set}
use Rattle.acl_contain.proofs.joins.Passing.{is_read, read_joined, read_pushed, shown_at}
use Rattle.acl_contain.proofs.tidying.joining.Joining.add.Goals as goal
use Rattle.acl_contain.proofs.tidying.joining.Joining.add.Goals.{else-end-gt0-via-then-end-gt0+else-not-is_barred, else-end-gt0-via-else-end-gt0}
use Rattle.acl_contain.specs.internal.Joining.{AreEndsNoted, IsBarred, IsFreeBelow, key_slot, number_at_place}
use Rattle.acl_normal.proofs.Common.{Ace, [], ace, aces_in, ap, arith, inl, inr, is_user, length, length-append, length-map, length-set, map-append, refl, subst, sym, ℕ, ◌++◌, ◌+◌, ◌-◌, ◌<◌, ◌≤◌, ◌∙◌, ◌≡◌, ◌⊎◌}
use Rattle.std.proofs.Common.{◌∷◌}

pub returns-then-not-is_barred : goal.returns-then-not-is_barred
returns-then-not-is_barred c =
    let aces = c.args.aces.now in
    let kept = c.args.self.now.kept.items in
    let numbers = c.args.numbered.now.numbers.items in
    let pass = c.requires.pass in
    let item = c.index-aces-place.result in
    let end : ℕ = c.index-end.result.now in
    let lt : c.args.place < length (aces_in aces) = omega (arith, c.requires.place, length-map aces ace) in
    let found = is_read aces c.args.numbered.now.count numbers c.args.self.now.keys.items c.args.place item
    c.is_user-users.result c.index.result.now c.key_slot-slot.result end c.requires.numbers pass.keys c.requires.place
    c.index-aces-place.is (c.is_user-users.ensures ∙ ap is_user c.principal.ensures) c.index.ensures
    c.key_slot-slot.ensures c.index-end.ensures in
    let some : 0 < end = omega (arith, c.if-end-gt0.true) in
    let within = subst (λ n. number_at_place c.args.self.now.keys.items n ≤ length (aces_in kept))
    (sym (found.0.is_slot ∙ ap (λ (v : Ace). key_slot (number_at_place numbers c.args.place) v.kind) found.0.is_ace))
    (pass.ends.of_keys c.args.place lt).within in
    let inside : end - 1 < length kept = omega (arith, some, found.0.is_end, within, length-map kept ace) in
    let x = c.index-then-not-is_barred.result.now in
    let done = read_joined (aces_in aces) (aces_in kept) _ numbers c.args.self.now.keys.items
    c.args.self.now.rights.items c.note.new.rights.items c.args.place c.key_slot-slot.result end c.is_user-users.result
    (ace item) (ace x) (ace c.with_rights.result) found.0 c.requires.plain pass.joined pass.ends lt some
    (subst (λ v. IsFreeBelow 21 v item.mask.bits item.kind c.is_user-users.result end) c.deref.ensures.value
    (c.is_barred.ensures.free c.if-not-is_barred.true))
    (shown_at kept (end - 1) x inside c.index-then-not-is_barred.ensures) c.with_rights.ensures c.note.ensures
    (map-set ace kept (end - 1) c.with_rights.result) in
    record { joined = done.0; ends = done.1; keys = pass.keys; rights = c.note.ensures.size ∙ pass.rights }

pub returns-in_ok-push : goal.returns-in_ok-push
returns-in_ok-push c =
    let aces = c.args.aces.now in
    let kept = c.args.self.now.kept.items in
    let pass = c.requires.pass in
    let item = c.index-aces-place.result in
    let end : ℕ = c.index-end.result.now in
    let found = is_read aces c.args.numbered.now.count c.args.numbered.now.numbers.items c.args.self.now.keys.items
    c.args.place item c.is_user-users.result c.index.result.now c.key_slot-slot.result end c.requires.numbers pass.keys
    c.requires.place c.index-aces-place.is (c.is_user-users.ensures ∙ ap is_user c.principal.ensures) c.index.ensures
    c.key_slot-slot.ensures c.index-end.ensures in
    let barred : (end ≡ 0) ⊎ IsBarred c.args.self.now.rights.items item.mask.bits item.kind c.is_user-users.result end =
    elim c.else-end-gt0.branch [
      | else-end-gt0-via-then-end-gt0+else-not-is_barred w ↦
          inr (subst (λ v. IsBarred v item.mask.bits item.kind c.is_user-users.result end) w.deref.ensures.value
          (w.is_barred.ensures.barred w.if-not-is_barred.false))
      | else-end-gt0-via-else-end-gt0 w ↦ inl (omega (arith, w.if-end-gt0.false))
    ] in
    let pushed : c.push.new.self.items ≡ kept ++ item ∷ [] = c.in_ok-push.ensures.items in
    let count : c.len.result ≡ length (aces_in kept) + 1 = c.len.ensures
    ∙ omega (arith, ap length pushed, length-append kept (item ∷ []), length-map kept ace, c.push.new.self.ok) in
    let noted = subst
    (λ n. AreEndsNoted 21 c.args.self.now.rights.items item.mask.bits item.kind c.is_user-users.result n
    c.note-else-end-gt0.new.rights.items) (c.len-else-end-gt0.ensures
    ∙ sym c.len.ensures) c.note-else-end-gt0.ensures in
    let done = read_pushed (aces_in aces) (aces_in kept) (aces_in c.push.new.self.items) c.args.numbered.now.count
    c.args.numbered.now.numbers.items c.args.self.now.keys.items c.args.self.now.rights.items _
    c.note-else-end-gt0.new.rights.items c.args.place c.key_slot-slot.result end c.len.result c.is_user-users.result
    (ace item) found.0 c.requires.plain c.requires.numbers pass.joined pass.ends
    (omega (arith, c.requires.place, length-map aces ace)) found.1 barred count
    (ap aces_in pushed ∙ map-append ace kept (item ∷ [])) refl noted in
    record {
      joined = done.0;
      ends = done.1;
      keys = length-set c.args.self.now.keys.items c.key_slot-slot.result c.len.result ∙ pass.keys;
      rights = c.note-else-end-gt0.ensures.size ∙ pass.rights;
    }
