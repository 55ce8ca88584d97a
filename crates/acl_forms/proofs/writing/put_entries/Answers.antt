use Rattle.std.proofs.Common.{[], ap, append_assoc, arith, length, List, ℕ, ◌++◌, ◌∙◌, ◌∷◌, ◌≡◌, refl, sym}
use Rattle.acl_perm.proofs.PieceLemmas.{out_cut, out_more}
use Rattle.acl_nfs4.specs.Ace.{Ace, ace}
use Rattle.acl_forms.specs.declared.writing.AceTextForm.{AceTextForm}
use Rattle.acl_forms.specs.internal.TextWriting.{after_each, between, entries_left, entry_of, separator_of}
use Rattle.acl_nfs4.proofs.Exits.{exit_is}
use Rattle.acl_forms.proofs.writing.put_entries.Goals as goal

-- the text of ACEs is the piece of the first and the text of the others
next_piece : (form : AceTextForm) (before : List ℕ) (list rest : List Ace) (a : Ace) (piece : List ℕ) → list ≡ a ∷ rest
    → piece ≡ (([] ++ before) ++ entry_of form a) ++ after_each (separator_of form)
    → entries_left form before list ≡ piece ++ entries_left form (between (separator_of form)) rest
next_piece form before list rest a piece e is =
    rw (e, is) (ap (λ (p : List ℕ). p ++ entries_left form (between (separator_of form)) rest)
    (simp append_assoc))

pub returns-in_err-done-clause-written : goal.returns-in_err-done-clause-written
returns-in_err-done-clause-written g c =
    let piece : c.deref.result.now ≡ (([] ++ c.loop-ace.before.now) ++ entry_of c.args.form (ace c.in-Some.ace))
    ++ after_each (separator_of c.args.form) =
    rw (c.deref.ensures.0, c.add-in-loop-ace.ensures.items, c.add_entry.ensures.text, c.add.ensures.items)
    (rw (c.clear.ensures, c.after_each.ensures.value, c.separator-separator.ensures) refl) in
    let next = next_piece c.args.form c.loop-ace.before.now c.loop-ace.ace-iterator c.next.new.self (ace c.in-Some.ace)
    _ c.in-Some.ensures.steps.0 piece in
    let (can_next, is_finite, out, none_failed, room, short) = c.loop-ace.invariant in
    let (low, high, put) = c.in_err-done.ensures.written in
    rw (exit_is c.from_residual.result c.from_residual.ensures.1)
    (out_cut 0 c.loop-ace.done _ _ _ _ _ _ _ _ out next low high put)

pub loop-ace-preserved : goal.loop-ace-preserved
loop-ace-preserved g c =
    let piece : c.deref.result.now ≡ (([] ++ c.loop-ace.before.now) ++ entry_of c.args.form (ace c.in-Some.ace))
    ++ after_each (separator_of c.args.form) =
    rw (c.deref.ensures.0, c.add-in-loop-ace.ensures.items, c.add_entry.ensures.text, c.add.ensures.items)
    (rw (c.clear.ensures, c.after_each.ensures.value, c.separator-separator.ensures) refl) in
    let before : c.between-before.result.now ≡ between (separator_of c.args.form) =
    c.between-before.ensures.value ∙ ap between c.separator-separator.ensures in
    let next = next_piece c.args.form c.loop-ace.before.now c.loop-ace.ace-iterator c.next.new.self (ace c.in-Some.ace)
    _ c.in-Some.ensures.steps.0 piece in
    let (can_next, is_finite, out, none_failed, room, short) = c.loop-ace.invariant in
    let (count, put) = c.in_ok-done.ensures.written in
    let size = ap length c.deref.ensures.0 in (
      tt,
      tt,
      out_more 0 c.loop-ace.done _ _ _ _ _ _ _ _ out
          (next ∙ ap (λ (b : List ℕ). c.deref.result.now ++ entries_left c.args.form b c.next.new.self) (sym before))
          count put,
      c.in_ok-done.ensures.none_failed ∙ none_failed,
      omega (
        arith,
        count,
        ap length c.in-Some.ensures.steps.0,
        size,
        c.add-in-loop-ace.ensures.len,
        c.add_entry.ensures.len,
        c.after_each.ensures.short,
        room,
      ),
      c.between-before.ensures.short,
    )
