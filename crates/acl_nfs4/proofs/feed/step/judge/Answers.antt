use Rattle.acl_nfs4.proofs.Common.{ap, count_of, drop, IsBytes, List, number, profile_of, subst, sym, ℕ, ◌∙◌}
use Rattle.acl_nfs4.proofs.feed.Streaming.{text_short, text_refused, judged_is}
use Rattle.acl_nfs4.proofs.feed.Streaming.FirstWord.{behind_word, short_word, whole_word}
use Rattle.acl_nfs4.proofs.feed.step.judge.Goals as goal

pub returns-then-text-lt4-clause-judged : goal.returns-then-text-lt4-clause-judged
returns-then-text-lt4-clause-judged c =
    rw c.at_front.ensures (text_short (profile_of c.args.profile) c.args.text.now
    (short_word c.text.inside.head c.text.inside.body.items c.args.text.now c.text.inside.filled c.text.invariant
    c.text.view_is c.if-text-lt4.true))

pub returns-in-Err-clause-judged : goal.returns-in-Err-clause-judged
returns-in-Err-clause-judged c =
    let w = whole_word c.text.inside.head c.text.inside.body.items c.args.text.now c.text.inside.filled c.text.invariant
    c.text.view_is c.if-text-lt4.false in
    rw c.at_front-in-Err.ensures (
      4,
      text_refused (profile_of c.args.profile) c.args.text.now c.in-Err.reason w.long
          (ap (λ (t : List ℕ). count_of (number t)) w.first ∙ ap count_of (sym c.word_in.ensures)
          ∙ c.in-Err.ensures.exact),
    )

pub returns-in-Ok-clause-judged : goal.returns-in-Ok-clause-judged
returns-in-Ok-clause-judged c =
    let w = whole_word c.text.inside.head c.text.inside.body.items c.args.text.now c.text.inside.filled c.text.invariant
    c.text.view_is c.if-text-lt4.false in
    judged_is (profile_of c.args.profile) c.args.text.now c.deref.result.now c.in-Ok.count c.scan.result.progress
    c.scan.result.fault (subst (λ (t : List ℕ). IsBytes t) c.text.view_is c.text.invariant.bytes) w.long
    (ap (λ (t : List ℕ). count_of (number t)) w.first ∙ ap count_of (sym c.word_in.ensures) ∙ c.in-Ok.ensures.exact)
    (c.deref.ensures.value
    ∙ behind_word c.text.inside.head c.text.inside.body.items c.text.inside.filled c.text.invariant
    ∙ ap (λ (t : List ℕ). drop 4 t) c.text.view_is)
    c.scan.ensures.scanned c.scan.ensures.ends
