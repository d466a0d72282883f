use Rattle.std.proofs.Common.{◌≡◌, ℕ, ◌+◌, ◌-◌, ◌^◌, ◌≤◌, [], ◌∷◌, length, ap, ⊎_elim, Some, None, string_bytes, arith, rules}
use Rattle.std.proofs.lemmas.Result.{MatchResult-weaker}
use Rattle.history_text.specs.Parts.{left}
use Rattle.history_reply.specs.Transcript.{printed_lines}
use Rattle.history_lines.proofs.Sofars.{answered_ok, one_line, all_lines, ended_in_silence, ended_with_reply, reply_missing, too_long}
use Rattle.history_lines.proofs.lines.print_history.Goals as goal

pub returns-then-input-gt-LONGEST : goal.returns-then-input-gt-LONGEST
returns-then-input-gt-LONGEST g c =
    MatchResult-weaker c.put_reply.result c.put_reply.ensures
    (λ x h. too_long (string_bytes c.args.out.now) _ c.args.input.now (search rules) h)
    (λ y h. search rules)

pub loop-line-preserved : goal.loop-line-preserved
loop-line-preserved g c =
    let l = c.loop-line in
    let s = l.invariant.1 in
    let line = c.in-Some.line.now in
    let n = l.line-iterator.b.start in
    let out = string_bytes l.out in
    let new = string_bytes c.answer_line-next.new.out in
    let next = c.answer_line-next.result.0 in
    let parts : left l.line-iterator.a ≡ line ∷ left c.next.new.self.a = search rules in
    let more : c.next.new.self.b.start ≡ n + 1 = search rules in
    let told = answered_ok g.C.Clerk.stands n s.stage line out new next c.answer_line-next.result.1 c.in_default.field-0 c.in_default.is (search rules) in
    let shorter = ap length parts in (
      omega arith,
      one_line g.C.Clerk.stands _ _ out new line _ (left c.next.new.self.a) n _ l.clerk next parts more s told.0 told.1,
    )

-- the numbers do not run out
numbers_left : (n k : ℕ) → n + k ≤ 65538 → 2 ^ 64 - 1 - n ≡ 0 → ⊥
numbers_left n k h e = omega arith

pub returns-in-None-close : goal.returns-in-None-close
returns-in-None-close g c =
    let l = c.loop-line in
    let none : left l.line-iterator.a ≡ [] = ⊎_elim (λ w. w.1.0) (λ w. absurd (numbers_left l.line-iterator.b.start _ l.invariant.0 w.1.0)) c.in-None.ensures.steps in
    ended_in_silence (string_bytes c.args.out.now) (string_bytes l.out) c.args.input.now
    (all_lines g.C.Clerk.stands _ (printed_lines c.args.input.now) _ (left l.line-iterator.a) l.line-iterator.b.start l.clerk None none l.invariant.1 (c.in-None-close.ensures l.invariant.1.stage l.invariant.1.here))

pub returns-in-Some-close : goal.returns-in-Some-close
returns-in-Some-close g c =
    let l = c.loop-line in
    let old = string_bytes c.args.out.now in
    let out = string_bytes l.out in
    let new = string_bytes c.put_reply-in-Some-close.new.out in
    let none : left l.line-iterator.a ≡ [] = ⊎_elim (λ w. w.1.0) (λ w. absurd (numbers_left l.line-iterator.b.start _ l.invariant.0 w.1.0)) c.in-None.ensures.steps in
    let e = all_lines g.C.Clerk.stands old (printed_lines c.args.input.now) out (left l.line-iterator.a) l.line-iterator.b.start l.clerk (Some c.in-Some-close.reply) none l.invariant.1 (c.in-Some-close.ensures l.invariant.1.stage l.invariant.1.here) in
    MatchResult-weaker c.put_reply-in-Some-close.result c.put_reply-in-Some-close.ensures (λ x h. ended_with_reply old new c.args.input.now out c.in-Some-close.reply e h) (λ y h. reply_missing old new c.args.input.now out c.in-Some-close.reply e h)
