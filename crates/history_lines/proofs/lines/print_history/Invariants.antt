use Rattle.std.proofs.Common.{◌+◌, ◌≤◌, length, string_bytes}
use Rattle.history_text.specs.Parts.{left}
use Rattle.history_reply.specs.Transcript.{printed_lines}
use Rattle.history_lines.proofs.Sofars.{Sofar}
use Rattle.history_lines.proofs.lines.print_history.Given as goal

abbrev pub invariant-loop-line : goal.invariant-loop-line
invariant-loop-line g l =
    (l.line-iterator.b.start + length (left l.line-iterator.a) ≤ 65538)
    × Sofar g.C.Clerk.stands (string_bytes l.initial.out) (printed_lines l.input) (string_bytes l.out) (left l.line-iterator.a) l.line-iterator.b.start l.clerk
