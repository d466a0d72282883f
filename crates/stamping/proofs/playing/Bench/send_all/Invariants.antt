use Rattle.std.proofs.Common.{◌≡◌, ◌+◌, length}
use Rattle.stamping.proofs.playing.Bench.send_all.Given as goal

-- the packets that wait and those that were sent are all that there were
abbrev pub invariant-loop-sent : goal.invariant-loop-sent
invariant-loop-sent g l = length (g.V.WaitingLine.pairs l.self.lines.one) + l._sent ≡ l._sent-end
