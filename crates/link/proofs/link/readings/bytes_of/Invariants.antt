use Rattle.std.proofs.Common.{◌≡◌, min, eqb, take}
use Rattle.tick_machine.specs.Lists.{total, only}
use Rattle.link.proofs.link.readings.bytes_of.Given as goal

abbrev pub invariant-loop-packet : goal.invariant-loop-packet
invariant-loop-packet l = l.sum ≡ min (total (λ p. only (eqb p.session l.session) p.size) (take l.packet-index l.table)) 18446744073709551615
