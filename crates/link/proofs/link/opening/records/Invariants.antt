use Rattle.std.specs.Prelude.{◌≡◌, replicate, vec_items, vec_len, vec_capacity}
use Rattle.link.proofs.link.opening.records.Given as goal

abbrev pub invariant-loop : goal.invariant-loop
invariant-loop l = (vec_items l.sessions ≡ replicate l.counter (record { accepted = 0; sent = 0 })) × (vec_len l.sessions ≡ l.counter) × (vec_capacity l.sessions ≡ vec_capacity l.fn.memory)
