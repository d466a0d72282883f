use Rattle.std.proofs.Common.{get_or, sym, ◌∙◌, arith}
use Rattle.tick_machine.proofs.Lists.{only_yes, only_no}
use Rattle.slot_clock.specs.Blocks.{round_more, whole_more}
use Rattle.slot_clock.proofs.layout.weight_of.Goals as goal
use Rattle.slot_clock.proofs.layout.weight_of.Goals.{then-counts, else-counts}

pub loop-i-preserved : goal.loop-i-preserved
loop-i-preserved g c =
    let ws = c.args.weights.now in
    let i = c.loop-i.i in
    let w = get_or ws i 0 in
    let l = c.loop-i-test.true in
    let more = round_more ws i l in
    elim c.if-counts.branch [
      | then-counts t ↦ (
        λ b tells. omega (arith, t.sum-is, c.loop-i.invariant.0 b tells, whole_more b ws i l, only_yes (b i) w (sym (tells i _ c.counts.ensures) ∙ t.if-counts.true)),
        omega (arith, t.sum-is, c.loop-i.invariant.1, more),
      )
      | else-counts t ↦ (
        λ b tells. omega (arith, t.sum-is, c.loop-i.invariant.0 b tells, whole_more b ws i l, only_no (b i) w (sym (tells i _ c.counts.ensures) ∙ t.if-counts.false)),
        omega (arith, t.sum-is, c.loop-i.invariant.1, more),
      )
    ]
