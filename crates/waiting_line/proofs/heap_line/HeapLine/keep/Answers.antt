use Rattle.waiting_line.proofs.Heaps.{put_apart}
use Rattle.waiting_line.proofs.Sharing.{put_counted}
use Rattle.waiting_line.proofs.heap_line.HeapLine.keep.Goals as goal

pub invariant_of-self-clause-apart : goal.invariant_of-self-clause-apart
invariant_of-self-clause-apart c = put_apart _ _ _ c.push.ensures.shuffled c.args.self.now.apart c.requires.alone

pub invariant_of-self-clause-counted : goal.invariant_of-self-clause-counted
invariant_of-self-clause-counted c = put_counted _ _ _ _ _ c.push.ensures.shuffled c.args.self.now.counted c.raise.ensures.one c.raise.ensures.others
