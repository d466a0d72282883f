use Rattle.waiting_line.proofs.Sharing.{all_zero}
use Rattle.waiting_line.proofs.counts.Counts.zero.Goals as goal

pub returns : goal.returns
returns c = all_zero 8191 _ (c.in_ok-counts.ensures.items_if_clones_equal (λ y e. e))
