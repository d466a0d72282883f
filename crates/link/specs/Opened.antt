-- The fields of a link that was just opened. Assumes nothing.
use Rattle.std.specs.Prelude.{◌≡◌, replicate, vec_items, vec_len}
use Rattle.tick_machine.specs.Sender.{free}
use Rattle.link.specs.declared.draft.Draft.{Draft}
use Rattle.link.specs.declared.link.Link.{Link}

pub record Opened {W S : Type 0} (d : Draft W) (slots : S) (l : Link W S) : Type 0 where
  pub waiting_is : l.waiting ≡ d.waiting
  pub slots_are : l.slots ≡ slots
  pub number_is : l.number ≡ d.number
  pub largest_is : l.largest ≡ d.largest
  pub sessions_are : vec_items l.sessions ≡ replicate (vec_len d.weights) (record { accepted = 0; sent = 0 })
  pub clock_is : l.clock ≡ 0
  pub count_is : l.count ≡ 0
  pub line_is : l.line ≡ free
  pub table_is : l.table ≡ d.table
  pub left_is : l.left ≡ d.left
  pub out_is : l.out ≡ d.out
  pub filed_is : l.filed ≡ 0
  pub returned_is : l.returned ≡ 0
