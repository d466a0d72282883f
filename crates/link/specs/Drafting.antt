-- What a draft shows of a configuration, and what its calls promise. Assumes nothing.
use Rattle.std.specs.Prelude.{◌≡◌, ℕ, [], Ok, Err, vec_items, Result}
use Rattle.waiting_line.specs.declared.line.WaitingLine.{Ghosts as WaitingLine}
use Rattle.slot_clock.specs.declared.clock.SlotClock.{Ghosts as SlotClock}
use Rattle.tick_machine.specs.declared.refusal.Refusal.{Refusal}
use Rattle.tick_machine.specs.Slots.{round_length}
use Rattle.tick_machine.specs.Machine.{Config}
use Rattle.tick_machine.specs.Life.{adding, added}
use Rattle.tick_machine.specs.Law.{Drafted, Lawful}
use Rattle.link.specs.declared.error.MakeError.{MakeError}
use Rattle.link.specs.declared.error.MakeError.TheVariants.{Refused, NoMemory}
use Rattle.link.specs.declared.draft.Draft.{Draft}
use Rattle.link.specs.declared.link.Link.{Link}
use Rattle.link.specs.Promise.{Led}

module _ {W : Type 0} (line : WaitingLine W) where
  -- a making and some addings led to this draft of the configuration c
  pub record Drafts (c : Config) (d : Draft W) : Type 0 where
    pub drafted : Drafted c
    pub pairs_none : line.pairs d.waiting ≡ []
    pub capacity_is : line.capacity d.waiting ≡ c.capacity
    pub number_is : d.number ≡ c.link
    pub largest_is : d.largest ≡ c.largest
    pub weights_are : vec_items d.weights ≡ c.weights

  -- a making: the draft of what is made, or its refusal; or there is no memory for what would be made
  abbrev pub Makes : Result Config Refusal → Result (Draft W) MakeError → Type 0
  Makes (Ok c) (Ok d) = Drafts c d
  Makes (Ok c) (Err (Refused e)) = ⊥
  Makes (Ok c) (Err (NoMemory e)) = Unit {0}
  Makes (Err x) (Ok d) = ⊥
  Makes (Err x) (Err (Refused e)) = e ≡ x
  Makes (Err x) (Err (NoMemory e)) = ⊥

  -- an adding, whatever configuration it is a draft of: the answer, the draft after it, and no change where it is refused
  pub record Adds (c : Config) (d : Draft W) (weight : ℕ) (r : Result ℕ Refusal) (d' : Draft W) : Type 0 where
    pub told : r ≡ adding c weight
    pub drafts : Drafts (added c weight) d'

  abbrev pub Added : Draft W → ℕ → Result ℕ Refusal → Draft W → Type 0
  Added d weight r d' = (c : Config) → Drafts c d → Adds c d weight r d'

  abbrev pub Unchanged : Draft W → Result ℕ Refusal → Draft W → Type 0
  Unchanged d (Ok session) d' = Unit {0}
  Unchanged d (Err e) d' = d' ≡ d

-- an opening, whatever configuration it is a draft of: no call has led to this link yet, and the answer is the number of slots in a round
pub record Opens {W S : Type 0} (line : WaitingLine W) (clock : SlotClock S) (c : Config) (l : Link W S) (round : ℕ) : Type 0 where
  pub led : Led line clock c [] l
  pub told : round ≡ round_length c.weights
  pub law : Lawful c []
