-- A making with all its weights in one list. Assumes nothing.
use Rattle.std.specs.Prelude.{◌≡◌, ℕ, List, [], ◌∷◌, Ok, Err, Result}
use Rattle.waiting_line.specs.declared.line.WaitingLine.{Ghosts as WaitingLine}
use Rattle.tick_machine.specs.declared.refusal.Refusal.{Refusal}
use Rattle.tick_machine.specs.Machine.{Config}
use Rattle.tick_machine.specs.Life.{adding, added}
use Rattle.link.specs.declared.error.MakeError.{MakeError}
use Rattle.link.specs.declared.error.MakeError.TheVariants.{Refused, NoMemory}
use Rattle.link.specs.declared.draft.Draft.{Draft}
use Rattle.link.specs.Drafting.{Drafts}

-- the weight of session 0; a list of none counts as weight 0
abbrev pub first_weight : List ℕ → ℕ
first_weight [] = 0
first_weight (w ∷ ws) = w

-- what comes of it if the adding before is granted
abbrev pub if_added : Result ℕ Refusal → Result Config Refusal → Result Config Refusal
if_added (Ok session) after = after
if_added (Err e) after = Err e

-- one adding after the other, up to the first that is refused
abbrev pub all_added : Config → List ℕ → Result Config Refusal
all_added c [] = Ok c
all_added c (w ∷ ws) = if_added (adding c w) (all_added (added c w) ws)

module _ {W : Type 0} (line : WaitingLine W) where
  -- addings to a draft: the draft of what is drafted, or the first refusal
  abbrev pub AddsAll : Result Config Refusal → Result (Unit {0}) Refusal → Draft W → Type 0
  AddsAll (Ok c) (Ok u) d = Drafts line c d
  AddsAll (Ok c) (Err e) d = ⊥
  AddsAll (Err x) (Ok u) d = ⊥
  AddsAll (Err x) (Err e) d = e ≡ x

  -- addings to what was made: a draft of what is drafted, or the first refusal; or there is no memory
  abbrev pub Draws : Result Config Refusal → Result (Draft W) MakeError → Type 0
  Draws (Ok c) (Ok d) = Drafts line c d
  Draws (Err x) (Ok d) = ⊥
  Draws (Ok c) (Err (Refused e)) = ⊥
  Draws (Err x) (Err (Refused e)) = e ≡ x
  Draws r (Err (NoMemory e)) = Unit {0}

  -- a making, and then addings; a making that is refused is told so, whatever memory there is
  abbrev pub Prepares : Result Config Refusal → List ℕ → Result (Draft W) MakeError → Type 0
  Prepares (Ok c) weights r = Draws (all_added c weights) r
  Prepares (Err e) weights r = r ≡ Err (Refused e)
