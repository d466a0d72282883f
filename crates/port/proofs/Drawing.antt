-- What becomes of a making and the addings after it. Assumes nothing.
use Rattle.std.proofs.Common.{◌≡◌, ℕ, List, Ok, Err, Result, arith}
use Rattle.waiting_line.specs.declared.line.WaitingLine.{Ghosts as WaitingLine}
use Rattle.tick_machine.specs.declared.refusal.Refusal.{Refusal}
use Rattle.tick_machine.specs.Machine.{Config}
use Rattle.link.specs.declared.error.MakeError.TheVariants.{Refused}
use Rattle.link.specs.declared.draft.Draft.{Draft}
use Rattle.link.specs.Drafting.{Drafts, Makes}
use Rattle.port.specs.declared.records.CallRecord.{CallRecord}
use Rattle.port.specs.declared.records.AnswerRecord.{AnswerRecord}
use Rattle.port.specs.Preparing.{all_added, AddsAll, Draws, Prepares}
use Rattle.port.specs.Playing.{Tells, Reports}

module _ {W : Type 0} (line : WaitingLine W) where
  drawn : (d : Draft W) (x : Result Config Refusal) → AddsAll line x (Ok tt) d → Draws line x (Ok d)
  drawn d (Ok c) h = h
  drawn d (Err e) h = absurd h

  drawn_not : (d : Draft W) (x : Result Config Refusal) (e : Refusal) → AddsAll line x (Err e) d → Draws line x (Err (Refused e))
  drawn_not d (Ok c) e h = absurd h
  drawn_not d (Err x) e h = h

  module _ (ws : List ℕ) (d d' : Draft W) where
    -- all weights were added to what was made
    pub prepared : (x : Result Config Refusal) → Makes line x (Ok d) → ((c : Config) → Drafts line c d → AddsAll line (all_added c ws) (Ok tt) d') → Prepares line x ws (Ok d')
    prepared (Ok c) h f = drawn d' (all_added c ws) (f c h)
    prepared (Err e) h f = absurd h

    -- one was refused
    pub prepared_not : (e : Refusal) (x : Result Config Refusal) → Makes line x (Ok d) → ((c : Config) → Drafts line c d → AddsAll line (all_added c ws) (Err e) d')
        → Prepares line x ws (Err (Refused e))
    prepared_not e (Ok c) h f = drawn_not d' (all_added c ws) e (f c h)
    prepared_not e (Err x) h f = absurd h

  module _ (d : Draft W) (calls : List CallRecord) (was said : List AnswerRecord) (f : (c : Config) → Drafts line c d → said ≡ was) where
    unplayed : (x : Result Config Refusal) → Draws line x (Ok d) → Tells x calls was said 1
    unplayed (Ok c) h = f c h
    unplayed (Err e) h = absurd h

    -- there was no memory to open what was drafted
    pub not_played : (x : Result Config Refusal) (ws : List ℕ) → Prepares line x ws (Ok d) → Reports x ws calls was said 1
    not_played (Ok c) ws h = unplayed (all_added c ws) h
    not_played (Err e) ws h = let z : ◌≡◌ {A = ℕ} 0 1 = cc in absurd (omega arith)
