-- A slip just handed out can be filed at its own link. Assumes nothing.
use Rattle.std.proofs.Common.{◌≡◌, ℕ, List, ◌∷◌, Some, Ok, Err, Result, refl, ap, ◌∙◌, arith}
use Rattle.waiting_line.specs.declared.line.WaitingLine.{Ghosts as WaitingLine}
use Rattle.slot_clock.specs.declared.clock.SlotClock.{Ghosts as SlotClock}
use Rattle.tick_machine.specs.declared.refusal.Refusal.{Refusal}
use Rattle.tick_machine.specs.declared.call.Call.{Call}
use Rattle.tick_machine.specs.declared.call.Call.TheVariants.{Collect, File}
use Rattle.tick_machine.specs.declared.call.Answer.TheVariants.{Filed, Refused}
use Rattle.tick_machine.specs.Desk.{first}
use Rattle.tick_machine.specs.Machine.{Config}
use Rattle.tick_machine.specs.Life.{slip_of, told, after}
use Rattle.link.specs.declared.link.Link.{Link}
use Rattle.link.specs.declared.slip.Slip.{Slip}
use Rattle.link.specs.declared.draft.Draft.{Draft}
use Rattle.link.specs.Drafting.{Drafts, Makes}
use Rattle.link.specs.Promise.{Goes, collected_as}
use Rattle.link.proofs.Outs.{settled_last}

not_refused : (e : Refusal) (n : ℕ) → Refused e ≡ Filed n → ⊥
not_refused e n h = let z : ◌≡◌ {A = ℕ} 0 1 = cc in omega arith

pub filing_granted : {W S : Type 0} {line : WaitingLine W} {clock : SlotClock S} {c : Config} {calls : List Call} {l l' l'' : Link W S} (s : Slip) (e : Refusal)
    → Goes line clock c calls l Collect (collected_as (Some s)) l' → Goes line clock c (Collect ∷ calls) l' (File s.says.link s.says.packet) (Refused e) l'' → ⊥
filing_granted {c} {calls} s e g h =
    let d = (after c calls).desk in
    let first_is : Some s.says ≡ slip_of c.link (first d.left) = cc g.told in
    not_refused e s.says.packet (h.told ∙ ap (told Filed) (settled_last c d.left d.out s.says (after c (Collect ∷ calls)) first_is refl))

-- a making that gave a draft
pub drafts_some : {W : Type 0} (line : WaitingLine W) (x : Result Config Refusal) (d : Draft W) → Makes line x (Ok d) → (c : Config) × Drafts line c d
drafts_some line (Ok c) d h = (c, h)
drafts_some line (Err e) d h = absurd h
