-- Everything that stays true of a story, in one induction over what happens. Assumes nothing.
use Rattle.std.proofs.Common.{max, List, [], ◌∷◌, get_or, refl, subst}
use Rattle.tick_machine.specs.declared.call.Call.{Call}
use Rattle.tick_machine.specs.Lists.{All, none, more}
use Rattle.tick_machine.specs.Desk.{Desk, hand_out, file, return}
use Rattle.tick_machine.specs.Machine.{Config, Machine}
use Rattle.tick_machine.specs.Life.{Event, accepted, ticked, collected, filed, returned, after, events}
use Rattle.tick_machine.specs.Story.{Story, telling, story}
use Rattle.tick_machine.specs.Law.{Bounded, Law, Drafted, InEveryHistory}
use Rattle.tick_machine.specs.Fit.{Fit}
use Rattle.tick_machine.specs.Books.{SameWork, OwedByNext, FiguresTold, FiguresAddUp, TotalsAddUp, WellKept, StaysSmall, OfEveryMachine}
use Rattle.tick_machine.proofs.Slots.{fresh}
use Rattle.tick_machine.proofs.Good.{Good, begun_good, desked, desk_good}
use Rattle.tick_machine.proofs.Tick.{tick_good}
use Rattle.tick_machine.proofs.Accept.{accept_good}
use Rattle.tick_machine.proofs.Figures.{Told, begun_figures, tick_figures, accept_figures, desk_figures, figures_told, figures_add_up}
use Rattle.tick_machine.proofs.Level.{stays_level}
use Rattle.tick_machine.proofs.Bound.{accept_bounded}
use Rattle.tick_machine.proofs.Placed.{fit_round, Placed, opened_placed, tick_placed, accept_placed, collect_placed, file_placed, return_placed}
use Rattle.tick_machine.proofs.Small.{totals_add_up, well_kept, stays_small}
use Rattle.tick_machine.proofs.Histories.{Allowed, AllAllowed, story_tells, in_every_history}

pub record Stands (c : Config) (y : Story) : Type 0 where
  pub good : Good c y
  pub told : Told c y
  pub placed : Placed c y.machine
  pub bounded : All (Bounded c) y.arrivals

-- a change of the desk
desk_stands : (c : Config) (d : Desk → Desk) (y : Story) → Stands c y → Placed c (desked d y).machine → Stands c (desked d y)
desk_stands c d y h p = record { good = desk_good c d y h.good; told = desk_figures c d y h.told; placed = p; bounded = h.bounded }

telling_stands : (c : Config) → Fit c → (e : Event) (y : Story) → Allowed c y.machine e → Stands c y → Stands c (telling c e y)
telling_stands c f (accepted i n tag) y a h =
    let r = y.machine.round in
    let new = fresh c.weights i n (max r.cursor (get_or r.next i 0)) f.weights a.session a.some in
    let good = accept_good c y h.good i n tag f.weights a.session a.some a.short new in
    record {
      good = good;
      told = accept_figures c y i n tag a.session new h.told;
      placed = accept_placed c y.machine i n tag a h.placed;
      bounded = more (accept_bounded c y i n tag f.largest_some f.weights a.session new h.good good) h.bounded;
    }
telling_stands c f ticked y a h = record {
  good = tick_good c y h.good;
  told = tick_figures c y (fit_round f) h.good h.told;
  placed = tick_placed c y f h.good a h.placed;
  bounded = h.bounded;
}
telling_stands c f collected y a h = desk_stands c hand_out y h (collect_placed c y.machine h.placed)
telling_stands c f (filed number) y a h = desk_stands c (file number) y h (file_placed c y.machine number a h.placed)
telling_stands c f (returned number) y a h = desk_stands c (return number) y h (return_placed c y.machine number a h.placed)

pub stands : (c : Config) → Fit c → (es : List Event) → AllAllowed c es → Stands c (story c es)
stands c f [] a = record { good = begun_good c; told = begun_figures c; placed = opened_placed c; bounded = none }
stands c f (e ∷ es) a = telling_stands c f e (story c es) a.0 (stands c f es a.1)

-- what follows from it stands in every history
pub since_it_stands : (P : Config → Story → Type 0) → ((c : Config) → Fit c → (y : Story) → Stands c y → P c y) → InEveryHistory P
since_it_stands P f = in_every_history P (λ c fit es a. f c fit (story c es) (stands c fit es a))

pub law_of : (c : Config) → Fit c → (y : Story) → Stands c y → Law c y
law_of c f y h = record { prompt = h.good.prompt; level = stays_level c y h.good h.told; timely = h.good.timely; bounded = h.bounded }

pub law : InEveryHistory Law
law = since_it_stands Law law_of

pub same_work : OfEveryMachine SameWork
same_work = since_it_stands (λ c y. SameWork c y.machine) (λ c f y h. h.good.work)

pub owed_by_next : OfEveryMachine OwedByNext
owed_by_next = since_it_stands (λ c y. OwedByNext c y.machine) (λ c f y h. h.good.shown)

pub figures_are_told : InEveryHistory FiguresTold
figures_are_told = since_it_stands FiguresTold (λ c f y h. figures_told c y h.told)

pub figures_do_add_up : OfEveryMachine FiguresAddUp
figures_do_add_up = since_it_stands (λ c y. FiguresAddUp c y.machine) (λ c f y h. figures_add_up c y h.told)

pub totals_do_add_up : OfEveryMachine TotalsAddUp
totals_do_add_up = since_it_stands (λ c y. TotalsAddUp c y.machine) (λ c f y h. totals_add_up c y.machine h.placed)

pub is_well_kept : OfEveryMachine WellKept
is_well_kept = since_it_stands (λ c y. WellKept c y.machine) (λ c f y h. well_kept c y f h.good h.placed)

pub all_stays_small : OfEveryMachine StaysSmall
all_stays_small = since_it_stands (λ c y. StaysSmall c y.machine) (λ c f y h. stays_small c y f h.good h.told h.placed)

-- what holds of every machine holds of the machine after any calls
pub after_calls : (P : Config → Machine → Type 0) → OfEveryMachine P → (c : Config) → Drafted c → (calls : List Call) → P c (after c calls)
after_calls P h c d calls = subst (P c) (story_tells c calls) (h c d calls [] (events c calls) refl)
