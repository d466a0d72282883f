-- Worked cases: two links, what is called and asked, and what the definitions must give. A clerk can follow each with a pencil. Assumes nothing.
use Rattle.std.specs.Prelude.{◌≡◌, ℕ, cond, List, [], ◌∷◌, ◌++◌, map, reverse, ℤ, pos, negsuc, Some, None, Ok, Option, ◌==◌, refl}
use Prim.Native.String.{String}
use Rattle.tick_machine.specs.declared.refusal.LineRefusal.TheVariants.{Full}
use Rattle.tick_machine.specs.declared.refusal.Refusal.{Refusal}
use Rattle.tick_machine.specs.declared.refusal.Refusal.TheVariants.{NoRoom, TooLong, TickPassed}
use Rattle.tick_machine.specs.declared.call.Call.{Call}
use Rattle.tick_machine.specs.declared.call.Call.TheVariants.{Arrive, MoveTo, Collect, File, AskFigures, AskTotals}
use Rattle.tick_machine.specs.declared.call.Answer.{Answer}
use Rattle.tick_machine.specs.declared.call.Answer.TheVariants.{Accepted, Moved, Collected, Filed, FiguresAre, TotalsAre, Refused}
use Rattle.tick_machine.specs.Lists.{All}
use Rattle.tick_machine.specs.Slots.{round_length}
use Rattle.tick_machine.specs.Sender.{Departed}
use Rattle.tick_machine.specs.Machine.{Config}
use Rattle.tick_machine.specs.Refusals.{numbers}
use Rattle.tick_machine.specs.Life.{made, adding, figures_of, answer, after, answers, events}
use Rattle.tick_machine.specs.Values.{values}
use Rattle.tick_machine.specs.Story.{story}
use Rattle.tick_machine.specs.Law.{Drafted}

-- What is asked of a link after some calls, with what it must give.
pub data Asked : Type 0 where
  -- this call is answered so
  answered : Call → Answer → Asked
  -- this call is refused so, and these numbers are told
  refused : Call → Refusal → List ℕ → Asked
  -- the packet of this number has left, at this tick
  left_at : ℕ → ℕ → Asked
  -- the lead of this session: its bytes sent minus its bytes served
  lead_of : ℕ → ℤ → Asked
  -- V, the cursor of the round server
  cursor_at : ℕ → Asked

-- A case: what it shows, a configuration that a making and addings give, the calls before (the first first), and what is asked.
pub record Case : Type 0 where
  pub shows : String
  pub config : Config
  pub real : Drafted config
  pub before : List Call
  pub asked : Asked

-- the tick at which the packet of the number left, if it is among these
abbrev pub leaving_tick : ℕ → List Departed → Option ℕ
leaving_tick k [] = None
leaving_tick k (d ∷ ds) = cond (d.packet.number == k) (Some d.left) (leaving_tick k ds)

-- the definitions give what is asked, after these calls (the latest first)
abbrev pub Gives : Config → List Call → Asked → Type 0
Gives c calls (answered call said) = answer c (after c calls) call ≡ said
Gives c calls (refused call why told) = (answer c (after c calls) call ≡ Refused why) × (numbers why ≡ told)
Gives c calls (left_at k t) = leaving_tick k (story c (events c calls)).gone ≡ Some t
Gives c calls (lead_of i z) = (figures_of i (after c calls)).lead ≡ z
Gives c calls (cursor_at v) = (after c calls).round.cursor ≡ v

abbrev pub Holds : Case → Type 0
Holds x = Gives x.config (reverse x.before) x.asked

-- The first link: number 7, packets of at most 10 bytes, room for 8, weights 2 and 1.
abbrev pub first_link : Config
first_link = record { link = 7; largest = 10; capacity = 8; weights = 2 ∷ 1 ∷ [] }

pub first_link_is_real : Drafted first_link
first_link_is_real = record {
  link = 7;
  largest = 10;
  capacity = 8;
  weight = 2;
  addings = 1 ∷ [];
  first = record { link = 7; largest = 10; capacity = 8; weights = 2 ∷ [] };
  making = refl;
  is = refl;
}

-- The second link: number 8, packets of at most 10 bytes, room for 1, weights 1 and 1.
abbrev pub second_link : Config
second_link = record { link = 8; largest = 10; capacity = 1; weights = 1 ∷ 1 ∷ [] }

pub second_link_is_real : Drafted second_link
second_link_is_real = record {
  link = 8;
  largest = 10;
  capacity = 1;
  weight = 1;
  addings = 1 ∷ [];
  first = record { link = 8; largest = 10; capacity = 1; weights = 1 ∷ [] };
  making = refl;
  is = refl;
}

abbrev pub on_the_first : String → List Call → Asked → Case
on_the_first shows before asked = record { shows = shows; config = first_link; real = first_link_is_real; before = before; asked = asked }

abbrev pub on_the_second : String → List Call → Asked → Case
on_the_second shows before asked = record { shows = shows; config = second_link; real = second_link_is_real; before = before; asked = asked }

-- a packet of 6 bytes of session 0 and one of 2 bytes of session 1, both at 0
abbrev pub two_at_the_start : List Call
two_at_the_start = Arrive 0 6 100 ∷ Arrive 1 2 101 ∷ []

-- then at 3 a packet of 1 byte of session 1
abbrev pub one_more_at_3 : List Call
one_more_at_3 = two_at_the_start ++ MoveTo 3 ∷ Arrive 1 1 102 ∷ []

-- a packet of 10 bytes of session 0 at 0
abbrev pub one_long : List Call
one_long = Arrive 0 10 100 ∷ []

abbrev pub worked_cases : List Case
worked_cases =
    on_the_first "a first packet gets its session's lowest slots" [] (answered (Arrive 0 6 100) (Accepted 0 7 17))
    ∷ on_the_first "another session gets slots of its own" (Arrive 0 6 100 ∷ []) (answered (Arrive 1 2 101) (Accepted 1 5 15))
    ∷ on_the_first "the packet of the lower stamp goes first, though it came second" (two_at_the_start ++ MoveTo 8 ∷ []) (left_at 1 2)
    ∷ on_the_first "the other follows at once" (two_at_the_start ++ MoveTo 8 ∷ []) (left_at 0 8)
    ∷ on_the_first "a session that was served and not sent has a negative lead" (two_at_the_start ++ MoveTo 2 ∷ []) (lead_of 0 (negsuc 1))
    ∷ on_the_first "a session that was sent and not served has a positive lead" (two_at_the_start ++ MoveTo 2 ∷ []) (lead_of 1 (pos 2))
    ∷ on_the_first "while slots are owed one after another, V is the clock" (two_at_the_start ++ MoveTo 3 ∷ []) (cursor_at 3)
    ∷ on_the_first "a session goes on above the slots that it has" (two_at_the_start ++ MoveTo 3 ∷ []) (answered (Arrive 1 1 102) (Accepted 2 8 18))
    ∷ on_the_first "a packet that came late waits for the line" (one_more_at_3 ++ MoveTo 9 ∷ []) (left_at 2 9)
    ∷ on_the_first "V stands still when nothing is owed" (one_more_at_3 ++ MoveTo 20 ∷ []) (cursor_at 9)
    ∷ on_the_first "after idle ticks a session gets no slot below V" (one_more_at_3 ++ MoveTo 20 ∷ []) (answered (Arrive 0 1 103) (Accepted 3 9 30))
    ∷ on_the_second "a long packet of one session takes every second slot" [] (answered (Arrive 0 10 100) (Accepted 0 18 28))
    ∷ on_the_second "a packet that still waits fills the line's only place" one_long (refused (Arrive 1 1 101) (NoRoom Full) (34 ∷ 71 ∷ []))
    ∷ on_the_second "its own session is refused likewise" one_long (refused (Arrive 0 1 101) (NoRoom Full) (34 ∷ 71 ∷ []))
    ∷ on_the_second "a stamp can lie far below that of the packet being sent" (one_long ++ MoveTo 1 ∷ []) (answered (Arrive 1 1 101) (Accepted 1 1 11))
    ∷ on_the_second "a packet leaves at its latest tick" (one_long ++ MoveTo 1 ∷ Arrive 1 1 101 ∷ MoveTo 11 ∷ []) (left_at 1 11)
    ∷ on_the_second "V leaps over slots that are not owed" (one_long ++ MoveTo 10 ∷ []) (cursor_at 19)
    ∷ on_the_second "a session that was silent gets no slot of the past" (one_long ++ MoveTo 10 ∷ []) (answered (Arrive 1 3 101) (Accepted 1 23 24))
    ∷ []

-- The definitions give every case.
abbrev pub EveryCaseHolds : Type 0
EveryCaseHolds = All Holds worked_cases

-- A small morning, on the first link: two packets, a move, figures, a slip that is filed, two refusals, totals.
abbrev pub small_morning : List Call
small_morning =
    Arrive 0 6 100
    ∷ Arrive 1 2 101
    ∷ MoveTo 2
    ∷ AskFigures 1
    ∷ Collect
    ∷ File 7 1
    ∷ Arrive 0 11 102
    ∷ MoveTo 1
    ∷ AskTotals
    ∷ []

-- Making, adding and opening come first; then each call is answered so, and these values or numbers are printed.
pub record ASmallMorningStands : Type 0 where
  pub making : made 7 10 8 2 ≡ Ok (record { link = 7; largest = 10; capacity = 8; weights = 2 ∷ [] })
  pub adding_one : adding (record { link = 7; largest = 10; capacity = 8; weights = 2 ∷ [] }) 1 ≡ Ok 1
  pub opening : round_length first_link.weights ≡ 3
  pub said : answers first_link (reverse small_morning) ≡
      Accepted 0 7 17
      ∷ Accepted 1 5 15
      ∷ Moved 2 1
      ∷ FiguresAre (record { accepted = 2; sent = 2; served = 0; lead = pos 2; waiting = 0 })
      ∷ Collected (Some (record { link = 7; packet = 1; session = 1; size = 2; tag = 101; started = 0; left = 2 }))
      ∷ Filed 1
      ∷ Refused TooLong
      ∷ Refused TickPassed
      ∷ TotalsAre (record { waiting = 1; sending = 0; left = 0; out = 0; filed = 1; returned = 0 })
      ∷ []
  pub printed : map values (answers first_link (reverse small_morning)) ≡
      (pos 0 ∷ pos 7 ∷ pos 17 ∷ [])
      ∷ (pos 1 ∷ pos 5 ∷ pos 15 ∷ [])
      ∷ (pos 2 ∷ pos 1 ∷ [])
      ∷ (pos 2 ∷ pos 2 ∷ pos 0 ∷ pos 2 ∷ pos 0 ∷ [])
      ∷ (pos 1 ∷ pos 1 ∷ pos 101 ∷ pos 0 ∷ pos 2 ∷ [])
      ∷ (pos 1 ∷ [])
      ∷ (pos 33 ∷ [])
      ∷ (pos 41 ∷ [])
      ∷ (pos 1 ∷ pos 0 ∷ pos 0 ∷ pos 0 ∷ pos 1 ∷ pos 0 ∷ [])
      ∷ []
