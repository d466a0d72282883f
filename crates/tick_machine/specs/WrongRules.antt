-- Three rules that are easily taken for ours, and where each gives another answer. Nothing else uses them. Assumes nothing.
use Rattle.std.specs.Prelude.{◌≡◌, ℕ, max, List, [], ◌∷◌, ◌++◌, reverse, Some, Option, slice_index, None}
use Rattle.tick_machine.specs.declared.call.Call.TheVariants.{MoveTo}
use Rattle.tick_machine.specs.Lists.{final, insert}
use Rattle.tick_machine.specs.Slots.{own_slots}
use Rattle.tick_machine.specs.Round.{Round, granted, stamp}
use Rattle.tick_machine.specs.Sender.{Packet, Line, load, byte_of}
use Rattle.tick_machine.specs.Machine.{Config, Machine, opened, packet, accept}
use Rattle.tick_machine.specs.Life.{after}
use Rattle.tick_machine.specs.Cases.{first_link, second_link, two_at_the_start, one_long}

-- WRONG: a packet gets its session's lowest slots above those that the session has, wherever V is.
abbrev pub stamp_from_next_alone : List ℕ → ℕ → ℕ → Round → ℕ
stamp_from_next_alone ws i n r = final 0 (own_slots ws i n (slice_index r.next i))

-- WRONG: V is the stamp of the packet that is being sent.
abbrev pub cursor_of_line : Line → Round → ℕ
cursor_of_line None r = r.cursor
cursor_of_line (Some s) r = s.packet.stamp

abbrev pub stamp_from_line : List ℕ → ℕ → ℕ → Line → Round → ℕ
stamp_from_line ws i n l r = final 0 (own_slots ws i n (max (cursor_of_line l r) (slice_index r.next i)))

-- WRONG: a packet waits under the first of its slots, and so the one whose first slot is the lowest goes.
abbrev pub first_slot : List ℕ → ℕ
first_slot [] = 0
first_slot (q ∷ qs) = q

abbrev pub under_first_slot : Config → ℕ → ℕ → ℕ → Machine → Packet
under_first_slot c i n tag m =
    let p = packet c i n tag m in
    record { number = p.number; session = i; size = n; tag = tag; stamp = first_slot (granted c.weights i n m.round); latest = p.latest }

abbrev pub accept_by_first_slot : Config → ℕ → ℕ → ℕ → Machine → Machine
accept_by_first_slot c i n tag m =
    let a = accept c i n tag m in
    record {
      clock = a.clock;
      count = a.count;
      round = a.round;
      sender = record { waiting = insert (λ p. p.stamp) (under_first_slot c i n tag m) m.sender.waiting; line = a.sender.line };
      desk = a.desk;
      bytes = a.bytes;
    }

-- the session whose byte the next tick sends
abbrev pub next_byte_of : Machine → Option ℕ
next_byte_of m = byte_of (load m.clock m.sender.line m.sender.waiting).line

-- the second link with the long packet, at 1 and at 10
abbrev pub at_1 : Machine
at_1 = after second_link (reverse (one_long ++ MoveTo 1 ∷ []))

abbrev pub at_10 : Machine
at_10 = after second_link (reverse (one_long ++ MoveTo 10 ∷ []))

-- Each gives another answer than ours, first the wrong one, then ours.
pub record WrongRulesDiffer : Type 0 where
  -- on the second link, a packet of 3 bytes of session 1 at 10, after the long one: 5 in place of 23
  pub from_next_alone : stamp_from_next_alone second_link.weights 1 3 at_10.round ≡ 5
  pub from_cursor_and_next : stamp second_link.weights 1 3 at_10.round ≡ 23
  -- there at 1, while the long one is sent, a packet of 1 byte of session 1: 19 in place of 1
  pub from_line : stamp_from_line second_link.weights 1 1 at_1.sender.line at_1.round ≡ 19
  pub from_round_server : stamp second_link.weights 1 1 at_1.round ≡ 1
  -- on the first link, after 6 bytes of session 0 and 2 bytes of session 1 at 0: session 0 goes in place of session 1
  pub by_first_slot : next_byte_of (accept_by_first_slot first_link 1 2 101 (accept_by_first_slot first_link 0 6 100 (opened first_link))) ≡ Some 0
  pub by_stamp : next_byte_of (after first_link (reverse two_at_the_start)) ≡ Some 1
