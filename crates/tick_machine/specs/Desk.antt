-- Packets that have left: uncollected, out on a slip, settled. Assumes nothing.
use Rattle.std.specs.Prelude.{ℕ, ◌+◌, Bool, false, cond, ◌||◌, List, [], ◌∷◌, ◌++◌, Some, None, Option, ◌==◌}
use Rattle.tick_machine.specs.declared.packet.SlipCopy.{SlipCopy}
use Rattle.tick_machine.specs.Sender.{Departed}

-- the packets that have left and were not collected, the first first; the numbers of those out on a slip, the first collected first;
-- how many were filed, and how many returned
pub record Desk : Type 0 where
  pub left : List Departed
  pub out : List ℕ
  pub filed : ℕ
  pub returned : ℕ

abbrev pub empty_desk : Desk
empty_desk = record { left = []; out = []; filed = 0; returned = 0 }

-- a packet that leaves joins the end of the left list
abbrev pub joined : Option Departed → List Departed → List Departed
joined None ds = ds
joined (Some d) ds = ds ++ d ∷ []

abbrev pub depart : Option Departed → Desk → Desk
depart o d = record { left = joined o d.left; out = d.out; filed = d.filed; returned = d.returned }

-- the first packet of the left list, and the others
abbrev pub first : List Departed → Option Departed
first [] = None
first (d ∷ ds) = Some d

abbrev pub rest : List Departed → List Departed
rest [] = []
rest (d ∷ ds) = ds

-- the number of the first packet, put at the end of those out
abbrev pub handed : List Departed → List ℕ → List ℕ
handed [] out = out
handed (d ∷ ds) out = out ++ d.packet.number ∷ []

-- the first packet of the left list goes out on a slip
abbrev pub hand_out : Desk → Desk
hand_out d = record { left = rest d.left; out = handed d.left d.out; filed = d.filed; returned = d.returned }

-- what its slip says
abbrev pub slip : ℕ → Departed → SlipCopy
slip link d = record {
  link = link;
  packet = d.packet.number;
  session = d.packet.session;
  size = d.packet.size;
  tag = d.packet.tag;
  started = d.started;
  left = d.left;
}

-- whether the number is among them
abbrev pub among : ℕ → List ℕ → Bool
among k [] = false
among k (x ∷ xs) = x == k || among k xs

-- the list without the first entry that is the number
abbrev pub without : ℕ → List ℕ → List ℕ
without k [] = []
without k (x ∷ xs) = cond (x == k) xs (x ∷ without k xs)

-- the packet of the number is out no more: it is filed, or returned
abbrev pub file : ℕ → Desk → Desk
file k d = record { left = d.left; out = without k d.out; filed = d.filed + 1; returned = d.returned }

abbrev pub return : ℕ → Desk → Desk
return k d = record { left = d.left; out = without k d.out; filed = d.filed; returned = d.returned + 1 }
