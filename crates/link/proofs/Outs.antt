-- What a call does to the packets that are out. Assumes nothing.
use Rattle.std.proofs.Common.{◌≡◌, ℕ, zero, suc, true, List, [], ◌∷◌, ◌++◌, replicate, Some, Ok, Err, Result, refl, sym, ap, ◌∙◌, arith}
use Rattle.std.proofs.lemmas.Bool.{eq-eqb, or_left, or_right}
use Rattle.tick_machine.specs.declared.refusal.Refusal.{Refusal}
use Rattle.tick_machine.specs.declared.packet.SlipCopy.{SlipCopy}
use Rattle.tick_machine.specs.declared.packet.Departed.{Departed}
use Rattle.tick_machine.specs.Desk.{first, handed, among, slip}
use Rattle.tick_machine.specs.Machine.{Config, Machine}
use Rattle.tick_machine.specs.Life.{slip_of, settlement, ticked, steps, if_granted}
use Rattle.link.proofs.Slips.{is_out}

among_last : (k : ℕ) (xs : List ℕ) → among k (xs ++ k ∷ []) ≡ true
among_last k [] = or_left _ _ (eq-eqb k k refl)
among_last k (x ∷ xs) = or_right _ _ (among_last k xs)

-- a slip that is said is of the first of the left list
pub record Said (link : ℕ) (left : List Departed) (out : List ℕ) (says : SlipCopy) : Type 0 where
  pub handed_is : handed left out ≡ out ++ says.packet ∷ []
  pub link_is : says.link ≡ link

pub said_one : (link : ℕ) (left : List Departed) (out : List ℕ) (says : SlipCopy) → Some says ≡ slip_of link (first left) → Said link left out says
said_one link [] out says e = let z : ◌≡◌ {A = ℕ} 0 1 = cc in absurd (omega arith)
said_one link (d ∷ ds) out says e =
    let q : says ≡ slip link d = cc in
    record { handed_is = ap (λ (x : SlipCopy). out ++ x.packet ∷ []) (sym q); link_is = ap (λ (x : SlipCopy). x.link) q }

-- the packet of a slip just handed out can be settled
pub settled_last : (c : Config) (left : List Departed) (out : List ℕ) (says : SlipCopy) (m : Machine) → Some says ≡ slip_of c.link (first left) → m.desk.out ≡ handed left out → settlement c says.link says.packet m ≡ Ok says.packet
settled_last c left out says m e o =
    let s = said_one c.link left out says e in
    is_out c says.link says.packet m s.link_is (ap (among says.packet) (o ∙ s.handed_is) ∙ among_last says.packet out)

-- no tick changes which packets are out
ticks_out : (c : Config) (m : Machine) (k : ℕ) → (steps c (replicate k ticked) m).desk.out ≡ m.desk.out
ticks_out c m zero = refl
ticks_out c m (suc k) = ticks_out c m k

pub move_out : {X : Type 0} (c : Config) (m : Machine) (r : Result X Refusal) (k : ℕ) → (steps c (if_granted r (replicate k ticked)) m).desk.out ≡ m.desk.out
move_out c m (Ok x) k = ticks_out c m k
move_out c m (Err e) k = refl
