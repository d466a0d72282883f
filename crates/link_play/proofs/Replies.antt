-- Playing one after another gives what all are answered. Assumes nothing.
use Rattle.std.proofs.Common.{◌≡◌, ℕ, ◌+◌, ◌<◌, List, [], ◌∷◌, ◌++◌, length, get_or, drop, Some, Ok, Option, refl, sym, ap, ◌∙◌, subst, append_assoc, append-nil, arith}
use Rattle.std.proofs.lemmas.List.{drop_more}
use Rattle.waiting_line.specs.declared.line.WaitingLine.{Ghosts as WaitingLine}
use Rattle.slot_clock.specs.declared.clock.SlotClock.{Ghosts as SlotClock}
use Rattle.tick_machine.specs.declared.call.Call.{Call}
use Rattle.tick_machine.specs.declared.refusal.Refusal.{Refusal}
use Rattle.tick_machine.specs.declared.packet.SlipCopy.{SlipCopy}
use Rattle.tick_machine.specs.declared.call.Call.TheVariants.{Collect}
use Rattle.tick_machine.specs.declared.call.Settlement.{Settlement}
use Rattle.tick_machine.specs.declared.call.Settlement.TheVariants as how
use Rattle.tick_machine.specs.declared.call.Answer.{Answer}
use Rattle.tick_machine.specs.declared.call.Answer.TheVariants as answers
use Rattle.tick_machine.specs.Machine.{Config}
use Rattle.tick_machine.specs.Life.{after, settlement, settling, told}
use Rattle.link.specs.declared.link.Link.{Link}
use Rattle.link.specs.declared.slip.Slip.{Slip}
use Rattle.link.specs.Promise.{Led, Goes, collected_as}
use Rattle.link.proofs.Outs.{settled_last}
use Rattle.link_play.specs.declared.step.Step.{Step}
use Rattle.link_play.specs.Plays.{next_slip, spending, calls_of, replies, Spent, Played, Playing}

put_behind : (before behind : List Answer) (x y : Answer) (rest whole : List Answer) → behind ≡ before ++ x ∷ [] → x ≡ y → before ++ y ∷ rest ≡ whole → behind ++ rest ≡ whole
put_behind before behind x y rest whole e f w = ap (λ (zs : List Answer). zs ++ rest) e ∙ append_assoc before (x ∷ []) rest ∙ ap (λ (z : Answer). before ++ z ∷ rest) f ∙ w

module _ {W S : Type 0} {line : WaitingLine W} {clock : SlotClock S} {c : Config} {calls : List Call} where
  pub step_played : (steps : List Step) (i : ℕ) (z : Step) (before behind behind' : List Answer) (l l' : Link W S) (said : Answer) → i < length steps → (a : Playing line clock c calls steps before (drop i steps) behind l) → Played line clock (get_or steps i z) c a.since said l' → behind' ≡ behind ++ said ∷ [] → Playing line clock c calls steps before (drop (i + 1) steps) behind' l'
  step_played steps i z before behind behind' l l' said h a p e = record {
    since = calls_of c (after c a.since) (get_or steps i z) ++ a.since;
    led = p.led;
    tells = put_behind behind behind' said _ _ _ e p.told (ap (λ (ss : List Step). behind ++ replies c a.since ss) (sym (drop_more steps i z h)) ∙ a.tells);
  }

  pub all_played : (steps rest : List Step) (before behind : List Answer) (l : Link W S) → rest ≡ [] → Playing line clock c calls steps before rest behind l → behind ≡ before ++ replies c calls steps
  all_played steps rest before behind l z a = sym (append-nil behind) ∙ ap (λ (ss : List Step). behind ++ replies c a.since ss) (sym z) ∙ a.tells

module _ {W S : Type 0} {line : WaitingLine W} {clock : SlotClock S} {c : Config} {calls : List Call} {l l' : Link W S} {slip : Slip}
    (g : Goes line clock c calls l Collect (collected_as (Some slip)) l') where
  was_next : Some slip.says ≡ next_slip c (after c calls)
  was_next = cc g.told

  is_granted : settlement c slip.says.link slip.says.packet (after c (Collect ∷ calls)) ≡ Ok slip.says.packet
  is_granted = settled_last c (after c calls).desk.left (after c calls).desk.out slip.says (after c (Collect ∷ calls)) was_next refl

  -- a slip just taken is never refused
  pub just_taken_granted : (e : Refusal) (l'' : Link W S) (w : Settlement) → Goes line clock c (Collect ∷ calls) l' (settling w slip.says.link slip.says.packet) (answers.Refused e) l'' → ⊥
  just_taken_granted e l'' how.File h = let f : answers.Refused e ≡ answers.Filed slip.says.packet = h.told ∙ ap (told answers.Filed) is_granted in let z : ◌≡◌ {A = ℕ} 0 1 = cc in omega arith
  just_taken_granted e l'' how.Return h = let f : answers.Refused e ≡ answers.Returned slip.says.packet = h.told ∙ ap (told answers.Returned) is_granted in let z : ◌≡◌ {A = ℕ} 0 1 = cc in omega arith

  -- a slip taken and settled so
  pub spent : (w : Settlement) (says : SlipCopy) (x : Answer) (l'' : Link W S) → says ≡ slip.says → Goes line clock c (Collect ∷ calls) l' (settling w slip.says.link slip.says.packet) x l''
      → Spent line clock w c calls (answers.Collected (Some says)) l''
  spent w says x l'' e h = record {
    told = ap (λ (s : SlipCopy). answers.Collected (Some s)) e ∙ g.told;
    led = subst (λ (o : Option SlipCopy). Led line clock c (spending (settling w) o ++ calls) l'') was_next h.led;
  }

-- the addings, the opening and the steps, one behind the other
pub joined : (before b₁ b₂ b₃ adds rest : List Answer) (m n : ℕ) → b₁ ≡ before ++ adds → b₂ ≡ b₁ ++ answers.Opened m ∷ [] → m ≡ n → b₃ ≡ b₂ ++ rest → b₃ ≡ before ++ (adds ++ answers.Opened n ∷ rest)
joined before b₁ b₂ b₃ adds rest m n e f g h =
    h ∙ ap (λ (zs : List Answer). zs ++ rest) f ∙ append_assoc b₁ (answers.Opened m ∷ []) rest ∙ ap (λ (zs : List Answer). zs ++ answers.Opened m ∷ rest) e
    ∙ append_assoc before adds (answers.Opened m ∷ rest) ∙ ap (λ (k : ℕ). before ++ (adds ++ answers.Opened k ∷ rest)) g
