-- A whole life of a link. Assumes nothing.
use Rattle.std.proofs.Common.{◌≡◌, ℕ, List, [], ◌∷◌, ◌++◌, reverse, Ok, Err, Result, sym, refl, ap, ◌∙◌, subst, append_assoc, arith}
use Rattle.waiting_line.specs.declared.line.WaitingLine.{Ghosts as WaitingLine}
use Rattle.slot_clock.specs.declared.clock.SlotClock.{Ghosts as SlotClock}
use Rattle.tick_machine.specs.declared.refusal.Refusal.{Refusal}
use Rattle.tick_machine.specs.declared.call.Call.{Call}
use Rattle.tick_machine.specs.declared.call.Answer.{Answer}
use Rattle.tick_machine.specs.declared.call.Answer.TheVariants.{Made, Opened, Refused}
use Rattle.tick_machine.specs.Lists.{none}
use Rattle.tick_machine.specs.Slots.{round_length}
use Rattle.tick_machine.specs.Machine.{Config}
use Rattle.tick_machine.specs.Life.{adding, with_session, added, drafted, answers, making_of}
use Rattle.link.specs.declared.link.Link.{Link}
use Rattle.link.specs.declared.slip.Slip.{Slip}
use Rattle.link.specs.declared.error.MakeError.{MakeError}
use Rattle.link.specs.declared.error.MakeError.TheVariants as error
use Rattle.link.specs.Drafting.{Makes, Opens}
use Rattle.link.proofs.Reached.{lawful}
use Rattle.tick_machine.specs.declared.call.Making.{Making}
use Rattle.replay.specs.History.{adding_answers, life_answers, history_answers, packets, OfLink, Lives, Plays}
use Rattle.replay.specs.Hand.{InHand, Held, Called}

-- no adding changes the link's number
added_link : (r : Result ℕ Refusal) (w : ℕ) (c : Config) → (with_session r w c).link ≡ c.link
added_link (Ok i) w c = refl
added_link (Err e) w c = refl

drafted_link : (c : Config) (ws : List ℕ) → (drafted c ws).link ≡ c.link
drafted_link c [] = refl
drafted_link c (w ∷ ws) = drafted_link (added c w) ws ∙ added_link (adding c w) w c

-- nothing is in hand when a link is opened
pub opened_held : {W S : Type 0} {line : WaitingLine W} {clock : SlotClock S} {c : Config} {l : Link W S} {round : ℕ} (ss : List Slip)
    → Opens line clock c l round → ss ≡ [] → Held line clock c [] (record { link = l; slips = ss })
opened_held {c} ss o e = record { led = o.led; out = ap packets e; own = subst (OfLink c.link) (sym e) none }

-- the answers of a life, put one after the other
all_told : (c : Config) (addings : List ℕ) (calls : List Call) (number round : ℕ) (said₀ said₁ said₂ said₃ said₄ : List Answer) → said₀ ≡ [] → said₁ ≡ said₀ ++ Made number ∷ []
    → said₂ ≡ said₁ ++ adding_answers c addings → said₃ ≡ said₂ ++ Opened round ∷ [] → said₄ ≡ said₃ ++ answers (drafted c addings) (reverse calls) → number ≡ c.link
    → round ≡ round_length (drafted c addings).weights → said₄ ≡ life_answers c addings calls
all_told c addings calls number round said₀ said₁ said₂ said₃ said₄ e₀ e₁ e₂ e₃ e₄ n r =
    let adds = adding_answers c addings in
    let rest = answers (drafted c addings) (reverse calls) in
    let q₁ : said₁ ≡ Made number ∷ [] = e₁ ∙ ap (λ (x : List Answer). x ++ Made number ∷ []) e₀ in
    let q₂ : said₂ ≡ Made number ∷ adds = e₂ ∙ ap (λ (x : List Answer). x ++ adds) q₁ in
    let q₃ : said₃ ≡ Made number ∷ (adds ++ Opened round ∷ []) = e₃ ∙ ap (λ (x : List Answer). x ++ Opened round ∷ []) q₂ in
    let q₄ : said₄ ≡ Made number ∷ ((adds ++ Opened round ∷ []) ++ rest) = e₄ ∙ ap (λ (x : List Answer). x ++ rest) q₃ in
    q₄ ∙ ap (λ (x : List Answer). Made number ∷ x) (append_assoc adds (Opened round ∷ []) rest) ∙ (λ k. Made (n k) ∷ (adds ++ Opened (r k) ∷ rest))

pub lives : {W S : Type 0} {line : WaitingLine W} {clock : SlotClock S} {l₀ : Link W S} {d : InHand W S} (c : Config) (addings : List ℕ) (calls : List Call) (number round : ℕ)
    (said₀ said₁ said₂ said₃ said₄ : List Answer) → said₀ ≡ [] → said₁ ≡ said₀ ++ Made number ∷ [] → said₂ ≡ said₁ ++ adding_answers c addings → said₃ ≡ said₂ ++ Opened round ∷ [] → number ≡ c.link
    → Opens line clock (drafted c addings) l₀ round → Called line clock (drafted c addings) calls said₃ d said₄ → Lives c addings calls said₄ d.slips
lives {d} c addings calls number round said₀ said₁ said₂ said₃ said₄ e₀ e₁ e₂ e₃ n o p = record {
  told = all_told c addings calls number round said₀ said₁ said₂ said₃ said₄ e₀ e₁ e₂ e₃ p.told n o.told;
  lawful = lawful (drafted c addings) p.held.led.drafted (reverse calls);
  out = p.held.out;
  own = subst (λ (x : ℕ). OfLink x d.slips) (drafted_link c addings) p.held.own;
}

-- a making that was refused
refused_by : {W : Type 0} (line : WaitingLine W) (m : Making) (e : Refusal) (r : Result Config Refusal) → making_of m ≡ r → Makes {W = W} line r (Err (error.Refused e)) → making_of m ≡ Err e
refused_by line m e (Ok c) q h = absurd h
refused_by line m e (Err x) q h = q ∙ ap Err (sym h)

pub refused_plays : {W : Type 0} (line : WaitingLine W) (m : Making) (e : Refusal) (addings : List ℕ) (calls : List Call) (said₀ said : List Answer) (ss : List Slip) (x : MakeError)
    → x ≡ error.Refused e → Makes {W = W} line (making_of m) (Err x) → said₀ ≡ [] → said ≡ said₀ ++ Refused e ∷ [] → ss ≡ [] → Plays m addings calls said ss
refused_plays {W} line m e addings calls said₀ said ss x xe h e₀ q n =
    let is = refused_by line m e (making_of m) refl (subst (λ (y : MakeError). Makes {W = W} line (making_of m) (Err y)) xe h) in
    record {
      told = q ∙ ap (λ (x : List Answer). x ++ Refused e ∷ []) e₀ ∙ ap (λ (r : Result Config Refusal). history_answers r addings calls) (sym is);
      lawful = λ c p. let z : ◌≡◌ {A = ℕ} 0 1 = cc (is, p) in absurd (omega arith);
      out = λ c p. let z : ◌≡◌ {A = ℕ} 0 1 = cc (is, p) in absurd (omega arith);
      own = subst (OfLink m.number) (sym n) none;
      none = λ x p. n;
    }
