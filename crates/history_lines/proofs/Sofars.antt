-- What is printed so far, and what is left to print. Assumes nothing.
use Rattle.std.proofs.Common.{◌≡◌, ℕ, ◌+◌, ◌<◌, ◌≤◌, ltb, List, [], ◌∷◌, ◌++◌, length, Some, None, Ok, Err, Option, Result, sym, refl, ap, ◌∙◌, append_assoc, append-nil, arith}
use Rattle.std.proofs.lemmas.Bool.{cond-true, cond-false, lt-ltb, le-ltb}
use Rattle.std.specs.declared.alloc.AllocError.{AllocError}
use Rattle.history_text.specs.Cuts.{cut}
use Rattle.history_reply.specs.declared.replies.Reply.{Reply}
use Rattle.history_reply.specs.declared.replies.Reply.TheVariants.{TooLong}
use Rattle.history_reply.specs.Replies.{line_of}
use Rattle.history_lines.specs.Clerks.{last_lines, Answered}
use Rattle.history_reply.specs.Stages.{Stage, before}
use Rattle.history_reply.specs.Transcript.{said, after_line, ending, saying, printed_lines, together, transcript, Front}

-- some first lines stand in out after what was there of old; the lines to come are those that the rest of the input prints from line n on
pub record Sofar {C : Type 0} (stands : Stage → C → Type 0) (old : List ℕ) (lines : List (List ℕ)) (out : List ℕ) (rest : List (List ℕ)) (n : ℕ) (clerk : C) : Type 0 where
  pub stage : Stage
  pub here : stands stage clerk
  pub printed : List (List ℕ)
  pub is : out ≡ old ++ together printed
  pub all : printed ++ saying n stage rest ≡ lines

together_append : (xs ys : List (List ℕ)) → together (xs ++ ys) ≡ together xs ++ together ys
together_append [] ys = refl
together_append (x ∷ xs) ys = ap (λ (l : List ℕ). x ++ l) (together_append xs ys) ∙ sym (append_assoc x (together xs) (together ys))

-- lines more after those that are printed
pub printed_more : (old out new : List ℕ) (xs ys : List (List ℕ)) → out ≡ old ++ together xs → new ≡ out ++ together ys → new ≡ old ++ together (xs ++ ys)
printed_more old out new xs ys e h =
    h
    ∙ ap (λ (l : List ℕ). l ++ together ys) e
    ∙ append_assoc old (together xs) (together ys)
    ∙ ap (λ (l : List ℕ). old ++ l) (sym (together_append xs ys))

-- an input that is not too long
pub short_lines : (input : List ℕ) → length input ≤ 65536 → saying 1 before (cut 10 input) ≡ printed_lines input
short_lines input h = sym (cond-false (ltb 65536 (length input)) _ _ (le-ltb 65536 (length input) h))

pub long_lines : (input : List ℕ) → 65536 < length input → printed_lines input ≡ line_of TooLong ∷ []
long_lines input h = cond-true (ltb 65536 (length input)) _ _ (lt-ltb 65536 (length input) h)

-- nothing was printed
pub nothing_printed : (old new : List ℕ) (lines : List (List ℕ)) → new ≡ old → Front old lines new
nothing_printed old new lines e = record { printed = []; missing = lines; all = refl; is = e ∙ sym (append-nil old) }

pub front_from : (old new : List ℕ) (xs ys lines : List (List ℕ)) → xs ++ ys ≡ lines → new ≡ old ++ together xs → Front old lines new
front_from old new xs ys lines all is = record { printed = xs; missing = ys; all = all; is = is }

-- all was printed
pub whole : (old new : List ℕ) (xs : List (List ℕ)) (input : List ℕ) → xs ≡ printed_lines input → new ≡ old ++ together xs → new ≡ old ++ transcript input
unfolding transcript
whole old new xs input all is = is ∙ ap (λ (l : List (List ℕ)). old ++ together l) all

pub one_printed : (old new line : List ℕ) → new ≡ old ++ line → new ≡ old ++ together (line ∷ [])
one_printed old new line e = e ∙ ap (λ (l : List ℕ). old ++ l) (sym (append-nil line))

pub answered_ok : {C : Type 0} (stands : Stage → C → Type 0) (n : ℕ) (s : Stage) (line out new : List ℕ) (clerk : C) (r : Result (Unit {0}) AllocError) (x : Unit {0}) → r ≡ Ok x → Answered stands n s line out new clerk r → stands (after_line n s line) clerk × (new ≡ out ++ together (said n s line))
answered_ok stands n s line out new clerk (Ok y) x e h = h
answered_ok stands n s line out new clerk (Err y) x e h = let z : ◌≡◌ {A = ℕ} 0 1 = cc in absurd (omega arith)

-- the last line is answered, and this is still to be said
pub record Ended (old : List ℕ) (lines : List (List ℕ)) (out : List ℕ) (r : Option Reply) : Type 0 where
  pub printed : List (List ℕ)
  pub is : out ≡ old ++ together printed
  pub all : printed ++ last_lines r ≡ lines

module _ {C : Type 0} (stands : Stage → C → Type 0) (old : List ℕ) (lines : List (List ℕ)) where
  -- nothing is printed at the start
  pub begun : (rest : List (List ℕ)) (clerk : C) → stands before clerk → saying 1 before rest ≡ lines → Sofar stands old lines old rest 1 clerk
  begun rest clerk here all = record { stage = before; here = here; printed = []; is = sym (append-nil old); all = all }

  -- one line more
  pub one_line : (out new line : List ℕ) (rest more : List (List ℕ)) (n m : ℕ) (c d : C) → rest ≡ line ∷ more → m ≡ n + 1 → (s : Sofar stands old lines out rest n c) → stands (after_line n s.stage line) d → new ≡ out ++ together (said n s.stage line) → Sofar stands old lines new more m d
  one_line out new line rest more n m c d parts next s here e = record {
    stage = after_line n s.stage line;
    here = here;
    printed = s.printed ++ said n s.stage line;
    is = printed_more old out new s.printed (said n s.stage line) s.is e;
    all =
        ap (λ (k : ℕ). (s.printed ++ said n s.stage line) ++ saying k (after_line n s.stage line) more) next
        ∙ append_assoc s.printed (said n s.stage line) (saying (n + 1) (after_line n s.stage line) more)
        ∙ ap (λ (l : List (List ℕ)). s.printed ++ saying n s.stage l) (sym parts)
        ∙ s.all;
  }

  -- no line is left
  pub all_lines : (out : List ℕ) (rest : List (List ℕ)) (n : ℕ) (c : C) (r : Option Reply) → rest ≡ [] → (s : Sofar stands old lines out rest n c) → last_lines r ≡ ending s.stage → Ended old lines out r
  all_lines out rest n c r none s f = record {
    printed = s.printed;
    is = s.is;
    all =
        ap (λ (l : List (List ℕ)). s.printed ++ l) f
        ∙ ap (λ (l : List (List ℕ)). s.printed ++ saying n s.stage l) (sym none)
        ∙ s.all;
  }

module _ (old new input : List ℕ) where
  pub ended_in_silence : Ended old (printed_lines input) new None → new ≡ old ++ transcript input
  ended_in_silence e = whole old new e.printed input (sym (append-nil e.printed) ∙ e.all) e.is

  module _ (out : List ℕ) (reply : Reply) (e : Ended old (printed_lines input) out (Some reply)) where
    pub ended_with_reply : new ≡ out ++ line_of reply → new ≡ old ++ transcript input
    ended_with_reply h = whole old new (e.printed ++ (line_of reply ∷ [])) input e.all (printed_more old out new e.printed (line_of reply ∷ []) e.is (one_printed out new (line_of reply) h))

    pub reply_missing : new ≡ out → Front old (printed_lines input) new
    reply_missing h = front_from old new e.printed (line_of reply ∷ []) (printed_lines input) e.all (h ∙ e.is)

  pub too_long : 65536 < length input → new ≡ old ++ line_of TooLong → new ≡ old ++ transcript input
  too_long h e = whole old new (line_of TooLong ∷ []) input (sym (long_lines input h)) (one_printed old new (line_of TooLong) e)
