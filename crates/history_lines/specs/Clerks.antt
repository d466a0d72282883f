-- What a clerk does with a command. Assumes nothing.
use Rattle.std.specs.Prelude.{◌≡◌, ℕ, List, [], ◌∷◌, ◌++◌, Some, None, Option, Result, MatchResult}
use Rattle.std.specs.declared.alloc.AllocError.{AllocError}
use Rattle.history_reply.specs.declared.replies.Reply.{Reply}
use Rattle.history_reply.specs.Replies.{line_of}
use Rattle.history_reply.specs.Stages.{Stage, Turn}
use Rattle.history_reply.specs.Transcript.{said, after_line, together}

-- the clerk replied as the turn says and stands where it leads; or there was no memory, and the clerk stands where it stood
abbrev pub Obeyed : {C : Type 0} → (Stage → C → Type 0) → Stage → Turn → C → Result Reply AllocError → Type 0
Obeyed stands s t clerk r = MatchResult r (λ reply. (reply ≡ t.says) × stands t.next clerk) (λ e. stands s clerk)

-- the lines of the last reply, if there is one
abbrev pub last_lines : Option Reply → List (List ℕ)
last_lines None = []
last_lines (Some r) = line_of r ∷ []

-- line n was answered: its lines stand there after what was there, and the clerk stands where it leads; or there was no memory, and nothing
-- was written
abbrev pub Answered : {C : Type 0} → (Stage → C → Type 0) → ℕ → Stage → List ℕ → List ℕ → List ℕ → C → Result (Unit {0}) AllocError → Type 0
Answered stands n s line old new clerk r =
    MatchResult r (λ _. stands (after_line n s line) clerk × (new ≡ old ++ together (said n s line))) (λ _. ((t : Stage) × stands t clerk) × (new ≡ old))
