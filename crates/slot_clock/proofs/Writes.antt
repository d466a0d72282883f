-- A write at a place of a vector of fixed capacity, through the slice that it lends. Assumes nothing.
use Rattle.std.proofs.Common.{◌≡◌, ℕ, List, length, set, ap, ◌∙◌, length-set}
use Rattle.arrayvec.specs.ArrayVec.{ArrayVec, with_items}
use Rattle.arrayvec.proofs.ArrayVecLemmas.{items-with_items}

pub written : {T : Type 0} (v : ArrayVec T) (lent : List T) (i : ℕ) (x : T) → lent ≡ v.items → (with_items v (set lent i x)).items ≡ set v.items i x
written v lent i x e = items-with_items v (set lent i x) (length-set lent i x ∙ ap length e) ∙ ap (λ xs. set xs i x) e
