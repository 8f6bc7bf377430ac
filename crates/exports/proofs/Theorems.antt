-- Theorems on the press driver's call, over its contract. The reading of that contract is written here, and `drive_is` shows that it is what the contract says.
use Prim.Native.Nat.{ℕ}
use mathlib.Core.Path.{◌≡◌, refl, sym, ap, ◌∙◌}
use mathlib.Core.Bool.{Bool}
use mathlib.Core.List.{List, [], ◌∷◌}
use seplogic.Ra.Ura.{Ura}
use base.Logic.{SProp}
use prog.Memory.{Memory}
use prog.Routine.{Routine}
use types.Logic.{Logic}
use contract.Lifetimes.{Lfts}
use contract.Monad.{Fun, fact}
use denote.Triple.Clauses.{AtExit, Clauses}
use denote.Triple.Entry.{Args}
use Rattle.walker.specs.declared.Walker.{Walker}
use Rattle.walking.specs.declared.Moved.{Moved}
use Rattle.walking.specs.Answers.{move_answer, move_strip}
use Rattle.walking.specs.Walks.{after}
use Rattle.walking.proofs.Right.{MoveRight, right}
use Rattle.walking.proofs.Theorems.{move_after}
use Rattle.exports.specs.contracts.driving.nelfrupi_drive as drive

-- an answer r, and the strip t and the walker v that are left, which the contract allows for a stock, a strip s and a walker w: on at false, back at true
abbrev pub Allowed : Bool → List ℕ → List ℕ → Walker → Moved → List ℕ → Walker → Type 0
Allowed d counts s w r t v = (r ≡ move_answer d counts s w) × (t ≡ move_strip d counts s w) × (v ≡ r.walker)

-- that a contract says this and no more
abbrev Says : {M : Type 1} (𝓤 : Ura M) → Clauses 𝓤 drive.ended → Type 2
Says 𝓤 c =
    (κs : Lfts 3) (a : Args drive.signature κs) (g : (c κs a).ghost) (r : Moved) (s : AtExit drive.ended κs)
    → (c κs a).ensures g r s ≡ fact 𝓤 (Allowed a.1.1.1.0 a.0.now a.1.0.now a.1.1.0.now r s.1.0.now s.1.1.0.now)

module _ {M : Type 1} {𝓤 : Ura M} (𝓛 : Logic 𝓤) (mem : Memory → SProp 𝓤) (run : Routine → Fun 𝓤) where
  pub drive_is : Says 𝓤 (drive.clauses 𝓛 mem run)
  drive_is κs a g r s = refl

module _ (d : Bool) (counts s : List ℕ) (w : Walker) where
  -- two outcomes that it allows for one input are the same
  pub drive_one_outcome : (r q : Moved) (t u : List ℕ) (v x : Walker) → Allowed d counts s w r t v → Allowed d counts s w q u x → (r ≡ q) × (t ≡ u) × (v ≡ x)
  drive_one_outcome r q t u v x h k =
      let e = h.0 ∙ sym k.0 in
      (e, h.1 ∙ sym k.1, h.2 ∙ ap (λ (r : Moved). r.walker) e ∙ sym k.2)

  -- it answers as Walk does, and leaves in the lent walker the one that it answers
  pub drive_right : (r : Moved) (t : List ℕ) (v : Walker) → Allowed d counts s w r t v → MoveRight d counts s w r t × (v ≡ r.walker)
  drive_right r t v h = (right d counts s w r t (h.0, h.1), h.2)

  -- and is one move of a walk
  pub drive_after : (r : Moved) (t : List ℕ) (v : Walker) → Allowed d counts s w r t v → after counts (d ∷ []) s w ≡ (t, v)
  drive_after r t v h = rw h.2 (move_after d counts s w r t (h.0, h.1))
