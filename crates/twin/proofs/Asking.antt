-- A list of requests, asked in part. Assumes nothing.
use Rattle.std.proofs.Common.{◌≡◌, ℕ, List, ◌++◌, drop}
use Rattle.board.specs.Pile.{Pile, Place}
use Rattle.twin.specs.Bytes.{pile_after}
use Rattle.twin.specs.Life.{State, after, replies}
use Rattle.twin.specs.declared.request.Reply.{Reply}
use Rattle.twin.specs.declared.request.Request.{Request}

-- what is asked so far, and what is still to be asked, make the whole
pub record SoFar (rs : List Request) (i : ℕ) (outs outs₀ : List Reply) (s s₀ : State) (place place₀ : ℕ → Place) (x x₀ : Pile) : Type 0 where
  pub told : outs ++ replies s (drop i rs) ≡ outs₀ ++ replies s₀ rs
  pub state : after s (drop i rs) ≡ after s₀ rs
  pub bytes : pile_after s place x (drop i rs) ≡ pile_after s₀ place₀ x₀ rs
  pub places : place ≡ place₀
