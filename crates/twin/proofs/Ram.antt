-- Of RAM the pile is its bytes, in every life, and the lender's own. Assumes nothing.
use Rattle.std.proofs.Common.{◌≡◌, ℕ, List, [], ◌∷◌, sym, refl, ap, ◌∙◌}
use Rattle.board.proofs.Words.{lent_left}
use Rattle.board.specs.Memory.{Meaning, poked}
use Rattle.board.specs.Pile.{Pile, Lent, Both, Here}
use Rattle.board.specs.Ram.{ram}
use Rattle.calls.specs.declared.call.Call as calls
use Rattle.calls.specs.declared.call.Call.TheVariants.{Poke, Peek, Write, Read, Mode, Access, Resolve, Drop, DropAll, Tally}
use Rattle.twin.specs.Bytes.{call_pile, pile_by, pile_after, call_bytes, bytes_by, bytes_after, ram_after}
use Rattle.twin.specs.Life.{State, begin, next}
use Rattle.twin.specs.declared.request.Request.{Request}
use Rattle.twin.specs.declared.request.Request.TheVariants as requests

module _ (n : ℕ) where
  one_call : (c : calls.Call) (m : Meaning) (bs : List ℕ) → Lent n (call_bytes c m bs) ≡ call_pile c m Here (Lent n bs)
  one_call (Poke a w) m bs = lent_left (poked m a) n bs a w
  one_call (Peek a) m bs = refl
  one_call (Write r w) m bs = refl
  one_call (Read r) m bs = refl
  one_call (Mode p i d) m bs = refl
  one_call (Access k e) m bs = refl
  one_call (Resolve k e) m bs = refl
  one_call (Drop e) m bs = refl
  one_call DropAll m bs = refl
  one_call Tally m bs = refl

  one_request : (r : Request) (m : Meaning) (bs : List ℕ) → Lent n (bytes_by r m bs) ≡ pile_by r m Here (Lent n bs)
  one_request (requests.Call c) m bs = one_call c m bs
  one_request (requests.Look k i) m bs = refl

  pub ram_pile : (rs : List Request) (s : State) (bs : List ℕ) → Lent n (bytes_after s bs rs) ≡ pile_after s Here (Lent n bs) rs
  ram_pile [] s bs = refl
  ram_pile (r ∷ rs) s bs = ram_pile rs (next r s) (bytes_by r s.memory bs) ∙ ap (λ x. pile_after (next r s) Here x rs) (one_request r s.memory bs)

-- so a pile that a life leaves tells the lender's name and its bytes
name_of : Pile → ℕ
name_of (Lent n bs) = n
name_of (Both x y) = 0

bytes_of : Pile → List ℕ
bytes_of (Lent n bs) = bs
bytes_of (Both x y) = []

module _ (n n' : ℕ) (bs bs' : List ℕ) where
  pub ram_same : Lent n' bs' ≡ Lent n bs → (n' ≡ n) × (bs' ≡ bs)
  unfolding name_of bytes_of
  ram_same e = (ap name_of e, ap bytes_of e)

  pub ram_left : (rs : List Request) → Lent n' bs' ≡ pile_after (begin (ram bs)) Here (Lent n bs) rs → (n' ≡ n) × (bs' ≡ ram_after bs rs)
  unfolding name_of bytes_of
  ram_left rs e =
      let f = e ∙ sym (ram_pile n rs (begin (ram bs)) bs) in
      (ap name_of f, ap bytes_of f)
