-- The action at a pair of places, and what `monomials` answers there.
use Rattle.std.specs.Prelude.{true, false, List, [], map, ℕ, Option}
use Rattle.spec.specs.Bytes.{same_twos}
use Rattle.spec.specs.Image.{Tables, identity_of}
use Rattle.spec.specs.Monomial.{Monomial, both_itself, pad_pair, narrow_pairs}
use Rattle.spec.specs.Action.{TransportAction}
use Rattle.monomial.specs.Places.{monomial_at}
use Rattle.padding.specs.Pad.{answer_of, Pads}
use Rattle.ac_repr.specs.declared.Walk.{Walk}

-- "acts by transport over each monomial pair, except both classes as themselves once": the action over two monomials, if there is one
unfoldable pub action_over : Tables → ℕ → ℕ → ℕ → Monomial → Monomial → List TransportAction
unfolding pad_pair narrow_pairs same_twos
action_over t l r o a b =
    map (λ m. record { op = o; sides = m }) (narrow_pairs (elim (both_itself l r a b) [ true ↦ [] | false ↦ pad_pair (identity_of t o) a b ]))

-- the action at a pair of places, if there is one
unfoldable pub actions_at : Tables → ℕ → ℕ → Walk → List TransportAction
unfolding monomial_at action_over
actions_at t l r w = action_over t l r w.op (monomial_at t l w.a) (monomial_at t r w.b)

-- What `monomials` leaves at a pair of places: the answer, and both buffers whole.
abbrev pub Answered : Tables → ℕ → ℕ → Walk → List ℕ → List ℕ → List ℕ → List ℕ → Option (ℕ × ℕ) → Type 0
Answered t l r w s u s' u' x =
    Pads (answer_of l r (identity_of t w.op) (monomial_at t l w.a) (monomial_at t r w.b)) (identity_of t w.op) (monomial_at t l w.a) (monomial_at t r w.b) s u s' u' x
