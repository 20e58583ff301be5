-- What the arms of a `?` behind an `ok_or` know, and what a `?` that passes a fault on returns.
use Rattle.std.proofs.Common.{◌≡◌, ℕ, Option, Some, None, Result, Ok, Err, ok_or, IsErrAnd, refl, ap, arith}

pub was-some : {T E : Type 0} (e : E) {x : T} (o : Option T) → Ok x ≡ ok_or o e → o ≡ Some x
was-some e (Some y) q = cc
was-some e None q = absurd (let z : ◌≡◌ {A = ℕ} 0 1 = cc in omega arith)

pub was-none : {T E : Type 0} {e f : E} (o : Option T) → Err f ≡ ok_or o e → (o ≡ None) × (f ≡ e)
was-none (Some y) q = absurd (let z : ◌≡◌ {A = ℕ} 0 1 = cc in omega arith)
was-none None q = (refl, cc)

pub passed-on : {T E : Type 0} {x : E} (r : Result T E) → IsErrAnd r (λ y. y ≡ x) → r ≡ Err x
passed-on (Ok v) h = absurd h
passed-on (Err y) h = ap Err h
