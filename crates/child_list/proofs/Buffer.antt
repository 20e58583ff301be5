-- The turns of the insertion: a carry ripples up.
use mathlib.Core.Path.{◌≡◌, refl, ◌∙◌}
use mathlib.Core.List.{List, ◌∷◌, ◌++◌}
use Prim.Native.Nat.{ℕ, ◌+◌, ◌*◌, ◌<◌}
use native.Mathlib.Numerals.{add-one}
use native.Mathlib.Omega.{arith}
use lib.ListN.{length, take, drop, get_or, set, length-drop}
use lib.Seq.{drop-cons, paste, paste-suc, paste-zero, get_or-drop, get_or_at, length_paste_head}
use Rattle.spec.specs.Bytes.{Two}
use Rattle.monomial_terms.specs.Terms.{terms}
use Rattle.monomial_terms.specs.TermLaws.{two-each}

-- ---- a carry that ripples up: place p + j takes the carry, and hands its own term on
module _ (l : List Two) (p j : ℕ) (t : Two) (h : p + j < length l) where
  ripple-room : j < length (t ∷ drop p l)
  ripple-room = simp length-drop (omega arith)

  ripple-set : set (paste l p (t ∷ drop p l) j) (p + j) (get_or (t ∷ drop p l) j (0, 0)) ≡ paste l p (t ∷ drop p l) (j + 1)
  ripple-set = rw add-one (paste-suc l p (t ∷ drop p l) j (0, 0) h ripple-room)

  ripple-carry : get_or (paste l p (t ∷ drop p l) j) (p + j) (0, 0) ≡ get_or (t ∷ drop p l) (j + 1) (0, 0)
  ripple-carry =
      rw (add-one, get_or-drop, drop-cons l (p + j) (0, 0))
      (get_or_at (take p l ++ take j (t ∷ drop p l)) (get_or l (p + j) (0, 0)) _ (0, 0) (p + j)
      (length_paste_head l p (t ∷ drop p l) j (omega arith) (omega (arith, ripple-room))))

-- after j places: t and the j - 1 terms that follow stand from place p on, and x is to stand next
pub record Rippled (l₀ l : List Two) (p j : ℕ) (t x : Two) : Type 0 where
  pub whole : l ≡ paste l₀ p (t ∷ drop p l₀) j
  pub carry : x ≡ get_or (t ∷ drop p l₀) j (0, 0)

pub rippled-none : (l : List Two) (p : ℕ) (t : Two) → Rippled l l p 0 t t
rippled-none l p t = record { whole = paste-zero l p (t ∷ drop p l); carry = refl }

pub rippled-more : (s₀ s s' : List ℕ) (p j : ℕ) (t x : Two) (c k : ℕ) → 2 * (p + j) + 1 < length s₀ → Rippled (terms s₀) (terms s) p j t x
    → c ≡ (get_or (terms s) (p + j) (0, 0)).0 → k ≡ (get_or (terms s) (p + j) (0, 0)).1 → terms s' ≡ set (terms s) (p + j) (x.0, x.1)
    → Rippled (terms s₀) (terms s') p (j + 1) t (c, k)
rippled-more s₀ s s' p j t x c k h r a b w =
    let f : p + j < length (terms s₀) = omega (arith, two-each s₀) in
    record {
      whole = w ∙ rw (r.whole, r.carry) (ripple-set (terms s₀) p j t f);
      carry = rw (a, b, r.whole) (ripple-carry (terms s₀) p j t f);
    }
