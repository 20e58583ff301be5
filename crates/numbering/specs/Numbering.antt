-- The listing's work buffer, two numbers a term: at 2 * t the number of term t plus 1 (0: it has none), at 2 * k + 1 the term of line k.
use Rattle.std.specs.Prelude.{◌≡◌, List, [], ◌∷◌, ◌++◌, ℕ, zero, suc, ◌+◌, ◌*◌, ◌≤◌, ◌<◌, length, get_or, set, drop, replicate}
use Rattle.spec.specs.Listing.{visit_term, subterms}
use Rattle.spec.specs.Meaning.{In}
use Rattle.laws.specs.Lists.{Distinct}
use Rattle.terms.specs.Buffers.{nodes_in, pool_of, count_in}

-- the terms of n lines from line k on
unfoldable pub order_from : List ℕ → ℕ → ℕ → List ℕ
order_from w k zero = []
order_from w k (suc n) = get_or w (2 * k + 1) 0 ∷ order_from w (suc k) n

-- the first n terms of the order
abbrev pub order_in : List ℕ → ℕ → List ℕ
order_in w n = order_from w 0 n

-- term a gets number n
abbrev pub settle : List ℕ → ℕ → ℕ → List ℕ
settle w n a = set (set w (2 * a) (n + 1)) (2 * n + 1) a

-- the terms of a list get the numbers from n on
unfoldable pub settle_all : ℕ → List ℕ → List ℕ → List ℕ
settle_all n [] w = w
settle_all n (a ∷ l) w = settle_all (suc n) l (settle w n a)

-- the first m places hold 0
abbrev pub cleared : ℕ → List ℕ → List ℕ
cleared m w = replicate m 0 ++ drop m w

-- "numbered from 0 in the order a left-to-right walk finishes it": the buffer after the walk from the root
unfoldable pub numbers_of : List ℕ → List ℕ → ℕ → List ℕ → List ℕ
unfolding nodes_in settle_all visit_term
numbers_of terms runs root w = settle_all 0 (subterms (pool_of terms runs) root) (cleared (2 * count_in terms) w)

-- Of the terms below m those of l have their places in l as numbers, and no other has one.
pub record Numbered (m : ℕ) (w l : List ℕ) : Type 0 where
  pub room : 2 * m ≤ length w
  pub few : m ≤ 16384
  pub once : Distinct l
  pub below : (a : ℕ) → In a l → a < m
  pub order : (k : ℕ) → k < length l → get_or w (2 * k + 1) 0 ≡ get_or l k 0
  pub number : (k : ℕ) → k < length l → get_or w (2 * get_or l k 0) 0 ≡ suc k
  pub others : (a : ℕ) → a < m → (In a l → ⊥) → get_or w (2 * a) 0 ≡ 0

-- from a buffer v with the order k to a buffer w with the order l: new terms get the numbers after those of k
pub record Walk (m : ℕ) (v k w l : List ℕ) : Type 0 where
  pub numbered : Numbered m w l
  pub new : List ℕ
  pub grown : l ≡ k ++ new
  pub wrote : w ≡ settle_all (length k) new v

-- The buffer lists the root's subterms, n of them.
pub record Listed (terms runs w : List ℕ) (root n : ℕ) : Type 0 where
  pub count : n ≡ length (subterms (pool_of terms runs) root)
  pub numbered : Numbered (count_in terms) w (subterms (pool_of terms runs) root)
