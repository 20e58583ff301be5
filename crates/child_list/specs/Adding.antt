-- (02, Paper 6) "equal classes should be added up as each child is read, inserted in place": a list of n terms in a lent buffer, and one child more, of class c and count k.
use Rattle.std.specs.Prelude.{◌≡◌, true, false, List, [], ◌∷◌, ◌++◌, ℕ, ◌+◌, ◌*◌, ◌≤◌, ◌<◌, ◌^◌, ltb, length, drop, get_or, Result, Ok, Err}
use Rattle.spec.specs.Bytes.{Two, pick}
use Rattle.spec.specs.Monomial.{Monomial, insert_add, monomial}
use Rattle.monomial_terms.specs.Terms.{terms, held, position}
use Rattle.class_place.specs.Standing.{places, stands, count_there}
use Rattle.child_list.specs.declared.Unadded.{Unadded}
use Rattle.child_list.specs.declared.Unadded.TheVariants.{Full, Overflow}

-- the count that class c has with k more
abbrev pub count_with : ℕ → ℕ → Monomial → ℕ
count_with c k m = (get_or (insert_add c k m) (position c m) (0, 0)).1

-- How many terms the list has with the child. It is full where they have no places (or the n terms have none); the class's count may not pass 64 bits.
unfoldable pub added_of : ℕ → ℕ → ℕ → List ℕ → Result ℕ Unadded
unfolding insert_add position terms
added_of n c k s =
    pick (ltb (places s) n) (Err Full)
    (pick (ltb (places s) (length (insert_add c k (held n s)))) (Err Full)
    (pick (ltb (count_with c k (held n s)) (2 ^ 64)) (Ok (length (insert_add c k (held n s)))) (Err Overflow)))

-- the terms of m at the front of a buffer, the numbers behind them as they were
unfoldable pub laid : Monomial → List ℕ → List ℕ
laid [] s = s
laid (t ∷ m) s = t.0 ∷ t.1 ∷ laid m (drop 2 s)

-- the buffer afterwards; a refusal leaves it as it was
abbrev pub list_after : Result ℕ Unadded → ℕ → ℕ → ℕ → List ℕ → List ℕ
list_after (Ok m) n c k s = laid (insert_add c k (held n s)) s
list_after (Err Full) n c k s = s
list_after (Err Overflow) n c k s = s

-- how many terms the list holds afterwards
abbrev pub terms_after : Result ℕ Unadded → ℕ → ℕ
terms_after (Ok m) n = m
terms_after (Err Full) n = n
terms_after (Err Overflow) n = n

-- the children read so far: l, and the child where it was added
abbrev pub read_after : Result ℕ Unadded → ℕ → ℕ → List Two → List Two
read_after (Ok m) c k l = l ++ ((c, k) ∷ [])
read_after (Err Full) c k l = l
read_after (Err Overflow) c k l = l

-- What `add_child` answers and leaves.
pub record Adds (n c k : ℕ) (s s' : List ℕ) (r : Result ℕ Unadded) : Type 0 where
  pub answer : r ≡ added_of n c k s
  pub list : s' ≡ list_after (added_of n c k s) n c k s
  -- "after each child, the list held is the monomial of the children read so far"
  pub monomial-of : (l : List Two) → held n s ≡ monomial l → held (terms_after r n) s' ≡ monomial (read_after r c k l)

-- ---- for the private functions
-- The list is in its buffer, c's place is p, and there is room for k more of it.
pub record Fits (n p c k : ℕ) (s : List ℕ) : Type 0 where
  pub listed : 2 * n ≤ length s
  pub place : p ≡ position c (held n s)
  pub within : p ≤ n
  pub room : stands c (held n s) ≡ false → 2 * n + 1 < length s
  pub count : stands c (held n s) ≡ true → count_there c (held n s) + k < 2 ^ 64
