-- Paper 6 by evaluation: the answer, the number of terms and the whole buffer after each child.
use Rattle.std.specs.Prelude.{◌≡◌, refl, List, [], ◌∷◌, ℕ, Result, Ok, Err}
use Rattle.spec.specs.Bytes.{Two}
use Rattle.spec.specs.Monomial.{Monomial, add_all, monomial}
use Rattle.child_list.specs.Adding.{added_of, laid, list_after, terms_after, read_after}
use Rattle.child_list.specs.declared.Unadded.{Unadded}
use Rattle.child_list.specs.declared.Unadded.TheVariants.{Full, Overflow}

-- ---- the answers as numbers
abbrev said : Result ℕ Unadded → ℕ
said (Ok m) = 0
said (Err Full) = 1
said (Err Overflow) = 2

-- children one after another, in a list of n terms
abbrev pub stream : ℕ → List ℕ → List Two → List (List ℕ)
stream n s [] = []
stream n s (t ∷ l) =
    let a = added_of n t.0 t.1 s in
    let u = list_after a n t.0 t.1 s in
    (said a ∷ terms_after a n ∷ u) ∷ stream (terms_after a n) u l

-- "P children 4:1, 2:3, 4:2 give 2:3, 4:3", child by child
edge-by-child : ◌≡◌ {A = List Monomial} (monomial ((4, 1) ∷ []) ∷ monomial ((4, 1) ∷ (2, 3) ∷ []) ∷ monomial ((4, 1) ∷ (2, 3) ∷ (4, 2) ∷ []) ∷ []) (((4, 1) ∷ []) ∷ ((2, 3) ∷ (4, 1) ∷ []) ∷ ((2, 3) ∷ (4, 3) ∷ []) ∷ [])
unfolding add_all
edge-by-child = refl

edge-in-a-buffer : stream 0 (9 ∷ 9 ∷ 9 ∷ 9 ∷ 9 ∷ 9 ∷ []) ((4, 1) ∷ (2, 3) ∷ (4, 2) ∷ []) ≡ ((0 ∷ 1 ∷ 4 ∷ 1 ∷ 9 ∷ 9 ∷ 9 ∷ 9 ∷ []) ∷ (0 ∷ 2 ∷ 2 ∷ 3 ∷ 4 ∷ 1 ∷ 9 ∷ 9 ∷ []) ∷ (0 ∷ 2 ∷ 2 ∷ 3 ∷ 4 ∷ 3 ∷ 9 ∷ 9 ∷ []) ∷ [])
unfolding added_of laid
edge-in-a-buffer = refl

-- the same where the list is full from the second child on: a class that stands in it is added all the same
edge-in-a-full-list : stream 0 (9 ∷ 9 ∷ 9 ∷ 9 ∷ []) ((4, 1) ∷ (2, 3) ∷ (4, 2) ∷ []) ≡ ((0 ∷ 1 ∷ 4 ∷ 1 ∷ 9 ∷ 9 ∷ []) ∷ (0 ∷ 2 ∷ 2 ∷ 3 ∷ 4 ∷ 1 ∷ []) ∷ (0 ∷ 2 ∷ 2 ∷ 3 ∷ 4 ∷ 3 ∷ []) ∷ [])
unfolding added_of laid
edge-in-a-full-list = refl

-- ---- a list that is full
-- the last place is taken; a third class is refused in front, between and behind, and nothing changes; then one that is there is added
full : stream 0 (9 ∷ 9 ∷ 9 ∷ 9 ∷ []) ((4, 1) ∷ (6, 1) ∷ (3, 1) ∷ (5, 1) ∷ (7, 1) ∷ (6, 5) ∷ []) ≡ ((0 ∷ 1 ∷ 4 ∷ 1 ∷ 9 ∷ 9 ∷ []) ∷ (0 ∷ 2 ∷ 4 ∷ 1 ∷ 6 ∷ 1 ∷ []) ∷ (1 ∷ 2 ∷ 4 ∷ 1 ∷ 6 ∷ 1 ∷ []) ∷ (1 ∷ 2 ∷ 4 ∷ 1 ∷ 6 ∷ 1 ∷ []) ∷ (1 ∷ 2 ∷ 4 ∷ 1 ∷ 6 ∷ 1 ∷ []) ∷ (0 ∷ 2 ∷ 4 ∷ 1 ∷ 6 ∷ 6 ∷ []) ∷ [])
unfolding added_of laid
full = refl

-- a number behind the last place is no place, and stays
odd : stream 0 (9 ∷ 9 ∷ 8 ∷ []) ((4, 1) ∷ (6, 1) ∷ (4, 1) ∷ []) ≡ ((0 ∷ 1 ∷ 4 ∷ 1 ∷ 8 ∷ []) ∷ (1 ∷ 1 ∷ 4 ∷ 1 ∷ 8 ∷ []) ∷ (0 ∷ 1 ∷ 4 ∷ 2 ∷ 8 ∷ []) ∷ [])
unfolding added_of laid
odd = refl

-- no place at all
nowhere : stream 0 [] ((4, 1) ∷ []) ≡ ((1 ∷ 0 ∷ []) ∷ [])
unfolding added_of laid
nowhere = refl

nowhere-odd : stream 0 (9 ∷ []) ((4, 1) ∷ []) ≡ ((1 ∷ 0 ∷ 9 ∷ []) ∷ [])
unfolding added_of laid
nowhere-odd = refl

-- the buffer has not the n terms that the caller says: refused, also where the class stands in it; with as many as it has it is added
unlisted : stream 2 (4 ∷ 1 ∷ 9 ∷ []) ((4, 1) ∷ (5, 1) ∷ []) ≡ ((1 ∷ 2 ∷ 4 ∷ 1 ∷ 9 ∷ []) ∷ (1 ∷ 2 ∷ 4 ∷ 1 ∷ 9 ∷ []) ∷ [])
unfolding added_of laid
unlisted = refl

listed : stream 1 (4 ∷ 1 ∷ 9 ∷ []) ((4, 1) ∷ []) ≡ ((0 ∷ 1 ∷ 4 ∷ 2 ∷ 9 ∷ []) ∷ [])
unfolding added_of laid
listed = refl

-- ---- a count that would pass 64 bits
-- 18,446,744,073,709,551,615 is held, by one child or by two; one more is refused, and of another class it is not
brim : stream 0 (0 ∷ 0 ∷ 0 ∷ 0 ∷ []) ((4, 18446744073709551615) ∷ (4, 1) ∷ (5, 1) ∷ (4, 0) ∷ []) ≡ ((0 ∷ 1 ∷ 4 ∷ 18446744073709551615 ∷ 0 ∷ 0 ∷ []) ∷ (2 ∷ 1 ∷ 4 ∷ 18446744073709551615 ∷ 0 ∷ 0 ∷ []) ∷ (0 ∷ 2 ∷ 4 ∷ 18446744073709551615 ∷ 5 ∷ 1 ∷ []) ∷ (0 ∷ 2 ∷ 4 ∷ 18446744073709551615 ∷ 5 ∷ 1 ∷ []) ∷ [])
unfolding added_of laid
brim = refl

brim-by-two : stream 0 (0 ∷ 0 ∷ []) ((4, 18446744073709551614) ∷ (4, 2) ∷ (4, 1) ∷ (4, 1) ∷ []) ≡ ((0 ∷ 1 ∷ 4 ∷ 18446744073709551614 ∷ []) ∷ (2 ∷ 1 ∷ 4 ∷ 18446744073709551614 ∷ []) ∷ (0 ∷ 1 ∷ 4 ∷ 18446744073709551615 ∷ []) ∷ (2 ∷ 1 ∷ 4 ∷ 18446744073709551615 ∷ []) ∷ [])
unfolding added_of laid
brim-by-two = refl

-- each count has 64 bits of its own, whatever the others are
brim-of-each : stream 0 (0 ∷ 0 ∷ 0 ∷ 0 ∷ []) ((5, 18446744073709551615) ∷ (4, 18446744073709551615) ∷ []) ≡ ((0 ∷ 1 ∷ 5 ∷ 18446744073709551615 ∷ 0 ∷ 0 ∷ []) ∷ (0 ∷ 2 ∷ 4 ∷ 18446744073709551615 ∷ 5 ∷ 18446744073709551615 ∷ []) ∷ [])
unfolding added_of laid
brim-of-each = refl

-- ---- places: in front, between, behind, classes 0 and 65,535
everywhere : stream 0 (0 ∷ 0 ∷ 0 ∷ 0 ∷ 0 ∷ 0 ∷ 0 ∷ 0 ∷ []) ((9, 1) ∷ (0, 2) ∷ (65535, 3) ∷ (5, 4) ∷ []) ≡ ((0 ∷ 1 ∷ 9 ∷ 1 ∷ 0 ∷ 0 ∷ 0 ∷ 0 ∷ 0 ∷ 0 ∷ []) ∷ (0 ∷ 2 ∷ 0 ∷ 2 ∷ 9 ∷ 1 ∷ 0 ∷ 0 ∷ 0 ∷ 0 ∷ []) ∷ (0 ∷ 3 ∷ 0 ∷ 2 ∷ 9 ∷ 1 ∷ 65535 ∷ 3 ∷ 0 ∷ 0 ∷ []) ∷ (0 ∷ 4 ∷ 0 ∷ 2 ∷ 5 ∷ 4 ∷ 9 ∷ 1 ∷ 65535 ∷ 3 ∷ []) ∷ [])
unfolding added_of laid
everywhere = refl

-- ---- the children read so far: the child last, and none that was refused
read-added : read_after (Ok 2) 4 2 ((4, 1) ∷ (2, 3) ∷ []) ≡ (4, 1) ∷ (2, 3) ∷ (4, 2) ∷ []
read-added = refl

read-full : read_after (Err Full) 4 2 ((4, 1) ∷ (2, 3) ∷ []) ≡ (4, 1) ∷ (2, 3) ∷ []
read-full = refl

read-overflow : read_after (Err Overflow) 4 2 ((4, 1) ∷ (2, 3) ∷ []) ≡ (4, 1) ∷ (2, 3) ∷ []
read-overflow = refl
