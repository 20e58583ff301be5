-- (02, Paper 13) "Sellers also enter the two fleets in either order": every action of (right, left) is one of (left, right) turned round.
use Rattle.std.specs.Prelude.{◌≡◌, refl, ◌⊎◌, Bool, true, false, List, [], ◌∷◌, ◌++◌, map, ℕ, eqb, length, get_or}
use Rattle.std.proofs.Common.{sym, ap, ◌∙◌, inl, inr}
use Rattle.spec.specs.Bytes.{pick, both, either, any, filter, up_from, In, here, there, Two}
use Rattle.spec.specs.Image.{Tables, is_ac, kind_of, members_of}
use Rattle.spec.specs.Action.{Action, zip, by_position, straight_and_crossed, ac_ops}
use Rattle.laws.specs.Tests.{either-swap, eqb_swap}
use Rattle.laws.specs.AcceptedTurns.{any_append}
use Rattle.laws.specs.Lists.{in-nil, in-cons}
use Rattle.laws.specs.Bag.{perm-refl, perm-of-eq, swap}
use Rattle.lgg.specs.Dedup.{Repeats}
use Rattle.mirror.specs.Transpose.{flip}

-- ---- structural actions: the same operation over the pairs turned round, in whatever order
abbrev pub turn_action : Action → Action
turn_action a = record { op = a.op; pairs = map flip a.pairs }

abbrev pub Turned : Action → List Action → Type 0
Turned a l = (b : Action) × In b l × Repeats (turn_action a) b

-- "pair children by position"
zip-flip : (xs ys : List ℕ) → map flip (zip xs ys) ≡ zip ys xs
unfolding zip
zip-flip [] [] = refl
zip-flip [] (y ∷ ys) = refl
zip-flip (x ∷ xs) [] = refl
zip-flip (x ∷ xs) (y ∷ ys) = ap (λ (l : List Two). (y, x) ∷ l) (zip-flip xs ys)

pub by-position : (o : ℕ) (xs ys : List ℕ) (a : Action) → In a (by_position o xs ys) → Turned a (by_position o ys xs)
unfolding by_position
by-position o xs ys a i = rw (eqb_swap (length ys) (length xs)) (go (eqb (length xs) (length ys)) i)
  where
    made : List ℕ → List ℕ → Action
    made xs ys = record { op = o; pairs = zip xs ys }

    go : (x : Bool) → In a (pick x (made xs ys ∷ []) []) → Turned a (pick x (made ys xs ∷ []) [])
    go true j = elim (in-cons j) [ inl e ↦ (made ys xs, here, rw e (record { op = refl; pairs = perm-of-eq (zip-flip xs ys) })) | inr k ↦ absurd (in-nil k) ]
    go false j = absurd (in-nil j)

-- "SPair pairs them straight and, where neither side's two classes are equal, crossed": straight with straight, crossed with crossed
pub both_ways : (o : ℕ) (xs ys : List ℕ) (a : Action) → In a (straight_and_crossed o xs ys) → Turned a (straight_and_crossed o ys xs)
unfolding straight_and_crossed
both_ways o xs ys a i = rw (either-swap (eqb (at ys 0) (at ys 1)) (eqb (at xs 0) (at xs 1))) (go (in-cons i))
  where
    at : List ℕ → ℕ → ℕ
    at l k = get_or l k 0

    straight : List ℕ → List ℕ → Action
    straight xs ys = record { op = o; pairs = (at xs 0, at ys 0) ∷ (at xs 1, at ys 1) ∷ [] }

    crossed : List ℕ → List ℕ → Action
    crossed xs ys = record { op = o; pairs = (at xs 0, at ys 1) ∷ (at xs 1, at ys 0) ∷ [] }

    twins : Bool
    twins = either (eqb (at xs 0) (at xs 1)) (eqb (at ys 0) (at ys 1))

    rest : (x : Bool) → In a (pick x [] (crossed xs ys ∷ [])) → Turned a (straight ys xs ∷ pick x [] (crossed ys xs ∷ []))
    rest true k = absurd (in-nil k)
    rest false k = elim (in-cons k) [ inl e ↦ (crossed ys xs, there here, rw e (record { op = refl; pairs = swap (at ys 1, at xs 0) (at ys 0, at xs 1) [] })) | inr m ↦ absurd (in-nil m) ]

    go : (a ≡ straight xs ys) ⊎ In a (pick twins [] (crossed xs ys ∷ [])) → Turned a (straight ys xs ∷ pick twins [] (crossed ys xs ∷ []))
    go (inl e) = (straight ys xs, here, rw e (record { op = refl; pairs = perm-refl (straight ys xs).pairs }))
    go (inr k) = rest twins k

-- "An MSet or Set operation of either class"
any-turn : {A : Type 0} (f : A → Bool) (l m : List A) → any f (l ++ m) ≡ any f (m ++ l)
any-turn f l m = any_append f l m ∙ either-swap (any f l) (any f m) ∙ sym (any_append f m l)

pub ops-turn : (t : Tables) (l r : ℕ) → ac_ops t l r ≡ ac_ops t r l
unfolding ac_ops
ops-turn t l r = λ i. filter (λ o. both (is_ac (kind_of t o)) (any-turn (λ m. eqb m.op o) (members_of t l) (members_of t r) i)) (up_from 0 (length t.operations))
