-- (02, Paper 7) Which monomial pairs of two classes are passed over, and which of these occur again after padding, told by three numbers of each monomial.
use Rattle.std.specs.Prelude.{◌≡◌, Bool, true, false, not, List, [], ◌∷◌, ℕ, ◌+◌, ◌*◌, ◌-◌, ◌<◌, ltb, leb, eqb, length, get_or}
use Rattle.spec.specs.Bytes.{pick, both, either, all, any, place, sum_to, up_from, same_twos}
use Rattle.spec.specs.Image.{NO-IDENTITY}
use Rattle.spec.specs.Monomial.{Monomial, insert_add, total, narrow, COUNT}

-- ---- a monomial
-- m with as many identities as it lacks to the total n
abbrev pub level_to : ℕ → ℕ → Monomial → Monomial
level_to e n m = pick (ltb (total m) n) (pick (eqb e NO-IDENTITY) m (insert_add e (n - total m) m)) m

-- no monomial of an image has a greater total
abbrev pub FULL : ℕ
FULL = 64 * COUNT

-- Two monomials that padding can make the same are the same when filled.
abbrev pub filled : ℕ → Monomial → Monomial
filled e m = level_to e FULL m

-- the count of class e, where it stands at its place in the rising order
unfoldable pub count_at : ℕ → Monomial → ℕ
count_at e [] = 0
count_at e (t ∷ m) = elim (ltb t.0 e) [ true ↦ count_at e m | false ↦ pick (eqb t.0 e) t.1 0 ]

-- the greatest total to which it can be padded without a count above 4,294,967,295; 0 where it has one as it is
unfoldable pub most : ℕ → Monomial → ℕ
unfolding all count_at total
most e m = pick (narrow m) (total m + (COUNT - count_at e m)) 0

-- the first of these that is the same when filled
unfoldable pub kin : ℕ → List Monomial → Monomial → ℕ
unfolding insert_add place same_twos total
kin e ms m = place (λ x. same_twos (filled e m) (filled e x)) ms

-- ---- three numbers of each monomial of a class
pub record Facts : Type 0 where
  pub total : ℕ → ℕ
  pub most : ℕ → ℕ
  pub kin : ℕ → ℕ

pub record FactsOf (e : ℕ) (ms : List Monomial) (f : Facts) : Type 0 where
  pub totals : (i : ℕ) → i < length ms → f.total i ≡ total (get_or ms i [])
  pub mosts : (i : ℕ) → i < length ms → f.most i ≡ most e (get_or ms i [])
  pub kins : (i : ℕ) → i < length ms → f.kin i ≡ kin e ms (get_or ms i [])

-- ---- the pair of left monomial i and right monomial j
-- its total after padding
abbrev pub common : Facts → Facts → ℕ → ℕ → ℕ
common f g i j = pick (ltb (f.total i) (g.total j)) (g.total j) (f.total i)

-- "without one there is no pair"; "A pair with a count above 4,294,967,295 on either side is skipped."
abbrev pub over : ℕ → Facts → Facts → ℕ → ℕ → Bool
over e f g i j =
    both (either (eqb (f.total i) (g.total j)) (not (eqb e NO-IDENTITY)))
    (either (ltb (f.most i) (common f g i j)) (ltb (g.most j) (common f g i j)))

-- one of the first n monomials is kin to monomial i and has the total x; or at most x
unfoldable pub kin_with : Facts → ℕ → ℕ → ℕ → Bool
unfolding any up_from
kin_with f n i x = any (λ a. both (eqb (f.kin a) (f.kin i)) (eqb (f.total a) x)) (up_from 0 n)

unfoldable pub kin_within : Facts → ℕ → ℕ → ℕ → Bool
unfolding any up_from
kin_within f n i x = any (λ a. both (eqb (f.kin a) (f.kin i)) (leb (f.total a) x)) (up_from 0 n)

-- an earlier pair is the same after padding, n being the number of right monomials:
-- beside an earlier left one, which has the total or is padded to it beside a right one that has it; or beside the same left one
unfoldable pub again : Facts → Facts → ℕ → ℕ → ℕ → Bool
unfolding kin_with kin_within
again f g n i j =
    either (kin_with f i i (common f g i j))
    (either (both (kin_within f i i (common f g i j)) (kin_with g n j (common f g i j)))
    (pick (eqb (f.total i) (common f g i j)) (kin_within g j j (common f g i j)) (kin_with g j j (common f g i j))))

-- it is passed over, and no earlier one is the same
unfoldable pub counts : ℕ → Facts → Facts → ℕ → ℕ → ℕ → Bool
unfolding again
counts e f g n i j = both (over e f g i j) (not (again f g n i j))

-- of m left and n right monomials
unfoldable pub skipped_by : ℕ → Facts → Facts → ℕ → ℕ → ℕ
unfolding counts sum_to
skipped_by e f g m n = sum_to m (λ i. sum_to n (λ j. pick (counts e f g n i j) 1 0))
