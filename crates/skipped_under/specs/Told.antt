-- The facts of the monomials of a class under an operation, as a buffer comes to hold them: first each place with total and most, then kin.
use Rattle.std.specs.Prelude.{◌≡◌, List, map, ℕ, ◌+◌, ◌*◌, ◌≤◌, ◌<◌, length, get_or, set}
use Rattle.spec.specs.Bytes.{same_twos}
use Rattle.spec.specs.Image.{Tables, the_class}
use Rattle.spec.specs.Monomial.{Monomial, total}
use Rattle.laws.specs.Firsts.{first_from}
use Rattle.skips.specs.Facts.{FULL, filled, most, kin}
use Rattle.ac_ops.specs.AcOps.{end_of}
use Rattle.ac_repr.specs.Walk.{places_from}
use Rattle.skipped_pairs.specs.Held.{place_in, facts_in}

-- the places of class c under operation o
abbrev pub places_of : Tables → ℕ → ℕ → List ℕ
places_of t c o = places_from t (end_of t c) o (the_class t c).first

-- place x, whose monomial is m, as the i-th of a buffer
abbrev pub put_facts : ℕ → Monomial → ℕ → ℕ → List ℕ → List ℕ
put_facts e m x i f = set (set (set f (4 * i) x) (4 * i + 1) (total m)) (4 * i + 2) (most e m)

-- the first of a buffer's places whose monomial is the same as the i-th when filled; M gives a place's monomial
abbrev pub first_kin : ℕ → (ℕ → Monomial) → List ℕ → ℕ → ℕ
first_kin e M f i = first_from (λ k. same_twos (filled e (M (place_in f i))) (filled e (M (place_in f k)))) 0 i

-- the first n of the places ps are told, k of them with kin
pub record Told (e : ℕ) (M : ℕ → Monomial) (ps : List ℕ) (n k : ℕ) (f : List ℕ) : Type 0 where
  pub places : (i : ℕ) → i < n → place_in f i ≡ get_or ps i 0
  pub totals : (i : ℕ) → i < n → (facts_in f).total i ≡ total (M (get_or ps i 0))
  pub mosts : (i : ℕ) → i < n → (facts_in f).most i ≡ most e (M (get_or ps i 0))
  pub small : (i : ℕ) → i < n → total (M (get_or ps i 0)) ≤ FULL
  pub kins : (i : ℕ) → i < k → (facts_in f).kin i ≡ kin e (map M ps) (M (get_or ps i 0))

-- n places and their kin: what `set_kins` leaves of a buffer that tells the places
abbrev pub KinsTold : ℕ → (ℕ → Monomial) → ℕ → ℕ → List ℕ → List ℕ → Type 0
KinsTold e M n k f f' = (ps : List ℕ) → n ≡ length ps → Told e M ps n 0 f → Told e M ps n k f'
