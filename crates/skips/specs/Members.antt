-- (02, Paper 7) the monomials of a class of an accepted image: positive counts, and totals of at most 64 * 4,294,967,295.
use Rattle.std.specs.Prelude.{◌≡◌, Bool, true, false, List, [], ◌∷◌, map, ℕ, ◌≤◌, ◌<◌, eqb, length, get_or}
use Rattle.std.proofs.Common.{sym, inl, inr}
use Rattle.spec.specs.Bytes.{pick, filter, In}
use Rattle.spec.specs.Image.{Tables, Member, NO-IDENTITY, identity_of, members_of, children_of}
use Rattle.spec.specs.Monomial.{Monomial, monomial, monomials_of, itself, total}
use Rattle.laws.specs.AcceptedLists.{no-entry}
use Rattle.laws.specs.AcceptedUses.{child-count}
use Rattle.laws.specs.Bag.{filter-in}
use Rattle.laws.specs.Lists.{in-append, in-cons, map-in}
use Rattle.laws.specs.Valid.{Valid}
use Rattle.skips.specs.Facts.{FULL}
use Rattle.skips.specs.Levels.{Positive, positive-monomial, positive-itself}

-- a monomial of a class is of a member, or the class itself
pub data Of (t : Tables) (c : ℕ) (m : Monomial) : Type 0 where
  member : (n : Member) → In n (members_of t c) → m ≡ monomial (children_of t n) → Of t c m
  alone : m ≡ itself c → Of t c m

pub monomial-of : (t : Tables) (c o : ℕ) (m : Monomial) → In m (monomials_of t c o) → Of t c m
unfolding monomials_of
monomial-of t c o m i = elim (in-append (map (λ n. monomial (children_of t n)) (filter (λ n. eqb n.op o) (members_of t c))) i) [
  | inl j ↦ (let (n, k, e) = map-in (λ n. monomial (children_of t n)) (filter (λ n. eqb n.op o) (members_of t c)) m j in member n (filter-in (λ n. eqb n.op o) (members_of t c) k).0 (sym e))
  | inr j ↦ last (eqb (identity_of t o) NO-IDENTITY) j
]
  where
    last : (b : Bool) → In m (pick b [] (itself c ∷ [])) → Of t c m
    last true j = absurd (no-entry j)
    last false j = elim (in-cons j) [ inl e ↦ alone e | inr k ↦ absurd (no-entry k) ]

-- no total is above 64 * 4,294,967,295: the code's counts have 32 bits
abbrev pub Low : List Monomial → Type 0
Low ms = (i : ℕ) → i < length ms → total (get_or ms i []) ≤ FULL

module _ (t : Tables) (v : Valid t) where
  pub positive_of : (c o : ℕ) → c < length t.classes → (m : Monomial) → In m (monomials_of t c o) → Positive m
  positive_of c o h m i = go (monomial-of t c o m i)
    where
      go : Of t c m → Positive m
      go (member n j e) = rw e (positive-monomial (children_of t n) (λ k q. child-count t v c h n j k q))
      go (alone e) = rw e (positive-itself c)
