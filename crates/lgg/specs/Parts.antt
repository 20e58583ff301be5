-- The classes that the actions of a class are over. A pair whose classes are not both over changed ones cannot improve in the next round.
use Rattle.std.specs.Prelude.{◌≡◌, ◌≢◌, Bool, true, false, List, [], ◌∷◌, ◌++◌, ℕ, zero, suc, eqb, length, get_or}
use Rattle.std.proofs.Math.Path.{refl}
use Rattle.std.proofs.Common.{◌∙◌, arith, ne_eqb}
use Rattle.spec.specs.Bytes.{pick, both, any, each, Two}
use Rattle.spec.specs.Image.{Tables, Operation, Member, arities, SPair, NO-IDENTITY, kind_of, members_of, children_of}
use Rattle.spec.specs.Monomial.{classes}
use Rattle.spec.specs.Action.{joins}
use Rattle.spec.specs.Pairs.{pairs}
use Rattle.spec.specs.Round.{stay, turn_of}
use Rattle.spec.specs.Meaning.{In, here, there}
use Rattle.laws.specs.Valid.{Valid}
use Rattle.laws.specs.AcceptedLists.{in-at}
use Rattle.laws.specs.Lists.{in-nil, in_left, in_right, in_map, in-each, any_none, length-map}
use Rattle.laws.specs.BestMembers.{member-arity}
use Rattle.lgg.specs.Within.{Over, joins-in}
use Rattle.steps.specs.Reads.{turn-again}
use Rattle.lgg.specs.Moves.{pair_reads}

-- the identity of an operation, where it has one
abbrev pub identity_in : Operation → List ℕ
identity_in o = pick (eqb o.identity NO-IDENTITY) [] (o.identity ∷ [])

-- the identities of the operations that have one
unfoldable pub identities : Tables → List ℕ
unfolding each
identities t = each identity_in t.operations

-- "and the class itself once may stand for a member": class c before the identities, where there are any
unfoldable pub with_itself : ℕ → List ℕ → List ℕ
with_itself c [] = []
with_itself c (e ∷ l) = c ∷ e ∷ l

-- The classes that the actions of class c are over: those of its members' children; where an operation has an identity, also itself and the identities.
unfoldable pub parts_of : Tables → ℕ → List ℕ
unfolding each identities with_itself
parts_of t c = each (λ m. classes (children_of t m)) (members_of t c) ++ with_itself c (identities t)

-- ---- identities
identity-listed : (l : List Operation) (o : ℕ) → (get_or l o (record { kind = 0; flag = 0; identity = NO-IDENTITY })).identity ≢ NO-IDENTITY
    → In (get_or l o (record { kind = 0; flag = 0; identity = NO-IDENTITY })).identity (each identity_in l)
unfolding each
identity-listed [] o h = absurd (h refl)
identity-listed (x ∷ l) zero h = in_left {l = identity_in x} (each identity_in l) (rw (ne_eqb x.identity NO-IDENTITY h) here)
identity-listed (x ∷ l) (suc o) h = in_right (identity_in x) (identity-listed l o h)

own-listed : {e : ℕ} (c : ℕ) (l : List ℕ) → In e l → In c (with_itself c l)
unfolding with_itself
own-listed c [] i = absurd (in-nil i)
own-listed c (x ∷ l) i = here

still-listed : {e : ℕ} (c : ℕ) (l : List ℕ) → In e l → In e (with_itself c l)
unfolding with_itself
still-listed c [] i = i
still-listed c (x ∷ l) i = there i

-- ---- what a pair joins is over the parts of its classes
module _ (t : Tables) (v : Valid t) (c : ℕ) where
  -- "SPair have 2"
  two-classes : (m : Member) → In m (members_of t c) → kind_of t m.op ≡ SPair → length (classes (children_of t m)) ≡ 2
  unfolding arities
  two-classes m i s = length-map (λ (r : Two). r.0) (children_of t m) ∙ member-arity t v m c i (rw s (λ z. omega arith)) ∙ rw s refl

  over-parts : Over t (λ x. In x (parts_of t c)) c
  unfolding parts_of identities
  over-parts = record {
    children = λ m i r j. member m i r.0 (in_map (λ z. z.0) j);
    two = λ m i s k h. member m i (get_or (classes (children_of t m)) k 0) (in-at (classes (children_of t m)) k 0 (omega (arith, two-classes m i s)));
    own = λ o e. in_right (each (λ m. classes (children_of t m)) (members_of t c)) (own-listed c (identities t) (identity-listed t.operations o e));
    identity = λ o e. in_right (each (λ m. classes (children_of t m)) (members_of t c)) (still-listed c (identities t) (identity-listed t.operations o e));
  }
    where
      member : (m : Member) → In m (members_of t c) → (x : ℕ) → In x (classes (children_of t m)) → In x (parts_of t c)
      member m i x j = in_left (with_itself c (identities t)) (in-each (λ z. classes (children_of t z)) (members_of t c) m x i j)

pub joins-parts : (t : Tables) → Valid t → (p x : Two) → In x (joins t p) → In x.0 (parts_of t p.0) × In x.1 (parts_of t p.1)
joins-parts t v p x i = joins-in (λ c. In c (parts_of t p.0)) (λ c. In c (parts_of t p.1)) t p (over-parts t v p.0) (over-parts t v p.1) x i

-- ---- marks of classes
both_false : (a b x y : Bool) → both a b ≡ false → (a ≡ false → x ≡ false) → (b ≡ false → y ≡ false) → both x y ≡ false
both_false false b x y e h k = rw (h refl) refl
both_false true b true y e h k = k e
both_false true b false y e h k = refl

-- left, right: marks of classes. A pair whose classes are not both over marked ones keeps what it has.
pub stays : (t : Tables) → Valid t → (left right : ℕ → Bool) (q q' : Two → Two) (p : Two) → q' p ≡ (turn_of t q p).quality
    → ((x : Two) → In x (joins t p) → both (left x.0) (right x.1) ≡ false → q' x ≡ q x)
    → both (any left (parts_of t p.0)) (any right (parts_of t p.1)) ≡ false
    → turn_of t q' p ≡ record { quality = q' p; choice = stay }
stays t v left right q q' p e h n = turn-again (pairs t) (pair_reads t) q q' p e (λ x i. h x i (unmarked x i))
  where
    unmarked : (x : Two) → In x (joins t p) → both (left x.0) (right x.1) ≡ false
    unmarked x i =
        let (a, b) = joins-parts t v p x i in
        both_false (any left (parts_of t p.0)) (any right (parts_of t p.1)) (left x.0) (right x.1) n
        (λ z. any_none left (parts_of t p.0) x.0 z a) (λ z. any_none right (parts_of t p.1) x.1 z b)
