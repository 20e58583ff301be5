-- Lists: entries, lists without repeats, what is looked up in a list.
use Rattle.std.specs.Prelude.{◌≡◌, ◌⊎◌, Bool, take}
use Rattle.std.proofs.Math.Path.{refl}
use Rattle.std.proofs.Common.{sym, ap, ◌∙◌, subst, inl, inr, not-suc-le-zero}
use Rattle.std.proofs.Math.Bool.{true, false}
use mathlib.Core.List.{List, [], ◌∷◌, ◌++◌, map}
use Prim.Native.Nat.{ℕ, zero, suc, ◌≤◌, ◌<◌, zero-le}
use native.Mathlib.Omega.{arith}
use Rattle.std.proofs.Math.ListN.{length, get_or}
use Rattle.spec.specs.Bytes.{any, each, In, here, there, Decides, place}
use Rattle.laws.specs.Tests.{clash}

-- ---- entries
pub in-nil : {A : Type 0} {x : A} → In x [] → ⊥
in-nil i = elim i [ ]

pub in-cons : {A : Type 0} {x y : A} {l : List A} → In x (y ∷ l) → (x ≡ y) ⊎ In x l
in-cons here = inl refl
in-cons (there i) = inr i

pub in_left : {A : Type 0} {x : A} {l : List A} (m : List A) → In x l → In x (l ++ m)
in_left m here = here
in_left m (there i) = there (in_left m i)

pub in_right : {A : Type 0} {x : A} (l : List A) {m : List A} → In x m → In x (l ++ m)
in_right [] i = i
in_right (y ∷ l) i = there (in_right l i)

pub in-append : {A : Type 0} {x : A} (l : List A) {m : List A} → In x (l ++ m) → In x l ⊎ In x m
in-append [] i = inr i
in-append (y ∷ l) here = inl here
in-append (y ∷ l) (there i) = elim (in-append l i) [ inl a ↦ inl (there a) | inr b ↦ inr b ]

pub in_map : {A B : Type 0} (f : A → B) {x : A} {l : List A} → In x l → In (f x) (map f l)
in_map f here = here
in_map f (there i) = there (in_map f i)

pub map-in : {A B : Type 0} (f : A → B) (l : List A) (y : B) → In y (map f l) → (x : A) × In x l × (f x ≡ y)
map-in f [] y i = absurd (in-nil i)
map-in f (x ∷ l) y i = elim (in-cons i) [ inl e ↦ (x, here, sym e) | inr j ↦ let r = map-in f l y j in (r.0, there r.1, r.2) ]

pub in-each : {A B : Type 0} (f : A → List B) (l : List A) (a : A) (b : B) → In a l → In b (f a) → In b (each f l)
unfolding each
in-each {A = A} {B = B} f [] a b x'' j = elim x'' [ ]
in-each f (x ∷ l) a b here j = in_left (each f l) j
in-each f (x ∷ l) a b (there i) j = in_right (f x) (in-each f l a b i j)

-- ---- tests over a list
pub any-in : {A : Type 0} (f : A → Bool) (l : List A) → any f l ≡ true → (x : A) × In x l × (f x ≡ true)
unfolding any
any-in f [] e = absurd (clash (sym e))
any-in f (y ∷ l) e = go (f y) refl (any-in f l)
  where
    go : (b : Bool) → f y ≡ b → (any f l ≡ true → (x : _) × In x l × (f x ≡ true)) → (x : _) × In x (y ∷ l) × (f x ≡ true)
    go true p ih = (y, here, p)
    go false p ih = let r = ih (rw (p, any) at e) in (r.0, there r.1, r.2)

pub any_none : {A : Type 0} (f : A → Bool) (l : List A) (x : A) → any f l ≡ false → In x l → f x ≡ false
unfolding any
any_none {A = A} f [] x e x4 = elim x4 [ ]
any_none f (y ∷ l) x e here = go (f x) refl
  where
    go : (b : Bool) → f x ≡ b → f x ≡ false
    go false p = p
    go true p = absurd (clash (rw (p, any) at e))
any_none f (y ∷ l) x e (there i) = go (f y) refl (λ k. any_none f l x k i)
  where
    go : (b : Bool) → f y ≡ b → (any f l ≡ false → f x ≡ false) → f x ≡ false
    go false p ih = ih (rw (p, any) at e)
    go true p ih = absurd (clash (rw (p, any) at e))

-- ---- map
pub map-map : {A B C : Type 0} (f : A → B) (g : B → C) (l : List A) → map g (map f l) ≡ map (λ x. g (f x)) l
map-map f g [] = refl
map-map {C = C} f g (x ∷ l) = ap {B = List C} (λ m. g (f x) ∷ m) (map-map f g l)

pub map-ext : {A B : Type 0} (f g : A → B) (l : List A) → ((x : A) → In x l → f x ≡ g x) → map f l ≡ map g l
map-ext f g [] h = refl
map-ext f g (x ∷ l) h = let e = h x here in let r = map-ext f g l (λ y i. h y (there i)) in λ i. e i ∷ r i

pub map_snoc : {A B : Type 0} (f : A → B) (l : List A) (x : A) → map f (l ++ (x ∷ [])) ≡ map f l ++ (f x ∷ [])
map_snoc f [] x = refl
map_snoc {A} {B} f (y ∷ l) x = ap (λ (z : List B). f y ∷ z) (map_snoc f l x)

pub length-map : {A B : Type 0} (f : A → B) (l : List A) → length (map f l) ≡ length l
length-map f [] = refl
length-map f (x ∷ l) = ap suc (length-map f l)

-- ---- places
module _ {A : Type 0} (d : A) where
  pub get_in : (l : List A) (k : ℕ) → k < length l → In (get_or l k d) l
  get_in [] k h = absurd (not-suc-le-zero h)
  get_in (x ∷ l) zero h = here
  get_in (x ∷ l) (suc k) h = there (get_in l k (omega arith))

  pub in-get : (p : A) (l : List A) → In p l → (k : ℕ) × (k < length l) × (get_or l k d ≡ p)
  in-get p [] x' = elim x' [ ]
  in-get p (x ∷ l) here = (0, omega arith, refl)
  in-get p (x ∷ l) (there i) = let r = in-get p l i in (suc r.0, omega (arith, r.1), r.2)

  pub get-append : (l m : List A) (k : ℕ) → k < length l → get_or (l ++ m) k d ≡ get_or l k d
  get-append [] m k h = absurd (not-suc-le-zero h)
  get-append (x ∷ l) m zero h = refl
  get-append (x ∷ l) m (suc k) h = get-append l m k (omega arith)

pub get-map : {A B : Type 0} (f : A → B) (l : List A) (k : ℕ) (d : A) (e : B) → k < length l → get_or (map f l) k e ≡ f (get_or l k d)
get-map f [] k d e h = absurd (not-suc-le-zero h)
get-map f (x ∷ l) zero d e h = refl
get-map f (x ∷ l) (suc k) d e h = get-map f l k d e (omega arith)

-- ---- lists without repeats
pub data Distinct {A : Type 0} : List A → Type 0 where
  none : Distinct []
  more : {x : A} {l : List A} → (In x l → ⊥) → Distinct l → Distinct (x ∷ l)

pub distinct-last : {A : Type 0} (l : List A) (x : A) → Distinct l → (In x l → ⊥) → Distinct (l ++ (x ∷ []))
distinct-last [] x d f = more in-nil none
distinct-last (y ∷ l) x (more g d) f = more (λ i. new (in-append l i)) (distinct-last l x d (λ i. f (there i)))
  where
    new : In y l ⊎ In y (x ∷ []) → ⊥
    new (inl i) = g i
    new (inr i) = elim (in-cons i) [ inl e ↦ f (rw e here) | inr j ↦ in-nil j ]

pub distinct-map : {A B : Type 0} (f : A → B) → ((x y : A) → f x ≡ f y → x ≡ y) → (l : List A) → Distinct l → Distinct (map f l)
distinct-map f one [] none = none
distinct-map f one (x ∷ l) (more g d) = more (λ i. let (y, j, e) = map-in f l (f x) i in g (subst (λ z. In z l) (one y x e) j)) (distinct-map f one l d)

-- l without its first x
data Without {A : Type 0} (x : A) (l : List A) : Type 0 where
  without : (m : List A) → length l ≡ suc (length m) → ((y : A) → In y l → (y ≡ x) ⊎ In y m) → Without x l

take_out : {A : Type 0} {x : A} {l : List A} → In x l → Without x l
take_out (here {l = l}) = without l refl (λ y i. in-cons i)
take_out {x = x} (there {y = z} {l = l} i) = go (take_out i)
  where
    go : Without x l → Without x (z ∷ l)
    go (without m e f) = without (z ∷ m) (ap suc e) (λ y j. elim (in-cons j) [ inl a ↦ inr (rw a here) | inr k ↦ elim (f y k) [ inl b ↦ inl b | inr c ↦ inr (there c) ] ])

-- a list without repeats is no longer than one that has all its entries
pub pigeon : {A : Type 0} (l m : List A) → Distinct l → ((x : A) → In x l → In x m) → length l ≤ length m
pigeon [] m none f = zero-le
pigeon (x ∷ l) m (more g d) f = go (take_out (f x here)) (λ k. pigeon l k d)
  where
    go : Without x m → ((k : List _) → ((y : _) → In y l → In y k) → length l ≤ length k) → suc (length l) ≤ length m
    go (without k e h) ih = omega (arith, ih k (λ y i. elim (h y (f y (there i))) [ inl a ↦ absurd (g (rw (← a) i)) | inr b ↦ b ]))

-- ---- entries by a test that tells whether two are the same
module _ {A : Type 0} {same : A → A → Bool} (D : Decides same) where
  -- one of the list, or none
  pub is-in : (p : A) (l : List A) → any (same p) l ≡ true → In p l
  is-in p l e = let r = any-in (same p) l e in rw (D.equal p r.0 r.2) r.1

  pub not_in : (p : A) (l : List A) → any (same p) l ≡ false → In p l → ⊥
  not_in p l e i = clash (sym (D.alike p) ∙ any_none (same p) l p e i)

  pub in-any : (p : A) (l : List A) → In p l → any (same p) l ≡ true
  in-any p l i = go (any (same p) l) refl
    where
      go : (b : Bool) → any (same p) l ≡ b → any (same p) l ≡ true
      go true e = e
      go false e = absurd (not_in p l e i)

  -- what stands for p along a list that has one entry for each
  pub look-up : {B : Type 0} (d : B) (f : A → B) (ps : List A) (p : A) → In p ps → get_or (map f ps) (place (same p) ps) d ≡ f p
  unfolding place
  look-up {B = B} d f [] p x' = elim x' [ ]
  look-up d f (x ∷ l) p here = rw (D.alike p, place) refl
  look-up {B} d f (x ∷ l) p (there k) = go (same p x) refl (look-up d f l p k)
    where
      go : (b : Bool) → same p x ≡ b → get_or (map f l) (place (same p) l) d ≡ f p → get_or (map f (x ∷ l)) (place (same p) (x ∷ l)) d ≡ f p
      go true e ih = rw (e, place) (ap f (sym (D.equal p x e)))
      go false e ih = rw (e, place) ih

  -- the place of an entry
  pub place_in : (p : A) (ps : List A) → In p ps → place (same p) ps < length ps
  unfolding place
  place_in p [] x' = elim x' [ ]
  place_in p (x ∷ ps) here = rw (D.alike p, place) (omega arith)
  place_in p (x ∷ ps) (there i) = go (same p x) (place_in p ps i)
    where
      go : (b : Bool) → place (same p) ps < length ps → elim b [ true ↦ 0 | false ↦ suc (place (same p) ps) ] < suc (length ps)
      go true h = omega arith
      go false h = omega arith

  -- in a list without repeats each stands at its own place, and at none before it
  other : (x p : A) (l : List A) → (In x l → ⊥) → In p l → same p x ≡ false
  other x p l n i = go (same p x) refl
    where
      go : (b : Bool) → same p x ≡ b → same p x ≡ false
      go true e = absurd (n (rw (D.equal p x e) at i))
      go false e = e

  pub place_at : (d : A) (ps : List A) (k : ℕ) → Distinct ps → k < length ps → place (same (get_or ps k d)) ps ≡ k
  unfolding place
  place_at d [] k n h = absurd (not-suc-le-zero h)
  place_at d (x ∷ ps) zero n h = rw (D.alike x, place) refl
  place_at d (x ∷ ps) (suc k) (more f n) h = rw (other x (get_or ps k d) ps f (get_in d ps k (omega arith)), place) (ap suc (place_at d ps k n (omega arith)))

  pub apart-at : (d : A) (ps : List A) (k : ℕ) → Distinct ps → k < length ps → any (same (get_or ps k d)) (take k ps) ≡ false
  unfolding any
  apart-at d [] k n h = absurd (not-suc-le-zero h)
  apart-at d (x ∷ ps) zero n h = refl
  apart-at d (x ∷ ps) (suc k) (more f n) h = rw (other x (get_or ps k d) ps f (get_in d ps k (omega arith)), any) (apart-at d ps k n (omega arith))
