-- What the bytes of a line tell: "fields stand one space apart, and each line ends with a line feed", so a line tells its fields and where it ends; a number in decimal tells the number.
use Rattle.std.specs.Prelude.{◌≡◌, refl, Bool, true, false, List, [], ◌∷◌, ◌++◌, ℕ, zero, suc, ◌+◌, ◌*◌, ◌-◌, ◌/◌, ◌%◌, ◌≤◌, ◌<◌, ltb}
use Rattle.std.proofs.Common.{sym, ap, ap₂, ◌∙◌, subst, append_assoc, arith, ltb-true}
use Rattle.std.proofs.Math.Decide.{dec_lt}
use Rattle.spec.specs.Bytes.{all, decimal}
use Rattle.spec.specs.Listing.{line}
use Rattle.decimals.specs.DecimalLaws.{decimal-one, decimal-more}

-- ---- bytes of a kind
unfoldable pub All : (ℕ → Type 0) → List ℕ → Type 0
All P [] = Unit {0}
All P (x ∷ l) = P x × All P l

-- no space and no line feed
abbrev pub Solid : List ℕ → Type 0
Solid l = All (λ x. 32 < x) l

abbrev pub Digits : List ℕ → Type 0
Digits l = All (λ x. (48 ≤ x) × (x ≤ 57)) l

unfoldable pub Solids : List (List ℕ) → Type 0
unfolding All
Solids [] = Unit {0}
Solids (f ∷ l) = Solid f × Solids l

pub all_append : (P : ℕ → Type 0) (l m : List ℕ) → All P l → All P m → All P (l ++ m)
unfolding All
all_append P [] m a b = b
all_append P (x ∷ l) m a b = (a.0, all_append P l m a.1 b)

digits-solid : (l : List ℕ) → Digits l → Solid l
unfolding All
digits-solid [] d = tt
digits-solid (x ∷ l) d = (let z = d.0 in omega arith, digits-solid l d.1)

pub solids-append : (fs gs : List (List ℕ)) → Solids fs → Solids gs → Solids (fs ++ gs)
unfolding Solids
solids-append [] gs a b = b
solids-append (f ∷ fs) gs a b = (a.0, solids-append fs gs a.1 b)

-- a text, by evaluation
pub solid-of : (l : List ℕ) → all (λ x. ltb 32 x) l ≡ true → Solid l
unfolding all All
solid-of [] e = tt
solid-of (x ∷ l) e = go (ltb 32 x) refl e (λ q. solid-of l q)
  where
    go : (b : Bool) → ltb 32 x ≡ b → elim b [ true ↦ all (λ y. ltb 32 y) l | false ↦ false ] ≡ true → (all (λ y. ltb 32 y) l ≡ true → Solid l) → (32 < x) × Solid l
    go true p q ih = (ltb-true 32 x p, ih q)
    go false p q ih = let z : ◌≡◌ {A = ℕ} 0 1 = cc in absurd (omega arith)

pub solids-of : (fs : List (List ℕ)) → all (λ f. all (λ x. ltb 32 x) f) fs ≡ true → Solids fs
unfolding all Solids
solids-of [] e = tt
solids-of (f ∷ fs) e = go (all (λ x. ltb 32 x) f) refl e (λ q. solids-of fs q)
  where
    go : (b : Bool) → all (λ x. ltb 32 x) f ≡ b → elim b [ true ↦ all (λ g. all (λ x. ltb 32 x) g) fs | false ↦ false ] ≡ true → (all (λ g. all (λ x. ltb 32 x) g) fs ≡ true → Solids fs) → Solid f × Solids fs
    go true p q ih = (solid-of f p, ih q)
    go false p q ih = let z : ◌≡◌ {A = ℕ} 0 1 = cc in absurd (omega arith)

-- ---- what stands before the first byte of another kind
pub heads : {A : Type 0} {x y : A} {l m : List A} → x ∷ l ≡ y ∷ m → (x ≡ y) × (l ≡ m)
heads e = (cc, cc)

pub nil-cons : {A : Type 0} {x : A} {l : List A} → [] ≡ x ∷ l → ⊥
nil-cons e = let z : ◌≡◌ {A = ℕ} 0 1 = cc in absurd (omega arith)

pub cut : (P : ℕ → Type 0) (s t : ℕ) → (P s → ⊥) → (P t → ⊥) → (f g l m : List ℕ) → All P f → All P g → f ++ (s ∷ l) ≡ g ++ (t ∷ m) → (f ≡ g) × (s ≡ t) × (l ≡ m)
unfolding All
cut P s t h k [] [] l m a b e = let (x, y) = heads e in (refl, x, y)
cut P s t h k [] (y ∷ g) l m a b e = absurd (h (subst P (sym (heads e).0) b.0))
cut P s t h k (x ∷ f) [] l m a b e = absurd (k (subst P (heads e).0 a.0))
cut P s t h k (x ∷ f) (y ∷ g) l m a b e =
    let (p, q) = heads e in
    let (u, v, w) = cut P s t h k f g l m a.1 b.1 q in
    (ap₂ (λ (z : ℕ) (n : List ℕ). z ∷ n) p u, v, w)

-- ---- a line tells its fields, and where it ends
space : 32 < 32 → ⊥
space h = omega arith

feed : 32 < 10 → ⊥
feed h = omega arith

pub line-cut : (f : List ℕ) (fs : List (List ℕ)) (g : List ℕ) (gs : List (List ℕ)) (l m : List ℕ) → Solids (f ∷ fs) → Solids (g ∷ gs) → line (f ∷ fs) ++ l ≡ line (g ∷ gs) ++ m → (f ∷ fs ≡ g ∷ gs) × (l ≡ m)
unfolding line Solids
line-cut f [] g [] l m a b e =
    let (p, s, q) = cut (λ x. 32 < x) 10 10 feed feed f g l m a.0 b.0 (sym (append_assoc f (10 ∷ []) l) ∙ e ∙ append_assoc g (10 ∷ []) m) in
    (ap (λ (z : List ℕ). z ∷ []) p, q)
line-cut f [] g (k ∷ gs) l m a b e =
    let (p, s, q) = cut (λ x. 32 < x) 10 32 feed space f g l (line (k ∷ gs) ++ m) a.0 b.0 (sym (append_assoc f (10 ∷ []) l) ∙ e ∙ append_assoc g (32 ∷ line (k ∷ gs)) m) in
    absurd (omega arith)
line-cut f (h ∷ fs) g [] l m a b e =
    let (p, s, q) = cut (λ x. 32 < x) 32 10 space feed f g (line (h ∷ fs) ++ l) m a.0 b.0 (sym (append_assoc f (32 ∷ line (h ∷ fs)) l) ∙ e ∙ append_assoc g (10 ∷ []) m) in
    absurd (omega arith)
line-cut f (h ∷ fs) g (k ∷ gs) l m a b e =
    let (p, s, q) = cut (λ x. 32 < x) 32 32 space space f g (line (h ∷ fs) ++ l) (line (k ∷ gs) ++ m) a.0 b.0 (sym (append_assoc f (32 ∷ line (h ∷ fs)) l) ∙ e ∙ append_assoc g (32 ∷ line (k ∷ gs)) m) in
    let (u, v) = line-cut h fs k gs l m a.1 b.1 q in
    (ap₂ (λ (x : List ℕ) (y : List (List ℕ)). x ∷ y) p u, v)

-- ---- a number in decimal tells the number
value_of : ℕ → List ℕ → ℕ
value_of v [] = v
value_of v (d ∷ l) = value_of (v * 10 + (d - 48)) l

value-last : (v d : ℕ) (l : List ℕ) → value_of v (l ++ (d ∷ [])) ≡ value_of v l * 10 + (d - 48)
unfolding value_of
value-last v d [] = refl
value-last v d (x ∷ l) = value-last (v * 10 + (x - 48)) d l

abbrev Told : ℕ → Type 0
Told n = (value_of 0 (decimal n) ≡ n) × Digits (decimal n)

told : (f n : ℕ) → n < f → Told n
unfolding value_of All
told zero n h = absurd (omega arith)
told (suc f) n h = go (dec_lt n 10) (λ k. told f (n / 10) k)
  where
    go : Dec (n < 10) → (n / 10 < f → Told (n / 10)) → Told n
    go (yes b) ih = rw (decimal-one n b) (omega arith, ((omega arith, omega arith), tt))
    go (no b) ih =
        let (v, s) = ih (omega arith) in
        rw (decimal-more n (omega arith)) (value-last 0 (48 + n % 10) (decimal (n / 10)) ∙ (let z : value_of 0 (decimal (n / 10)) * 10 + (48 + n % 10 - 48) ≡ n = omega (arith, v) in z), all_append _ (decimal (n / 10)) ((48 + n % 10) ∷ []) s ((omega arith, omega arith), tt))

pub decimal-digits : (n : ℕ) → Digits (decimal n)
decimal-digits n = (told (suc n) n (omega arith)).1

pub decimal-solid : (n : ℕ) → Solid (decimal n)
decimal-solid n = digits-solid (decimal n) (decimal-digits n)

pub decimal-tells : (m n : ℕ) → decimal m ≡ decimal n → m ≡ n
decimal-tells m n e = sym (told (suc m) m (omega arith)).0 ∙ ap (value_of 0) e ∙ (told (suc n) n (omega arith)).0
