-- Lists with some repeats of earlier entries removed.
use Rattle.std.specs.Prelude.{◌≡◌, refl, ◌⊎◌, Bool, true, false, List, [], ◌∷◌, ◌++◌, map}
use Rattle.std.proofs.Common.{sym, ap, ◌∙◌}
use Rattle.std.proofs.Math.Logic.{inl, inr}
use Rattle.spec.specs.Bytes.{filter, each}
use Rattle.spec.specs.Meaning.{In, here, there}
use Rattle.laws.specs.Tests.{clash}
use Rattle.laws.specs.Lists.{in-nil, in-cons, in_left, in_right, in-append, in_map}

-- m is l without some of the entries that stand for (by R) an entry which came earlier, or was seen before
pub data Fewer {A : Type 0} (R : A → A → Type 0) : List A → List A → List A → Type 0 where
  done : {seen : List A} → Fewer R seen [] []
  keep : {seen : List A} {x : A} {l m : List A} → Fewer R (x ∷ seen) l m → Fewer R seen (x ∷ l) (x ∷ m)
  drop : {seen : List A} {x : A} {l m : List A} (y : A) → In y seen → R y x → Fewer R seen l m → Fewer R seen (x ∷ l) m

-- equal entries
abbrev pub Equal : {A : Type 0} → A → A → Type 0
Equal x y = x ≡ y

module _ {A : Type 0} {R : A → A → Type 0} where
  pub fewer-all : (l seen : List A) → Fewer R seen l l
  fewer-all [] seen = done
  fewer-all (x ∷ l) seen = keep (fewer-all l (x ∷ seen))

  -- what is seen may be more
  pub fewer-seen : (seen more l m : List A) → ((x : A) → In x seen → In x more) → Fewer R seen l m → Fewer R more l m
  fewer-seen seen more l m f done = done
  fewer-seen seen more l m f (keep {x = x} {l = k} {m = n} d) = keep (fewer-seen (x ∷ seen) (x ∷ more) k n (λ z i. elim (in-cons i) [ inl e ↦ rw e here | inr j ↦ there (f z j) ]) d)
  fewer-seen seen more l m f (drop {l = k} y i r d) = drop y (f y i) r (fewer-seen seen more k m f d)

  -- one list after the other: what the first one keeps is seen by the second
  pub fewer-append : (seen k k' l l' : List A) → Fewer R seen k k' → Fewer R (k' ++ seen) l l' → Fewer R seen (k ++ l) (k' ++ l')
  fewer-append seen k k' l l' done e = e
  fewer-append seen k k' l l' (keep {x = x} {l = j} {m = j'} d) e = keep (fewer-append (x ∷ seen) j j' l l' d (fewer-seen ((x ∷ j') ++ seen) (j' ++ (x ∷ seen)) l l' (λ z i. move z (in-append (x ∷ j') i)) e))
    where
      move : (z : A) → In z (x ∷ j') ⊎ In z seen → In z (j' ++ (x ∷ seen))
      move z (inl i) = elim (in-cons i) [ inl q ↦ rw q (in_right j' here) | inr j ↦ in_left (x ∷ seen) j ]
      move z (inr i) = in_right j' (there i)
  fewer-append seen k k' l l' (drop {l = j} y i r d) e = drop y i r (fewer-append seen j k' l l' d e)

-- nothing is lost
pub fewer-in : {A : Type 0} (seen l m : List A) → Fewer Equal seen l m → (z : A) → In z l → In z m ⊎ In z seen
fewer-in seen l m done z i = absurd (in-nil i)
fewer-in seen l m (keep {x = x} {l = j} {m = k} d) z i = go (in-cons i) (λ h. fewer-in (x ∷ seen) j k d z h)
  where
    next : In z k ⊎ In z (x ∷ seen) → In z (x ∷ k) ⊎ In z seen
    next (inl h) = inl (there h)
    next (inr h) = elim (in-cons h) [ inl e ↦ inl (rw e here) | inr n ↦ inr n ]

    go : (z ≡ x) ⊎ In z j → (In z j → In z k ⊎ In z (x ∷ seen)) → In z (x ∷ k) ⊎ In z seen
    go (inl e) ih = inl (rw e here)
    go (inr h) ih = next (ih h)
fewer-in seen l m (drop {x = x} {l = j} y h q d) z i = go (in-cons i) (λ n. fewer-in seen j m d z n)
  where
    go : (z ≡ x) ⊎ In z j → (In z j → In z m ⊎ In z seen) → In z m ⊎ In z seen
    go (inl e) ih = inr (rw (e ∙ sym q) h)
    go (inr n) ih = ih n

-- a list of repeats goes as a whole
pub fewer-gone : {A : Type 0} (seen k l m : List A) → ((x : A) → In x k → In x seen) → Fewer Equal seen l m → Fewer Equal seen (k ++ l) m
fewer-gone seen [] l m f d = d
fewer-gone seen (x ∷ k) l m f d = drop x (f x here) refl (fewer-gone seen k l m (λ z i. f z (there i)) d)

module _ {A B : Type 0} {R : A → A → Type 0} where
  -- lists f x and g x for each x: g x is f x without repeats, and an entry that goes has nothing new
  pub fewer-each : (f g : A → List B) (seen : List A) (old : List B) (l m : List A)
      → ((x : A) (s : List B) → Fewer Equal s (f x) (g x)) → ((y x : A) → R y x → (z : B) → In z (f x) → In z (g y)) → ((y : A) → In y seen → (z : B) → In z (g y) → In z old)
      → Fewer R seen l m → Fewer Equal old (each f l) (each g m)
  unfolding each
  fewer-each f g seen old l m h k s done = done
  fewer-each f g seen old l m h k s (keep {x = x} {l = l'} {m = m'} d) =
      fewer-append old (f x) (g x) (each f l') (each g m') (h x old)
      (fewer-each f g (x ∷ seen) (g x ++ old) l' m' h k (λ y i z j. elim (in-cons i) [ inl e ↦ in_left old (rw e at j) | inr i' ↦ in_right (g x) (s y i' z j) ]) d)
  fewer-each f g seen old l m h k s (drop {x = x} {l = l'} y i r d) = fewer-gone old (f x) (each f l') (each g m) (λ z j. s y i z (k y x r z j)) (fewer-each f g seen old l' m h k s d)

pub fewer-map : {A B : Type 0} {R : A → A → Type 0} {Q : B → B → Type 0} (f : A → B) → ((y x : A) → R y x → Q (f y) (f x)) → (seen l m : List A) → Fewer R seen l m → Fewer Q (map f seen) (map f l) (map f m)
fewer-map f h seen l m done = done
fewer-map f h seen l m (keep {x = x} {l = l'} {m = m'} d) = keep (fewer-map f h (x ∷ seen) l' m' d)
fewer-map f h seen l m (drop {x = x} {l = l'} y i r d) = drop (f y) (in_map f i) (h y x r) (fewer-map f h seen l' m d)

pub fewer-filter : {A : Type 0} (f : A → Bool) (seen old l m : List A) → ((x : A) → In x seen → f x ≡ true → In x old) → Fewer Equal seen l m → Fewer Equal old (filter f l) (filter f m)
unfolding filter
fewer-filter f seen old l m s done = done
fewer-filter f seen old l m s (keep {x = x} {l = l'} {m = m'} d) = go (f x) refl (λ more g. fewer-filter f (x ∷ seen) more l' m' g d)
  where
    go : (b : Bool) → f x ≡ b → ((more : List _) → ((z : _) → In z (x ∷ seen) → f z ≡ true → In z more) → Fewer Equal more (filter f l') (filter f m'))
        → Fewer Equal old (elim b [ true ↦ x ∷ filter f l' | false ↦ filter f l' ]) (elim b [ true ↦ x ∷ filter f m' | false ↦ filter f m' ])
    go true e ih = keep (ih (x ∷ old) (λ z i t. elim (in-cons i) [ inl q ↦ rw q here | inr j ↦ there (s z j t) ]))
    go false e ih = ih old (λ z i t. elim (in-cons i) [ inl q ↦ absurd (clash (sym t ∙ ap f q ∙ e)) | inr j ↦ s z j t ])
fewer-filter f seen old l m s (drop {x = x} {l = l'} y i q d) = go (f x) refl (fewer-filter f seen old l' m s d)
  where
    go : (b : Bool) → f x ≡ b → Fewer Equal old (filter f l') (filter f m) → Fewer Equal old (elim b [ true ↦ x ∷ filter f l' | false ↦ filter f l' ]) (filter f m)
    go true e ih = drop y (s y i (ap f q ∙ e)) q ih
    go false e ih = ih

-- again without repeats
pub fewer-trans : {A : Type 0} (seen l m n : List A) → Fewer Equal seen l m → Fewer Equal seen m n → Fewer Equal seen l n
fewer-trans seen l m n done e = e
fewer-trans seen l m n (drop {l = l'} y i q d) e = drop y i q (fewer-trans seen l' m n d e)
fewer-trans seen l m n (keep {x = x} {l = l'} {m = m'} d) (keep {m = n'} e) = keep (fewer-trans (x ∷ seen) l' m' n' d e)
fewer-trans seen l m n (keep {x = x} {l = l'} {m = m'} d) (drop y i q e) =
    drop y i q (fewer-seen (x ∷ seen) seen l' n (λ z j. elim (in-cons j) [ inl k ↦ rw (k ∙ sym q) i | inr k ↦ k ])
    (fewer-trans (x ∷ seen) l' m' n d (fewer-seen seen (x ∷ seen) m' n (λ z j. there j) e)))
