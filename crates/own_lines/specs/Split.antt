-- The listing is its first line, which has one line feed, its last byte, and then the lines of the term.
use Rattle.std.specs.Prelude.{◌≡◌, refl, Bool, true, false, List, [], ◌∷◌, ◌++◌, ℕ, zero, suc, ◌+◌, ◌/◌, ◌%◌, ◌<◌, eqb, length, drop}
use Rattle.std.proofs.Common.{sym, ap, ◌∙◌, append_assoc, arith, length-append, ne_eqb}
use Rattle.std.proofs.Math.Decide.{dec_lt}
use Rattle.spec.specs.Bytes.{pick, all, each, place, text, decimal, digits}
use Rattle.spec.specs.Run.{Outcome}
use Rattle.spec.specs.Listing.{Field, status_of, reported, first_line, listing_of, lines_of}
use Rattle.laws.specs.Tests.{clash}
use Rattle.first_line.specs.FieldLaws.{field_bytes, report-is}
use Rattle.formula_laws.specs.Lexing.{all_cons, cons-all, digits-one, digits_step, drop_own}

-- ---- bytes that are no line feed
abbrev other : ℕ → Bool
other c = pick (eqb 10 c) false true

abbrev pub NoFeed : List ℕ → Type 0
NoFeed s = all other s ≡ true

no-feed-append : (s r : List ℕ) → NoFeed s → NoFeed r → NoFeed (s ++ r)
unfolding all
no-feed-append [] r h k = k
no-feed-append (c ∷ s) r h k = let (a, b) = all_cons other c s h in cons-all other c (s ++ r) a (no-feed-append s r b k)

digit-other : (n : ℕ) → other (48 + n) ≡ true
digit-other n = rw (ne_eqb 10 (48 + n) (λ e. omega arith)) refl

digits-other : (f n : ℕ) (l : List ℕ) → NoFeed l → NoFeed (digits f n l)
unfolding digits
digits-other zero n l h = h
digits-other (suc f) n l h = go (dec_lt n 10) (λ m k. digits-other f (n / 10) m k)
  where
    go : Dec (n < 10) → ((m : List ℕ) → NoFeed m → NoFeed (digits f (n / 10) m)) → NoFeed (digits (suc f) n l)
    go (yes q) ih = rw (digits-one f n l q) (cons-all other (48 + n) l (digit-other n) h)
    go (no q) ih = rw (digits_step f n l (omega arith)) (ih ((48 + n % 10) ∷ l) (cons-all other (48 + n % 10) l (digit-other (n % 10)) h))

decimal-other : (n : ℕ) → NoFeed (decimal n)
unfolding all
decimal-other n = digits-other (suc n) n [] refl

-- ---- the first line
abbrev Names : List Field → Type 0
Names [] = Unit
Names (x ∷ l) = NoFeed x.0 × Names l

fields-other : (l : List Field) → Names l → NoFeed (each field_bytes l)
unfolding each all
fields-other [] h = refl
fields-other (x ∷ l) h =
    no-feed-append (field_bytes x) (each field_bytes l)
    (cons-all other 32 (x.0 ++ (32 ∷ decimal x.1)) refl (no-feed-append x.0 (32 ∷ decimal x.1) h.0 (cons-all other 32 (decimal x.1) refl (decimal-other x.1)))) (fields-other l h.1)

status-other : (b : Bool) → NoFeed (status_of b)
unfolding status_of text all
status-other true = refl
status-other false = refl

names : (k : ℕ) (o : Outcome) → Names (reported k o)
unfolding reported text all
names k o = (refl, (refl, (refl, (refl, (refl, (refl, tt))))))

-- the first line without its line feed
abbrev pub front : ℕ → Outcome → List ℕ
front k o = status_of o.complete ++ each field_bytes (reported k o)

-- "each line ends with a line feed": the first line has one, at its end
pub first-line : (k : ℕ) (o : Outcome) → (first_line k o ≡ front k o ++ (10 ∷ [])) × NoFeed (front k o)
unfolding first_line
first-line k o = (
  report-is o.complete (reported k o) ∙ sym (append_assoc (status_of o.complete) (each field_bytes (reported k o)) (10 ∷ [])),
  no-feed-append (status_of o.complete) (each field_bytes (reported k o)) (status-other o.complete) (fields-other (reported k o) (names k o)),
)

feed-place : (s r : List ℕ) → NoFeed s → place (eqb 10) (s ++ (10 ∷ r)) ≡ length s
unfolding place
feed-place [] r h = refl
feed-place (c ∷ s) r h = let (a, b) = all_cons other c s h in go (eqb 10 c) refl a (feed-place s r b)
  where
    go : (x : Bool) → eqb 10 c ≡ x → other c ≡ true → place (eqb 10) (s ++ (10 ∷ r)) ≡ length s → place (eqb 10) (c ∷ (s ++ (10 ∷ r))) ≡ suc (length s)
    go true e a ih = absurd (clash (sym (rw e at a)))
    go false e a ih = rw (e, place) (ap suc ih)

-- ---- the listing
pub listing-split : (k : ℕ) (o : Outcome) → listing_of k o ≡ first_line k o ++ lines_of o.pool o.root
unfolding listing_of
listing-split k o = refl

listing-feed : (k : ℕ) (o : Outcome) → listing_of k o ≡ front k o ++ (10 ∷ lines_of o.pool o.root)
listing-feed k o = listing-split k o ∙ ap (λ (z : List ℕ). z ++ lines_of o.pool o.root) (first-line k o).0 ∙ append_assoc (front k o) (10 ∷ []) (lines_of o.pool o.root)

-- the first line feed of a listing ends its first line
pub listing-first-feed : (k : ℕ) (o : Outcome) → suc (place (eqb 10) (listing_of k o)) ≡ length (first_line k o)
listing-first-feed k o =
    ap (λ (z : List ℕ). suc (place (eqb 10) z)) (listing-feed k o) ∙ ap suc (feed-place (front k o) (lines_of o.pool o.root) (first-line k o).1)
    ∙ (let z : suc (length (front k o)) ≡ length (first_line k o) = omega (arith, ap length (first-line k o).0, length-append (front k o) (10 ∷ [])) in z)

-- Behind it stand the lines of the term.
pub behind-first : (k : ℕ) (o : Outcome) → drop (suc (place (eqb 10) (listing_of k o))) (listing_of k o) ≡ lines_of o.pool o.root
behind-first k o = ap (λ (n : ℕ). drop n (listing_of k o)) (listing-first-feed k o) ∙ ap (drop (length (first_line k o))) (listing-split k o) ∙ drop_own (first_line k o) (lines_of o.pool o.root)
