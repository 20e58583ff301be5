-- "The first line has the status (`complete` or `partial`), pairs, rounds, size, mass", (02, Paper 7) "`skipped` and the number of monomial pairs passed over" and (Paper 13) "a final field `checks`": its bytes tell each of them.
-- So what is said of an outcome is said of what the first line prints.
use Rattle.std.specs.Prelude.{◌≡◌, refl, Bool, true, false, List, [], ◌∷◌, ◌++◌, map, ℕ, get_or}
use Rattle.std.proofs.Common.{sym, ap, arith}
use Rattle.spec.specs.Bytes.{all, each, text}
use Rattle.spec.specs.Run.{Outcome}
use Rattle.spec.specs.Listing.{Field, reported, named, status_of, report_line, first_line}
use Rattle.demands.specs.Fields.{Solid, Solids, solid-of, solids-of, heads, nil-cons, line-cut, decimal-solid, decimal-tells}

-- ---- the status
status-solid : (b : Bool) → Solid (status_of b)
unfolding status_of text all
status-solid true = solid-of (text "complete") refl
status-solid false = solid-of (text "partial") refl

status-tells : (a b : Bool) → status_of a ≡ status_of b → a ≡ b
unfolding status_of text
status-tells true true e = refl
status-tells false false e = refl
status-tells true false e = absurd (omega (arith, (heads e).0))
status-tells false true e = absurd (omega (arith, (heads e).0))

-- ---- fields, whatever they are
abbrev pub names : List Field → List (List ℕ)
names fs = map (λ f. f.0) fs

named-solid : (fs : List Field) → Solids (names fs) → Solids (each named fs)
unfolding each Solids
named-solid [] s = tt
named-solid (f ∷ fs) s = (s.0, (decimal-solid f.1, named-solid fs s.1))

named-tells : (fs gs : List Field) → each named fs ≡ each named gs → fs ≡ gs
unfolding each
named-tells [] [] e = refl
named-tells [] (g ∷ gs) e = absurd (nil-cons e)
named-tells (f ∷ fs) [] e = absurd (nil-cons (sym e))
named-tells (f ∷ fs) (g ∷ gs) e =
    let (a, r) = heads e in
    let (b, s) = heads r in
    let n = decimal-tells f.1 g.1 b in
    let z = named-tells fs gs s in
    λ i. (a i, n i) ∷ z i

-- Two lines of fields, whatever stands behind them, tell their status and every field, name and number, where no name has a space or a line feed.
pub fields-tell : (a b : Bool) (fs gs : List Field) (l m : List ℕ) → Solids (names fs) → Solids (names gs) → report_line a fs ++ l ≡ report_line b gs ++ m → (a ≡ b) × (fs ≡ gs) × (l ≡ m)
unfolding report_line Solids
fields-tell a b fs gs l m s r e =
    let (q, z) = line-cut (status_of a) (each named fs) (status_of b) (each named gs) l m (status-solid a, named-solid fs s) (status-solid b, named-solid gs r) e in
    let (x, y) = heads q in
    (status-tells a b x, named-tells fs gs y, z)

-- ---- the first line
names-solid : (k : ℕ) (o : Outcome) → Solids (names (reported k o))
unfolding reported text all
names-solid k o = solids-of (names (reported k o)) refl

-- what a first line says: of outcome o with k pairs skipped the same as of u with j
abbrev pub SameReport : ℕ → ℕ → Outcome → Outcome → Type 0
SameReport k j o u = (o.complete ≡ u.complete) × (o.nodes ≡ u.nodes) × (o.rounds ≡ u.rounds) × (o.quality.0 ≡ u.quality.0) × (o.quality.1 ≡ u.quality.1) × (k ≡ j) × (o.checks ≡ u.checks)

-- whatever stands behind it
pub first-line-cut : (k j : ℕ) (o u : Outcome) (l m : List ℕ) → first_line k o ++ l ≡ first_line j u ++ m → SameReport k j o u × (l ≡ m)
unfolding first_line reported
first-line-cut k j o u l m e =
    let (c, q, z) = fields-tell o.complete u.complete (reported k o) (reported j u) l m (names-solid k o) (names-solid j u) e in
    let at : (i : ℕ) → (get_or (reported k o) i ([], 0)).1 ≡ (get_or (reported j u) i ([], 0)).1 = λ i. ap (λ (f : List Field). (get_or f i ([], 0)).1) q in
    ((c, at 0, at 1, at 2, at 3, at 4, at 5), z)
