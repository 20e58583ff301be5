-- The text read mark by mark: the pass so far and what is left of the text tell whether it is a formula.
use Rattle.std.specs.Prelude.{Some, None, ◌≡◌, refl, Bool, true, false, List, [], ◌∷◌, ℕ, zero, suc, ◌+◌, ◌-◌, ◌≤◌, ◌<◌, eqb, length, drop}
use Rattle.std.proofs.Math.Path.{sym, ap}
use Rattle.std.proofs.Common.{◌∙◌, arith, ne_eqb}
use Rattle.spec.specs.Bytes.{Res, ok, refused, ◌>>=◌}
use Rattle.laws.specs.Results.{refused-ok}
use Rattle.laws.specs.Tests.{clash}
use Rattle.formula.specs.Card.{Tree, Mark}
use Rattle.formula.specs.Reader.{read_marks}
use Rattle.formula.specs.Lexer.{before, cut, read_text}
use Rattle.formula_laws.specs.Refusals.{text-17}
use Rattle.formula_laws.specs.Syntax.{Open, Phase, fresh, wanted, done, failed, pass, pass_all, syntax-right, syntax-all}
use Rattle.card_cut.specs.Cutting.{mark_of, Cuts}
use Rattle.card_cut.specs.CutLaws.{mark-behind, mark-cut, nothing-cut, all-cut}
use Rattle.card_cut.specs.declared.Mark as m
use Rattle.card_syntax.specs.Passing.{is_ok, is_formula, stack, Passes, Room, depth_of}
use Rattle.card_syntax.specs.PassLaws.{any_open, room-more}
use Rattle.card_syntax.specs.declared.Pass.{Pass}
use Rattle.card_syntax.specs.declared.Pass.TheVariants as P

-- ---- a formula is what is read
pub formula-read : (t s : List ℕ) → is_formula t s ≡ true → (a : Tree) × (read_text t s ≡ ok a)
unfolding is_formula
formula-read t s e = go (read_text t s) refl e
  where
    go : (r : Res Tree) → read_text t s ≡ r → is_ok r ≡ true → (a : Tree) × (read_text t s ≡ ok a)
    go (ok a) p q = (a, p)
    go (refused n) p q = absurd (clash (sym q))

pub formula-refused : (t s : List ℕ) → is_formula t s ≡ false → read_text t s ≡ refused 17
unfolding is_formula
formula-refused t s e = go (read_text t s) refl e
  where
    go : (r : Res Tree) → read_text t s ≡ r → is_ok r ≡ false → read_text t s ≡ refused 17
    go (ok a) p q = absurd (clash q)
    go (refused n) p q = p ∙ ap refused (text-17 t s n p)

-- ---- the pass ends behind a child with nothing open
abbrev pub is_done : Phase → Bool
is_done (fresh k) = false
is_done (wanted k) = false
is_done (done []) = true
is_done (done (o ∷ k)) = false
is_done failed = false

is-done : (u : Phase) → is_done u ≡ true → u ≡ done []
is-done (fresh k) e = absurd (clash (sym e))
is-done (wanted k) e = absurd (clash (sym e))
is-done (done []) e = refl
is-done (done (o ∷ k)) e = absurd (clash (sym e))
is-done failed e = absurd (clash (sym e))

-- of a phase, and of what the rest is cut into
unfoldable pub verdict : Phase → Res (List Mark) → Bool
unfolding pass_all
verdict u (ok c) = is_done (pass_all u c)
verdict u (refused n) = false

marks-read : (t : List ℕ) (c : List Mark) → is_ok (read_marks t c) ≡ is_done (pass_all (wanted []) c)
marks-read t c = go (read_marks t c) refl
  where
    no : (n : ℕ) → read_marks t c ≡ refused n → (b : Bool) → is_done (pass_all (wanted []) c) ≡ b → false ≡ b
    no n p true q = absurd (refused-ok (sym p ∙ (syntax-right t c (is-done (pass_all (wanted []) c) q)).1))
    no n p false q = refl

    go : (r : Res Tree) → read_marks t c ≡ r → is_ok (read_marks t c) ≡ is_done (pass_all (wanted []) c)
    go (ok a) p = rw (p, syntax-all t c a p) refl
    go (refused n) p = ap is_ok p ∙ no n p (is_done (pass_all (wanted []) c)) refl

pub record Reading (t s f : List ℕ) (p : Pass) (at : ℕ) : Type 0 where
  pub phase : Phase
  pub fuel : ℕ
  pub enough : length s ≤ at + fuel
  pub within : at ≤ length s
  pub room : Room (at + 1) p
  pub passes : Passes f p phase
  pub left : is_formula t s ≡ verdict phase (cut fuel t (drop at s))

pub reading-starts : (t s f : List ℕ) → Reading t s f (P.Wanted 0) 0
unfolding is_formula read_text verdict stack
reading-starts t s f = record {
  phase = wanted [];
  fuel = length s;
  enough = omega arith;
  within = omega arith;
  room = omega arith;
  passes = ([], refl, record { numbers = refl });
  left = go (cut (length s) t s);
}
  where
    go : (r : Res (List Mark)) → is_ok (r >>= read_marks t) ≡ verdict (wanted []) r
    go (ok c) = marks-read t c
    go (refused n) = refl

-- ---- a mark
some-fuel : (n f : ℕ) → 0 < n → n ≤ f → (g : ℕ) × (f ≡ suc g)
some-fuel n zero h k = absurd (omega arith)
some-fuel n (suc g) h k = (g, refl)

depth-room : (p : Pass) (b : ℕ) → Room (b + 1) p → depth_of p ≤ b
depth-room (P.Fresh n) b r = omega arith
depth-room (P.Wanted n) b r = omega arith
depth-room (P.Done n) b r = omega arith
depth-room P.Failed b r = omega arith

verdict-mark : (u : Phase) (c : Mark) (r : Res (List Mark)) → verdict u (before c r) ≡ verdict (pass u c) r
unfolding verdict
verdict-mark u c (ok l) = refl
verdict-mark u c (refused n) = refl

module _ (t s f : List ℕ) (p : Pass) (at : ℕ) (R : Reading t s f p at) where
  pub reading-room : (n : ℕ) → at < n → Room n p
  reading-room n h = room-more p (omega arith) R.room

  module _ (h : at < length s) where
    next-fuel : (g : ℕ) × (R.fuel ≡ suc g)
    next-fuel = some-fuel (length s - at) R.fuel (omega arith) (omega (arith, R.enough))

    pub reading-mark : (m : m.Mark) (e : ℕ) (f' : List ℕ) (r : Pass) → Cuts t s at (Some (m, e)) → Room (depth_of p + 2) r → Passes f' r (pass R.phase (mark_of m)) → Reading t s f' r e
    reading-mark m e f' r X o S =
        let (g, z) = next-fuel in
        let (b, w) = mark-behind t s at h m e X in
        record {
          phase = pass R.phase (mark_of m);
          fuel = g;
          enough = omega (arith, R.enough);
          within = w;
          room = room-more r (omega (arith, depth-room p at R.room)) o;
          passes = S;
          left = R.left ∙ ap (λ (x : ℕ). verdict R.phase (cut x t (drop at s))) z ∙ ap (verdict R.phase) (mark-cut t s at h g m e X) ∙ verdict-mark R.phase (mark_of m) (cut g t (drop e s));
        }

    pub reading-stops : Cuts t s at None → false ≡ is_formula t s
    unfolding verdict
    reading-stops X = let (g, z) = next-fuel in sym (R.left ∙ ap (λ (x : ℕ). verdict R.phase (cut x t (drop at s))) z ∙ ap (verdict R.phase) (nothing-cut t s at h g X))

  -- the text's end
  pub reading-ends : length s ≤ at → is_done R.phase ≡ is_formula t s
  unfolding verdict pass_all
  reading-ends h = sym (R.left ∙ ap (verdict R.phase) (all-cut R.fuel t s at h))

-- ---- the answer by what is on the stack
module _ (f : List ℕ) (u : Phase) where
  pub done-by : (n : ℕ) → Passes f (P.Done n) u → eqb n 0 ≡ is_done u
  done-by n (k, e, S) = rw e (go n k (any_open f n k S))
    where
      go : (n : ℕ) (k : List Open) → (n ≡ 0 → k ≡ []) × ((n ≡ 0 → ⊥) → (o : Open) × (r : List Open) × (k ≡ o ∷ r)) → eqb n 0 ≡ is_done (done k)
      go zero k (a, b) = rw (a refl) refl
      go (suc n) k (a, b) = let (o, r, z) = b (λ e. omega arith) in rw (z, ne_eqb (suc n) 0 (λ e. omega arith)) refl

  pub not-done-fresh : (n : ℕ) → Passes f (P.Fresh n) u → false ≡ is_done u
  not-done-fresh n (k, e, S) = rw e refl

  pub not-done-wanted : (n : ℕ) → Passes f (P.Wanted n) u → false ≡ is_done u
  not-done-wanted n (k, e, S) = rw e refl

  pub not-done-failed : Passes f P.Failed u → false ≡ is_done u
  not-done-failed e = rw e refl
