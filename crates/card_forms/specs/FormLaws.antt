-- The form of a term, by its numbers in the pool's buffers.
use Rattle.std.specs.Prelude.{◌≡◌, refl, ◌≢◌, Bool, true, false, ℕ, ◌+◌, ◌-◌, ◌/◌, ◌%◌, ◌≤◌, ◌<◌, ltb, leb, eqb, length}
use Rattle.std.proofs.Math.Path.{sym, ap}
use Rattle.std.proofs.Common.{◌∙◌, arith}
use mathlib.Core.List.{List, [], ◌∷◌, ◌++◌, append_assoc, append-nil}
use Rattle.std.proofs.Math.ListN.{get_or}
use borrow.Author.Tests.{eq-eqb, ne_eqb, eqb-true, eqb-false, leb-true}
use Rattle.spec.specs.Bytes.{pick, both, each, within, Two}
use Rattle.spec.specs.Pool.{Pool, Node, OP, VARIANTS, expanded_length}
use Rattle.laws.specs.Tests.{clash, both_true}
use Rattle.laws.specs.BagCount.{written, written-length}
use Rattle.formula.specs.Card as C
use Rattle.formula.specs.Card.{operations, prec_of, sign, has_sign, own, proper, Mark, between, list, next, close, opens, shuts, begin, or, end, spell_mark, spell, bracketed, left_level, right_level, write}
use Rattle.formula.specs.Lexer.{card_tree}
use Rattle.formula_laws.specs.Lexing.{of-proper}
use Rattle.formula_laws.specs.Terms.{series_of, operation_marks, node_marks, card-node, literal-marks, operation-marks, marked-marks}
use Rattle.formula_laws.specs.Signed.{itself, below, node_proper}
use Rattle.terms.specs.Buffers.{part, unpack, first_in, head_in, value_in, node_in, pool_of, count_in}
use Rattle.terms.specs.Chains.{Holds}
use Rattle.terms.specs.PoolLaws.{pool-length, pool-at}
use Rattle.card_forms.specs.declared.Infix.{Infix}
use Rattle.card_forms.specs.declared.Form.TheVariants as F
use Rattle.card_forms.specs.Forms.{card_text, literal_text, AllSigned, infix_of, open_text, shut_text, sign_text, IsBetween, runs_at, IsSeries, form_of}
use Rattle.card_forms.specs.SeriesLaws.{spell-append, spell_one, series-spelt}
use Rattle.card_forms.specs.RunLaws.{counts, pair-at, written_in, is-operation, runs-rise, runs-within, runs-few, runs-are, run_at, runs-counted, child-lower}

-- ---- a list that is not of two
list-marks : (t : List ℕ) (w : ℕ → ℕ → List Mark) (m o : ℕ) (l : List ℕ) → length l ≢ 2 → operation_marks t w m o l ≡ list o ∷ series_of (w 0) next l ++ (close ∷ [])
unfolding operation_marks series_of
list-marks t w m o [] h = refl
list-marks t w m o (c ∷ []) h = refl
list-marks t w m o (c ∷ d ∷ []) h = absurd (h refl)
list-marks t w m o (c ∷ d ∷ e ∷ l) h = refl

pub operation-proper : (t : List ℕ) (n : Node) → n.head ≡ OP → node_proper t n ≡ proper t n.op
unfolding node_proper
operation-proper t n e = rw (e, node_proper) (inner (eqb n.head VARIANTS) (ap (λ z. eqb z VARIANTS) e))
  where
    inner : (x : Bool) → x ≡ false → (elim x [ true ↦ true | false ↦ proper t n.op ]) ≡ proper t n.op
    inner true f = absurd (clash f)
    inner false f = refl

-- ---- an operation of the term
pub record Placed (t : List ℕ) (o : ℕ) : Type 0 where
  pub known : o < operations t
  pub some : 1 ≤ prec_of t o
  pub few : prec_of t o ≤ 9

pub placed : (t : List ℕ) (o : ℕ) → proper t o ≡ true → Placed t o
unfolding proper
placed t o e =
    let r = ((both_true (own t o) (within 1 9 (prec_of t o))).0 ((both_true (has_sign t o) (both (own t o) (within 1 9 (prec_of t o)))).0 e).1).1 in
    let (x, y) = (both_true (leb 1 (prec_of t o)) (leb (prec_of t o) 9)).0 r in
    record { known = (of-proper t o e).known; some = leb-true 1 (prec_of t o) x; few = leb-true (prec_of t o) 9 y }

pub level-asks : (t : List ℕ) (o : ℕ) {q : ℕ} → proper t o ≡ true → q ≡ prec_of t o → (1 ≤ q) × (q ≤ 9) × (9 ≤ length t)
level-asks t o e f = let x = placed t o e in omega arith

-- ---- the text of a node
abbrev child_marks : List ℕ → Pool → ℕ → ℕ → List Mark
child_marks t p m c = write t m (card_tree p c)

closed-text : (t : List ℕ) (x y : Mark) (s : List Mark) → spell t (x ∷ s ++ (y ∷ [])) ≡ spell_mark t x ++ (spell t s ++ spell_mark t y)
unfolding spell each
closed-text t x y s = ap (λ (z : List ℕ). spell_mark t x ++ z) (spell-append t s (y ∷ []) ∙ ap (λ (z : List ℕ). spell t s ++ z) (spell_one t y))

bracket-text : (t : List ℕ) (b : Bool) (s : List Mark) → spell t (bracketed b s) ≡ open_text b ++ (spell t s ++ shut_text b)
unfolding spell_mark
bracket-text t true s = closed-text t opens shuts s
bracket-text t false s = sym (append-nil (spell t s))

module _ (t terms runs : List ℕ) (H : Holds terms runs) (a : ℕ) (b : a < count_in terms) where
  -- by the node's form
  text-is : (m : ℕ) → card_text t (pool_of terms runs) m a ≡ spell t (node_marks t (child_marks t (pool_of terms runs)) m (node_in terms runs a))
  text-is m = ap (spell t) (card-node t (pool_of terms runs) H.valid m a (rw (pool-length terms runs) b) ∙ ap (node_marks t (child_marks t (pool_of terms runs)) m) (pool-at terms runs a b))

  literal-form : (m : ℕ) → head_in terms a / 64 ≡ 1 → card_text t (pool_of terms runs) m a ≡ literal_text (value_in terms a) (head_in terms a % 64)
  unfolding spell_mark
  literal-form m e = text-is m ∙ ap (spell t) (literal-marks t (child_marks t (pool_of terms runs)) m (node_in terms runs a) e) ∙ spell_one t (C.literal (value_in terms a) (head_in terms a % 64))

  module _ {from to : ℕ} (f : from ≡ first_in terms a) (g : to ≡ first_in terms (a + 1)) where
    module _ (S : AllSigned t (pool_of terms runs) a) where
      child-signed : (i : ℕ) → from ≤ i → i < to → AllSigned t (pool_of terms runs) (get_or runs i 0 % 16384)
      child-signed i h k c j = S c (below (rw (pool-at terms runs a b) (written_in (unpack (get_or runs i 0)) (node_in terms runs a).runs (run_at terms runs H a b f g i h k) (runs-counted terms runs H a b f g i h k))) j)

      operation-placed : head_in terms a / 64 ≢ 1 → head_in terms a / 64 ≢ 2 → proper t (head_in terms a % 64) ≡ true
      unfolding node_proper
      operation-placed x y = sym (operation-proper t (node_in terms runs a) (is-operation terms runs H a b x y)) ∙ rw (pool-at terms runs a b) at (S a itself)

      -- ---- a marked place
      marked-form : (m : ℕ) → head_in terms a / 64 ≡ 2 → IsSeries t terms runs m a (head_in terms a) from to
      unfolding spell_mark
      marked-form m e = record {
        whole =
            let z = eq-eqb (head_in terms a / 64) 2 e in
            rw z
            (text-is m ∙ ap (spell t) (marked-marks t (child_marks t (pool_of terms runs)) m (node_in terms runs a) e)
            ∙ closed-text t begin end (series_of (child_marks t (pool_of terms runs) 0) or (written (node_in terms runs a).runs))
            ∙ ap (λ (z : List ℕ). (123 ∷ []) ++ (z ++ (125 ∷ []))) (ap (λ (l : List Two). spell t (series_of (child_marks t (pool_of terms runs) 0) or (written l))) (sym (runs-are terms runs H a b f g)) ∙ series-spelt t (child_marks t (pool_of terms runs) 0) or (part runs from (to - from)) (counts runs from to (runs-rise terms runs H a b f g) (runs-counted terms runs H a b f g))));
        known = λ n. absurd (n e);
        rises = runs-rise terms runs H a b f g;
        within = runs-within terms runs H a b f g;
        few = runs-few terms runs H a b f g;
        counted = runs-counted terms runs H a b f g;
        below = child-lower terms runs H a b f g;
        signed = child-signed;
      }

      -- ---- an operation
      module _ (x : head_in terms a / 64 ≢ 1) (y : head_in terms a / 64 ≢ 2) where
        operation-text : (m : ℕ) → card_text t (pool_of terms runs) m a ≡ spell t (operation_marks t (child_marks t (pool_of terms runs)) m (head_in terms a % 64) (written (runs_at runs from to)))
        operation-text m =
            text-is m ∙ ap (spell t) (operation-marks t (child_marks t (pool_of terms runs)) m (node_in terms runs a) (is-operation terms runs H a b x y))
            ∙ ap (λ (l : List Two). spell t (operation_marks t (child_marks t (pool_of terms runs)) m (head_in terms a % 64) (written l))) (sym (runs-are terms runs H a b f g))

        list-form : (m : ℕ) → expanded_length (runs_at runs from to) ≢ 2 → IsSeries t terms runs m a (head_in terms a) from to
        unfolding spell_mark
        list-form m e = record {
          whole =
              let z = ne_eqb (head_in terms a / 64) 2 y in
              rw z
              (operation-text m
              ∙ ap (spell t) (list-marks t (child_marks t (pool_of terms runs)) m (head_in terms a % 64) (written (runs_at runs from to)) (λ q. e (sym (written-length (runs_at runs from to)) ∙ q)))
              ∙ closed-text t (list (head_in terms a % 64)) close (series_of (child_marks t (pool_of terms runs) 0) next (written (runs_at runs from to)))
              ∙ ap (λ (z : List ℕ). (sign t (head_in terms a % 64) ++ (91 ∷ [])) ++ (z ++ (93 ∷ []))) (series-spelt t (child_marks t (pool_of terms runs) 0) next (part runs from (to - from)) (counts runs from to (runs-rise terms runs H a b f g) (runs-counted terms runs H a b f g))));
          known = λ n. (placed t (head_in terms a % 64) (operation-placed x y)).known;
          rises = runs-rise terms runs H a b f g;
          within = runs-within terms runs H a b f g;
          few = runs-few terms runs H a b f g;
          counted = runs-counted terms runs H a b f g;
          below = child-lower terms runs H a b f g;
          signed = child-signed;
        }

        pair-form : (m : ℕ) → expanded_length (runs_at runs from to) ≡ 2 → IsBetween t (pool_of terms runs) m a (infix_of t (get_or runs from 0 % 16384) (get_or runs (to - 1) 0 % 16384) (head_in terms a % 64) m)
        unfolding sign_text operation_marks spell_mark spell each
        pair-form m e =
            let (k, w) = pair-at runs from to (runs-rise terms runs H a b f g) (runs-counted terms runs H a b f g) e in
            let o = head_in terms a % 64 in
            let q = prec_of t o in
            let c = get_or runs from 0 % 16384 in
            let d = get_or runs (to - 1) 0 % 16384 in
            let u = child_marks t (pool_of terms runs) (left_level t q) c in
            let v = child_marks t (pool_of terms runs) (right_level t q) d in
            record {
              whole =
                  operation-text m
                  ∙ ap (λ (l : List ℕ). spell t (operation_marks t (child_marks t (pool_of terms runs)) m o l)) w
                  ∙ bracket-text t (ltb q m) (u ++ (between o ∷ v))
                  ∙ ap (λ (z : List ℕ). open_text (ltb q m) ++ (z ++ shut_text (ltb q m))) (spell-append t u (between o ∷ v))
                  ∙ ap (λ (z : List ℕ). open_text (ltb q m) ++ z) (append_assoc (spell t u) (sign_text t o ++ spell t v) (shut_text (ltb q m)) ∙ ap (λ (z : List ℕ). spell t u ++ z) (append_assoc (sign_text t o) (spell t v) (shut_text (ltb q m))));
              known = (placed t o (operation-placed x y)).known;
              left_below = child-lower terms runs H a b f g from (omega arith) k;
              right-below = child-lower terms runs H a b f g (to - 1) (omega arith) (omega arith);
              left-signed = child-signed from (omega arith) k;
              right-signed = child-signed (to - 1) (omega arith) (omega arith);
            }

    -- ---- the same of what the code has read
    module _ {h : ℕ} (q : h ≡ head_in terms a) (S : AllSigned t (pool_of terms runs) a) where
      pub as-marked : (m : ℕ) → h / 64 ≡ 2 → IsSeries t terms runs m a h from to
      as-marked m e = rw q (marked-form S m (rw q at e))

      module _ (x : h / 64 ≢ 1) (y : h / 64 ≢ 2) where
        pub as-list : (m : ℕ) {b : Bool} → b ≡ eqb (expanded_length (runs_at runs from to)) 2 → b ≡ false → IsSeries t terms runs m a h from to
        as-list m e h = rw q (list-form S (rw q at x) (rw q at y) m (eqb-false (expanded_length (runs_at runs from to)) 2 (sym e ∙ h)))

        pub as-proper : {o : ℕ} → o ≡ h % 64 → proper t o ≡ true
        as-proper e = rw (e, q) (operation-placed S (rw q at x) (rw q at y))

        pub as-between : {b : Bool} → b ≡ eqb (expanded_length (runs_at runs from to)) 2 → b ≡ true → {c d o m : ℕ} {i : Infix} → c ≡ get_or runs from 0 % 16384 → d ≡ get_or runs (to - 1) 0 % 16384 → o ≡ h % 64 → i ≡ infix_of t c d o m → IsBetween t (pool_of terms runs) m a i
        as-between f g {m = m} u v w z = rw (z, u, v, w, q) (pair-form S (rw q at x) (rw q at y) m (eqb-true (expanded_length (runs_at runs from to)) 2 (sym f ∙ g)))

-- ---- a literal
pub as-literal : (t terms runs : List ℕ) (H : Holds terms runs) (a : ℕ) (b : a < count_in terms) (m : ℕ) {h v : ℕ} → h ≡ head_in terms a → v ≡ value_in terms a → h / 64 ≡ 1 → card_text t (pool_of terms runs) m a ≡ literal_text v (h % 64)
as-literal t terms runs H a b m q u e = rw (q, u) (literal-form t terms runs H a b m (rw q at e))

-- ---- the form that is answered
module _ (t terms runs : List ℕ) (m a : ℕ) {h : ℕ} (q : h ≡ head_in terms a) where
  pub form-literal : {v : ℕ} → v ≡ value_in terms a → h / 64 ≡ 1 → F.Literal v (h % 64) ≡ form_of t terms runs m a
  form-literal u e = let z : head_in terms a / 64 ≡ 1 = rw q at e in rw (q, u, eq-eqb (head_in terms a / 64) 1 z) refl

  module _ {from to : ℕ} (f : from ≡ first_in terms a) (g : to ≡ first_in terms (a + 1)) (x : h / 64 ≢ 1) where
    pub form-marked : h / 64 ≡ 2 → F.Series h from to ≡ form_of t terms runs m a
    form-marked e =
        let y : head_in terms a / 64 ≢ 1 = rw q at x in
        let z : head_in terms a / 64 ≡ 2 = rw q at e in
        rw (q, f, g, ne_eqb (head_in terms a / 64) 1 y, eq-eqb (head_in terms a / 64) 2 z) refl

    module _ (n : h / 64 ≢ 2) {b : Bool} (e : b ≡ eqb (expanded_length (runs_at runs from to)) 2) where
      pair-test : form_of t terms runs m a ≡ pick b (F.Between (infix_of t (get_or runs from 0 % 16384) (get_or runs (to - 1) 0 % 16384) (h % 64) m)) (F.Series h from to)
      pair-test =
          let y : head_in terms a / 64 ≢ 1 = rw q at x in
          let z : head_in terms a / 64 ≢ 2 = rw q at n in
          rw (e, q, f, g, ne_eqb (head_in terms a / 64) 1 y, ne_eqb (head_in terms a / 64) 2 z) refl

      pub form-list : b ≡ false → F.Series h from to ≡ form_of t terms runs m a
      form-list k = sym (pair-test ∙ rw k refl)

      pub form-between : b ≡ true → {c d o : ℕ} {i : Infix} → c ≡ get_or runs from 0 % 16384 → d ≡ get_or runs (to - 1) 0 % 16384 → o ≡ h % 64 → i ≡ infix_of t c d o m → F.Between i ≡ form_of t terms runs m a
      form-between k u v w z = rw (z, u, v, w) (sym (pair-test ∙ rw k refl))
