-- A line: the ways out.
use Rattle.std.specs.Prelude.{Some, None, Result, Ok, Err, ◌≡◌, refl, true, false, List, [], ◌∷◌, map, ℕ, ◌+◌, ◌/◌, ◌%◌, ◌≤◌, length, drop}
use Rattle.std.proofs.Common.{sym, ap, ◌∙◌, arith, drop-drop}
use borrow.Author.Tests.{eq-eqb, ne_eqb}
use Rattle.spec.specs.Bytes.{text, decimal, ok}
use Rattle.spec.specs.Pool.{Node, expanded_length}
use Rattle.formula.specs.Lexer.{starts_with}
use Rattle.formula.specs.Lines.{Cut, cut_word, cut_node, cut_line}
use Rattle.terms.specs.Buffers.{part, unpack}
use Rattle.text_cut.specs.Cutting.{CutsWord, CutsNumber}
use Rattle.term_lines.specs.Reading.{lit_at, op_at, variants_at, CutsRuns, CutsLine}
use Rattle.term_lines.specs.declared.Fault.{Fault}
use Rattle.term_lines.specs.declared.Fault.TheVariants as F

-- ---- a literal
module _ (s : List ℕ) (at : ℕ) (list : List ℕ) where
  pub lit-no-operation : CutsNumber 63 s at None → CutsLine (lit_at (drop at s)) s at list (Err F.Broken)
  unfolding lit_at
  lit-no-operation O = record { answer = rw (← O.answer) refl; behind = tt }

  module _ {o a : ℕ} (O : CutsNumber 63 s at (Some (o, a))) where
    pub lit-no-space : CutsWord (text " ") s a None → CutsLine (lit_at (drop at s)) s at list (Err F.Broken)
    unfolding lit_at
    lit-no-space W = record { answer = rw (← O.answer, ← W.answer) refl; behind = tt }

    module _ {b : ℕ} (W : CutsWord (text " ") s a (Some b)) where
      pub lit-no-value : CutsNumber 4294967295 s b None → CutsLine (lit_at (drop at s)) s at list (Err F.Broken)
      unfolding lit_at
      lit-no-value X = record { answer = rw (← O.answer, ← W.answer, ← X.answer) refl; behind = tt }

      module _ {v c : ℕ} (X : CutsNumber 4294967295 s b (Some (v, c))) where
        pub lit-no-end : CutsWord (10 ∷ []) s c None → CutsLine (lit_at (drop at s)) s at list (Err F.Broken)
        unfolding lit_at
        lit-no-end E = record { answer = rw (← O.answer, ← W.answer, ← X.answer, ← E.answer) refl; behind = tt }

        pub lit-there : {e h w : ℕ} → CutsWord (10 ∷ []) s c (Some e) → h ≡ 64 + o → w ≡ v → CutsLine (lit_at (drop at s)) s at list (Ok (h, w, 0, e))
        unfolding lit_at part text
        lit-there {h = h} E p q =
            let x : h / 64 ≡ 1 = omega (arith, O.behind.2) in
            let y : h % 64 ≡ o = omega (arith, O.behind.2) in
            record { answer = rw (← O.answer, ← W.answer, ← X.answer, ← E.answer, x, y, q) refl; behind = (omega (arith, O.behind.0, W.behind.0, X.behind.0, E.behind.0), E.behind.1, omega arith) }

-- ---- an operation
module _ (k : ℕ) (s : List ℕ) (at : ℕ) (list : List ℕ) where
  pub op-no-operation : CutsNumber 63 s at None → CutsLine (op_at k (drop at s)) s at list (Err F.Broken)
  unfolding op_at
  op-no-operation O = record { answer = rw (← O.answer) refl; behind = tt }

  module _ {o a : ℕ} (O : CutsNumber 63 s at (Some (o, a))) where
    pub op-broken : CutsRuns k s a list (Err F.Broken) → CutsLine (op_at k (drop at s)) s at list (Err F.Broken)
    unfolding op_at
    op-broken Q = record { answer = rw (← O.answer, ← Q.answer) refl; behind = tt }

    pub op-full : CutsRuns k s a list (Err F.Full) → CutsLine (op_at k (drop at s)) s at list (Err F.Full)
    unfolding op_at
    op-full Q = record { answer = rw (← O.answer, ← Q.answer) refl; behind = tt }

    pub op-there : {n t e h : ℕ} → CutsRuns k s a list (Ok (n, t, e)) → h ≡ o → CutsLine (op_at k (drop at s)) s at list (Ok (h, 0, n, e))
    unfolding op_at
    op-there {h = h} Q p =
        let x : h / 64 ≡ 0 = omega (arith, O.behind.2) in
        let y : h % 64 ≡ o = omega (arith, O.behind.2) in
        record { answer = rw (← O.answer, ← Q.answer, x, y) refl; behind = (omega (arith, O.behind.0, Q.behind.0), Q.behind.1, Q.behind.2) }

  -- ---- a marked place
  pub variants-no-word : CutsWord (text " variants") s at None → CutsLine (variants_at k (drop at s)) s at list (Err F.Broken)
  unfolding variants_at
  variants-no-word W = record { answer = rw (← W.answer) refl; behind = tt }

  module _ {a : ℕ} (W : CutsWord (text " variants") s at (Some a)) where
    pub variants-broken : CutsRuns k s a list (Err F.Broken) → CutsLine (variants_at k (drop at s)) s at list (Err F.Broken)
    unfolding variants_at
    variants-broken Q = record { answer = rw (← W.answer, ← Q.answer) refl; behind = tt }

    pub variants-full : CutsRuns k s a list (Err F.Full) → CutsLine (variants_at k (drop at s)) s at list (Err F.Full)
    unfolding variants_at
    variants-full Q = record { answer = rw (← W.answer, ← Q.answer) refl; behind = tt }

    module _ {n t e : ℕ} (Q : CutsRuns k s a list (Ok (n, t, e))) where
      pub variants-other : (t ≡ 2 → ⊥) → CutsLine (variants_at k (drop at s)) s at list (Err F.Broken)
      unfolding variants_at
      variants-other d = record { answer = rw (← W.answer, ← Q.answer, ne_eqb (expanded_length (map unpack (part list 0 n))) 2 (λ z. d (Q.behind.3 ∙ z))) refl; behind = tt }

      pub variants-there : t ≡ 2 → CutsLine (variants_at k (drop at s)) s at list (Ok (128, 0, n, e))
      unfolding variants_at
      variants-there d = record { answer = rw (← W.answer, ← Q.answer, eq-eqb (expanded_length (map unpack (part list 0 n))) 2 (sym Q.behind.3 ∙ d)) refl; behind = (omega (arith, W.behind.0, Q.behind.0), Q.behind.1, Q.behind.2) }

-- ---- which of them
line_as : {m m' : Cut Node} {s : List ℕ} {at : ℕ} {list : List ℕ} {r : Result (ℕ × ℕ × ℕ × ℕ) Fault} → m ≡ m' → CutsLine m s at list r → CutsLine m' s at list r
line_as e c = rw (← e) c

line-from : {m : Cut Node} {s : List ℕ} {at b : ℕ} {list : List ℕ} (r : Result (ℕ × ℕ × ℕ × ℕ) Fault) → at ≤ b → CutsLine m s b list r → CutsLine m s at list r
line-from (Ok (h, v, n, e)) k c = record { answer = c.answer; behind = (omega (arith, c.behind.0), c.behind.1, c.behind.2) }
line-from (Err F.Broken) h c = record { answer = c.answer; behind = tt }
line-from (Err F.Full) h c = record { answer = c.answer; behind = tt }

word_ok : (w s : List ℕ) → starts_with w s ≡ true → cut_word w s ≡ ok (drop (length w) s)
unfolding cut_word
word_ok w s e = rw e refl

pub node-lit : (k : ℕ) (s : List ℕ) → starts_with (text " lit ") s ≡ true → lit_at (drop 5 s) ≡ cut_node k s
unfolding cut_node lit_at text
node-lit k s e = rw (e, cut_node) (rw (word_ok (text " lit ") s e) refl)

pub node-op : (k : ℕ) (s : List ℕ) → starts_with (text " lit ") s ≡ false → starts_with (text " op ") s ≡ true → op_at k (drop 4 s) ≡ cut_node k s
unfolding cut_node op_at text
node-op k s d e = rw (d, e, cut_node) (rw (word_ok (text " op ") s e) refl)

pub node-variants : (k : ℕ) (s : List ℕ) → starts_with (text " lit ") s ≡ false → starts_with (text " op ") s ≡ false → variants_at k s ≡ cut_node k s
unfolding cut_node variants_at
node-variants k s d e = rw (d, e, cut_node) refl

module _ (k : ℕ) (s : List ℕ) (at : ℕ) (list : List ℕ) (r : Result (ℕ × ℕ × ℕ × ℕ) Fault) where
  pub node-is-lit : true ≡ starts_with (text " lit ") (drop at s) → CutsLine (lit_at (drop (at + 5) s)) s (at + 5) list r → CutsLine (cut_node k (drop at s)) s at list r
  node-is-lit e c = line-from r (omega arith) (line_as (ap lit_at (sym (drop-drop 5 at s)) ∙ node-lit k (drop at s) (sym e)) c)

  module _ (d : false ≡ starts_with (text " lit ") (drop at s)) where
    pub node-is-op : true ≡ starts_with (text " op ") (drop at s) → CutsLine (op_at k (drop (at + 4) s)) s (at + 4) list r → CutsLine (cut_node k (drop at s)) s at list r
    node-is-op e c = line-from r (omega arith) (line_as (ap (op_at k) (sym (drop-drop 4 at s)) ∙ node-op k (drop at s) (sym d) (sym e)) c)

    pub node-is-variants : false ≡ starts_with (text " op ") (drop at s) → CutsLine (variants_at k (drop at s)) s at list r → CutsLine (cut_node k (drop at s)) s at list r
    node-is-variants e c = line_as (node-variants k (drop at s) (sym d) (sym e)) c

  pub line-there : {a : ℕ} → CutsWord (decimal k) s at (Some a) → CutsLine (cut_node k (drop a s)) s a list r → CutsLine (cut_line k (drop at s)) s at list r
  unfolding cut_line
  line-there W c = line-from r (omega (arith, W.behind.0)) (line_as (rw (← W.answer) refl) c)

pub line-no-number : (k : ℕ) (s : List ℕ) (at : ℕ) (list : List ℕ) → CutsWord (decimal k) s at None → CutsLine (cut_line k (drop at s)) s at list (Err F.Broken)
unfolding cut_line
line-no-number k s at list W = record { answer = rw (← W.answer) refl; behind = tt }
