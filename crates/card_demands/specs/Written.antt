-- A card that a call wrote: it reads back to the same term, it has the fewest brackets, and none can be left out.
use Rattle.std.specs.Prelude.{◌≡◌, refl, ◌≢◌, Bool, true, false, List, [], ◌∷◌, ◌++◌, ℕ, ◌-◌, ◌≤◌, ◌<◌, leb, length, take}
use Rattle.std.proofs.Common.{sym, ◌∙◌, arith, leb-false}
use Rattle.std.proofs.Math.Path.{ap}
use Rattle.spec.specs.Bytes.{all, Res, ok, refused, rule, ◌>>=◌}
use Rattle.spec.specs.Pool.{Pool, Interned}
use Rattle.spec.specs.Run.{document_limits}
use Rattle.spec.specs.Listing.{lines_of}
use Rattle.spec.specs.Meaning.{Branched, occurs, tree_at}
use Rattle.laws.specs.Results.{bind_ok, ok-inj, refused-ok, refused-inj}
use Rattle.pools.specs.Pool.{empty-valid}
use Rattle.formula.specs.Card.{Tree, write, spell, proper_mark, FormulaText}
use Rattle.formula.specs.Lexer.{card_tree, write_card, enter, read_text, read_card}
use Rattle.formula.specs.Lines.{read_lines, card_of_lines, lines_of_card}
use Rattle.formula_laws.specs.LineTerms.{passed, Lined, read-lined, lined-branched}
use Rattle.formula_laws.specs.Entering.{spelled-shaped, written_is}
use Rattle.formula_laws.specs.Elsewhere.{card-elsewhere}
use Rattle.formula_laws.specs.Means.{Entered, read-means}
use Rattle.formula_laws.specs.Room.{enter-empty}
use Rattle.formula_laws.specs.Refusals.{write-ok}
use Rattle.formula_laws.specs.Texts.{text-read, card-text, fewest-brackets, none-left-out}
use Rattle.card_contract.specs.Calls.{card_call, read_call, Cards, Reads}
use Rattle.card_contract.specs.declared.Answer.TheVariants.{Text, Refused}
use Rattle.card_demands.specs.Lines.{lines-anywhere, lines-tell}

-- the term of lines: that of the last one
abbrev pub last : Pool → ℕ
last p = length p - 1

-- lines that were read, and the card of their term
pub record Written (table lines card : List ℕ) : Type 0 where
  pub pool : Pool
  pub read : read_lines document_limits lines ≡ ok pool
  pub lined : Lined document_limits pool
  pub some : last pool < length pool
  pub signed : all (proper_mark table) (write table 0 (card_tree pool (last pool))) ≡ true
  pub card-is : write_card table pool (last pool) (length card) ≡ ok card
  pub spelt : card ≡ spell table (write table 0 (card_tree pool (last pool)))

-- a text that was read, and its lines
pub record Listed (table text lines : List ℕ) : Type 0 where
  pub term : Interned
  pub read : read_card document_limits table [] text ≡ ok term
  pub formula : FormulaText table text (card_tree term.pool term.term)
  pub entered : Entered [] (card_tree term.pool term.term) term
  pub lines_are : lines ≡ lines_of term.pool term.term

-- of what a call answers
pub card-written : (table lines : List ℕ) (fit : Bool) (out out' : List ℕ) (n : ℕ) → Cards table lines fit out out' (Text n) → Written table lines (take n out')
unfolding card_call card_of_lines
card-written table lines fit out out' n A =
    let c = take n out' in
    let (f, e) = passed 1 fit (card_of_lines document_limits table lines (length out)) c (sym A.answer) in
    let (p, ep, e₁) = bind_ok (read_lines document_limits lines) (λ p. write_card table p (last p) (length out)) c e in
    let (L, s) = read-lined document_limits lines p ep in
    let (g, i) = written_is table p (last p) (length out) c e₁ in
    record {
      pool = p;
      read = ep;
      lined = L;
      some = omega (arith, s);
      signed = g;
      card-is = write-ok table p (last p) (length c) g (omega (arith, ap length i)) ∙ ap (λ (z : List ℕ). ok z) (sym i);
      spelt = i;
    }

pub text-listed : (table text : List ℕ) (fit : Bool) (out out' : List ℕ) (n : ℕ) → Reads table text fit out out' (Text n) → Listed table text (take n out')
unfolding read_call lines_of_card
text-listed table text fit out out' n A =
    let l = take n out' in
    let (f, e) = passed 1 fit (lines_of_card document_limits table text (length out)) l (sym A.answer) in
    let (x, ex, e₁) = bind_ok (read_card document_limits table [] text) _ l e in
    let (g, e₂) = passed 14 (leb (length (lines_of x.pool x.term)) (length out)) (ok (lines_of x.pool x.term)) l e₁ in
    let (y, z) = read-means document_limits table [] text x empty-valid ex in
    record { term = x; read = ex; formula = y; entered = z; lines_are = sym (ok-inj e₂) }

module _ {table lines card : List ℕ} (W : Written table lines card) where
  branched : Branched 2 (tree_at W.pool (last W.pool))
  branched = lined-branched document_limits W.pool W.lined (last W.pool) W.some

  -- a written card is read, without 17 and without 13
  pub goes : (x : Interned) × (read_card document_limits table [] card ≡ ok x)
  unfolding read_card
  goes =
      let p = W.pool in
      let a = last p in
      let t : read_text table card ≡ ok (card_tree p a) = ap (read_text table) W.spelt ∙ (text-read table (spell table (write table 0 (card_tree p a))) (card_tree p a) (card-text table (card_tree p a) (spelled-shaped (tree_at p a) branched) W.signed)) in
      let F = enter-empty document_limits p W.lined.valid W.lined.terms W.lined.runs a W.some in
      (F.result, ap (λ (m : Res Tree). m >>= enter document_limits []) t ∙ F.is)

  -- "Reading a written card yields the same term": its lines are the lines of the term that was written.
  pub reads-back : {lines' : List ℕ} → Listed table card lines' → lines' ≡ lines_of W.pool (last W.pool)
  reads-back T =
      let p = W.pool in
      let x = T.term in
      let E = card-elsewhere document_limits table p [] (last p) (length card) card x W.lined.valid W.some branched empty-valid W.card-is T.read in
      T.lines_are ∙ lines-anywhere x.pool p E.valid W.lined.valid x.term (last p) E.within W.some E.means

  -- a text that is read to the same lines is a text of the same term
  same-term : {text lines' : List ℕ} → Listed table text lines' → lines' ≡ lines_of W.pool (last W.pool) → FormulaText table text (card_tree W.pool (last W.pool))
  same-term {text} T e =
      let p = W.pool in
      let x = T.term in
      let z = lines-tell x.pool p T.entered.valid W.lined.valid x.term (last p) T.entered.within W.some (sym T.lines_are ∙ e) in
      rw (← z) T.formula

  -- "Write a term with the fewest brackets": a text that is read to the same lines has no fewer opening brackets (byte 40).
  pub fewest : {text lines' : List ℕ} → Listed table text lines' → lines' ≡ lines_of W.pool (last W.pool) → occurs 40 card ≤ occurs 40 text
  fewest {text} T e = rw W.spelt (fewest-brackets table text (card_tree W.pool (last W.pool)) W.signed (same-term T e))

  -- "leaving out any one bracket pair yields another term or none"
  pub none-spare : (u v w : List ℕ) → card ≡ u ++ (40 ∷ v ++ (41 ∷ w)) → {lines' : List ℕ} → Listed table (u ++ (v ++ w)) lines' → lines' ≢ lines_of W.pool (last W.pool)
  none-spare u v w e T z = none-left-out table (card_tree W.pool (last W.pool)) u v w W.signed (sym W.spelt ∙ e) (text-read table (u ++ (v ++ w)) (card_tree W.pool (last W.pool)) (same-term T z))

-- ---- of two calls
-- A written card that is read again is refused for a short work buffer (1) or lines that are longer than the output (14) alone.
pub card-read : (table lines : List ℕ) (fit : Bool) (out out' out₂ out₂' : List ℕ) (n k : ℕ) → (A : Cards table lines fit out out' (Text n)) → Reads table (take n out') true out₂ out₂' (Refused k)
    → (k ≡ 14) × (length out₂ < length (lines_of (card-written table lines fit out out' n A).pool (last (card-written table lines fit out out' n A).pool)))
unfolding read_call lines_of_card
card-read table lines fit out out' out₂ out₂' n k A B = go (leb (length l) (length out₂)) refl (sym (ap (λ (m : Res Interned). m >>= λ x. rule 14 (leb (length (lines_of x.pool x.term)) (length out₂)) >>= λ _. ok (lines_of x.pool x.term)) (goes W).1) ∙ sym B.answer)
  where
    W : Written table lines (take n out')
    W = card-written table lines fit out out' n A

    x : Interned
    x = (goes W).0

    l : List ℕ
    l = lines_of x.pool x.term

    same : l ≡ lines_of W.pool (last W.pool)
    same = let (f, e) = read-means document_limits table [] (take n out') x empty-valid (goes W).1 in reads-back W (record { term = x; read = (goes W).1; formula = f; entered = e; lines_are = refl })

    go : (b : Bool) → leb (length l) (length out₂) ≡ b → (rule 14 b >>= λ _. ok l) ≡ refused k → (k ≡ 14) × (length out₂ < length (lines_of W.pool (last W.pool)))
    go true q e = absurd (refused-ok (sym e))
    go false q e = (sym (refused-inj {A = List ℕ} e), rw (← same) (leb-false (length l) (length out₂) q))

-- "Reading a written card yields the same term"
pub card-read-back : (table lines : List ℕ) (fit fit₂ : Bool) (out out' out₂ out₂' : List ℕ) (n m : ℕ) → (A : Cards table lines fit out out' (Text n)) → Reads table (take n out') fit₂ out₂ out₂' (Text m)
    → take m out₂' ≡ lines_of (card-written table lines fit out out' n A).pool (last (card-written table lines fit out out' n A).pool)
card-read-back table lines fit fit₂ out out' out₂ out₂' n m A B = reads-back (card-written table lines fit out out' n A) (text-listed table (take n out') fit₂ out₂ out₂' m B)

-- "with the fewest brackets": of any text that a call reads to the same lines as the card
pub card-fewest : (table lines text : List ℕ) (fit fit₂ fit₃ : Bool) (out out' out₂ out₂' out₃ out₃' : List ℕ) (n m k : ℕ) → Cards table lines fit out out' (Text n) → Reads table (take n out') fit₂ out₂ out₂' (Text m) → Reads table text fit₃ out₃ out₃' (Text k)
    → take k out₃' ≡ take m out₂' → occurs 40 (take n out') ≤ occurs 40 text
card-fewest table lines text fit fit₂ fit₃ out out' out₂ out₂' out₃ out₃' n m k A B C e =
    let W = card-written table lines fit out out' n A in
    fewest W (text-listed table text fit₃ out₃ out₃' k C) (e ∙ reads-back W (text-listed table (take n out') fit₂ out₂ out₂' m B))

-- "leaving out any one bracket pair yields another term or none": other lines, or a refusal
pub card-none-spare : (table lines : List ℕ) (u v w : List ℕ) (fit fit₂ fit₃ : Bool) (out out' out₂ out₂' out₃ out₃' : List ℕ) (n m k : ℕ) → Cards table lines fit out out' (Text n) → take n out' ≡ u ++ (40 ∷ v ++ (41 ∷ w)) → Reads table (take n out') fit₂ out₂ out₂' (Text m)
    → Reads table (u ++ (v ++ w)) fit₃ out₃ out₃' (Text k) → take k out₃' ≢ take m out₂'
card-none-spare table lines u v w fit fit₂ fit₃ out out' out₂ out₂' out₃ out₃' n m k A e B C z =
    let W = card-written table lines fit out out' n A in
    none-spare W u v w e (text-listed table (u ++ (v ++ w)) fit₃ out₃ out₃' k C) (z ∙ reads-back W (text-listed table (take n out') fit₂ out₂ out₂' m B))
