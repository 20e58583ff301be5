-- Which refusals the two calls give, and when: 17 exactly for a text that is not a formula, 18 exactly for an operation in the term without a proper sign; the order; the output untouched.
use Rattle.std.specs.Prelude.{◌≡◌, ◌≢◌, ◌⊎◌, Bool, true, leb, length, take, drop}
use Rattle.std.proofs.Math.Path.{refl}
use Rattle.std.proofs.Common.{sym, ap, ◌∙◌, inl, inr, arith, leb-true, leb-false}
use Rattle.std.proofs.Math.Bool.{false}
use mathlib.Core.List.{List, [], ◌++◌}
use Prim.Native.Nat.{ℕ, ◌<◌}
use Rattle.spec.specs.Bytes.{all, Res, ok, refused, rule, ◌>>=◌}
use Rattle.spec.specs.Pool.{Pool, Interned, node_at}
use Rattle.spec.specs.Run.{document_limits}
use Rattle.spec.specs.Listing.{lines_of}
use Rattle.spec.specs.Merge.{output_after}
use Rattle.laws.specs.Results.{bind-refused, refused-ok, refused-inj}
use Rattle.laws.specs.Tests.{clash, is_false}
use Rattle.formula.specs.Card.{Tree, write, spell, proper_mark, FormulaText}
use Rattle.formula.specs.Lexer.{card_tree, read_card}
use Rattle.formula.specs.Lines.{read_lines, card_of_lines, lines_of_card}
use Rattle.formula_laws.specs.LineTerms.{read-lined}
use Rattle.formula_laws.specs.Refusals.{read-17, no-formula, read-13, write-18, write-14, write-ok}
use Rattle.formula_laws.specs.Signed.{InTerm, node_proper, nodes-proper, card-proper}
use Rattle.card_contract.specs.Calls.{card_call, read_call, Answers, Reads}
use Rattle.card_contract.specs.declared.Answer.{Answer}
use Rattle.card_contract.specs.declared.Answer.TheVariants.{Text, Refused}
use Rattle.card_demands.specs.Written.{last}

-- ---- the output
-- a refusal leaves the output untouched
pub output-kept : (m : Res (List ℕ)) (out out' : List ℕ) (k : ℕ) → Answers m out out' (Refused k) → out' ≡ out
unfolding output_after
output-kept m out out' k A = A.output ∙ ap (output_after out) (sym A.answer)

-- past the text it is as it was
pub output-past : (m : Res (List ℕ)) (out out' : List ℕ) (n : ℕ) → Answers m out out' (Text n) → out' ≡ take n out' ++ drop (length (take n out')) out
unfolding output_after
output-past m out out' n A = A.output ∙ ap (output_after out) (sym A.answer)

-- ---- 1
pub short-refused : (table s : List ℕ) (room : ℕ) → (card_call false table s room ≡ refused 1) × (read_call false table s room ≡ refused 1)
unfolding card_call read_call
short-refused table s room = (refl, refl)

-- ---- reading: "Refusal 17 is for a text that is not a formula", whatever else would be refused; "in reading 17 comes before 13"
pub no-formula-17 : (table text out out' : List ℕ) (r : Answer) → Reads table text true out out' r → ((a : Tree) → FormulaText table text a → ⊥) → read_call true table text (length out) ≡ refused 17
unfolding read_call lines_of_card
no-formula-17 table text out out' r A h = rw (no-formula document_limits table [] text h) refl

pub only-17 : (table text out out' : List ℕ) → Reads table text true out out' (Refused 17) → (a : Tree) → FormulaText table text a → ⊥
unfolding read_call lines_of_card
only-17 table text out out' A a f = elim (bind-refused (read_card document_limits table [] text) _ 17 (sym A.answer)) [
  | inl e ↦ read-17 document_limits table [] text e a f
  | inr x ↦ lines-14 x.0 x.2
]
  where
    lines-14 : (x : Interned) → (rule 14 (leb (length (lines_of x.pool x.term)) (length out)) >>= λ _. ok (lines_of x.pool x.term)) ≡ refused 17 → ⊥
    lines-14 x e = go (leb (length (lines_of x.pool x.term)) (length out)) e
      where
        go : (b : Bool) → (rule 14 b >>= λ _. ok (lines_of x.pool x.term)) ≡ refused 17 → ⊥
        go true e = refused-ok (sym e)
        go false e = let z : ◌≡◌ {A = ℕ} 14 17 = refused-inj {A = List ℕ} e in omega (arith, z)

-- any other refusal of an accepted call is 13, of a formula whose terms have no room, or 14, of lines longer than the output
pub read-others : (table text out out' : List ℕ) (k : ℕ) → Reads table text true out out' (Refused k) → k ≢ 17
    → ((k ≡ 13) × ((a : Tree) × FormulaText table text a)) ⊎ ((k ≡ 14) × ((x : Interned) × (read_card document_limits table [] text ≡ ok x) × (length out < length (lines_of x.pool x.term))))
unfolding read_call lines_of_card
read-others table text out out' k A h = elim (bind-refused (read_card document_limits table [] text) _ k (sym A.answer)) [
  | inl e ↦ let y = read-13 document_limits table [] text k h e in inl (y.0, (y.1.0, y.1.1))
  | inr x ↦ inr (lines-14 x.0 x.1 x.2)
]
  where
    lines-14 : (x : Interned) → read_card document_limits table [] text ≡ ok x → (rule 14 (leb (length (lines_of x.pool x.term)) (length out)) >>= λ _. ok (lines_of x.pool x.term)) ≡ refused k
        → (k ≡ 14) × ((x : Interned) × (read_card document_limits table [] text ≡ ok x) × (length out < length (lines_of x.pool x.term)))
    lines-14 x ex e = go (leb (length (lines_of x.pool x.term)) (length out)) refl e
      where
        go : (b : Bool) → leb (length (lines_of x.pool x.term)) (length out) ≡ b → (rule 14 b >>= λ _. ok (lines_of x.pool x.term)) ≡ refused k
            → (k ≡ 14) × ((x : Interned) × (read_card document_limits table [] text ≡ ok x) × (length out < length (lines_of x.pool x.term)))
        go true q e = absurd (refused-ok (sym e))
        go false q e = (sym (refused-inj {A = List ℕ} e), (x, ex, leb-false (length (lines_of x.pool x.term)) (length out) q))

-- ---- writing: "18 for an operation in the term without a proper sign of its own and precedence; in writing 18 comes before 14"
module _ (table lines : List ℕ) (p : Pool) (e : read_lines document_limits lines ≡ ok p) where
  some : last p < length p
  some = let (L, s) = read-lined document_limits lines p e in omega (arith, s)

  signed : Bool
  signed = all (proper_mark table) (write table 0 (card_tree p (last p)))

  -- where one node in the term is not proper, 18, whatever the output's length
  pub improper-18 : (c : ℕ) → InTerm p (last p) c → node_proper table (node_at p c) ≡ false → (room : ℕ) → card_call true table lines room ≡ refused 18
  unfolding card_call card_of_lines signed
  improper-18 c i f room =
      let L = (read-lined document_limits lines p e).0 in
      let g : signed ≡ false = is_false signed (λ h. let z = nodes-proper table p L.valid (last p) some h c i in absurd (clash (sym z ∙ f))) in
      rw (e, write-18 table p (last p) room g) refl

  -- where all are, the card, or 14 where it is longer than the output
  pub proper-written : ((c : ℕ) → InTerm p (last p) c → node_proper table (node_at p c) ≡ true) → (room : ℕ)
      → (card_call true table lines room ≡ ok (spell table (write table 0 (card_tree p (last p))))) ⊎ ((card_call true table lines room ≡ refused 14) × (room < length (spell table (write table 0 (card_tree p (last p))))))
  unfolding card_call card_of_lines
  proper-written h room =
      let L = (read-lined document_limits lines p e).0 in
      go (card-proper table p L.valid (last p) some h) (leb (length c) room) refl
    where
      c : List ℕ
      c = spell table (write table 0 (card_tree p (last p)))

      go : all (proper_mark table) (write table 0 (card_tree p (last p))) ≡ true → (b : Bool) → leb (length c) room ≡ b → (card_call true table lines room ≡ ok c) ⊎ ((card_call true table lines room ≡ refused 14) × (room < length c))
      go g true q = inl (rw (e, write-ok table p (last p) room g (leb-true (length c) room q)) refl)
      go g false q = let l = leb-false (length c) room q in inr (rw (e, write-14 table p (last p) room g l) refl, l)

  -- 18 only where one is not
  pub only-18 : (room : ℕ) → card_call true table lines room ≡ refused 18 → ((c : ℕ) → InTerm p (last p) c → node_proper table (node_at p c) ≡ true) → ⊥
  only-18 room r h = elim (proper-written h room) [
    | inl x ↦ refused-ok (sym r ∙ x)
    | inr x ↦ let z : ◌≡◌ {A = ℕ} 18 14 = refused-inj {A = List ℕ} (sym r ∙ x.0) in omega (arith, z)
  ]

-- lines that are not read: their refusal, 17 or 13, before 18 and 14
pub lines-first : (table lines : List ℕ) (k room : ℕ) → read_lines document_limits lines ≡ refused k → card_call true table lines room ≡ refused k
unfolding card_call card_of_lines
lines-first table lines k room e = rw e refl
