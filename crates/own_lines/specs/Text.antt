-- What the listing prints behind its first line is the text of the lines' pool.
use Rattle.std.specs.Prelude.{◌≡◌, refl, Bool, true, false, List, [], ◌∷◌, ◌++◌, map, ℕ, suc, ◌+◌, ◌<◌, eqb, length, get_or}
use Rattle.std.proofs.Common.{sym, ap, ap₂, ◌∙◌, append-nil, append_assoc, arith}
use Rattle.spec.specs.Bytes.{pick, each, place, Two, text, decimal}
use Rattle.spec.specs.Pool.{Pool, Node, node_at, LIT, VARIANTS}
use Rattle.spec.specs.Listing.{subterms, line, run_field, head_fields, term_line, lines_of}
use Rattle.own_lines.specs.Printed.{run_text, head_text, line_text}
use Rattle.own_lines.specs.Loading.{pool_text}
use Rattle.own_lines.specs.Renumbering.{Built, by_place, renumber, nodes_over, nodes_of, own-number}

-- "fields stand one space apart, and each line ends with a line feed"
abbrev spaced : List ℕ → List ℕ
spaced f = 32 ∷ f

line-spaced : (f : List ℕ) (l : List (List ℕ)) → line (f ∷ l) ≡ f ++ (each spaced l ++ (10 ∷ []))
unfolding line each
line-spaced f [] = refl
line-spaced f (g ∷ l) = ap (λ (z : List ℕ). f ++ (32 ∷ z)) (line-spaced g l ∙ sym (append_assoc g (each spaced l) (10 ∷ [])))

each_append : {A B : Type 0} (f : A → List B) (l m : List A) → each f (l ++ m) ≡ each f l ++ each f m
unfolding each
each_append f [] m = refl
each_append f (x ∷ l) m = ap (λ z. f x ++ z) (each_append f l m) ∙ sym (append_assoc (f x) (each f l) (each f m))

head-spaced : (n : Node) → each spaced (head_fields n) ≡ head_text n
unfolding each head_fields head_text text
head-spaced n = go (eqb n.head LIT) (eqb n.head VARIANTS)
  where
    go : (b c : Bool) → each spaced (pick b (text "lit" ∷ decimal n.op ∷ decimal n.value ∷ []) (pick c (text "variants" ∷ []) (text "op" ∷ decimal n.op ∷ [])))
        ≡ pick b (text " lit " ++ (decimal n.op ++ (32 ∷ decimal n.value))) (pick c (text " variants") (text " op " ++ decimal n.op))
    go true c = rw (append-nil (decimal n.value)) refl
    go false true = refl
    go false false = rw (append-nil (decimal n.op)) refl

runs-spaced : (order : List ℕ) (l : List Two) → each spaced (map (run_field order) l) ≡ each run_text (map (by_place order) l)
unfolding each run_field run_text text
runs-spaced order [] = refl
runs-spaced order (r ∷ l) = ap (λ (z : List ℕ). run_text (by_place order r) ++ z) (runs-spaced order l)

-- a line, with what stands behind it
line-text : (p : Pool) (order : List ℕ) (a : ℕ) (r : List ℕ) → term_line p order a ++ r ≡ line_text (place (eqb a) order) (renumber order (node_at p a)) r
unfolding head_text term_line
line-text p order a r =
    let n = node_at p a in
    let k = decimal (place (eqb a) order) in
    let h = head_text n in
    let t = each run_text (map (by_place order) n.runs) in
    let e : each spaced (head_fields n ++ map (run_field order) n.runs) ≡ h ++ t = each_append spaced (head_fields n) (map (run_field order) n.runs) ∙ ap₂ (λ (x y : List ℕ). x ++ y) (head-spaced n) (runs-spaced order n.runs) in
    ap (λ (z : List ℕ). z ++ r) (line-spaced k (head_fields n ++ map (run_field order) n.runs) ∙ ap (λ (z : List ℕ). k ++ (z ++ (10 ∷ []))) e)
    ∙ append_assoc k ((h ++ t) ++ (10 ∷ [])) r
    ∙ ap (λ (z : List ℕ). k ++ z) (append_assoc (h ++ t) (10 ∷ []) r ∙ append_assoc h t (10 ∷ r))

lines-text : (p : Pool) (order : List ℕ) (k : ℕ) (l : List ℕ) → ((i : ℕ) → i < length l → place (eqb (get_or l i 0)) order ≡ k + i) → each (term_line p order) l ≡ pool_text k (nodes_over p order l)
unfolding each pool_text
lines-text p order k [] h = refl
lines-text p order k (a ∷ l) h =
    let z : place (eqb a) order ≡ k = h 0 (omega arith) ∙ (let y : k + 0 ≡ k = omega arith in y) in
    line-text p order a (each (term_line p order) l)
    ∙ ap₂ (λ (x : ℕ) (y : List ℕ). line_text x (renumber order (node_at p a)) y) z (lines-text p order (suc k) l (λ i b. h (suc i) (omega arith) ∙ (let y : k + suc i ≡ suc k + i = omega arith in y)))

pub own-text : (p : Pool) (a : ℕ) → Built p (subterms p a) → lines_of p a ≡ pool_text 0 (nodes_of p (subterms p a))
own-text p a B = lines-text p (subterms p a) 0 (subterms p a) (λ i h. own-number p (subterms p a) B i h ∙ (let y : i ≡ 0 + i = omega arith in y))
